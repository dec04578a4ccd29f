use Rattle.std.proofs.Common.{◌≡◌, ◌+◌, ◌∙◌, arith, inl, inr, IfOk, sym, subst}
use Rattle.tx_update.proofs.Retries.{InVain, vain_itself, over_after, unended_after, if_over_after, if_unended_after, vain_again, last_says, if_last_all}
use Rattle.tx_update.proofs.updates.update_watched.Goals as goal

pub loop-tries-init : goal.loop-tries-init
loop-tries-init g c =
    vain_itself g.W.Work.does g.J.JournalId.bounds c.args.terms c.args.seats c.args.work.now

pub loop-tries-preserved : goal.loop-tries-preserved
loop-tries-preserved g c =
    subst
    (λ s. InVain g.W.Work.does g.J.JournalId.bounds c.args.terms (c.loop-tries.tries + 1) c.args.seats
    c.args.work.now s c.try_once.new.work)
    (sym c.into_seats-seats.ensures)
    (vain_again g.W.Work.does g.J.JournalId.bounds c.args.terms c.loop-tries.tries c.args.seats
    c.loop-tries.seats c.in-Ok.ended
    c.args.work.now c.loop-tries.work c.try_once.new.work c.loop-tries.invariant c.in-Ok.ensures.ended
    (c.may_pass.ensures.effect c.if-not-may_pass.false) (sym c.may_pass.ensures.passes ∙ c.if-not-may_pass.false))

pub returns-in-Err-clause-unended : goal.returns-in-Err-clause-unended
returns-in-Err-clause-unended g c =
    unended_after g.W.Work.does g.J.JournalId.bounds c.args.terms c.loop-tries.tries c.args.again
    (omega arith)
    c.args.seats c.loop-tries.seats c.in-Err.unended
    c.args.work.now c.loop-tries.work c.try_once.new.work c.loop-tries.invariant c.in-Err.ensures.unended

pub returns-then-not-may_pass-clause-ended : goal.returns-then-not-may_pass-clause-ended
returns-then-not-may_pass-clause-ended g c =
    over_after g.W.Work.does g.J.JournalId.bounds c.args.terms c.loop-tries.tries c.args.again
    (omega arith)
    c.args.seats c.loop-tries.seats c.in-Ok.ended
    c.args.work.now c.loop-tries.work c.try_once.new.work c.loop-tries.invariant c.in-Ok.ensures.ended
    c.in-Ok.ensures.retries

-- what stopped it may not pass
pub returns-then-not-may_pass-clause-last : goal.returns-then-not-may_pass-clause-last
returns-then-not-may_pass-clause-last g c =
    inr (inl (sym c.may_pass.ensures.passes ∙ c.if-not-may_pass.true))

pub returns-then-not-says_on-clause-ended : goal.returns-then-not-says_on-clause-ended
returns-then-not-says_on-clause-ended g c =
    over_after g.W.Work.does g.J.JournalId.bounds c.args.terms c.loop-tries.tries c.args.again
    (omega arith)
    c.args.seats c.loop-tries.seats c.in-Ok.ended
    c.args.work.now c.loop-tries.work c.try_once.new.work c.loop-tries.invariant c.in-Ok.ensures.ended
    c.in-Ok.ensures.retries

-- the work said so
pub returns-then-not-says_on-clause-last : goal.returns-then-not-says_on-clause-last
returns-then-not-says_on-clause-last g c =
    last_says g.W.Work.stops_at c.args.again c.loop-tries.tries c.in-Ok.ended c.try_once.new.work
    c.in-Ok.ensures.retries (c.says_on.ensures c.if-not-says_on.true)

pub returns-clause-ended : goal.returns-clause-ended
returns-clause-ended g c =
    let all : c.args.again ≡ c.loop-tries.tries = omega arith in
    if_over_after g.W.Work.does g.J.JournalId.bounds c.args.terms c.loop-tries.tries c.args.again
    (omega arith)
    c.args.seats c.loop-tries.seats c.try_once-2.result
    c.args.work.now c.loop-tries.work c.try_once-2.new.work c.loop-tries.invariant c.try_once-2.ensures.ended
    (subst (λ n. IfOk c.try_once-2.result (λ e. e.retries ≡ n)) all c.try_once-2.ensures.retries)

-- so many tries as may be made again were made
pub returns-clause-last : goal.returns-clause-last
returns-clause-last g c =
    if_last_all g.W.Work.stops_at c.args.again c.try_once-2.result c.try_once-2.new.work c.try_once-2.ensures.retries

pub returns-clause-unended : goal.returns-clause-unended
returns-clause-unended g c =
    if_unended_after g.W.Work.does g.J.JournalId.bounds c.args.terms c.loop-tries.tries c.args.again
    (omega arith)
    c.args.seats c.loop-tries.seats c.try_once-2.result
    c.args.work.now c.loop-tries.work c.try_once-2.new.work c.loop-tries.invariant c.try_once-2.ensures.unended

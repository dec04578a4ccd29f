use Rattle.std.proofs.Common.{ℕ, ◌≤◌, refl, sym, subst, ◌∙◌, arith}
use Rattle.tx_types.specs.declared.key.Key.{Key}
use Rattle.tx_core.proofs.seats.Beginnings.{begins_all, begins_more}
use Rattle.tx_transfer.specs.Totals.{HasReadTo, SumsTo, top}
use Rattle.tx_transfer.proofs.Totals.{none_read}
use Rattle.tx_transfer.proofs.total.read_all.Goals as goal

pub returns-in_err-from-clause-knows : goal.returns-in_err-from-clause-knows
returns-in_err-from-clause-knows g c = begins_all c.args.session.now.seat.events

pub loop-pages-init : goal.loop-pages-init
loop-pages-init g c = record {
  start = refl;
  knows = begins_all c.args.session.now.seat.events;
  read = subst (λ (k : Key). HasReadTo g.J.JournalId.bounds c.args.session.now.seat.events
      c.args.session.now.state.start
      k 0) (sym c.in_ok-from.ensures.ok)
      (none_read g.J.JournalId.bounds c.args.session.now.state.start c.args.session.now.seat.events);
  most = omega arith;
}

pub read_on-requires-clause-so_far : goal.read_on-requires-clause-so_far
read_on-requires-clause-so_far g c =
    subst (λ (n : ℕ). HasReadTo g.J.JournalId.bounds c.loop-pages.session.seat.events n c.loop-pages.from
    c.loop-pages.total) (sym c.loop-pages.invariant.start) c.loop-pages.invariant.read

pub returns-in_err-next-clause-knows : goal.returns-in_err-next-clause-knows
returns-in_err-next-clause-knows g c =
    begins_more _ _ _ c.loop-pages.invariant.knows c.in_err-next.ensures.knows

pub loop-pages-preserved : goal.loop-pages-preserved
loop-pages-preserved g c = record {
  start = c.in_ok-next.ensures.start ∙ c.loop-pages.invariant.start;
  knows = begins_more _ _ _ c.loop-pages.invariant.knows c.in_ok-next.ensures.knows;
  read = subst (λ (n : ℕ). HasReadTo g.J.JournalId.bounds c.read_on.new.session.seat.events n c.in-Some.next
      c.read_on.new.total) c.loop-pages.invariant.start (rw c.in-Some.is at c.in_ok-next.ensures.next);
  most = omega (arith, c.loop-pages.invariant.most, c.in_ok-next.ensures.most);
}

pub returns-in-None-clause-knows : goal.returns-in-None-clause-knows
returns-in-None-clause-knows g c =
    begins_more _ _ _ c.loop-pages.invariant.knows c.in_ok-next.ensures.knows

pub returns-in-None-clause-sum : goal.returns-in-None-clause-sum
returns-in-None-clause-sum g c =
    subst (λ (n : ℕ). SumsTo g.J.JournalId.bounds c.read_on.new.session.seat.events n top c.read_on.new.total)
    c.loop-pages.invariant.start (rw c.in-None.is at c.in_ok-next.ensures.next)

pub returns-clause-knows : goal.returns-clause-knows
returns-clause-knows g c = c.loop-pages.invariant.knows

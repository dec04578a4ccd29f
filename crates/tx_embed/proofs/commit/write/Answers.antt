use Rattle.std.proofs.Common.{◌≡◌, inl, inr, None, IfErr, rules, ap, subst}
use Rattle.tx_core.specs.Histories.{declared}
use Rattle.tx_client.specs.Calls.{Seated}
use Rattle.tx_transaction.specs.Buffers.{Entries}
use Rattle.tx_transaction.specs.Sessions.{SessionState, declaration}
use Rattle.tx_update.specs.Updates.{Wrote}
use Rattle.tx_update.proofs.CallSequences.{goes_itself, follows_same, declares_goes}
use Rattle.tx_update.proofs.CommitOrder.{writes_nothing, writes_empty, writes_placed, some_entered, no_primary_ends, still_open, open_stands, wrote_there, wrote_on, well_or_not}
use Rattle.tx_embed.specs.Transactions.{NamesEntered}
use Rattle.tx_embed.proofs.Steps.{at_each_stop}
use Rattle.tx_embed.proofs.commit.write.Goals as goal

pub returns-in-Err-clause-session : goal.returns-in-Err-clause-session
returns-in-Err-clause-session g c =
    writes_nothing c.args.session c.declare.new.self c.requires.open
    (follows_same c.args.session c.declare.new.self c.in-Err.ensures.same)

pub returns-in-Err-clause-resolver : goal.returns-in-Err-clause-resolver
returns-in-Err-clause-resolver g c = goes_itself c.args.resolver

pub returns-then-not-has_primary-clause-session : goal.returns-then-not-has_primary-clause-session
returns-then-not-has_primary-clause-session g c =
    let old = c.args.session in
    let new = c.declare.new.self in
    let ok = c.in_default.ensures.ok in
    writes_empty old new (declares_goes g.J.JournalId.bounds old.seat new.seat
    (declaration old.state.start new.state.placed old.state.buffer c.args.terms.now) ok.2)
    (ap (λ (z : SessionState). z.start) ok.1) (search (rules, c.has_primary.ensures, c.if-not-has_primary.true))

pub returns-then-not-has_primary-clause-resolver : goal.returns-then-not-has_primary-clause-resolver
returns-then-not-has_primary-clause-resolver g c = goes_itself c.args.resolver

pub returns-clause-session : goal.returns-clause-session
returns-clause-session g c =
    let old = c.args.session in
    let new = c.declare.new.self in
    let ok = c.in_default.ensures.ok in
    let some = some_entered old new (ap (λ (z : SessionState). z.buffer) ok.1)
    (search (rules, c.has_primary.ensures, c.if-not-has_primary.false)) in
    writes_placed old new c.carry-session.result.0
    (declares_goes g.J.JournalId.bounds old.seat new.seat
    (declaration old.state.start new.state.placed old.state.buffer c.args.terms.now) ok.2)
    (ap (λ (z : SessionState). z.start) ok.1) (c.in_default.ensures.after_known some) c.carry-session.ensures.session

pub returns-then-not-has_primary-clause-wrote : goal.returns-then-not-has_primary-clause-wrote
returns-then-not-has_primary-clause-wrote g c =
    wrote_there g.J.JournalId.bounds c.args.terms.now c.args.session c.declare.new.self c.in_default.ensures.ok.1
    c.in_default.ensures.ok.2 c.show-2.ensures.stands

pub returns-clause-wrote : goal.returns-clause-wrote
returns-clause-wrote g c =
    let new = c.carry-session.result.0.seat in
    well_or_not c.carry-session.result.2
    (Wrote g.J.JournalId.bounds c.args.terms.now c.args.session.state.start c.args.session.state.buffer
    c.args.session.seat new)
    (wrote_on g.J.JournalId.bounds c.args.terms.now c.args.session c.declare.new.self c.in_default.ensures.ok.1
    c.in_default.ensures.ok.2 c.show-2.ensures.stands new
    (search (rules, c.has_primary.ensures, c.if-not-has_primary.false)) c.show-3.ensures.run
    c.carry-session.ensures.session.seat)

-- what it does not declare is not declared
pub returns-in-Err-clause-at_most : goal.returns-in-Err-clause-at_most
returns-in-Err-clause-at_most g c =
    let new = c.declare.new.self in
    inr (subst (λ (z : Seated). declared new.seat.events z.state.start ≡ None) c.in-Err.ensures.same
    (open_stands new (still_open c.args.session new (follows_same c.args.session new c.in-Err.ensures.same)
    c.requires.open) c.show.ensures.stands))

pub returns-then-not-has_primary-clause-at_most : goal.returns-then-not-has_primary-clause-at_most
returns-then-not-has_primary-clause-at_most g c =
    inl (wrote_there g.J.JournalId.bounds c.args.terms.now c.args.session c.declare.new.self c.in_default.ensures.ok.1
    c.in_default.ensures.ok.2 c.show-2.ensures.stands)

pub returns-clause-at_most : goal.returns-clause-at_most
returns-clause-at_most g c =
    inl (wrote_on g.J.JournalId.bounds c.args.terms.now c.args.session c.declare.new.self c.in_default.ensures.ok.1
    c.in_default.ensures.ok.2 c.show-2.ensures.stands c.carry-session.result.0.seat
    (search (rules, c.has_primary.ensures, c.if-not-has_primary.false)) c.show-3.ensures.run
    c.carry-session.ensures.session.seat)

pub returns-then-not-has_primary-clause-ended : goal.returns-then-not-has_primary-clause-ended
returns-then-not-has_primary-clause-ended g c =
    no_primary_ends c.declare.new.self (search (rules, c.has_primary.ensures, c.if-not-has_primary.true))

pub returns-clause-why : goal.returns-clause-why
returns-clause-why g c =
    at_each_stop c.carry-session.result.2
    (wrote_on g.J.JournalId.bounds c.args.terms.now c.args.session c.declare.new.self c.in_default.ensures.ok.1
    c.in_default.ensures.ok.2 c.show-2.ensures.stands c.carry-session.result.0.seat
    (search (rules, c.has_primary.ensures, c.if-not-has_primary.false)) c.show-3.ensures.run
    c.carry-session.ensures.session.seat)

-- the keys that were declared are those that were entered
pub returns-clause-names : goal.returns-clause-names
returns-clause-names g c =
    subst (λ (es : Entries). IfErr c.carry-session.result.2 (NamesEntered es))
    (ap (λ (z : SessionState). z.buffer) c.in_default.ensures.ok.1) c.carry-session.ensures.names

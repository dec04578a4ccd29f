use Rattle.std.proofs.Common.{ℕ, sym, subst, ◌∙◌, ap}
use Rattle.tx_core.specs.declared.event.Event.TheVariants.{Drawn}
use Rattle.tx_transaction.specs.Buffers.{not_empty}
use Rattle.tx_transaction.specs.Sessions.{is_declared, declaration, SessionState}
use Rattle.tx_network.specs.Networks.{GoesOnWith}
use Rattle.tx_engine.proofs.ActCounts.{placed_none, placed_some, not_empty_is}
use Rattle.tx_engine.proofs.acts.note_declared.Goals as goal

pub returns-then-not-has_primary-clause-notes : goal.returns-then-not-has_primary-clause-notes
returns-then-not-has_primary-clause-notes g c =
    let s = c.args.session.now.state in
    placed_none s.start s.placed s.buffer c.args.terms.now c.args.network.now.trace
    (not_empty_is (is_declared s) (not_empty s.buffer) c.requires ∙ sym c.if-not-has_primary.ensures)

pub returns-clause-notes : goal.returns-clause-notes
returns-clause-notes g c =
    let s = c.args.session.now.state in
    let terms = c.args.terms.now in
    let from = c.args.network.now.trace in
    let mid = c.drew.new.self.trace in
    placed_some s.start s.placed s.buffer terms from mid c.note_copy.new.network.trace
    (not_empty_is (is_declared s) (not_empty s.buffer) c.requires ∙ sym c.if-not-has_primary.ensures)
    (λ seat. subst (λ (n : ℕ). GoesOnWith from (Drawn seat n) mid) (c.placed.ensures
    ∙ ap (λ (s : SessionState). s.placed) c.transaction.ensures) (c.drew.ensures.notes seat))
    (c.note_copy.ensures.notes (declaration s.start s.placed s.buffer terms) c.declaration_of-copy.ensures)

use Rattle.std.proofs.Common.{◌≡◌, sym, ap, ◌∙◌, refl, Some, inl, inr}
use Rattle.tx_machine.specs.declared.versions.KeyHistory.{KeyHistory}
use Rattle.tx_machine.specs.Shown.{history_of, versions_in, insert_read_in}
use Rattle.tx_machine.proofs.Commits.{taken_same}
use Rattle.tx_machine.proofs.InsertReads.{adds_insert, read_upto}
use Rattle.tx_machine.proofs.commit.note_insert.Goals as goal

pub returns-in-Some-clause-same : goal.returns-in-Some-clause-same
returns-in-Some-clause-same c =
    let there : history_of c.args.index.now c.args.change.now.key ≡ Some c.in-Some.history.now =
    sym c.in-Some.ensures.value in
    let put : KeyHistory =
    record { versions = c.in-Some.history.now.versions; insert_read = Some c.later.result } in
    taken_same versions_in (history_of c.args.index.now) (history_of (c.get_mut.follows.lender put))
    c.args.change.now.key c.args.change.now.key (Some put) refl ((c.get_mut.follows.holds put).3 (rw there refl)).0
    (sym (ap versions_in there))

pub returns-in-Some-clause-noted : goal.returns-in-Some-clause-noted
returns-in-Some-clause-noted c has =
    let there : history_of c.args.index.now c.args.change.now.key ≡ Some c.in-Some.history.now =
    sym c.in-Some.ensures.value in
    let put : KeyHistory =
    record { versions = c.in-Some.history.now.versions; insert_read = Some c.later.result } in
    adds_insert c.args.index.now (c.get_mut.follows.lender put) c.args.change.now c.args.t c.later.result (Some put)
    (c.is_insert.ensures.0 c.if-not-is_insert.false) ((c.get_mut.follows.holds put).3 (rw there refl)).0 refl
    c.later.ensures.last.0
    (λ s e. read_upto c.in-Some.history.now.insert_read c.later.result s c.later.ensures.last.1
    (sym (ap insert_read_in there) ∙ e))
    (elim c.later.ensures.one [ inl same ↦ inl same | inr was ↦ inr (ap insert_read_in there ∙ was) ])

use Rattle.std.proofs.Common.{◌≡◌, ◌∷◌, [], true, false, Some, ap, sym, subst, ◌∙◌}
use Rattle.std.specs.Prelude.{option_map}
use Rattle.std.specs.Map.Iter.{deref_pair}
use Rattle.tx_types.specs.declared.key.Key.{Key}
use Rattle.tx_flat.specs.declared.FlatCells.{FlatCells}
use Rattle.tx_cells.specs.Contents.{cells_in}
use Rattle.tx_flat.specs.Flats.{flat_content, fronts_of, rows_from}
use Rattle.tx_flat.specs.Positions.{Locks, WriteEntries, coming, first_of, next_key, comes_before, IsPosition}
use Rattle.tx_flat.proofs.HeldKeys.{rows_step}
use Rattle.tx_flat.proofs.PassedKeys.{lock_first, write_first, front_coming, ended}
use Rattle.tx_flat.proofs.walks.FlatReadsReadWalk.next.Goals as goal
use Rattle.tx_flat.proofs.walks.FlatReadsReadWalk.next.Goals.{in-Some+else-comes_first, in_default}

pub invariant_of-self : goal.invariant_of-self
invariant_of-self c =
    let flat = c.args.self.now.cells.now in
    let ls = c.args.self.now.locks in
    let ws = c.args.self.now.writes in
    let no_lock : coming c.take-lock.new.self ls ≡ [] = ap (λ o. coming o ls) c.take-lock.ensures.after in
    let no_write : coming c.take-write.new.self ws ≡ [] = ap (λ o. coming o ws) c.take-write.ensures.after in
    record {
      slot = subst (λ (es : Locks). IsPosition flat es (coming c.take-write.new.self ws)) (sym no_lock)
          (subst (λ (es : WriteEntries). IsPosition flat [] es) (sym no_write) (ended flat _ _ c.args.self.now.slot));
    }

pub returns-then-comes_first-clause-next : goal.returns-then-comes_first-clause-next
returns-then-comes_first-clause-next c =
    let flat = c.args.self.now.cells.now in
    let ls = c.args.self.now.locks in
    let ws = c.args.self.now.writes in
    let held = c.in-Some.held in
    let k = held.0.now in
    let to = c.pass_locked.new.self in
    let next = next_key (coming to.lock to.locks) (coming to.write to.writes) in
    let before : comes_before k (first_of (fronts_of (coming c.args.self.now.write ws))) ≡ true =
    ap (comes_before k) (front_coming c.args.self.now.write ws
    ∙ ap (option_map (λ x. x.0.now.0)) (sym c.take-write.ensures.value)) ∙ sym c.comes_first.ensures
    ∙ c.if-comes_first.true in
    let first : next_key (coming c.args.self.now.lock ls) (coming c.args.self.now.write ws) ≡ Some k =
    ap (λ o. next_key (coming o ls) (coming c.args.self.now.write ws)) (sym c.in-Some.ensures.value)
    ∙ lock_first k (first_of (fronts_of (coming c.args.self.now.write ws))) before in
    let passes = c.in_ok-pass_locked.ensures.passes c.args.at in
    record {
      cells = cells_in (flat_content flat) k;
      first = ap (rows_from flat) first
          ∙ rows_step flat k next passes.next
          ∙ ap (λ (j : Key). (record { key = j; cells = cells_in (flat_content flat) k })
          ∷ rows_from flat next) (sym c.in_ok-pass_locked.ensures.key)
          ∙ ap (λ (f : FlatCells).
          (record { key = c.in_ok-pass_locked.field-0.0; cells = cells_in (flat_content flat) k })
          ∷ rows_from f next) (sym c.in_ok-pass_locked.ensures.same);
      shows = passes.shows;
    }

pub pass_written-requires-clause-first : goal.pass_written-requires-clause-first
pass_written-requires-clause-first c =
    let ls = c.args.self.now.locks in
    let ws = c.args.self.now.writes in
    let j = c.in-Some-write.newest.0.now.0 in
    elim c.match-lock.branch [
      | in-Some+else-comes_first w ↦ (
          let k = w.in-Some.held.0.now in
          let before : comes_before k (Some j) ≡ false =
          ap (λ o. comes_before k (option_map (λ x. x.0.now.0) o)) (sym c.in-Some-write.is)
          ∙ sym w.comes_first.ensures ∙ w.if-comes_first.false in
          ap (λ o. next_key (coming o ls) (deref_pair c.in-Some-write.newest ∷ ws)) w.in-Some.is
          ∙ write_first k (Some j) (λ none. cc none) before
          )
      | in_default w ↦ ap (λ o. next_key (coming o ls) (deref_pair c.in-Some-write.newest ∷ ws)) w.in_default.is
    ]

pub returns-clause-next : goal.returns-clause-next
returns-clause-next c =
    let flat = c.args.self.now.cells.now in
    let ls = c.args.self.now.locks in
    let ws = c.args.self.now.writes in
    let j = c.in-Some-write.newest.0.now.0 in
    let to = c.pass_written.new.self in
    let next = next_key (coming to.lock to.locks) (coming to.write to.writes) in
    let taken : next_key (coming c.take-lock.result ls) (deref_pair c.in-Some-write.newest ∷ ws) ≡ Some j =
    elim c.match-lock.branch [
      | in-Some+else-comes_first w ↦ (
          let k = w.in-Some.held.0.now in
          let before : comes_before k (Some j) ≡ false =
          ap (λ o. comes_before k (option_map (λ x. x.0.now.0) o)) (sym c.in-Some-write.is)
          ∙ sym w.comes_first.ensures ∙ w.if-comes_first.false in
          ap (λ o. next_key (coming o ls) (deref_pair c.in-Some-write.newest ∷ ws)) w.in-Some.is
          ∙ write_first k (Some j) (λ none. cc none) before
          )
      | in_default w ↦ ap (λ o. next_key (coming o ls) (deref_pair c.in-Some-write.newest ∷ ws)) w.in_default.is
    ] in
    let first : next_key (coming c.args.self.now.lock ls) (coming c.args.self.now.write ws) ≡ Some j =
    ap (λ o. next_key (coming o ls) (coming c.args.self.now.write ws)) (sym c.take-lock.ensures.value)
    ∙ ap (λ o. next_key (coming c.take-lock.result ls) (coming o ws)) (sym c.in-Some-write.ensures.value)
    ∙ taken in
    let passes = c.in_ok-pass_written.ensures.passes in
    record {
      cells = cells_in (flat_content flat) j;
      first = ap (rows_from flat) first
          ∙ rows_step flat j next passes.next
          ∙ ap (λ (i : Key). (record { key = i; cells = cells_in (flat_content flat) j })
          ∷ rows_from flat next) (sym c.in_ok-pass_written.ensures.key)
          ∙ ap (λ (f : FlatCells).
          (record { key = c.in_ok-pass_written.field-0.0; cells = cells_in (flat_content flat) j })
          ∷ rows_from f next) (sym c.in_ok-pass_written.ensures.same);
      shows = passes.shows;
    }

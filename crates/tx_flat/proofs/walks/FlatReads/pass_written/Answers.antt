use Rattle.std.proofs.Common.{◌≡◌, ◌∷◌, ◌≤◌, ℕ, List, Some, ap, sym, subst, ◌∙◌}
use Rattle.std.specs.Prelude.{IsSome}
use Rattle.std.specs.Map.Iter.{deref_pair}
use Rattle.tx_types.specs.Keys.{key_lt}
use Rattle.tx_plan.specs.Reads.{Reads}
use Rattle.tx_cells.specs.Contents.{cells_of}
use Rattle.tx_flat.specs.Flats.{flat_content}
use Rattle.tx_flat.specs.Positions.{coming, locks_where, writes_where}
use Rattle.tx_flat.proofs.PassedKeys.{place_behind, next_behind, locks_passed, head_is, written_stands, written_newest}
use Rattle.tx_flat.proofs.walks.FlatReads.pass_written.Goals as goal

pub value_by-requires-clause-stands : goal.value_by-requires-clause-stands
value_by-requires-clause-stands c =
    let flat = c.args.self.now.cells.now in
    let v = c.args.newest.0.now in
    subst (λ (k : List ℕ). (flat_content flat k).write v.1 ≡ Some c.args.newest.1.now) (sym c.spelt.ensures)
    (written_stands flat v.0 v.1 c.args.newest.1.now (coming c.args.lock c.args.self.now.locks) c.args.self.now.writes
    c.requires.slot c.requires.first)

pub value_by-requires-clause-newest : goal.value_by-requires-clause-newest
value_by-requires-clause-newest c =
    let flat = c.args.self.now.cells.now in
    let v = c.args.newest.0.now in
    subst (λ (k : List ℕ). (q : ℕ) → IsSome ((flat_content flat k).write q) → q ≤ v.1) (sym c.spelt.ensures)
    (written_newest flat v.0 v.1 c.args.newest.1.now (coming c.args.lock c.args.self.now.locks) c.args.self.now.writes
    c.requires.slot c.requires.first)

pub invariant_of-self-2 : goal.invariant_of-self-2
invariant_of-self-2 c =
    let flat = c.args.self.now.cells.now in
    let k = c.args.newest.0.now.0 in
    let ls = coming c.args.lock c.args.self.now.locks in
    let ws = deref_pair c.args.newest ∷ c.args.self.now.writes in
    let locks : coming c.lock_behind-head.result.1 c.lock_behind-head.new.locks
    ≡ locks_where (key_lt k) flat.locks.entries =
    c.lock_behind-head.ensures.behind ∙ locks_passed flat k ls ws c.requires.slot c.requires.first in
    let writes : coming c.in_ok-write.write c.next_front.new.rest ≡ writes_where (key_lt k) flat.writes.entries =
    c.in_ok-write.ensures ∙ ap (λ (j : List ℕ). writes_where (key_lt j) flat.writes.entries) c.in_ok-key.ensures.ok in
    record { slot = place_behind flat k ls ws c.requires.slot c.requires.first _ _ locks writes }

pub returns-clause-passes : goal.returns-clause-passes
returns-clause-passes c =
    let flat = c.args.self.now.cells.now in
    let k = c.args.newest.0.now.0 in
    let ls = coming c.args.lock c.args.self.now.locks in
    let ws = deref_pair c.args.newest ∷ c.args.self.now.writes in
    let locks : coming c.lock_behind-head.result.1 c.lock_behind-head.new.locks
    ≡ locks_where (key_lt k) flat.locks.entries =
    c.lock_behind-head.ensures.behind ∙ locks_passed flat k ls ws c.requires.slot c.requires.first in
    let writes : coming c.in_ok-write.write c.next_front.new.rest ≡ writes_where (key_lt k) flat.writes.entries =
    c.in_ok-write.ensures ∙ ap (λ (j : List ℕ). writes_where (key_lt j) flat.writes.entries) c.in_ok-key.ensures.ok in
    record {
      shows = record {
        lock = head_is flat k ls ws c.requires.slot c.requires.first c.lock_behind-head.result.0
            c.lock_behind-head.ensures.head;
        value = subst (λ (j : List ℕ). Reads (cells_of (flat_content flat j)).write c.args.at c.in_ok-value.value)
            c.spelt.ensures c.in_ok-value.ensures.value;
      };
      next = next_behind flat k ls ws c.requires.slot c.requires.first _ _ locks writes;
    }

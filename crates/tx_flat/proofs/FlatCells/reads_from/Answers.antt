use Rattle.std.proofs.Common.{◌≡◌, ℕ, List, ap, ◌∙◌}
use Rattle.std.specs.BTreeMap.Range.{entries_between}
use Rattle.std.specs.declared.ops.Bound.TheVariants.{Included, Unbounded}
use Rattle.std.specs.Ordering.{nat_cmp}
use Rattle.std.specs.Cmp.Lexicographic.{slice_cmp}
use Rattle.tx_types.specs.Keys.{key_le}
use Rattle.tx_flat.specs.Flats.{flat_content}
use Rattle.tx_flat.specs.Positions.{coming, locks_where, writes_where, next_key}
use Rattle.tx_spelling.specs.Spelt.{version_cmp}
use Rattle.tx_cells.proofs.Facts.{fitting, whole_at}
use Rattle.tx_flat.proofs.HeldKeys.{walk_from}
use Rattle.tx_flat.proofs.Positions.{le_upward, slot, first_held, searched_from, searched_lock, coming_is}
use Rattle.tx_flat.proofs.FlatCells.reads_from.Goals as goal

pub invariant_of-result : goal.invariant_of-result
invariant_of-result c =
    let flat = c.args.self.now in
    let from = c.args.from.now in
    let locks : coming c.next-lock.result c.next-lock.new.self ≡ locks_where (key_le from) flat.locks.entries =
    coming_is c.range-locks.result c.next-lock.new.self c.next-lock.result c.next-lock.ensures.steps
    ∙ c.range-locks.ensures.between tt
    ∙ ap (λ (k : List ℕ). entries_between (slice_cmp nat_cmp) (Included k) Unbounded flat.locks.entries)
    c.in_ok-key.ensures
    ∙ searched_lock from flat.locks.entries in
    let writes : coming c.next-write.result c.next-write.new.self ≡ writes_where (key_le from) flat.writes.entries =
    coming_is c.range-writes.result c.next-write.new.self c.next-write.result c.next-write.ensures.steps
    ∙ c.range-writes.ensures.between tt
    ∙ ap (λ (v : List ℕ × ℕ). entries_between version_cmp (Included v) Unbounded flat.writes.entries)
    (c.in_ok-newest.ensures ∙ ap (λ (n : ℕ). (from, n)) c.new-2.ensures)
    ∙ searched_from from flat.writes.entries
    (λ u rec f. fitting (flat_content flat u.0) (whole_at (flat_content flat) flat.whole u.0) u.1 rec f) in
    record {
      slot = slot flat (key_le from) (le_upward from) _ _ c.range-locks.ensures.ordered
          c.range-writes.ensures.ordered locks writes;
    }

pub returns-clause-walk : goal.returns-clause-walk
returns-clause-walk c =
    let flat = c.args.self.now in
    let from = c.args.from.now in
    let locks : coming c.next-lock.result c.next-lock.new.self ≡ locks_where (key_le from) flat.locks.entries =
    coming_is c.range-locks.result c.next-lock.new.self c.next-lock.result c.next-lock.ensures.steps
    ∙ c.range-locks.ensures.between tt
    ∙ ap (λ (k : List ℕ). entries_between (slice_cmp nat_cmp) (Included k) Unbounded flat.locks.entries)
    c.in_ok-key.ensures
    ∙ searched_lock from flat.locks.entries in
    let writes : coming c.next-write.result c.next-write.new.self ≡ writes_where (key_le from) flat.writes.entries =
    coming_is c.range-writes.result c.next-write.new.self c.next-write.result c.next-write.ensures.steps
    ∙ c.range-writes.ensures.between tt
    ∙ ap (λ (v : List ℕ × ℕ). entries_between version_cmp (Included v) Unbounded flat.writes.entries)
    (c.in_ok-newest.ensures ∙ ap (λ (n : ℕ). (from, n)) c.new-2.ensures)
    ∙ searched_from from flat.writes.entries
    (λ u rec f. fitting (flat_content flat u.0) (whole_at (flat_content flat) flat.whole u.0) u.1 rec f) in
    walk_from flat from (next_key (coming c.next-lock.result c.next-lock.new.self)
    (coming c.next-write.result c.next-write.new.self))
    (first_held flat (key_le from) (le_upward from) _ _ c.range-locks.ensures.ordered c.range-writes.ensures.ordered
    locks writes)

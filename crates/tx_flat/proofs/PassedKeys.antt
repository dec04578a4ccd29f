-- What a walk over flat maps sees of the key that it passes, and where it stands then.
use Rattle.std.proofs.Common.{◌≡◌, inl, inr, ℕ, ◌≤◌, true, false, cond, List, [], ◌∷◌, Option, Some, None, refl, sym, ap, subst, ◌∙◌}
use Rattle.std.specs.Prelude.{IsTrue, IsSome, option_map}
use Rattle.std.specs.Map.{keys_of}
use Rattle.std.specs.Ordering.{nat_cmp, is_eq}
use Rattle.std.specs.Cmp.Lexicographic.{slice_cmp}
use Rattle.std.proofs.lemmas.Bool.{cases_Bool}
use Rattle.std.proofs.lemmas.Cmp.{tied_itself, nat_list_cmp_total}
use Rattle.std.proofs.lemmas.Map.Lookups.{exact_bytes}
use denote.Ref.{Bor}
use Rattle.tx_types.specs.declared.key.Key.{Key}
use Rattle.tx_types.specs.declared.lock.LockRec.{LockRec}
use Rattle.tx_types.specs.declared.write.WriteRec.{WriteRec}
use Rattle.tx_types.specs.Keys.{key_lt, key_le}
use Rattle.tx_plan.specs.declared.view.LockHead.{LockHead}
use Rattle.tx_plan.specs.Views.{lock_head_of}
use Rattle.tx_plan.proofs.KeyOrder.{ordered, lt_back, lt_itself, le_cases}
use Rattle.tx_flat.specs.declared.FlatCells.{FlatCells}
use Rattle.tx_cells.specs.Contents.{cells_of}
use Rattle.tx_cells.specs.Heads.{lock_head}
use Rattle.tx_flat.specs.Flats.{flat_content, fronts_of}
use Rattle.tx_flat.specs.NextKeys.{IsHeld, FirstOf, lesser_of}
use Rattle.tx_flat.specs.Positions.{Locks, WriteEntries, coming, locks_where, writes_where, first_of, next_key, comes_before, lock_on, locks_behind, is_to_come, IsPosition, Passes}
use Rattle.tx_flat.proofs.HeldKeys.{In}
use Rattle.tx_cells.proofs.NewestValue.{none_found}
use Rattle.tx_flat.proofs.KeptEntries.{tied}
use Rattle.tx_cells.proofs.RecordCells.{lock_heads}
use Rattle.tx_flat.proofs.Positions.{lt_upward, keys_climb, fronts_climb, first_passing, keys_part, StartsAbove, beyond, locks_above, slot, first_held, lock_here, no_lock_here, no_write_here, write_here, newest_here}

-- ---- which key is next

not_below : (k j : Key) → key_lt k j ≡ true → key_lt j k ≡ false
not_below k j lt = elim (cases_Bool (key_lt j k)) [ inl back ↦ absurd (lt_back k j lt back) | inr ge ↦ ge ]

pub lock_first : (k : Key) (o : Option Key) → comes_before k o ≡ true → lesser_of (Some k) o ≡ Some k
lock_first k None e = refl
lock_first k (Some j) e = ap (λ b. cond b (Some j) (Some k)) (not_below k j e)

pub write_first : (k : Key) (o : Option Key) → (o ≡ None → ⊥) → comes_before k o ≡ false → lesser_of (Some k) o ≡ o
write_first k None some e = absurd (some refl)
write_first k (Some j) some e = elim (ordered k j) [
  | inl lt ↦ absurd (cc (lt, e))
  | inr other ↦ elim other [
    | inl same ↦ ap (λ b. cond b (Some j) (Some k)) (ap (λ (i : Key). key_lt j i) same ∙ not_itself j)
        ∙ ap (λ (i : Key). Some i) same
    | inr gt ↦ ap (λ b. cond b (Some j) (Some k)) gt
  ]
]
  where
    not_itself : (i : Key) → key_lt i i ≡ false
    not_itself i = elim (cases_Bool (key_lt i i)) [ inl lt ↦ absurd (lt_itself i lt) | inr ge ↦ ge ]

-- the first of the records to come
pub front_coming : (o : Option (Bor (List ℕ × ℕ) × Bor WriteRec)) (es : WriteEntries)
    → first_of (fronts_of (coming o es)) ≡ option_map (λ x. x.0.now.0) o
front_coming None es = refl
front_coming (Some x) es = refl

-- ---- a walk that has ended

no_locks : (es : Locks) → [] ≡ locks_where (is_to_come None) es
no_locks [] = refl
no_locks (e ∷ es) = no_locks es

no_writes : (es : WriteEntries) → [] ≡ writes_where (is_to_come None) es
no_writes [] = refl
no_writes (e ∷ es) = no_writes es

pub ended : (flat : FlatCells) (ls : Locks) (ws : WriteEntries) → IsPosition flat ls ws → IsPosition flat [] []
ended flat ls ws at =
    record {
      locks_rise = at.locks_rise;
      writes_rise = at.writes_rise;
      locks_left =
          no_locks flat.locks.entries;
      writes_left = no_writes flat.writes.entries;
    }

module _ (flat : FlatCells) (k : Key) (ls : Locks) (ws : WriteEntries) (at : IsPosition flat ls ws)
    (next : next_key ls ws
    ≡ Some k) where
  locks_from : ls ≡ locks_where (key_le k) flat.locks.entries
  locks_from = at.locks_left ∙ ap (λ (o : Option Key). locks_where (is_to_come o) flat.locks.entries) next

  pub writes_from : ws ≡ writes_where (key_le k) flat.writes.entries
  writes_from = at.writes_left ∙ ap (λ (o : Option Key). writes_where (is_to_come o) flat.writes.entries) next

  -- ---- the slot behind the key

  module _ (ls' : Locks) (ws' : WriteEntries) (el : ls' ≡ locks_where (key_lt k) flat.locks.entries)
      (ew : ws' ≡ writes_where (key_lt k) flat.writes.entries) where
    pub place_behind : IsPosition flat ls' ws'
    place_behind = slot flat (key_lt k) (lt_upward k) ls' ws' at.locks_rise at.writes_rise el ew

    pub next_behind : FirstOf (key_lt k) (λ j. IsHeld (flat_content flat j)) (next_key ls' ws')
    next_behind = first_held flat (key_lt k) (lt_upward k) ls' ws' at.locks_rise at.writes_rise el ew

  -- ---- its lock

  first_from : (e : Key × LockRec) (es : Locks) → e ∷ es ≡ locks_where (key_le k) flat.locks.entries
      → IsTrue (key_le k e.0)
  first_from e es is =
      let first = first_passing (key_le k) (keys_of flat.locks.entries)
      (keys_climb (keys_of flat.locks.entries) at.locks_rise) in
      let named : FirstOf (key_le k) (λ j. In j (keys_of flat.locks.entries)) (Some e.0) =
      subst (λ (ks : List Key). FirstOf (key_le k) (λ j. In j (keys_of flat.locks.entries)) (first_of ks))
      (sym (ap keys_of is ∙ keys_part (λ (x : Key × LockRec). x.0) (key_le k) flat.locks.entries)) first in
      named.passed

  same_key : (e : Key × LockRec) → is_eq (slice_cmp nat_cmp e.0 k) ≡ true → e.0 ≡ k
  same_key e here = exact_bytes e.0 k (tied (slice_cmp nat_cmp e.0 k) here)

  above_key : (e : Key × LockRec) (es : Locks) → e ∷ es ≡ locks_where (key_le k) flat.locks.entries
      → is_eq (slice_cmp nat_cmp e.0 k) ≡ false → IsTrue (key_lt k e.0)
  above_key e es is other = elim (le_cases k e.0 (first_from e es is)) [
    | inl lt ↦ lt
    | inr same ↦ (let here : is_eq (slice_cmp nat_cmp e.0 k) ≡ true =
        ap (λ (j : Key). is_eq (slice_cmp nat_cmp e.0 j)) same ∙ ap is_eq (tied_itself nat_list_cmp_total e.0) in
        absurd (cc (here, other)))
  ]

  behind_of : (es : Locks) → es ≡ locks_where (key_le k) flat.locks.entries
      → locks_behind k es ≡ locks_where (key_lt k) flat.locks.entries
  behind_of [] is = beyond (λ (x : Key × LockRec). x.0) k flat.locks.entries
      (keys_climb (keys_of flat.locks.entries) at.locks_rise) [] is tt
  behind_of (e ∷ es) is = elim (cases_Bool (is_eq (slice_cmp nat_cmp e.0 k))) [
    | inl here ↦ ap (λ b. cond b es (e ∷ es)) here
        ∙ locks_above k e es flat.locks.entries at.locks_rise (same_key e here) is
    | inr other ↦ ap (λ b. cond b es (e ∷ es)) other
        ∙ beyond (λ (x : Key × LockRec). x.0) k flat.locks.entries
        (keys_climb (keys_of flat.locks.entries) at.locks_rise) (e ∷ es) is (above_key e es is other)
  ]

  pub locks_passed : locks_behind k ls ≡ locks_where (key_lt k) flat.locks.entries
  locks_passed = behind_of ls locks_from

  lock_of_key : (es : Locks) → es ≡ locks_where (key_le k) flat.locks.entries
      → (flat_content flat k).lock ≡ lock_on k es
  lock_of_key [] is = no_lock_here k flat.locks.entries [] is (behind_of [] is)
  lock_of_key (e ∷ es) is = elim (cases_Bool (is_eq (slice_cmp nat_cmp e.0 k))) [
    | inl here ↦ (
        let moved : (k, e.1) ∷ es ≡ locks_where (key_le k) flat.locks.entries =
        ap (λ (j : Key). (j, e.1) ∷ es) (sym (same_key e here)) ∙ is in
        lock_here k flat.locks.entries e.1 es moved ∙ sym (ap (λ b. cond b (Some e.1) None) here)
        )
    | inr other ↦ (
        no_lock_here k flat.locks.entries (e
        ∷ es) is (beyond (λ (x : Key × LockRec). x.0) k flat.locks.entries
        (keys_climb (keys_of flat.locks.entries) at.locks_rise) (e ∷ es) is (above_key e es is other))
        ∙ sym (ap (λ b. cond b (Some e.1) None) other)
        )
  ]

  pub lock_is : (flat_content flat k).lock ≡ lock_on k ls
  lock_is = lock_of_key ls locks_from

  pub head_is : (head : Option LockHead) → head ≡ option_map lock_head (lock_on k ls)
      → head ≡ option_map lock_head_of (cells_of (flat_content flat k)).lock
  head_is head e = e ∙ ap (option_map lock_head) (sym lock_is)
      ∙ lock_heads (flat_content flat k).value (flat_content flat k).lock

-- ---- a key that has a lock and no write record

starts_above : (k : Key) (es : WriteEntries) → comes_before k (first_of (fronts_of es)) ≡ true
    → StartsAbove (λ (x : (List ℕ × ℕ) × WriteRec). x.0.0) k es
starts_above k [] e = tt
starts_above k (x ∷ xs) e = e

module _ (flat : FlatCells) (k : Key) (rec : LockRec) (ls : Locks) (ws : WriteEntries)
    (at : IsPosition flat ((k, rec) ∷ ls) ws) (first : comes_before k (first_of (fronts_of ws)) ≡ true) where
  next_is : next_key ((k, rec) ∷ ls) ws ≡ Some k
  next_is = lock_first k (first_of (fronts_of ws)) first

  writes_above : ws ≡ writes_where (key_lt k) flat.writes.entries
  writes_above = beyond (λ (x : (List ℕ × ℕ) × WriteRec). x.0.0) k flat.writes.entries
      (fronts_climb flat.writes.entries at.writes_rise) ws (writes_from flat k ((k, rec) ∷ ls) ws at next_is)
      (starts_above k ws first)

  itself : is_eq (slice_cmp nat_cmp k k) ≡ true
  itself = ap is_eq (tied_itself nat_list_cmp_total k)

  locks_over : ls ≡ locks_where (key_lt k) flat.locks.entries
  locks_over = sym (ap (λ b. cond b ls ((k, rec) ∷ ls)) itself) ∙ locks_passed flat k ((k, rec) ∷ ls) ws at next_is

  pub locked_place : IsPosition flat ls ws
  locked_place = place_behind flat k ((k, rec) ∷ ls) ws at next_is ls ws locks_over writes_above

  pub locked_passes : (head : LockHead) → head ≡ lock_head rec → (r : ℕ)
      → Passes flat r k (record { lock = Some head; value = None }) ls ws
  locked_passes head e r = record {
    shows = record {
      lock = head_is flat k ((k, rec) ∷ ls) ws at next_is (Some head) (ap (λ (h : LockHead). Some h) e
          ∙ sym (ap (λ b. option_map lock_head (cond b (Some rec) None)) itself));
      value = none_found (flat_content flat k) r
          (λ c other stands seen upto. (let none =
          no_write_here k flat.writes.entries ws c (writes_from flat k ((k, rec) ∷ ls) ws at next_is) writes_above in
          cc (none, stands)));
    };
    next = next_behind flat k ((k, rec) ∷ ls) ws at next_is ls ws locks_over writes_above;
  }

-- ---- a key that has write records

module _ (flat : FlatCells) (k : Key) (c : ℕ) (rec : WriteRec) (ls : Locks) (ws : WriteEntries)
    (at : IsPosition flat ls (((k, c), rec) ∷ ws)) (next : next_key ls (((k, c), rec) ∷ ws) ≡ Some k) where
  pub written_left : ((k, c), rec) ∷ ws ≡ writes_where (key_le k) flat.writes.entries
  written_left = writes_from flat k ls (((k, c), rec) ∷ ws) at next

  pub written_stands : (flat_content flat k).write c ≡ Some rec
  written_stands = write_here k flat.writes.entries c rec ws written_left

  pub written_newest : (q : ℕ) → IsSome ((flat_content flat k).write q) → q ≤ c
  written_newest = newest_here k flat.writes.entries c rec ws written_left at.writes_rise

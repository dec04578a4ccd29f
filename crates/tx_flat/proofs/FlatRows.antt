-- The locks of flat maps, as the rows of a walk.
use Rattle.std.proofs.Common.{◌≡◌, inl, inr, cond, List, [], ◌∷◌, Option, Some, bytes_eq, refl, sym, ap, ◌∙◌}
use Rattle.std.specs.Prelude.{IsTrue, option_map}
use Rattle.std.specs.List.Sorted.{IsStrictlySortedBy}
use Rattle.std.specs.Map.{keys_of, lookup}
use Rattle.std.specs.BTreeMap as tree
use Rattle.std.specs.Ordering.{nat_cmp, is_eq, is_lt}
use Rattle.std.specs.Cmp.Lexicographic.{slice_cmp}
use Rattle.std.specs.declared.cmp.Ordering.TheVariants.{Less}
use Rattle.std.proofs.lemmas.Bool.{cases_Bool}
use Rattle.std.proofs.lemmas.Slice.Eq.{bytes_eq-Decides}
use Rattle.tx_types.specs.declared.key.Key.{Key}
use Rattle.tx_types.specs.declared.lock.LockRec.{LockRec}
use Rattle.tx_types.specs.Keys.{key_lt}
use Rattle.tx_plan.specs.Views.{lock_head_of}
use Rattle.tx_plan.specs.Walks.{LocksInOrder, lock_by, IsLockWalk}
use Rattle.tx_cells.specs.Contents.{OnKey, Content, cells_in, lock_of}
use Rattle.tx_cells.specs.Heads.{lock_head}
use Rattle.tx_flat.specs.Flats.{flat_content, lock_rows_in}
use Rattle.tx_flat.specs.declared.FlatCells.{FlatCells}
use Rattle.tx_cells.proofs.Maps.{key_is}
use Rattle.tx_cells.proofs.RecordCells.{lock_heads}

abbrev Entries : Type 0
Entries = List (Key × LockRec)

abbrev find : Key → Entries → Option LockRec
find k es = lookup (tree.is_at (slice_cmp nat_cmp k)) es

flipped : (a b : Key) → bytes_eq a b ≡ bytes_eq b a
flipped a b = elim (cases_Bool (bytes_eq a b)) [
  | inl e ↦ e ∙ sym ((bytes_eq-Decides b a).1 (sym ((bytes_eq-Decides a b).0 e)))
  | inr e ↦ elim (cases_Bool (bytes_eq b a)) [
    | inl f ↦ (let back = (bytes_eq-Decides a b).1 (sym ((bytes_eq-Decides b a).0 f)) in absurd (cc (e, back)))
    | inr f ↦ e ∙ sym f
  ]
]

at_is : (k j : Key) → is_eq (slice_cmp nat_cmp k j) ≡ bytes_eq j k
at_is k j = key_is k j ∙ flipped k j

lt_of : (j k : Key) → slice_cmp nat_cmp j k ≡ Less → IsTrue (key_lt j k)
lt_of j k e = ap is_lt e

module _ (content : Content) where
  rows_rise : (es : Entries) → IsStrictlySortedBy (slice_cmp nat_cmp) (keys_of es)
      → LocksInOrder (lock_rows_in content es)
  unfolding IsStrictlySortedBy
  rows_rise [] s = tt
  rows_rise (e ∷ []) s = tt
  rows_rise (e ∷ f ∷ es) s = (lt_of e.0 f.0 s.0.0, rows_rise (f ∷ es) s.1)

  rows_by : (es : Entries) (k : Key)
      → option_map (lock_of (content k).value) (find k es) ≡ lock_by (lock_rows_in content es) k
  rows_by [] k = refl
  rows_by (e ∷ es) k = elim (cases_Bool (bytes_eq e.0 k)) [
    | inl same ↦ (
        ap (λ b. option_map (lock_of (content k).value) (cond b (Some e.1) (find k es))) (at_is k e.0 ∙ same)
        ∙ ap (λ (j : Key). Some (lock_of (content j).value e.1)) (sym ((bytes_eq-Decides e.0 k).0 same))
        ∙ sym (ap (λ b. cond b (Some (lock_of (content e.0).value e.1)) (lock_by (lock_rows_in content es) k)) same)
        )
    | inr other ↦ (
        ap (λ b. option_map (lock_of (content k).value) (cond b (Some e.1) (find k es))) (at_is k e.0 ∙ other)
        ∙ rows_by es k
        ∙ sym (ap (λ b. cond b (Some (lock_of (content e.0).value e.1)) (lock_by (lock_rows_in content es) k)) other)
        )
  ]

pub flat_walk : (flat : FlatCells) → IsStrictlySortedBy (slice_cmp nat_cmp) (keys_of flat.locks.entries)
    → IsLockWalk (cells_in (flat_content flat)) (lock_rows_in (flat_content flat) flat.locks.entries)
flat_walk flat s = record {
  rising = rows_rise (flat_content flat) flat.locks.entries s;
  all =
      λ k. rows_by (flat_content flat) flat.locks.entries k;
}

-- the head of a lock
pub head_shown : (x : OnKey) (rec : LockRec) → lock_head rec ≡ lock_head_of (lock_of x.value rec)
head_shown x rec = (let both : Some (lock_head rec) ≡ Some (lock_head_of (lock_of x.value rec)) =
    lock_heads x.value (Some rec) in cc both)

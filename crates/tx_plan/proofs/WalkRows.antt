-- Rows in the order of their keys, taken one after another.
use Rattle.std.proofs.Common.{◌≡◌, refl, ◌∙◌, subst, Bool, true, false, List, [], ◌∷◌}
use Rattle.std.specs.Prelude.{IsTrue}
use Rattle.tx_types.specs.declared.key.Key.{Key}
use Rattle.tx_types.specs.Keys.{key_lt}
use Rattle.tx_plan.specs.Cells.{Cells, no_cells}
use Rattle.tx_plan.specs.Walks.{KeyRow, AreInOrder, KeysPass, cells_by, IsWalk}
use Rattle.tx_plan.proofs.KeyOrder.{lt_trans, key_same, other_key, lt_itself}

-- whether a key comes before all of the rows
abbrev pub comes_before : List KeyRow → Key → Bool
comes_before [] k = true
comes_before (x ∷ rows) k = key_lt k x.key

-- the rows that are still to come, in order, are what stands on each key of the part that does not
-- come before them
pub record AreLeft (cells : Key → Cells) (within : Key → Bool) (rows : List KeyRow) : Type 0 where
  pub rising : AreInOrder rows
  pub inside : KeysPass within rows
  pub all : (k : Key) → IsTrue (within k) → comes_before rows k ≡ false → cells k ≡ cells_by rows k

pub rising_rest : (x : KeyRow) (rows : List KeyRow) → AreInOrder (x ∷ rows) → AreInOrder rows
rising_rest x [] h = tt
rising_rest x (y ∷ rows) h = h.1

-- what comes before the rows is in none
pub before_none : (rows : List KeyRow) (k : Key) → AreInOrder rows → IsTrue (comes_before rows k)
    → cells_by rows k ≡ no_cells
before_none [] k h p = refl
before_none (x ∷ []) k h p = rw (other_key x.key k (λ e. lt_itself k (subst (λ i. IsTrue (key_lt k i)) e p))) refl
before_none (x ∷ y ∷ rows) k h p =
    rw (other_key x.key k (λ e. lt_itself k (subst (λ i. IsTrue (key_lt k i)) e p)))
    (before_none (y ∷ rows) k h.1 (lt_trans k x.key y.key p h.0))

-- a key comes before the first row, is its key, or comes after it
pub first_before_rest : (x : KeyRow) (rows : List KeyRow) → AreInOrder (x ∷ rows) → IsTrue (comes_before rows x.key)
first_before_rest x [] h = refl
first_before_rest x (y ∷ rows) h = h.0

pub left_first : (cells : Key → Cells) (within : Key → Bool) (rows : List KeyRow) → IsWalk cells within rows
    → AreLeft cells within rows
left_first cells within rows walk = record { rising = walk.rising; inside = walk.inside; all = λ k w n. walk.all k w }

-- what stands on the key of the first row
pub first_cells : (cells : Key → Cells) (within : Key → Bool) (x : KeyRow) (rows : List KeyRow)
    → AreLeft cells within (x ∷ rows) → cells x.key ≡ x.cells
first_cells cells within x rows left = left.all x.key left.inside.0 not_before ∙ (rw (key_same x.key) refl)
  where
    not_before : key_lt x.key x.key ≡ false
    not_before = elim (key_lt x.key x.key) as (λ b. key_lt x.key x.key ≡ b
        → b ≡ false) [ true ↦ λ e. absurd (lt_itself x.key e) | false ↦ λ e. refl ] refl

pub left_rest : (cells : Key → Cells) (within : Key → Bool) (x : KeyRow) (rows : List KeyRow)
    → AreLeft cells within (x ∷ rows) → AreLeft cells within rows
left_rest cells within x rows left = record {
  rising = rising_rest x rows left.rising;
  inside = left.inside.1;
  all = λ k w n. left.all k w (not_before k n) ∙ cond_other k n;
}
  where
    -- a key that does not come before the rest does not come before the first either
    not_before : (k : Key) → comes_before rows k ≡ false → key_lt k x.key ≡ false
    not_before k n = elim (key_lt k x.key) as (λ b. key_lt k x.key ≡ b
        → b ≡ false) [ true ↦ λ e. absurd (later rows left.rising k e n) | false ↦ λ e. refl ] refl
      where
        later : (ys : List KeyRow) → AreInOrder (x ∷ ys) → (q : Key) → IsTrue (key_lt q x.key)
            → comes_before ys q ≡ false → ⊥
        later [] h q e f = cc (f)
        later (y ∷ ys) h q e f = let p = lt_trans q x.key y.key e h.0 in cc (p, f)

    cond_other : (k : Key) → comes_before rows k ≡ false → cells_by (x ∷ rows) k ≡ cells_by rows k
    cond_other k n = rw (other_key x.key k (λ e. same rows left.rising k n e)) refl
      where
        same : (ys : List KeyRow) → AreInOrder (x ∷ ys) → (q : Key) → comes_before ys q ≡ false → x.key ≡ q → ⊥
        same [] h q f e = cc (f)
        same (y ∷ ys) h q f e = let p = subst (λ i. IsTrue (key_lt i y.key)) e h.0 in cc (p, f)

-- between the first row and the next nothing stands
pub gap_none : (cells : Key → Cells) (within : Key → Bool) (x : KeyRow) (rows : List KeyRow) (k : Key)
    → AreLeft cells within (x ∷ rows) → IsTrue (within k) → key_lt k x.key ≡ false → (x.key ≡ k → ⊥)
    → IsTrue (comes_before rows k) → cells k ≡ no_cells
gap_none cells within x rows k left w n ne p =
    left.all k w n ∙ (rw (other_key x.key k ne) (before_none rows k (rising_rest x rows left.rising) p))

-- before the first row of a whole walk nothing stands
pub start_none : (cells : Key → Cells) (within : Key → Bool) (rows : List KeyRow) (k : Key) → IsWalk cells within rows
    → IsTrue (within k) → IsTrue (comes_before rows k) → cells k ≡ no_cells
start_none cells within rows k walk w p = walk.all k w ∙ before_none rows k walk.rising p

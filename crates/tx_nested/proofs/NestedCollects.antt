-- Collection of all keys of nested maps.
use Rattle.std.proofs.Common.{◌≡◌, ◌≤◌, ℕ, inl, inr, Bool, true, false, cond, [], ◌∷◌, Option, Some, None, bytes_eq, refl, sym, ap, subst, ◌∙◌, arith}
use Rattle.std.specs.List.Sorted.{IsStrictlySortedBy}
use Rattle.std.specs.Map.Calls.{RetainsPairs}
use Rattle.std.proofs.lemmas.Bool.{cases_Bool}
use Rattle.std.proofs.lemmas.Slice.Eq.{bytes_eq-Decides}
use Rattle.tx_types.specs.declared.key.Key.{Key}
use Rattle.tx_plan.specs.cases.Collect.{keeps, kept}
use Rattle.tx_nested.specs.declared.key.KeyFamilies.{KeyFamilies}
use Rattle.tx_cells.specs.Contents.{OnKey, cells_of, nothing_held}
use Rattle.tx_cells.specs.Afterwards.{Collected}
use Rattle.tx_nested.specs.Nested.{held, held_on, number_on}
use Rattle.tx_cells.proofs.CellsAfter.{cells_same}
use Rattle.tx_nested.proofs.NestedRows.{Entries, InOrder, IsAfter, find, at_is, apart}

-- what collection makes of a key
pub record CollectsOn (safe : ℕ) (before after : OnKey) : Type 0 where
  pub content : Collected safe before after
  pub cells : cells_of after ≡ kept (cells_of before) safe

none_left : (b : Bool) {X : Type 0} → ◌≡◌ {A = Option X} None (cond b None None)
none_left true = refl
none_left false = refl

nothing_collected : (safe : ℕ) → CollectsOn safe nothing_held nothing_held
nothing_collected safe = record {
  content = record {
    lock = refl;
    write = λ q. none_left (keeps (cells_of nothing_held).write safe q);
    kept = λ t k. refl;
    gone = λ t n. refl;
  };
  cells = cells_same None None (λ q. None) (kept (cells_of nothing_held) safe).write refl
      (λ q. none_left (keeps (cells_of nothing_held).write safe q));
}

module _ {F : Type 0} (T : F → Key → KeyFamilies → Bool → KeyFamilies → F → Type 0) (I : F → Type 0) (safe : ℕ)
    (step : (f : F) (k : Key) (v : KeyFamilies) (b : Bool) (w : KeyFamilies) (g : F) → I f → T f k v b w g
    → CollectsOn safe (held v) (held w) × (b ≡ false → held w ≡ nothing_held) × I g) where
  -- keys that come after one still do
  still_after : (j : Key) (f : F) (es fs : Entries) → RetainsPairs T f es fs → IsAfter j es → IsAfter j fs
  still_after j f [] fs r a = subst (IsAfter j) (sym r) tt
  still_after j f (e ∷ es) fs r a = subst (IsAfter j) (sym r.6) (go r.0 (still_after j r.2 es r.3 r.5 a.1))
    where
      go : (b : Bool) → IsAfter j r.3 → IsAfter j (cond b ((e.0, r.1) ∷ r.3) r.3)
      go true later = (a.0, later)
      go false later = later

  none_after : (j : Key) (es : Entries) → IsAfter j es → find j es ≡ None
  none_after j [] a = refl
  none_after j (e ∷ es) a =
      ap (λ b. cond b (Some e.1) (find j es)) (at_is j e.0 ∙ apart j e.0 a.0) ∙ none_after j es a.1

  pub collects_all : (f : F) (es fs : Entries) → I f → InOrder es → RetainsPairs T f es fs → (k : Key)
      → CollectsOn safe (held_on (find k es)) (held_on (find k fs))
  unfolding IsStrictlySortedBy
  collects_all f [] fs i s r k =
      subst (λ (gs : Entries). CollectsOn safe nothing_held (held_on (find k gs))) (sym r) (nothing_collected safe)
  collects_all f (e ∷ es) fs i s r k =
      subst (λ (gs : Entries). CollectsOn safe (held_on (find k (e ∷ es))) (held_on (find k gs))) (sym r.6)
      (go r.0 refl (step f e.0 e.1 r.0 r.1 r.2 i r.4) (still_after e.0 r.2 es r.3 r.5 s.0)
      (collects_all r.2 es r.3 (step f e.0 e.1 r.0 r.1 r.2 i r.4).2 s.1 r.5 k))
    where
      with_first : (v : KeyFamilies) (gs : Entries) (b : Bool) → bytes_eq e.0 k ≡ b
          → find k ((e.0, v) ∷ gs) ≡ cond b (Some v) (find k gs)
      with_first v gs b is = ap (λ c. cond c (Some v) (find k gs)) (at_is k e.0 ∙ is)

      go : (b : Bool) → r.0 ≡ b
          → CollectsOn safe (held e.1) (held r.1) × (r.0 ≡ false → held r.1 ≡ nothing_held) × I r.2 → IsAfter e.0 r.3
          → CollectsOn safe (held_on (find k es)) (held_on (find k r.3))
          → CollectsOn safe (held_on (find k (e ∷ es))) (held_on (find k (cond b ((e.0, r.1) ∷ r.3) r.3)))
      go true is here after later = elim (cases_Bool (bytes_eq e.0 k)) [
        | inl same ↦ subst (λ (o :
            Option KeyFamilies). CollectsOn safe (held_on o) (held_on (find k ((e.0, r.1) ∷ r.3))))
            (sym (with_first e.1 es true same))
            (subst (λ (o : Option KeyFamilies). CollectsOn safe (held e.1) (held_on o))
            (sym (with_first r.1 r.3 true same)) here.0)
        | inr other ↦ subst (λ (o :
            Option KeyFamilies). CollectsOn safe (held_on o) (held_on (find k ((e.0, r.1) ∷ r.3))))
            (sym (with_first e.1 es false other))
            (subst (λ (o : Option KeyFamilies). CollectsOn safe (held_on (find k es)) (held_on o))
            (sym (with_first r.1 r.3 false other)) later)
      ]
      go false is here after later = elim (cases_Bool (bytes_eq e.0 k)) [
        | inl same ↦ subst (λ (o : Option KeyFamilies). CollectsOn safe (held_on o) (held_on (find k r.3)))
            (sym (with_first e.1 es true same))
            (subst (λ (y : OnKey). CollectsOn safe (held e.1) y) (here.1 is
            ∙ sym (ap held_on (ap (λ (j : Key). find j r.3) (sym ((bytes_eq-Decides e.0 k).0 same))
            ∙ none_after e.0 r.3 after))) here.0)
        | inr other ↦ subst (λ (o : Option KeyFamilies). CollectsOn safe (held_on o) (held_on (find k r.3)))
            (sym (with_first e.1 es false other)) later
      ]

  -- a key that goes has no number any more
  pub numbers_all : ((f : F) (k : Key) (v : KeyFamilies) (b : Bool) (w : KeyFamilies) (g : F) → I f → T f k v b w g
      → w.number ≡ v.number) → (f : F) (es fs : Entries) → I f → InOrder es → RetainsPairs T f es fs → (k : Key)
      → number_on (find k fs) ≤ number_on (find k es)
  unfolding IsStrictlySortedBy
  numbers_all same f [] fs i s r k = subst (λ (gs : Entries). number_on (find k gs) ≤ 0) (sym r) (omega arith)
  numbers_all same f (e ∷ es) fs i s r k =
      subst (λ (gs : Entries). number_on (find k gs) ≤ number_on (find k (e ∷ es))) (sym r.6)
      (go r.0 (same f e.0 e.1 r.0 r.1 r.2 i r.4) (still_after e.0 r.2 es r.3 r.5 s.0)
      (numbers_all same r.2 es r.3 (step f e.0 e.1 r.0 r.1 r.2 i r.4).2 s.1 r.5 k))
    where
      with_first : (v : KeyFamilies) (gs : Entries) (b : Bool) → bytes_eq e.0 k ≡ b
          → number_on (find k ((e.0, v) ∷ gs)) ≡ number_on (cond b (Some v) (find k gs))
      with_first v gs b is = ap (λ c. number_on (cond c (Some v) (find k gs))) (at_is k e.0 ∙ is)

      go : (b : Bool) → r.1.number ≡ e.1.number → IsAfter e.0 r.3 → number_on (find k r.3) ≤ number_on (find k es)
          → number_on (find k (cond b ((e.0, r.1) ∷ r.3) r.3)) ≤ number_on (find k (e ∷ es))
      go true one after later = elim (cases_Bool (bytes_eq e.0 k)) [
        | inl is ↦ (let new = with_first r.1 r.3 true is in let old = with_first e.1 es true is in
            omega (arith, new, old, one))
        | inr other ↦ (let new = with_first r.1 r.3 false other in let old = with_first e.1 es false other in
            omega (arith, new, old, later))
      ]
      go false one after later = elim (cases_Bool (bytes_eq e.0 k)) [
        | inl is ↦ (let gone : number_on (find k r.3) ≡ 0 =
            ap number_on (ap (λ (j : Key). find j r.3) (sym ((bytes_eq-Decides e.0 k).0 is))
            ∙ none_after e.0 r.3 after) in omega (arith, gone))
        | inr other ↦ (let old = with_first e.1 es false other in omega (arith, old, later))
      ]

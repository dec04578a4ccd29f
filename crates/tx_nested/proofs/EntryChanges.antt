-- What a change of entries that rise makes of look-ups, and that they rise again.
use Rattle.std.proofs.Common.{◌≡◌, inl, inr, ℕ, zero, suc, ◌<◌, ◌≤◌, not, Bool, true, false, cond, List, [], ◌∷◌, set, Option, Some, None, slice_get, refl, sym, ap, subst, ◌∙◌, arith}
use Rattle.std.specs.Prelude.{is_some}
use Rattle.std.specs.BTreeMap.{is_at}
use Rattle.std.specs.List.{insert, filter, AllByRecursion}
use Rattle.std.specs.List.Sorted.{IsStrictlySortedBy}
use Rattle.std.specs.Map.{keys_of, set_value}
use Rattle.std.specs.Ordering.{nat_cmp, is_eq}
use Rattle.std.specs.declared.cmp.Ordering.TheVariants.{Less}
use Rattle.std.proofs.lemmas.Bool.{cases_Bool, cond-true, cond-false}
use Rattle.std.proofs.lemmas.Cmp.{nat_cmp_total, eq_by_cmp_equiv}
use Rattle.std.proofs.lemmas.List.Kept.{IsStrictlySortedBy-filter}
use Rattle.std.proofs.lemmas.Map.{lookup-insert, lookup-set_value, keys-set_value, none_passes_from_lookup}
use Rattle.std.proofs.lemmas.Map.Entries.{lookup-filter-keys}
use Rattle.std.proofs.lemmas.Map.Keys.{sorted_tail}
use Rattle.tx_nested.specs.Indexes.{IsIndex, goes_below}
use Rattle.tx_nested.proofs.EntryOrder.{Rises, all_of, rises}
use Rattle.tx_nested.proofs.Lookups.{is_less, is_greater, one_time, find, found_here, none_at, over_place}

module _ {X : Type 0} where
  -- ---- a value is put in the index of another

  set_is : (es : List (ℕ × X)) (i t : ℕ) (x y : X) → Rises es → slice_get es i ≡ Some (t, y)
      → set es i (t, x) ≡ set_value (is_at (nat_cmp t)) es x
  set_is [] i t x y s h = absurd (cc h)
  set_is (e ∷ es) zero t x y s h =
      let same : e.0 ≡ t = cc h in
      let here = ap (λ (k : ℕ). is_eq (nat_cmp t k)) same ∙ (eq_by_cmp_equiv nat_cmp_total).refl t in
      ap (λ (k : ℕ). (k, x) ∷ es) (sym same)
      ∙ sym (cond-true (is_eq (nat_cmp t e.0)) ((e.0, x) ∷ es) (e ∷ set_value (is_at (nat_cmp t)) es x) here)
  set_is (e ∷ es) (suc i) t x y s h =
      let apart = ap is_eq (is_greater t e.0 (rises (e ∷ es) 0 (suc i) e (t, y) s (omega arith) refl h)) in
      ap (λ (l : List (ℕ × X)). e ∷ l) (set_is es i t x y (sorted_tail nat_cmp e.0 (keys_of es) s) h)
      ∙ sym (cond-false (is_eq (nat_cmp t e.0)) ((e.0, x) ∷ es) (e ∷ set_value (is_at (nat_cmp t)) es x) apart)

  module _ (es : List (ℕ × X)) (i t : ℕ) (x y : X) (s : Rises es) (h : slice_get es i ≡ Some (t, y)) where
    pub rises_set : Rises (set es i (t, x))
    rises_set = subst (IsStrictlySortedBy nat_cmp)
        (sym (ap keys_of (set_is es i t x y s h) ∙ keys-set_value (is_at (nat_cmp t)) es x)) s

    pub find_set : (q : ℕ) → find q (set es i (t, x)) ≡ cond (is_eq (nat_cmp t q)) (Some x) (find q es)
    find_set q =
        ap (find q) (set_is es i t x y s h)
        ∙ lookup-set_value (eq_by_cmp_equiv nat_cmp_total) (is_at (nat_cmp t))
        (λ a b. (eq_by_cmp_equiv nat_cmp_total).congr t a b) q x es (ap is_some (found_here es i t y s h))

  -- ---- an entry is put in

  all_insert : (P : ℕ → Type 0) (es : List (ℕ × X)) (i t : ℕ) (x : X) → P t → AllByRecursion P (keys_of es)
      → AllByRecursion P (keys_of (insert es i (t, x)))
  all_insert P es zero t x p a = (p, a)
  all_insert P [] (suc i) t x p a = (p, tt)
  all_insert P (e ∷ es) (suc i) t x p a = (a.0, all_insert P es i t x p a.1)

  rises_put : (es : List (ℕ × X)) (i t : ℕ) (x : X) → Rises es
      → ((j : ℕ) (e : ℕ × X) → j < i → slice_get es j ≡ Some e → e.0 < t)
      → ((j : ℕ) (e : ℕ × X) → i ≤ j → slice_get es j ≡ Some e → t < e.0) → Rises (insert es i (t, x))
  unfolding IsStrictlySortedBy
  rises_put es zero t x s under over =
      (all_of (λ k. nat_cmp t k ≡ Less) es (λ j e p. is_less t e.0 (over j e (omega arith) p)), s)
  rises_put [] (suc i) t x s under over = (tt, tt)
  rises_put (e ∷ es) (suc i) t x s under over = (
    all_insert (λ k. nat_cmp e.0 k ≡ Less) es i t x (is_less e.0 t (under 0 e (omega arith) refl)) s.0,
    rises_put es i t x s.1 (λ j d lt p. under (suc j) d (omega arith) p) (λ j d le p. over (suc j) d (omega arith) p),
  )

  module _ (es : List (ℕ × X)) (t i : ℕ) (x : X) (s : Rises es) (at : IsIndex es t i) (other : (e : ℕ × X)
      → slice_get es i ≡ Some e → e.0 ≡ t → ⊥) where
    pub rises_insert : Rises (insert es i (t, x))
    rises_insert = rises_put es i t x s at.below (over_place es t i s at other)

    pub find_insert : (q : ℕ) → find q (insert es i (t, x)) ≡ cond (is_eq (nat_cmp t q)) (Some x) (find q es)
    find_insert q = lookup-insert (eq_by_cmp_equiv nat_cmp_total) t x q es i
        (none_passes_from_lookup (is_at (nat_cmp t)) es (none_at es t i s at other))

  -- ---- some are kept

  abbrev pub kept : (ℕ → Bool) → List (ℕ × X) → List (ℕ × X)
  kept p es = filter (λ e. p e.0) es

  keys_kept : (p : ℕ → Bool) (es : List (ℕ × X)) → keys_of (kept p es) ≡ filter p (keys_of es)
  keys_kept p [] = refl
  keys_kept p (x ∷ xs) = elim (cases_Bool (p x.0)) [
    | inl on ↦ ap (λ b. keys_of (cond b (x ∷ kept p xs) (kept p xs))) on
        ∙ ap (λ (ks : List ℕ). x.0 ∷ ks) (keys_kept p xs)
        ∙ sym (cond-true (p x.0) (x.0 ∷ filter p (keys_of xs)) (filter p (keys_of xs)) on)
    | inr off ↦ ap (λ b. keys_of (cond b (x ∷ kept p xs) (kept p xs))) off ∙ keys_kept p xs
        ∙ sym (cond-false (p x.0) (x.0 ∷ filter p (keys_of xs)) (filter p (keys_of xs)) off)
  ]

  pub rises_kept : (p : ℕ → Bool) (es : List (ℕ × X)) → Rises es → Rises (kept p es)
  rises_kept p es s = subst (IsStrictlySortedBy nat_cmp) (sym (keys_kept p es))
      (IsStrictlySortedBy-filter nat_cmp p (keys_of es) s)

  turned : (b : Bool) (o : Option X) → cond (not b) o None ≡ cond b None o
  turned true o = refl
  turned false o = refl

  pub find_kept : (safe : ℕ) (stay : Option ℕ) (es : List (ℕ × X)) (q : ℕ)
      → find q (kept (λ k. not (goes_below safe stay k)) es) ≡ cond (goes_below safe stay q) None (find q es)
  find_kept safe stay es q =
      lookup-filter-keys (is_at (nat_cmp q)) (λ k. not (goes_below safe stay k)) (not (goes_below safe stay q))
      (λ k h. ap (λ (u : ℕ). not (goes_below safe stay u)) (sym (one_time q k h))) es
      ∙ turned (goes_below safe stay q) (find q es)

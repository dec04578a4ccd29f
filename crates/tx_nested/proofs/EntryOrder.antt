-- Entries whose timestamps rise, by their indexes.
use Rattle.std.proofs.Common.{◌≡◌, ◌≢◌, inl, inr, ℕ, zero, suc, ◌-◌, ◌<◌, ◌≤◌, eqb, true, false, List, [], ◌∷◌, length, get_or, Option, Some, None, slice_get, refl, sym, ap, subst, ◌∙◌, arith}
use Rattle.std.specs.Option.{option_copied, is_some}
use Rattle.std.specs.Map.{keys_of}
use denote.Ref.{Bor}
use Rattle.std.specs.Cmp.{nat_cmp_is}
use Rattle.std.specs.Ordering.{nat_cmp, is_lt}
use Rattle.std.specs.List.{AllByRecursion}
use Rattle.std.specs.List.Sorted.{IsStrictlySortedBy, IsPartitionedBy, IsPartitionPoint}
use Rattle.std.specs.declared.cmp.Ordering.TheVariants.{Less}
use Rattle.std.proofs.lemmas.Bool.{cases_Bool, cases_lt, eq-eqb, eqb-true, cond-true, cond-false}
use Rattle.std.proofs.lemmas.Cmp.{ranked, by_ranked}
use Rattle.std.proofs.lemmas.Map.Keys.{sorted_head, sorted_tail, ge_from_not_lt}
use Rattle.std.proofs.lemmas.Option.{slice_get_within, slice_get-get_or, get_or_from_slice_get}
use Rattle.tx_nested.specs.Indexes.{IsIndex, value_of}

-- the entries' timestamps rise
abbrev pub Rises : {X : Type 0} → List (ℕ × X) → Type 0
Rises es = IsStrictlySortedBy nat_cmp (keys_of es)

pub lt_from_is_lt : (x y : ℕ) → is_lt (nat_cmp x y) ≡ true → x < y
lt_from_is_lt x y h =
    by_ranked (x < y) (x ≡ y) (y < x) (nat_cmp x y) (ranked x y _ refl) (λ _ l. l)
    (λ e _. absurd (let no = ap is_lt e in cc (h, no))) (λ e _. absurd (let no = ap is_lt e in cc (h, no)))

is_lt_from_lt : (x y : ℕ) → x < y → is_lt (nat_cmp x y) ≡ true
is_lt_from_lt x y lt = ap is_lt (sym (nat_cmp_is x y Less lt))

module _ {X : Type 0} where
  all_at : (P : ℕ → Type 0) (es : List (ℕ × X)) (j : ℕ) (e : ℕ × X) → AllByRecursion P (keys_of es)
      → slice_get es j ≡ Some e → P e.0
  all_at P [] j e a h = absurd (cc h)
  all_at P (x ∷ es) zero e a h = (let same : x ≡ e = cc h in subst (λ (y : ℕ × X). P y.0) same a.0)
  all_at P (x ∷ es) (suc j) e a h = all_at P es j e a.1 h

  pub all_of : (P : ℕ → Type 0) (es : List (ℕ × X)) → ((j : ℕ) (e : ℕ × X) → slice_get es j ≡ Some e → P e.0)
      → AllByRecursion P (keys_of es)
  all_of P [] h = tt
  all_of P (x ∷ es) h = (h 0 x refl, all_of P es (λ j e p. h (suc j) e p))

  -- a later entry is above
  pub rises : (es : List (ℕ × X)) (i j : ℕ) (d e : ℕ × X) → Rises es → i < j → slice_get es i ≡ Some d
      → slice_get es j ≡ Some e → d.0 < e.0
  rises [] i j d e s lt p q = absurd (cc p)
  rises (x ∷ es) i zero d e s lt p q = absurd (omega arith)
  rises (x ∷ es) zero (suc j) d e s lt p q =
      let same : x ≡ d = cc p in
      let less = all_at (λ k. nat_cmp x.0 k ≡ Less) es j e (sorted_head nat_cmp x.0 (keys_of es) s) q in
      subst (λ (y : ℕ × X). y.0 < e.0) same (ranked x.0 e.0 Less (sym less))
  rises (x ∷ es) (suc i) (suc j) d e s lt p q =
      rises es i j d e (sorted_tail nat_cmp x.0 (keys_of es) s) (omega arith) p q

  one_place : (es : List (ℕ × X)) (i j : ℕ) (d e : ℕ × X) → i ≡ j → slice_get es i ≡ Some d → slice_get es j ≡ Some e
      → d ≡ e
  one_place es i j d e same p q = (let h = sym p ∙ ap (slice_get es) same ∙ q in cc h)

  -- an earlier entry is not above
  pub rises_to : (es : List (ℕ × X)) (i j : ℕ) (d e : ℕ × X) → Rises es → i ≤ j → slice_get es i ≡ Some d
      → slice_get es j ≡ Some e → d.0 ≤ e.0
  rises_to es i j d e s le p q = elim (cases_lt i j) [
    | inl lt ↦ omega (arith, rises es i j d e s lt p q)
    | inr ge ↦ (let same : i ≡ j = omega arith in
        omega (arith, ap (λ (x : ℕ × X). x.0) (one_place es i j d e same p q)))
  ]

  -- ---- the entry at an index

  pub is_there : (t : ℕ) (o : Option (ℕ × X)) (x : X) → value_of t o ≡ Some x → o ≡ Some (t, x)
  is_there t None x h = absurd (cc h)
  is_there t (Some e) x h = elim (cases_Bool (eqb e.0 t)) [
    | inl on ↦ (let value : e.1 ≡ x = (let held = sym (cond-true (eqb e.0 t) (Some e.1) None on) ∙ h in cc held) in
        λ i. Some (eqb-true e.0 t on i, value i))
    | inr off ↦ absurd (let none = sym (cond-false (eqb e.0 t) (Some e.1) None off) ∙ h in cc none)
  ]

  pub is_other : (t : ℕ) (o : Option (ℕ × X)) → value_of t o ≡ None → (e : ℕ × X) → o ≡ Some e → e.0 ≢ t
  is_other t None h e p same = absurd (cc p)
  is_other t (Some d) h e p same = (
      let one : d ≡ e = cc p in
      let held = sym (cond-true (eqb d.0 t) (Some d.1) None (eq-eqb d.0 t (ap (λ (x : ℕ × X). x.0) one ∙ same))) ∙ h in
      cc held
      )

  module _ (es fs : List (ℕ × X)) (i t : ℕ) (o : Option (Bor X)) (seen : fs ≡ es) (e : option_copied o
      ≡ value_of t (slice_get es i)) where
    -- what was handed out is there
    pub held_in : is_some o ≡ true → (x : X) × (slice_get fs i ≡ Some (t, x))
    held_in yes_some = go o e yes_some
      where
        go : (p : Option (Bor X)) → option_copied p ≡ value_of t (slice_get es i) → is_some p ≡ true
            → (x : X) × (slice_get fs i ≡ Some (t, x))
        go None f h = absurd (cc h)
        go (Some x) f h = (
          x.now,
          ap (λ (ds : List (ℕ × X)). slice_get ds i) seen
              ∙ is_there t (slice_get es i) x.now (sym f),
        )

    -- where nothing was, the entry is of another timestamp
    pub other_in : is_some o ≡ false → (d : ℕ × X) → slice_get fs i ≡ Some d → d.0 ≢ t
    other_in no_some = go o e no_some
      where
        go : (p : Option (Bor X)) → option_copied p ≡ value_of t (slice_get es i) → is_some p ≡ false → (d : ℕ × X)
            → slice_get fs i ≡ Some d → d.0 ≢ t
        go None f h = is_other t (slice_get fs i) (ap (λ (ds : List (ℕ × X)). value_of t (slice_get ds i)) seen ∙ sym f)
        go (Some x) f h = absurd (cc h)

  -- ---- indexes

  pub place_in_none : (es : List (ℕ × X)) (t : ℕ) → es ≡ [] → IsIndex es t 0
  place_in_none es t none = record {
    within = omega arith;
    below = λ j e lt p. absurd (omega (arith, lt));
    from = λ j e le p. absurd (let h = sym p ∙ ap (λ (ds : List (ℕ × X)). slice_get ds j) none in cc h);
  }

  module _ (es : List (ℕ × X)) (t : ℕ) (s : Rises es) where
    module _ (e : ℕ × X) (last : slice_get es (length es - 1) ≡ Some e) where
      -- behind the last
      pub place_past : e.0 < t → IsIndex es t (length es)
      place_past lt = record {
        within = omega arith;
        below = λ j d within p. omega (arith, rises_to es j (length es - 1) d e s (omega arith) p last);
        from = λ j d le p. absurd (omega (arith, slice_get_within es j d p));
      }

      -- at the last
      pub place_last : e.0 ≡ t → IsIndex es t (length es - 1)
      place_last same = record {
        within = omega arith;
        below = λ j d within p. omega (arith, rises es j (length es - 1) d e s within p last);
        from = λ j d le p. (let within = slice_get_within es j d p in
            omega (arith, rises_to es (length es - 1) j e d s le last p));
      }

    -- the test of a search passes first and fails then
    pub parted : IsPartitionedBy (λ (e : ℕ × X). is_lt (nat_cmp e.0 t)) es
    parted i j d le within passes =
        let p = slice_get-get_or es i d (omega arith) in
        let q = slice_get-get_or es j d within in
        let lt : (get_or es j d).0 < t = lt_from_is_lt _ _ passes in
        let lower = rises_to es i j (get_or es i d) (get_or es j d) s le p q in
        is_lt_from_lt (get_or es i d).0 t (omega arith)

  -- the same index in the same entries
  pub carried : (es fs : List (ℕ × X)) (t i j : ℕ) → es ≡ fs → i ≡ j → IsIndex es t i → IsIndex fs t j
  carried es fs t i j seen same p = subst (λ (ds : List (ℕ × X)). IsIndex ds t j) seen (subst (IsIndex es t) same p)

  -- where a search ends
  pub place_split : (es : List (ℕ × X)) (t i : ℕ) → i ≤ length es
      → IsPartitionPoint (λ (e : ℕ × X). is_lt (nat_cmp e.0 t) ≡ true) (λ (e : ℕ × X). is_lt (nat_cmp e.0 t)
      ≡ false) es i → IsIndex es t i
  place_split es t i within h = record {
    within = within;
    below = λ j e lt p. subst (λ (y : ℕ × X). y.0 < t) (get_or_from_slice_get es j e e p)
        (lt_from_is_lt _ _ (h.0 j e (omega arith) lt));
    from = λ j e le p. subst (λ (y : ℕ × X). t ≤ y.0) (get_or_from_slice_get es j e e p)
        (ge_from_not_lt _ _ (h.1 j e le (slice_get_within es j e p)));
  }

-- What look-ups find among entries that rise, by their indexes.
use Rattle.std.proofs.Common.{◌≡◌, ◌≢◌, ◌⊎◌, inl, inr, ℕ, zero, suc, ◌-◌, ◌<◌, ◌≤◌, List, [], ◌∷◌, length, Option, Some, None, Result, Ok, Err, slice_get, true, refl, sym, ap, ◌∙◌, arith}
use Rattle.std.specs.Prelude.{IsSome, IfSome, IfNone, OnErr, is_some}
use Rattle.std.specs.BTreeMap.{is_at}
use Rattle.std.specs.Cmp.{unsigned_ties, nat_cmp_is}
use Rattle.std.specs.Map.{keys_of, lookup}
use Rattle.std.specs.Ordering.{nat_cmp, is_eq}
use Rattle.std.specs.declared.cmp.Ordering.TheVariants.{Less, Greater}
use Rattle.std.proofs.lemmas.Bool.{cases_lt, eqb-true}
use Rattle.std.proofs.lemmas.Cmp.{nat_cmp_total, eq_by_cmp_equiv}
use Rattle.std.proofs.lemmas.Map.Entries.{place_from_lookup, lookup_from_place, lookup_at_gap}
use Rattle.std.proofs.lemmas.Map.Keys.{IsDistinct-from_sorted}
use Rattle.std.proofs.lemmas.Option.{slice_get_within}
use Rattle.tx_nested.specs.Indexes.{IsIndex, value_of}
use Rattle.tx_nested.proofs.EntryOrder.{Rises, rises_to, is_there, is_other}

pub is_less : (x y : ℕ) → x < y → nat_cmp x y ≡ Less
is_less x y lt = sym (nat_cmp_is x y Less lt)

pub is_greater : (x y : ℕ) → y < x → nat_cmp x y ≡ Greater
is_greater x y lt = sym (nat_cmp_is x y Greater lt)

pub one_time : (x y : ℕ) → is_eq (nat_cmp x y) ≡ true → x ≡ y
one_time x y h = eqb-true x y (unsigned_ties x y ∙ h)

module _ {X : Type 0} where
  abbrev pub find : ℕ → List (ℕ × X) → Option X
  find q es = lookup (is_at (nat_cmp q)) es

  entry_in : (es : List (ℕ × X)) (i : ℕ) → i < length es → (e : ℕ × X) × (slice_get es i ≡ Some e)
  entry_in [] i lt = absurd (omega arith)
  entry_in (x ∷ es) zero lt = (x, refl)
  entry_in (x ∷ es) (suc i) lt = entry_in es i (omega arith)

  nothing : (o : Option X) → IsSome o → o ≡ None → ⊥
  nothing o some none = (let h = ap is_some none in cc (some, h))

  -- the entry at an index is found
  pub found_here : (es : List (ℕ × X)) (i t : ℕ) (x : X) → Rises es → slice_get es i ≡ Some (t, x) → find t es ≡ Some x
  found_here es i t x s h =
      lookup_from_place (eq_by_cmp_equiv nat_cmp_total) es i t x (IsDistinct-from_sorted nat_cmp (keys_of es) s) h

  -- what is found has an index
  pub found_place : (es : List (ℕ × X)) (q : ℕ) → IsSome (find q es)
      → (i : ℕ) × (x : X) × (slice_get es i ≡ Some (q, x))
  found_place es q some = go (find q es) refl
    where
      go : (o : Option X) → find q es ≡ o → (i : ℕ) × (x : X) × (slice_get es i ≡ Some (q, x))
      go None e = absurd (nothing (find q es) some e)
      go (Some v) e = (let p = place_from_lookup (is_at (nat_cmp q)) es v e in
          (p.0, v, p.2 ∙ ap (λ (k : ℕ). Some (k, v)) (sym (one_time q p.1 p.3))))

  pub none_found : (es : List (ℕ × X)) (q : ℕ) → es ≡ [] → find q es ≡ None
  none_found es q none = ap (find q) none

  -- nothing is found between the entries before an index and the one there
  none_between : (es : List (ℕ × X)) (i q : ℕ) → Rises es
      → ((j : ℕ) (e : ℕ × X) → j < i → slice_get es j ≡ Some e → e.0 < q)
      → ((e : ℕ × X) → slice_get es i ≡ Some e → q < e.0) → find q es ≡ None
  none_between es i q s under over =
      lookup_at_gap nat_cmp_total q es i s (λ j e lt p. is_greater q e.0 (under j e lt p))
      (λ e p. is_less q e.0 (over e p))

  -- nothing is above the last
  pub last_newest : (es : List (ℕ × X)) (e : ℕ × X) → Rises es → slice_get es (length es - 1) ≡ Some e → (q : ℕ)
      → IsSome (find q es) → q ≤ e.0
  last_newest es e s last q some =
      let p = found_place es q some in
      let within = slice_get_within es p.0 (q, p.1) p.2 in
      rises_to es p.0 (length es - 1) (q, p.1) e s (omega arith) p.2 last

  module _ (es : List (ℕ × X)) (t i : ℕ) (s : Rises es) (at : IsIndex es t i) where
    -- the entry in the index of t is of another timestamp
    abbrev pub IsOther : Type 0
    IsOther = (e : ℕ × X) → slice_get es i ≡ Some e → e.0 ≢ t

    pub over_place : IsOther → (j : ℕ) (e : ℕ × X) → i ≤ j → slice_get es j ≡ Some e → t < e.0
    over_place other j e le p = elim (cases_lt i j) [
      | inl lt ↦ (let first = entry_in es i (omega (arith, slice_get_within es j e p)) in
          omega (
            arith,
            at.from i first.0 (omega arith) first.1,
            other first.0 first.1,
            rises_to es i j first.0 e s le first.1 p,
          ))
      | inr ge ↦ (let same : j ≡ i = omega arith in
          omega (arith, at.from j e le p, other e (ap (slice_get es) (sym same) ∙ p)))
    ]

    pub none_at : IsOther → find t es ≡ None
    none_at other = none_between es i t s at.below (λ e p. over_place other i e (omega arith) p)

    -- a look-up at t finds what its index holds
    pub held_is : value_of t (slice_get es i) ≡ find t es
    held_is = go (value_of t (slice_get es i)) refl
      where
        go : (o : Option X) → value_of t (slice_get es i) ≡ o → value_of t (slice_get es i) ≡ find t es
        go None e = e ∙ sym (none_at (is_other t (slice_get es i) e))
        go (Some x) e = e ∙ sym (found_here es i t x s (is_there t (slice_get es i) x e))

    -- no entry is before the index
    module _ (first : (i ≡ 0) ⊎ (length es < i)) where
      at_start : i ≡ 0
      at_start = elim first [ inl none ↦ none | inr past ↦ absurd (omega (arith, at.within)) ]

      pub none_below : (q : ℕ) → q < t → find q es ≡ None
      none_below q lt = none_between es i q s (λ j e within p. absurd (omega (arith, within, at_start)))
          (λ e p. omega (arith, at.from i e (omega arith) p))

      pub none_upto : IsOther → (q : ℕ) → q ≤ t → find q es ≡ None
      none_upto other q le = elim (cases_lt q t) [
        | inl lt ↦ none_below q lt
        | inr ge ↦ (let same : q ≡ t = omega arith in ap (λ (u : ℕ). find u es) same ∙ none_at other)
      ]

    -- the entry before the index
    module _ (e : ℕ × X) (h : (i - 1 < i) × (slice_get es (i - 1) ≡ Some e)) where
      pub before_found : (e.0 < t) × (find e.0 es ≡ Some e.1)
      before_found = (at.below (i - 1) e h.0 h.1, found_here es (i - 1) e.0 e.1 s h.1)

      pub before_newest : (q : ℕ) → e.0 < q → q < t → find q es ≡ None
      before_newest q over under = none_between es i q s
          (λ j d within p. omega (arith, rises_to es j (i - 1) d e s (omega arith) p h.1))
          (λ d p. omega (arith, at.from i d (omega arith) p))

      pub before_nearest : IsOther → (q : ℕ) → q ≤ t → IsSome (find q es) → q ≤ e.0
      before_nearest other q le some = elim (cases_lt e.0 q) [
        | inl over ↦ elim (cases_lt q t) [
          | inl under ↦ absurd (nothing (find q es) some (before_newest q over under))
          | inr ge ↦ (let same : q ≡ t = omega arith in
              absurd (nothing (find q es) some (ap (λ (u : ℕ). find u es) same ∙ none_at other)))
        ]
        | inr upto ↦ upto
      ]

pub some_map : {A : Type 0} {P Q : A → Type 0} (o : Option A) → ((x : A) → P x → Q x) → IfSome o P → IfSome o Q
some_map None f h = tt
some_map (Some x) f h = f x h

pub none_map : {A : Type 0} {P Q : Type 0} (o : Option A) → (P → Q) → IfNone o P → IfNone o Q
none_map None f h = f h
none_map (Some x) f h = tt

pub on_err : {A E P : Type 0} (r : Result A E) → P → OnErr r P
on_err (Ok x) p = tt
on_err (Err e) p = p

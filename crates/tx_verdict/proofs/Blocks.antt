-- What a transaction appended stands where it was appended, in all that is seen.
use Rattle.std.proofs.Common.{◌≡◌, ◌⊎◌, ℕ, ◌+◌, ◌-◌, ◌<◌, ◌≤◌, List, [], ◌∷◌, ◌++◌, length, take, get_or, Contains, arith, inl, inr, refl, sym, ap, ◌∙◌, subst, zero, suc, false, cond, ◌==◌}
use Rattle.std.proofs.lemmas.Bool.{cases_eq, cases_lt}
use Rattle.std.proofs.lemmas.List.{get_or_append_left, get_or-append_right, length-append, append_assoc, take_at, take-append-le, append-nil}
use Rattle.std.proofs.lemmas.List.Elements.{Contains-get_or}
use Rattle.tx_recording.specs.declared.recording.Act.{Act}
use Rattle.tx_recording.specs.declared.recording.Act.TheVariants.{Append, Write, Read}
use Rattle.tx_recording.specs.declared.recording.RecordedOp.{RecordedOp}
use Rattle.tx_recording.specs.declared.recording.Orders.{Orders}
use Rattle.tx_recording.specs.declared.recording.Recording.{Recording}
use Rattle.tx_recording.specs.Recordings.{ops_of}
use Rattle.tx_recording.specs.Explanations.{act_on, after, Puts, PutsIn, IsPut, ArePutOnce, Explanation, Sees, Explains}
use Rattle.tx_recording.proofs.Puts.{after_same, after_other, puts_more, puts_head}
use Rattle.tx_views.specs.declared.effect.Effect.{Effect}
use Rattle.tx_views.specs.Views.{IsEffect}
use Rattle.tx_views.proofs.ReadViews.{appended}
use Rattle.tx_verdict.proofs.Distinct.{IsOnce, seen_distinct}

-- operations leave these values in place of what there was, or behind it; and they put them
pub record Splits (os : List RecordedOp) (k : ℕ) : Type 0 where
  pub values : List ℕ
  pub put : (v : ℕ) → Contains values v → PutsIn os k v
  pub left : ((xs : List ℕ) → after os k xs ≡ values) ⊎ ((xs : List ℕ) → after os k xs ≡ xs ++ values)

none_in : (v : ℕ) → Contains [] v → ⊥
none_in v (i, lt, is) = omega (arith, lt)

cons_cases : (w : ℕ) (ws : List ℕ) (v : ℕ) → Contains (w ∷ ws) v → (w ≡ v) ⊎ Contains ws v
cons_cases w ws v (zero, lt, is) = inl is
cons_cases w ws v (suc i, lt, is) = inr (i, omega (arith, lt), is)

-- one operation more in front, on the key
head_splits : (o : RecordedOp) (os : List RecordedOp) (k : ℕ) (a : Act) → o.act ≡ a → o.key ≡ k → Splits os k
    → Splits (o ∷ os) k
head_splits o os k (Read s) is at rest = record {
  values = rest.values;
  put = λ v c. puts_more o os k v (rest.put v c);
  left = elim rest.left [
    | inl all ↦ inl (λ xs. all (cond (o.key == k) (act_on o.act xs) xs))
    | inr more ↦ inr (λ xs. after_same o os k xs at ∙ ap (λ b. after os k (act_on b xs)) is ∙ more xs)
  ];
}
head_splits o os k (Append w) is at rest = elim rest.left [
  | inl all ↦ record {
    values = rest.values;
    put = λ v c. puts_more o os k v (rest.put v c);
    left = inl (λ xs. all (cond (o.key == k) (act_on o.act xs) xs));
  }
  | inr more ↦ record {
    values = w ∷ rest.values;
    put = λ v c. elim (cons_cases w rest.values v c) [
      | inl same ↦ puts_head o os k v at (subst (λ b. Puts b v) (sym is) same)
      | inr later ↦ puts_more o os k v (rest.put v later)
    ];
    left = inr (λ xs. after_same o os k xs at ∙ ap (λ b. after os k (act_on b xs)) is ∙ more (xs ++ w ∷ [])
        ∙ append_assoc xs (w ∷ []) rest.values);
  }
]
head_splits o os k (Write w) is at rest = elim rest.left [
  | inl all ↦ record {
    values = rest.values;
    put = λ v c. puts_more o os k v (rest.put v c);
    left = inl (λ xs. all (cond (o.key == k) (act_on o.act xs) xs));
  }
  | inr more ↦ record {
    values = w ∷ rest.values;
    put = λ v c. elim (cons_cases w rest.values v c) [
      | inl same ↦ puts_head o os k v at (subst (λ b. Puts b v) (sym is) same)
      | inr later ↦ puts_more o os k v (rest.put v later)
    ];
    left = inl (λ xs. after_same o os k xs at ∙ ap (λ b. after os k (act_on b xs)) is ∙ more (w ∷ []));
  }
]

pub splits : (os : List RecordedOp) (k : ℕ) → Splits os k
splits [] k = record { values = []; put = λ v c. absurd (none_in v c); left = inr (λ xs. sym (append-nil xs)) }
splits (o ∷ os) k = elim (cases_eq o.key k) [
  | inl same ↦ head_splits o os k o.act refl same (splits os k)
  | inr other ↦ (
      let rest = splits os k in
      record {
        values = rest.values;
        put = λ v c. puts_more o os k v (rest.put v c);
        left = elim rest.left [
          | inl all ↦ inl (λ xs. after_other o os k xs other ∙ all xs)
          | inr more ↦ inr (λ xs. after_other o os k xs other ∙ more xs)
        ];
      }
      )
]

module _ (r : Recording) (orders : Orders) (x : Explanation) (e : Explains r orders x) (once : ArePutOnce r)
    (each : (t : ℕ) → IsOnce (ops_of r t)) (k w y : ℕ) (f : Effect) (put : IsPut r w k y)
    (effect : IsEffect (ops_of r w) k f)
    (adds : f.clears ≡ false) (some : 1 ≤ length f.values.items) (first : get_or f.values.items 0 0 ≡ y) where
  -- the value is not among those that another one puts
  not_of : (u : ℕ) (values : List ℕ) (i : ℕ) → (u ≡ w → ⊥) → ((v : ℕ) → Contains values v → PutsIn (ops_of r u) k v)
      → i < length values → get_or values i 0 ≡ y → ⊥
  not_of u values i other puts lt is =
      let P : ℕ → Type 0 = λ v. PutsIn (ops_of r u) k v in
      other (once u w k k y (subst P is (puts (get_or values i 0) (Contains-get_or values i 0 lt))) put)

  of_own : (at p : ℕ) (l base : List ℕ) → Sees r x k at l → l ≡ after (ops_of r w) k base → Sees r x k (x.start w) base
      → p < length l
      → get_or l p 0 ≡ y → Sees r x k (x.start w) (take p l)
  of_own at p l base sees is before lt there =
      let own = f.values.items in
      let whole : l ≡ base ++ own = is ∙ effect base ∙ appended f base adds in
      let n = ap length whole in
      let m = length-append base own in
      let here : get_or l (length base) 0 ≡ y = ap (λ q. get_or q (length base) 0) whole
      ∙ get_or-append_right base own (length base) (length base) 0 refl (omega arith)
      ∙ ap (λ q. get_or own q 0) (omega arith) ∙ first in
      let same : p ≡ length base =
      seen_distinct r orders x e once each k at l sees p (length base) lt (omega (arith, n, m, some))
      (there ∙ sym here) in
      subst (λ q. Sees r x k (x.start w) q) (sym (ap (λ q. take p q) whole ∙ take_at base own p (sym same))) before

  pub base_below : (n at p : ℕ) (l : List ℕ) → at < n → Sees r x k at l → p < length l → get_or l p 0 ≡ y
      → Sees r x k (x.start w) (take p l)
  base_below zero at p l lt sees within there = absurd (omega (arith, lt))
  base_below (suc n) at p l lt (inr none) within there = absurd (let e = ap length none.1 in omega (arith, e, within))
  base_below (suc n) at p l lt (inl (u, newest, is)) within there =
      let upto = newest.1 in
      let (base, sees, left) = e.leaves k u newest.0 in
      let above = e.above u newest.0.0 in
      let whole = is ∙ left in
      elim (cases_eq u w) [
        | inl same ↦ (
            let P : ℕ → Type 0 = λ q. l ≡ after (ops_of r q) k base in
            let Q : ℕ → Type 0 = λ q. Sees r x k (x.start q) base in
            of_own at p l base (inl (u, newest, is)) (subst P same whole) (subst Q same sees) within there
            )
        | inr other ↦ (
            let s = splits (ops_of r u) k in
            elim s.left [
              | inl all ↦ absurd (
                  let e = whole ∙ all base in
                  let m = ap length e in
                  not_of u s.values p other s.put (omega (arith, m, within)) (ap (λ q. get_or q p 0) (sym e) ∙ there)
                  )
              | inr more ↦ (
                  let e = whole ∙ more base in
                  let m = ap length e in
                  let q = length-append base s.values in
                  elim (cases_lt p (length base)) [
                    | inl low ↦ (
                        let before = base_below n (x.start u) p base (omega (arith, lt, upto, above)) sees low
                        (sym (get_or_append_left base s.values 0 p low) ∙ ap (λ z. get_or z p 0) (sym e) ∙ there) in
                        subst (λ z. Sees r x k (x.start w)
                        z) (sym (ap (λ z. take p z) e ∙ take-append-le p base s.values (omega (arith, low)))) before
                        )
                    | inr high ↦ absurd (not_of u s.values (p - length base) other s.put
                        (omega (arith, m, q, high, within))
                        (sym (get_or-append_right base s.values (length base) p 0 refl high)
                        ∙ ap (λ z. get_or z p 0) (sym e) ∙ there))
                  ]
                  )
            ]
            )
      ]

  pub base_of : (at p : ℕ) (l : List ℕ) → Sees r x k at l → p < length l → get_or l p 0 ≡ y
      → Sees r x k (x.start w) (take p l)
  base_of at p l sees within there = base_below (at + 1) at p l (omega arith) sees within there

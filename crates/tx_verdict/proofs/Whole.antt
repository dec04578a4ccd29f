-- What a writer left of a key is there as a whole in all that is seen later.
use Rattle.std.proofs.Common.{◌≡◌, ℕ, ◌+◌, ◌-◌, ◌<◌, ◌≤◌, List, [], ◌++◌, length, get_or, Contains, arith, inl, inr, refl, sym, ap, ◌∙◌, subst, zero, suc, IsTrue}
use Rattle.std.proofs.lemmas.Bool.{cases_eq, cases_lt}
use Rattle.std.proofs.lemmas.List.{get_or_append_left, get_or-append_right, length-append, append_assoc, append-nil}
use Rattle.std.proofs.lemmas.List.Elements.{Contains-get_or}
use Rattle.tx_recording.specs.declared.recording.Orders.{Orders}
use Rattle.tx_recording.specs.declared.recording.Recording.{Recording}
use Rattle.tx_recording.specs.Recordings.{ops_of}
use Rattle.tx_recording.specs.Explanations.{after, PutsIn, IsPut, ArePutOnce, Explanation, Sees, Explains}
use Rattle.tx_recording.proofs.Seen.{seen_put}
use Rattle.tx_verdict.proofs.Blocks.{splits}

module _ (r : Recording) (orders : Orders) (x : Explanation) (e : Explains r orders x) (once : ArePutOnce r)
    (k w y m : ℕ) (put : IsPut r w m y) where
  -- the value at p is part of what w left of something
  abbrev pub IsWhole : List ℕ → ℕ → Type 0
  IsWhole l p = (front : List ℕ) × (rest : List ℕ) × (l ≡ after (ops_of r w) k front ++ rest) × (length front ≤ p)
      × (p < length (after (ops_of r w) k front))

  -- the value is not among those that another one puts
  not_of : (u : ℕ) (values : List ℕ) (i : ℕ) → (u ≡ w → ⊥) → ((v : ℕ) → Contains values v → PutsIn (ops_of r u) k v)
      → i < length values → get_or values i 0 ≡ y → ⊥
  not_of u values i other puts lt is =
      let P : ℕ → Type 0 = λ v. PutsIn (ops_of r u) k v in
      other (once u w k m y (subst P is (puts (get_or values i 0) (Contains-get_or values i 0 lt))) put)

  -- all of it is what w left
  by_itself : (front l : List ℕ) (p : ℕ) → l ≡ after (ops_of r w) k front → length front ≤ p → p < length l
      → IsWhole l p
  by_itself front l p is low lt = (
    front,
    [],
    is ∙ sym (append-nil (after (ops_of r w) k front)),
    low,
    subst (λ q. p < length q) is lt,
  )

  of_own : (p : ℕ) (l base : List ℕ) → Sees r x k (x.start w) base → IsTrue (x.committed w)
      → l ≡ after (ops_of r w) k base → p < length l
      → get_or l p 0 ≡ y → IsWhole l p
  of_own p l base sees is_in is within there = elim (cases_lt p (length base)) [
    | inr high ↦ by_itself base l p is high within
    | inl low ↦ (
        let s = splits (ops_of r w) k in
        elim s.left [
          | inl all ↦ by_itself [] l p (is ∙ all base ∙ sym (all [])) (omega arith) within
          | inr more ↦ absurd (
              let whole = is ∙ more base in
              let here : get_or base p 0 ≡ y = sym (get_or_append_left base s.values 0 p low)
              ∙ ap (λ z. get_or z p 0) (sym whole) ∙ there in
              let (u, writer, also, before) = seen_put r orders x e k (x.start w) base y sees
              (subst (λ v. Contains base v) here (Contains-get_or base p 0 low)) in
              let same : u ≡ w = once u w k m y also put in
              let c = ap x.commit same in
              let up = e.above w is_in in
              omega (arith, before, c, up)
              )
        ]
        )
  ]

  pub whole_below : (n at p : ℕ) (l : List ℕ) → at < n → Sees r x k at l → p < length l → get_or l p 0 ≡ y → IsWhole l p
  whole_below zero at p l lt sees within there = absurd (omega (arith, lt))
  whole_below (suc n) at p l lt (inr none) within there = absurd (let e = ap length none.1 in omega (arith, e, within))
  whole_below (suc n) at p l lt (inl (u, newest, is)) within there =
      let upto = newest.1 in
      let (base, sees, left) = e.leaves k u newest.0 in
      let above = e.above u newest.0.0 in
      let whole = is ∙ left in
      elim (cases_eq u w) [
        | inl same ↦ (
            let P : ℕ → Type 0 = λ q. l ≡ after (ops_of r q) k base in
            let Q : ℕ → Type 0 = λ q. Sees r x k (x.start q) base in
            let R : ℕ → Type 0 = λ q. IsTrue (x.committed q) in
            of_own p l base (subst Q same sees) (subst R same newest.0.0) (subst P same whole) within there
            )
        | inr other ↦ (
            let s = splits (ops_of r u) k in
            elim s.left [
              | inl all ↦ absurd (
                  let e = whole ∙ all base in
                  let m = ap length e in
                  not_of u s.values p other s.put (omega (arith, m, within)) (ap (λ q. get_or q p 0) (sym e) ∙ there)
                  )
              | inr more ↦ (
                  let e = whole ∙ more base in
                  let m = ap length e in
                  let q = length-append base s.values in
                  elim (cases_lt p (length base)) [
                    | inl low ↦ (
                        let (front, rest, parts, begins, ends) =
                        whole_below n (x.start u) p base (omega (arith, lt, upto, above)) sees low
                        (sym (get_or_append_left base s.values 0 p low) ∙ ap (λ z. get_or z p 0) (sym e) ∙ there) in (
                          front,
                          rest ++ s.values,
                          e ∙ ap (λ z. z ++ s.values) parts ∙ append_assoc (after (ops_of r w) k front) rest s.values,
                          begins,
                          ends,
                        )
                        )
                    | inr high ↦ absurd (not_of u s.values (p - length base) other s.put
                        (omega (arith, m, q, high, within))
                        (sym (get_or-append_right base s.values (length base) p 0 refl high)
                        ∙ ap (λ z. get_or z p 0) (sym e) ∙ there))
                  ]
                  )
            ]
            )
      ]

  pub is_whole : (at p : ℕ) (l : List ℕ) → Sees r x k at l → p < length l → get_or l p 0 ≡ y → IsWhole l p
  is_whole at p l sees within there = whole_below (at + 1) at p l (omega arith) sees within there

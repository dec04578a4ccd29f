-- What can be seen under an explanation.
use Rattle.std.proofs.Common.{◌≡◌, ◌⊎◌, ◌≢◌, ℕ, ◌+◌, ◌<◌, ◌≤◌, List, [], ◌∷◌, ◌++◌, length, Contains, arith, inl, inr, refl, sym, ap, ◌∙◌, subst, zero, suc, IsTrue}
use Rattle.std.proofs.lemmas.Bool.{cases_eq}
use Rattle.tx_recording.specs.declared.recording.Orders.{Orders}
use Rattle.tx_recording.specs.declared.recording.Recording.{Recording}
use Rattle.tx_recording.specs.Recordings.{ops_of}
use Rattle.tx_recording.specs.Explanations.{after, PutsIn, IsPut, ArePutOnce, Explanation, IsWriter, IsNewest, Sees, Explains}
use Rattle.tx_recording.proofs.Puts.{IsLast, last_unique, none_last, after_contains, ends}

module _ (r : Recording) (orders : Orders) (x : Explanation) (e : Explains r orders x) where
  none_in : (xs : List ℕ) (v : ℕ) → xs ≡ [] → Contains xs v → ⊥
  none_in xs v empty (i, lt, is) = (let n = ap length empty in omega (arith, n, lt))

  -- who put a value that is seen, committed before it is seen
  pub IsPutBefore : ℕ → ℕ → ℕ → Type 0
  IsPutBefore k at v = (u : ℕ) × IsWriter r x u k × IsPut r u k v × (x.commit u ≤ at)

  pub seen_put_below : (n k at : ℕ) (xs : List ℕ) (v : ℕ) → at < n → Sees r x k at xs → Contains xs v
      → (u : ℕ) × IsWriter r x u k × IsPut r u k v × (x.commit u ≤ at)
  seen_put_below zero k at xs v lt sees c = absurd (omega (arith, lt))
  seen_put_below (suc n) k at xs v lt (inr none) c = absurd (none_in xs v none.1 c)
  seen_put_below (suc n) k at xs v lt (inl (u, newest, is)) c =
      let upto = newest.1 in
      let (base, sees, left) = e.leaves k u newest.0 in
      let above = e.above u newest.0.0 in
      elim (after_contains (ops_of r u) k base v (subst (λ q. Contains q v) (is ∙ left) c)) [
        | inr put ↦ (u, newest.0, put, upto)
        | inl old ↦ (
            let (w, writer, put, before) =
            seen_put_below n k (x.start u) base v (omega (arith, lt, upto, above)) sees old in
            (w, writer, put, omega (arith, before, above, upto))
            )
      ]

  pub seen_put : (k at : ℕ) (xs : List ℕ) (v : ℕ) → Sees r x k at xs → Contains xs v
      → (u : ℕ) × IsWriter r x u k × IsPut r u k v × (x.commit u ≤ at)
  seen_put k at xs v sees c = seen_put_below (at + 1) k at xs v (omega arith) sees c

  -- of two writers one commits below the other
  pub same_commit : (k t u : ℕ) → IsWriter r x t k → IsWriter r x u k → x.commit t ≡ x.commit u → t ≡ u
  same_commit k t u a b same = elim (cases_eq t u) [
    | inl is ↦ is
    | inr ne ↦ absurd (
        let p = e.above t a.0 in
        let q = e.above u b.0 in
        elim (e.apart k t u a b ne) [ inl le ↦ omega (arith, le, p, q, same) | inr le ↦ omega (arith, le, p, q, same) ]
        )
  ]

  pub newest_unique : (k at t u : ℕ) → IsNewest r x k at t → IsNewest r x k at u → t ≡ u
  newest_unique k at t u a b =
      let p = a.2 u b.0 b.1 in
      let q = b.2 t a.0 a.1 in
      same_commit k t u a.0 b.0 (omega (arith, p, q))

  pub sees_unique : (k at : ℕ) (xs ys : List ℕ) → Sees r x k at xs → Sees r x k at ys → xs ≡ ys
  sees_unique k at xs ys (inl (t, a, p)) (inl (u, b, q)) =
      p ∙ ap (λ w. x.left w k) (newest_unique k at t u a b) ∙ sym q
  sees_unique k at xs ys (inl (t, a, p)) (inr (none, q)) =
      absurd (let lt = none t a.0 in let le = a.1 in omega (arith, lt, le))
  sees_unique k at xs ys (inr (none, p)) (inl (u, b, q)) =
      absurd (let lt = none u b.0 in let le = b.1 in omega (arith, lt, le))
  sees_unique k at xs ys (inr (none, p)) (inr (also, q)) = p ∙ sym q

  -- what a writer leaves ends in a value of its own
  pub writer_last : (k u : ℕ) → IsWriter r x u k → (v : ℕ) × IsPut r u k v × IsLast (x.left u k) v
  writer_last k u writer =
      let (base, sees, left) = e.leaves k u writer in
      elim (ends (ops_of r u) k) [
        | inl (v, (put, last)) ↦ (v, put, subst (λ q. IsLast q v) (sym left) (last base))
        | inr (none, same) ↦ absurd (none writer.1.0 writer.1.1)
      ]

  -- whoever put the last value that is seen is the newest
  pub seen_last : (k at : ℕ) (xs : List ℕ) (v : ℕ) → Sees r x k at xs → IsLast xs v
      → (u : ℕ) × IsNewest r x k at u × IsPut r u k v × IsLast (x.left u k) v
  seen_last k at xs v (inr none) last = absurd (none_last xs v none.1 last)
  seen_last k at xs v (inl (u, newest, is)) last =
      let (w, put, ends_so) = writer_last k u newest.0 in
      let same : w ≡ v = last_unique (x.left u k) w v ends_so (subst (λ q. IsLast q v) is last) in
      (u, newest, subst (λ q. IsPut r u k q) same put, subst (λ q. IsLast (x.left u k) q) same ends_so)

  -- where nothing is seen all writers commit later
  pub seen_none : (k at : ℕ) (xs : List ℕ) → Sees r x k at xs → xs ≡ [] → (w : ℕ) → IsWriter r x w k → at < x.commit w
  seen_none k at xs (inr none) empty w writer = none.0 w writer
  seen_none k at xs (inl (u, newest, is)) empty w writer = absurd (
      let (v, put, last) = writer_last k u newest.0 in none_last (x.left u k) v (sym is ∙ empty) last
      )

-- The fronts of the keys between the regions tell where a key lies.
use Rattle.std.proofs.Common.{◌≡◌, ◌+◌, ◌-◌, ◌<◌, ◌≤◌, ℕ, true, false, List, [], ◌∷◌, ◌++◌, length, get_or, inl, inr, ap, sym, subst, arith}
use Rattle.std.specs.Ordering.{is_le}
use Rattle.std.proofs.lemmas.Bool.{cases_Bool, cases_lt}
use Rattle.std.proofs.Math.ListN.{get_or-append}
use Rattle.std.proofs.Math.Seq.{get_or-append_seam}
use Rattle.tx_types.specs.declared.key.Key.{Key}
use Rattle.tx_types.specs.Keys.{key_le, AreRising}
use Rattle.tx_core.specs.Worlds.{route}
use Rattle.tx_types.specs.Fronts.{front, AreBytes}
use Rattle.tx_types.proofs.Fronts.{less_by_front, greater_by_front}
use Rattle.tx_region.specs.KeyFronts.{TellsApart, TellsUpto}
use Rattle.tx_region.proofs.BoundsBelow.{le_trans, rise, parted, count_at}

-- the front of a key tells it
pub front_tells : (bound : Key) (f : ℕ) → f ≡ front bound → AreBytes bound → TellsApart bound f
front_tells bound f is bytes k others = (above, below)
  where
    above : front k < f → key_le bound k ≡ false
    above less = ap is_le (greater_by_front bound k bytes (omega (arith, less, is)))

    below : f < front k → key_le bound k ≡ true
    below less = ap is_le (less_by_front bound k others (omega (arith, less, is)))

-- one more number
pub tells_next : (n : ℕ) (bounds : List Key) (fronts : List ℕ) (f : ℕ) → length fronts ≡ n
    → TellsUpto n bounds fronts → ((d : Key) → TellsApart (get_or bounds n d) f)
    → TellsUpto (n + 1) bounds (fronts ++ f ∷ [])
tells_next n bounds fronts f count so_far next i d within =
    elim (cases_lt i n) [
      | inl less ↦ subst (TellsApart (get_or bounds i d))
          (sym (get_or-append fronts (f ∷ []) 0 i (omega (arith, count, less)))) (so_far i d less)
      | inr least ↦
          let last : n ≡ i = omega (arith, within, least) in
          subst (λ j. TellsApart (get_or bounds j d) (get_or (fronts ++ f ∷ []) j 0)) last
          (subst (λ m. TellsApart (get_or bounds n d) (get_or (fronts ++ f ∷ []) m 0)) count
          (subst (TellsApart (get_or bounds n d)) (sym (get_or-append_seam fronts f [] 0)) (next d)))
    ]

-- an index between the keys that lie at a key or below it and the others
pub between : (ks : List Key) → AreRising ks → (k : Key) (n : ℕ) → n ≤ length ks
    → ((d : Key) → 0 < n → key_le (get_or ks (n - 1) d) k ≡ true)
    → ((d : Key) → n < length ks → key_le (get_or ks n d) k ≡ false) → route ks k ≡ n
between ks r k n upto reached past = count_at (λ b. key_le b k) ks n upto (below, above)
  where
    below : (i : ℕ) (d : Key) → 0 ≤ i → i < n → key_le (get_or ks i d) k ≡ true
    below i d low high = le_trans (get_or ks i d)
        (get_or ks (n - 1) d) k (rise ks r i (n - 1) d (omega (arith, high)) (omega (arith, high, upto)))
        (reached d (omega (arith, high)))

    above : (i : ℕ) (d : Key) → n ≤ i → i < length ks → key_le (get_or ks i d) k ≡ false
    above i d low high =
        elim (cases_Bool (key_le (get_or ks i d) k)) [
          | inl t ↦ absurd (cc (parted ks r k n i d low high t, past d (omega (arith, low, high))))
          | inr f ↦ f
        ]

-- Some region holds each part of a scan.
use Rattle.std.proofs.Common.{◌≡◌, ◌≤◌, ◌<◌, ℕ, ◌+◌, ◌-◌, get_or, zero, suc, Bool, true, false, cond, List, [], ◌∷◌, length, inl, inr, refl, sym, ap, subst, ◌∙◌, arith}
use Rattle.std.specs.Prelude.{IsTrue, count_by}
use Rattle.std.proofs.lemmas.Bool.{cases_Bool, and_parts}
use Rattle.std.proofs.lemmas.List.Sums.{sum_by-cons}
use Rattle.tx_types.specs.declared.key.Key.{Key}
use Rattle.tx_types.specs.Keys.{key_lt, key_le, AreRising}
use Rattle.tx_plan.proofs.KeyOrder.{lt_trans, lt_itself, lt_le, le_itself, le_cases, lt_then_le, not_lt}
use Rattle.tx_transaction.specs.Sessions.{SessionState, scan_of}
use Rattle.tx_journal.specs.Senders.{IsHeld}
use Rattle.tx_client.specs.Walks.{lesser, greater, low_of, high_of}

le_trans : (i j k : Key) → IsTrue (key_le i j) → IsTrue (key_le j k) → IsTrue (key_le i k)
le_trans i j k p q = elim (le_cases i j p) [
  | inl x ↦ lt_le i k (lt_then_le i j k x q)
  | inr e ↦
      subst (λ x. IsTrue (key_le x k)) (sym e) q
]

-- what lies above a key is not at or below it
not_below : (j k : Key) → IsTrue (key_lt k j) → key_le j k ≡ false
not_below j k lt = elim (cases_Bool (key_le j k)) [ inl e ↦ absurd (lt_itself k (lt_then_le k j k lt e)) | inr e ↦ e ]

-- at or above the greater of two keys
greater_right : (j k x : Key) → IsTrue (key_le (greater j k) x) → IsTrue (key_le k x)
greater_right j k x = go (key_lt j k) refl
  where
    go : (b : Bool) → key_lt j k ≡ b → IsTrue (key_le (cond b k j) x) → IsTrue (key_le k x)
    go true e le = le
    go false e le = le_trans k j x (not_lt j k e) le

-- below the lesser of two keys
lesser_right : (j k x : Key) → IsTrue (key_lt x (lesser j k)) → IsTrue (key_lt x k)
lesser_right j k x = go (key_lt k j) refl
  where
    go : (b : Bool) → key_lt k j ≡ b → IsTrue (key_lt x (cond b k j)) → IsTrue (key_lt x k)
    go true e lt = lt
    go false e lt = lt_then_le x j k lt (not_lt k j e)

-- the bounds at or below a key
abbrev at_most : Key → List Key → ℕ
at_most k bounds = count_by (λ bound. key_le bound k) bounds

one_more : (k b : Key) (bs : List Key) → at_most k (b ∷ bs) ≡ cond (key_le b k) 1 0 + at_most k bs
one_more k b bs = sum_by-cons (λ bound. cond (key_le bound k) 1 0) b bs

rising_rest : (b : Key) (bs : List Key) → AreRising (b ∷ bs) → AreRising bs
rising_rest b [] r = tt
rising_rest b (c ∷ cs) r = r.1

-- none, where the first lies above it
none_below : (k b : Key) (bs : List Key) → AreRising (b ∷ bs) → IsTrue (key_lt k b) → at_most k (b ∷ bs) ≡ 0
none_below k b [] r lt =
    (let no : ◌≡◌ {A = ℕ} (cond (key_le b k) 1 0) 0 = rw (not_below b k lt) refl in one_more k b [] ∙ omega (arith, no))
none_below k b (c ∷ cs) r lt =
    let no : ◌≡◌ {A = ℕ} (cond (key_le b k) 1 0) 0 = rw (not_below b k lt) refl in
    let rest : at_most k (c ∷ cs) ≡ 0 = none_below k c cs r.1 (lt_trans k b c lt r.0) in
    one_more k b (c ∷ cs) ∙ omega (arith, no, rest)

-- bounds rise
low_rises : (b : Key) (bs : List Key) (n : ℕ) → AreRising (b ∷ bs) → n ≤ length bs → IsTrue (key_le b (low_of b bs n))
low_rises b bs zero r le = le_itself b
low_rises b [] (suc n) r le = absurd (omega (arith, le))
low_rises b (c ∷ cs) (suc n) r le =
    le_trans b c (low_of c cs n) (lt_le b c r.0) (low_rises c cs n r.1 (omega (arith, le)))

-- a key that lies within the region n has n bounds at or below it
route_at : (from to k : Key) (bounds : List Key) (n : ℕ) → AreRising bounds → n ≤ length bounds
    → (0 < n → IsTrue (key_le (low_of from bounds n) k)) → IsTrue (key_lt k (high_of to bounds n))
    → at_most k bounds ≡ n
route_at from to k [] zero r le low high = refl
route_at from to k [] (suc n) r le low high = absurd (omega (arith, le))
route_at from to k (b ∷ bs) zero r le low high = none_below k b bs r (lesser_right to b k high)
route_at from to k (b ∷ bs) (suc n) r le low high =
    let inside : n ≤ length bs = omega (arith, le) in
    let below : IsTrue (key_le (low_of b bs n) k) = low (omega arith) in
    let yes : ◌≡◌ {A = ℕ} (cond (key_le b k) 1 0) 1 =
    rw (le_trans b (low_of b bs n) k (low_rises b bs n r inside) below) refl in
    let rest : at_most k bs ≡ n = route_at b to k bs n (rising_rest b bs r) inside (λ some. below) high in
    one_more k b bs ∙ omega (arith, yes, rest)

-- the part of a range in the region n
pub held_part : (bounds : List Key) (s : SessionState) (from to : Key) (n limit : ℕ)
    → AreRising bounds → n ≤ length bounds
    → IsHeld bounds (scan_of s (greater from (low_of from bounds n)) (high_of to bounds n) limit)
held_part bounds s from to n limit r le = (
  n,
  le,
  λ k within. (let both = and_parts (key_le (greater from (low_of from bounds n)) k)
      (key_lt k (high_of to bounds n)) within in
      route_at from to k bounds n r le (λ some. greater_right from (low_of from bounds n) k both.0) both.1),
)

-- ---- bounds by their place

pub low_first : (from : Key) (bounds : List Key) → greater from (low_of from bounds 0) ≡ from
low_first from bounds = go (key_lt from from)
  where
    go : (b : Bool) → cond b from from ≡ from
    go true = refl
    go false = refl

pub high_there : (to d : Key) (bounds : List Key) (n : ℕ) → n < length bounds
    → lesser to (get_or bounds n d) ≡ high_of to bounds n
high_there to d [] n lt = absurd (omega (arith, lt))
high_there to d (c ∷ cs) zero lt = refl
high_there to d (c ∷ cs) (suc n) lt = high_there to d cs n (omega (arith, lt))

pub high_past : (to : Key) (bounds : List Key) (n : ℕ) → length bounds ≤ n → to ≡ high_of to bounds n
high_past to [] n le = refl
high_past to (c ∷ cs) zero le = absurd (omega (arith, le))
high_past to (c ∷ cs) (suc n) le = high_past to cs n (omega (arith, le))

low_next : (from d : Key) (bounds : List Key) (n : ℕ) → n < length bounds
    → get_or bounds n d ≡ low_of from bounds (suc n)
low_next from d [] n lt = absurd (omega (arith, lt))
low_next from d (c ∷ cs) zero lt = refl
low_next from d (c ∷ cs) (suc n) lt = low_next c d cs n (omega (arith, lt))

pub low_there : (from d : Key) (bounds : List Key) (n : ℕ) → 0 < n → n ≤ length bounds
    → get_or bounds (n - 1) d ≡ low_of from bounds n
low_there from d bounds n some le =
    let lt : n - 1 < length bounds = omega (arith, some, le) in
    let same : suc (n - 1) ≡ n = omega (arith, some) in
    low_next from d bounds (n - 1) lt ∙ ap (low_of from bounds) same

-- Keys that rise, and one that is put among them.
use Rattle.std.proofs.Common.{◌≡◌, ◌≤◌, ◌<◌, ℕ, zero, suc, true, false, List, [], ◌∷◌, ◌++◌, length, take, drop, get_or, ap, ◌∙◌, arith, add-one}
use Rattle.std.specs.Prelude.{IsTrue}
use Rattle.std.specs.declared.cmp.Ordering.{Ordering}
use Rattle.std.specs.declared.cmp.Ordering.TheVariants.{Less, Equal, Greater}
use Rattle.std.specs.Cmp.Lexicographic.{slice_cmp}
use Rattle.std.specs.Ordering.{nat_cmp, is_lt, ordering_reverse, ordering_index}
use Rattle.std.specs.List.Sorted.{IsSortedBy, IsNonDecreasingBy, IsPartitionPoint}
use Rattle.std.proofs.lemmas.Cmp.{nat_list_cmp_total}
use Rattle.std.proofs.lemmas.List.Sorted.{searchable_from_sorted}
use Rattle.tx_types.specs.declared.key.Key.{Key}
use Rattle.tx_types.specs.Keys.{key_lt, AreRising}

-- ---- the order of two keys

turned : (j k : Key) → slice_cmp nat_cmp k j ≡ ordering_reverse (slice_cmp nat_cmp j k)
turned j k = nat_list_cmp_total.antisymm k j

not_above : (j k : Key) → IsTrue (key_lt j k) → key_lt k j ≡ false
not_above j k below = by (slice_cmp nat_cmp j k) (slice_cmp nat_cmp k j) (turned j k) below
  where
    by : (a b : Ordering) → b ≡ ordering_reverse a → is_lt a ≡ true → is_lt b ≡ false
    by Less b is below = ap is_lt is
    by Equal b is below = absurd (cc (below))
    by Greater b is below = absurd (cc (below))

above : (j k : Key) → slice_cmp nat_cmp j k ≡ Greater → IsTrue (key_lt k j)
above j k is = ap is_lt (turned j k ∙ ap ordering_reverse is)

-- ---- lists

tail_rises : (k : Key) (ks : List Key) → AreRising (k ∷ ks) → AreRising ks
tail_rises k [] r = tt
tail_rises k (j ∷ ks) r = r.1

adjacent : (ks : List Key) → AreRising ks → (n : ℕ) (d : Key) → suc n < length ks
    → key_lt (get_or ks (suc n) d) (get_or ks n d) ≡ false
adjacent [] r n d within = absurd (omega arith)
adjacent (k ∷ []) r n d within = absurd (omega arith)
adjacent (k ∷ j ∷ ks) r zero d within = not_above k j r.0
adjacent (k ∷ j ∷ ks) r (suc n) d within = adjacent (j ∷ ks) r.1 n d (omega arith)

sorted : (ks : List Key) → AreRising ks → IsSortedBy (λ a b. is_lt (slice_cmp nat_cmp a b)) ks
sorted ks r = λ n d low within. rw add-one (adjacent ks r n d (omega (arith, within)))

-- a search among them finds a place
pub searched : (ks : List Key) (key : Key) → AreRising ks
    → IsNonDecreasingBy (λ k. ordering_index (slice_cmp nat_cmp k key)) ks
searched ks key r = searchable_from_sorted nat_list_cmp_total (λ (k : Key). k) ks key (sorted ks r)

-- ---- one more

put_between : (ks : List Key) (at : ℕ) (key : Key) → AreRising ks
    → ((n : ℕ) (d : Key) → n < at → IsTrue (key_lt (get_or ks n d) key))
    → ((n : ℕ) (d : Key) → at ≤ n → n < length ks → IsTrue (key_lt key (get_or ks n d)))
    → at ≤ length ks → AreRising (take at ks ++ key ∷ drop at ks)
put_between [] zero key r before after upto = tt
put_between [] (suc at) key r before after upto = absurd (omega arith)
put_between (k ∷ ks) zero key r before after upto = (after zero k (omega arith) (omega arith), r)
put_between (k ∷ ks) (suc zero) key r before after upto = (
  before zero k (omega arith),
  put_between ks zero key (tail_rises k ks r) (λ n d low. absurd (omega (arith, low)))
      (λ n d low within. after (suc n) d (omega arith) (omega (arith, within))) (omega arith),
)
put_between (k ∷ []) (suc (suc at)) key r before after upto = absurd (omega arith)
put_between (k ∷ j ∷ ks) (suc (suc at)) key r before after upto = (
  r.0,
  put_between (j ∷ ks) (suc at) key r.1 (λ n d low. before (suc n) d (omega (arith, low)))
      (λ n d low within. after (suc n) d (omega (arith, low)) (omega (arith, within))) (omega arith),
)

pub rises_with : (ks : List Key) (at : ℕ) (key : Key) → AreRising ks → at ≤ length ks
    → IsPartitionPoint (λ k. slice_cmp nat_cmp k key ≡ Less) (λ k. slice_cmp nat_cmp k key ≡ Greater) ks at
    → AreRising (take at ks ++ key ∷ drop at ks)
rises_with ks at key r upto (before, after) = put_between ks at key r
    (λ n d low. ap is_lt (before n d (omega arith) low))
    (λ n d low within. above (get_or ks n d) key (after n d low within)) upto

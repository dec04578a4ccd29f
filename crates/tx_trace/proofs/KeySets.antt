-- Sets of keys.
use Rattle.std.proofs.Common.{◌≡◌, ◌≢◌, inl, inr, Bool, true, false, cond, List, [], ◌∷◌, length, bytes_eq, refl, sym, ◌∙◌, arith}
use Rattle.std.proofs.lemmas.Map.Text.{is_eq-slice_cmp}
use Rattle.std.specs.BTreeMap as tree
use Rattle.std.specs.BTreeSet.{BTreeSet}
use Rattle.std.specs.List.{list_any}
use Rattle.std.specs.Cmp.Lexicographic.{slice_cmp}
use Rattle.std.specs.Ordering.{nat_cmp}
use Rattle.tx_types.specs.declared.key.Key.{Key}
use Rattle.tx_core.proofs.Basics.{key_test, key_same, key_true, cond_true, cond_false}
use Rattle.tx_trace.specs.Pending.{has}

-- a test of a key
abbrev pub at : Key → Key → Bool
at j k = tree.is_at (slice_cmp nat_cmp j) k

pub at_is : (j k : Key) → at j k ≡ bytes_eq j k
at_is j k = is_eq-slice_cmp j k

pub at_same : (j k : Key) → at j k ≡ true → j ≡ k
at_same j k e = key_true j k (sym (at_is j k) ∙ e)

pub same_at : (k : Key) → at k k ≡ true
same_at k = at_is k k ∙ key_same k

-- ---- lists of keys

abbrev among : List Key → Key → Bool
among ks k = list_any (at k) ks

first_among : (x : Key) (xs : List Key) → among (x ∷ xs) x ≡ true
first_among x xs = rw (same_at x) refl

-- an empty set has none, another one some
pub none_left : (keys : BTreeSet Key) → length keys.keys ≡ 0 → (k : Key) → has keys k ≡ false
none_left keys e k = go keys.keys e
  where
    go : (ks : List Key) → length ks ≡ 0 → among ks k ≡ false
    go [] e = refl
    go (x ∷ xs) e = absurd (omega (arith, e))

pub some_left : (keys : BTreeSet Key) → length keys.keys ≢ 0 → (k : Key) × (has keys k ≡ true)
some_left keys e = go keys.keys e
  where
    go : (ks : List Key) → length ks ≢ 0 → (k : Key) × (among ks k ≡ true)
    go [] e = absurd (e refl)
    go (x ∷ xs) e = (x, first_among x xs)

-- a key that was taken out is gone, and the others stay
module _ (old new : Key → Bool) (k : Key) (updates : (q : Key) → new q ≡ cond (at k q) false (old q)) where
  pub taken_gone : new k ≡ false
  taken_gone = updates k ∙ cond_true (at k k) false (old k) (same_at k)

  pub taken_others : (q : Key) → q ≢ k → new q ≡ old q
  taken_others q apart =
      elim (key_test k q) [
        | inl x ↦ absurd (apart (sym x.1))
        | inr x ↦ updates q ∙ cond_false (at k q) false (old q) (at_is k q ∙ x.0)
      ]

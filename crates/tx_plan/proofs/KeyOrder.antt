-- Keys are in a total order.
use Rattle.std.proofs.Common.{◌≡◌, ◌⊎◌, inl, inr, refl, sym, ap, ◌∙◌, subst, true, false}
use Rattle.std.specs.Prelude.{IsTrue, bytes_eq}
use Rattle.std.specs.declared.cmp.Ordering.{Ordering}
use Rattle.std.specs.declared.cmp.Ordering.TheVariants.{Less, Equal, Greater}
use Rattle.std.specs.Ordering.{is_lt, is_le, is_ge, is_eq, nat_cmp, ordering_reverse}
use Rattle.std.specs.Cmp.Lexicographic.{slice_cmp}
use Rattle.std.proofs.lemmas.Cmp.{nat_list_cmp_total, tied_itself}
use Rattle.std.proofs.lemmas.Map.Text.{is_eq-slice_cmp}
use Rattle.std.proofs.lemmas.Slice.Eq.{bytes_eq-Decides}
use Rattle.tx_types.specs.declared.key.Key.{Key}
use Rattle.tx_types.specs.Keys.{key_lt, key_le}

pub same_key : (j k : Key) → bytes_eq j k ≡ true → j ≡ k
same_key j k e = (bytes_eq-Decides j k).0 e

pub key_same : (k : Key) → bytes_eq k k ≡ true
key_same k = (bytes_eq-Decides k k).1 refl

pub other_key : (j k : Key) → (j ≡ k → ⊥) → bytes_eq j k ≡ false
other_key j k ne = elim (bytes_eq j k) as (λ b. bytes_eq j k ≡ b → b ≡ false) [
  | true ↦ λ e. absurd (ne (same_key j k e))
  | false ↦ λ e. refl
] refl

less : (o : Ordering) → is_lt o ≡ true → o ≡ Less
less Less e = refl
less Equal e = absurd (cc (e))
less Greater e = absurd (cc (e))

-- one of two keys comes first, or they are one
pub ordered : (j k : Key) → IsTrue (key_lt j k) ⊎ ((j ≡ k) ⊎ IsTrue (key_lt k j))
ordered j k =
    elim (slice_cmp nat_cmp j k) as (λ o. slice_cmp nat_cmp j k ≡ o
    → IsTrue (key_lt j k) ⊎ ((j ≡ k) ⊎ IsTrue (key_lt k j))) [
      | Less ↦ λ e. inl (ap is_lt e)
      | Equal ↦ λ e. inr (inl (same_key j k (sym (is_eq-slice_cmp j k) ∙ ap is_eq e)))
      | Greater ↦ λ e. inr (inr (ap is_lt (nat_list_cmp_total.antisymm k j ∙ ap ordering_reverse e)))
    ] refl

pub lt_trans : (i j k : Key) → IsTrue (key_lt i j) → IsTrue (key_lt j k) → IsTrue (key_lt i k)
lt_trans i j k p q = ap is_lt (nat_list_cmp_total.trans i j k (less _ p) (less _ q))

pub lt_itself : (k : Key) → IsTrue (key_lt k k) → ⊥
lt_itself k p = let e : slice_cmp nat_cmp k k ≡ Equal = tied_itself nat_list_cmp_total k in (cc (less _ p, e))

pub lt_back : (j k : Key) → IsTrue (key_lt j k) → IsTrue (key_lt k j) → ⊥
lt_back j k p q = lt_itself j (lt_trans j k j p q)

pub lt_other : (j k : Key) → IsTrue (key_lt j k) → bytes_eq j k ≡ false
lt_other j k p = other_key j k (λ e. lt_itself k (subst (λ i. IsTrue (key_lt i k)) e p))

pub lt_le : (j k : Key) → IsTrue (key_lt j k) → IsTrue (key_le j k)
lt_le j k p = ap is_le (less _ p)

pub le_itself : (k : Key) → IsTrue (key_le k k)
le_itself k = ap is_le (tied_itself nat_list_cmp_total k)

pub le_cases : (j k : Key) → IsTrue (key_le j k) → IsTrue (key_lt j k) ⊎ (j ≡ k)
le_cases j k p =
    elim (slice_cmp nat_cmp j k) as (λ o. slice_cmp nat_cmp j k ≡ o → is_le o ≡ true → IsTrue (key_lt j k) ⊎ (j ≡ k)) [
      | Less ↦ λ e h. inl (ap is_lt e)
      | Equal ↦ λ e h. inr (same_key j k (sym (is_eq-slice_cmp j k) ∙ ap is_eq e))
      | Greater ↦ λ e h. absurd (cc (h))
    ] refl p

pub le_lt : (i j k : Key) → IsTrue (key_le i j) → IsTrue (key_lt j k) → IsTrue (key_lt i k)
le_lt i j k p q = elim (le_cases i j p) [
  | inl x ↦ lt_trans i j k x q
  | inr e ↦ subst (λ x. IsTrue (key_lt x k)) (sym e) q
]

pub lt_then_le : (i j k : Key) → IsTrue (key_lt i j) → IsTrue (key_le j k) → IsTrue (key_lt i k)
lt_then_le i j k p q =
    elim (le_cases j k q) [ inl x ↦ lt_trans i j k p x | inr e ↦ subst (λ x. IsTrue (key_lt i x)) e p ]

-- what does not come before comes at it or after
pub not_lt : (j k : Key) → key_lt j k ≡ false → IsTrue (key_le k j)
not_lt j k p = elim (ordered j k) [
  | inl x ↦ absurd (cc (x, p))
  | inr y ↦ elim y [ inl e ↦ subst (λ x. IsTrue (key_le k x)) (sym e) (le_itself k) | inr x ↦ lt_le k j x ]
]

-- what `>=` answers
pub ge_false : (j k : Key) → is_ge (slice_cmp nat_cmp j k) ≡ false → IsTrue (key_lt j k)
ge_false j k e = elim (slice_cmp nat_cmp j k) as (λ o. slice_cmp nat_cmp j k ≡ o → is_ge o ≡ false
    → IsTrue (is_lt o)) [
      | Less ↦ λ p h. refl
      | Equal ↦ λ p h. absurd (cc (h))
      | Greater ↦ λ p h. absurd (cc (h))
    ] refl e

pub ge_true : (j k : Key) → is_ge (slice_cmp nat_cmp j k) ≡ true → IsTrue (key_le k j)
ge_true j k e = not_lt j k
    (elim (slice_cmp nat_cmp j k) as (λ o. slice_cmp nat_cmp j k ≡ o → is_ge o ≡ true
    → is_lt o ≡ false) [ Less ↦ λ p h. absurd (cc (h)) | Equal ↦ λ p h. refl | Greater ↦ λ p h. refl ] refl e)

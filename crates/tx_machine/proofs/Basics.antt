-- Small facts on options, tests and keys.
use Rattle.std.proofs.Common.{◌≡◌, ◌≢◌, ℕ, ◌==◌, ◌⊎◌, ◌<◌, ◌≤◌, inl, inr, Bool, true, false, cond, Option, Some, None, bytes_eq, refl}
use Rattle.std.proofs.lemmas.Bool.{eqb-true, eqb-false, eq-eqb, cases_Bool, cases_lt}
use Rattle.std.proofs.lemmas.Slice.Eq.{bytes_eq-Decides}
use Rattle.tx_types.specs.declared.key.Key.{Key}

-- a test of two numbers, with what it means
pub nat_test : (a b : ℕ) → ((a == b) ≡ true) × (a ≡ b) ⊎ (((a == b) ≡ false) × (a ≢ b))
nat_test a b = elim (cases_Bool (a == b)) [ inl e ↦ inl (e, eqb-true a b e) | inr e ↦ inr (e, eqb-false a b e) ]

-- a test of two keys, with what it means
pub key_test : (a b : Key) → ((bytes_eq a b ≡ true) × (a ≡ b)) ⊎ ((bytes_eq a b ≡ false) × (a ≢ b))
key_test a b =
    elim (cases_Bool (bytes_eq a b)) [
      | inl e ↦ inl (e, (bytes_eq-Decides a b).0 e)
      | inr e ↦ inr (e, λ same. cc ((bytes_eq-Decides a b).1 same, e))
    ]

pub key_same : (a : Key) → bytes_eq a a ≡ true
key_same a = (bytes_eq-Decides a a).1 refl

pub nat_same : (a : ℕ) → (a == a) ≡ true
nat_same a = eq-eqb a a refl

-- which way a choice went
pub chosen : {X : Type 0} (b : Bool) (x y z : X) → cond b x y ≡ z → ((b ≡ true) × (x ≡ z)) ⊎ ((b ≡ false) × (y ≡ z))
chosen true x y z e = inl (refl, e)
chosen false x y z e = inr (refl, e)

pub some_same : {X : Type 0} (x y : X) → Some x ≡ Some y → x ≡ y
some_same x y e = cc

pub key_true : (a b : Key) → bytes_eq a b ≡ true → a ≡ b
key_true a b e = (bytes_eq-Decides a b).0 e

pub pair_is : {X Y : Type 0} (a b : X) (c d : Y) → a ≡ b → c ≡ d → ◌≡◌ {A = X × Y} (a, c) (b, d)
pair_is a b c d p q = λ i. (p i, q i)

pub cases_lt_of : (a b : ℕ) → (a < b) ⊎ (b ≤ a)
cases_lt_of a b = cases_lt a b

pub cond_true : {X : Type 0} (b : Bool) (x y : X) → b ≡ true → cond b x y ≡ x
cond_true b x y e = rw e refl

pub cond_false : {X : Type 0} (b : Bool) (x y : X) → b ≡ false → cond b x y ≡ y
cond_false b x y e = rw e refl

pub none_is : {X : Type 0} (o : Option X) → ((x : X) → o ≡ Some x → ⊥) → o ≡ None
none_is None never = refl
none_is (Some x) never = absurd (never x refl)

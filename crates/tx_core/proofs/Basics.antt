-- Small facts on options, and tests of numbers and keys.
use Rattle.std.proofs.Common.{◌≡◌, ◌≢◌, ℕ, ◌==◌, ◌||◌, ◌⊎◌, inl, inr, Bool, true, false, cond, Option, Some, None, bytes_eq, refl}
use Rattle.std.proofs.lemmas.Bool.{eqb-true, eqb-false, eq-eqb, cases_Bool}
use Rattle.std.proofs.lemmas.Slice.Eq.{bytes_eq-Decides}
use Rattle.tx_types.specs.declared.key.Key.{Key}

-- a test of two numbers, with what it means
pub nat_test : (a b : ℕ) → ((a == b) ≡ true) × (a ≡ b) ⊎ (((a == b) ≡ false) × (a ≢ b))
nat_test a b = elim (cases_Bool (a == b)) [ inl e ↦ inl (e, eqb-true a b e) | inr e ↦ inr (e, eqb-false a b e) ]

-- a test of two keys, with what it means
pub key_test : (a b : Key) → ((bytes_eq a b ≡ true) × (a ≡ b)) ⊎ ((bytes_eq a b ≡ false) × (a ≢ b))
key_test a b =
    elim (cases_Bool (bytes_eq a b)) [
      | inl e ↦ inl (e, (bytes_eq-Decides a b).0 e)
      | inr e ↦ inr (e, λ same. cc ((bytes_eq-Decides a b).1 same, e))
    ]

-- a key is equal to itself, and keys that pass the test are equal
pub key_same : (a : Key) → bytes_eq a a ≡ true
key_same a = (bytes_eq-Decides a a).1 refl

pub key_true : (a b : Key) → bytes_eq a b ≡ true → a ≡ b
key_true a b e = (bytes_eq-Decides a b).0 e

-- a number is equal to itself
pub nat_same : (a : ℕ) → (a == a) ≡ true
nat_same a = eq-eqb a a refl

-- which way a choice went
pub chosen : {X : Type 0} (b : Bool) (x y z : X) → cond b x y ≡ z → ((b ≡ true) × (x ≡ z)) ⊎ ((b ≡ false) × (y ≡ z))
chosen true x y z e = inl (refl, e)
chosen false x y z e = inr (refl, e)

-- a choice of which the test is known
pub cond_true : {X : Type 0} (b : Bool) (x y : X) → b ≡ true → cond b x y ≡ x
cond_true b x y e = rw e refl

pub cond_false : {X : Type 0} (b : Bool) (x y : X) → b ≡ false → cond b x y ≡ y
cond_false b x y e = rw e refl

-- a choice between the same
pub cond_same : {X : Type 0} (b : Bool) (x : X) → cond b x x ≡ x
cond_same true x = refl
cond_same false x = refl

-- what two options hold is the same
pub some_same : {X : Type 0} (x y : X) → Some x ≡ Some y → x ≡ y
some_same x y e = cc

-- an option that holds nothing
pub none_is : {X : Type 0} (o : Option X) → ((x : X) → o ≡ Some x → ⊥) → o ≡ None
none_is None never = refl
none_is (Some x) never = absurd (never x refl)

-- what is not none is something
pub some_of : {X : Type 0} (o : Option X) → o ≢ None → (x : X) × (o ≡ Some x)
some_of None some = absurd (some refl)
some_of (Some x) some = (x, refl)

-- an option that holds something
pub is_some : {X : Type 0} (o : Option X) (x : X) → o ≡ Some x → o ≢ None
is_some o x e none = cc (e, none)

-- neither of two tests
pub or_false : (x y : Bool) → (x || y) ≡ false → (x ≡ false) × (y ≡ false)
or_false true y e = absurd (cc (e))
or_false false y e = (refl, e)

-- Small facts on options, tests, results and keys.
use Rattle.std.proofs.Common.{◌≡◌, ◌≢◌, ◌⊎◌, inl, inr, true, false, cond, Bool, Result, Ok, Err, bytes_eq, refl}
use Rattle.std.specs.Prelude.{IfOk, OnOk}
use Rattle.std.proofs.lemmas.Bool.{cases_Bool}
use Rattle.std.proofs.lemmas.Slice.Eq.{bytes_eq-Decides}
use Rattle.tx_types.specs.declared.key.Key.{Key}

-- a test of two keys, with what it means
pub key_test : (a b : Key) → ((bytes_eq a b ≡ true) × (a ≡ b)) ⊎ ((bytes_eq a b ≡ false) × (a ≢ b))
key_test a b =
    elim (cases_Bool (bytes_eq a b)) [
      | inl e ↦ inl (e, (bytes_eq-Decides a b).0 e)
      | inr e ↦ inr (e, λ same. cc ((bytes_eq-Decides a b).1 same, e))
    ]

-- which way a choice goes
pub cond_true : {X : Type 0} (b : Bool) (x y : X) → b ≡ true → cond b x y ≡ x
cond_true b x y e = rw e refl

pub cond_false : {X : Type 0} (b : Bool) (x y : X) → b ≡ false → cond b x y ≡ y
cond_false b x y e = rw e refl

-- what holds of a result's value, by what is known of it
pub if_ok : {T E : Type 0} (r : Result T E) (P Q : T → Type 0) → ((x : T) → P x → Q x) → IfOk r P → IfOk r Q
if_ok (Ok x) P Q step p = step x p
if_ok (Err e) P Q step p = tt

-- what holds where a result is no error, by two things that are known there
pub on_ok_both : {T E : Type 0} (r : Result T E) (P Q R : Type 0) → (P → Q → R) → OnOk r P → OnOk r Q → OnOk r R
on_ok_both (Ok x) P Q R step p q = step p q
on_ok_both (Err e) P Q R step p q = tt

-- by three
pub on_ok_three : {T E : Type 0} (r : Result T E) (P Q R S : Type 0) → (P → Q → R → S) → OnOk r P → OnOk r Q → OnOk r R
    → OnOk r S
on_ok_three (Ok x) P Q R S step p q o = step p q o
on_ok_three (Err e) P Q R S step p q o = tt

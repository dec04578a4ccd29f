-- What the tests of the plans say.
use Rattle.std.proofs.Common.{◌≡◌, ℕ, ◌<◌, Bool, true, false, sym, ap, inl, inr, arith, Option}
use Rattle.std.specs.Prelude.{IsTrue, Result, Ok, Err, IfOk}
use Rattle.std.specs.Ordering.{nat_cmp, is_lt, is_le}
use Rattle.std.specs.Cmp.{nat_cmp_is}
use Rattle.std.specs.declared.cmp.Ordering.TheVariants.{Less, Equal, Greater}
use Rattle.std.proofs.lemmas.Bool.{cases_order}
use Rattle.std.proofs.lemmas.Map.Keys.{ge_from_not_lt}
use Rattle.tx_plan.specs.Cells.{Lock}
use Rattle.tx_plan.specs.Own.{OwnLock}

-- a test that said no
pub not_below : (a b : ℕ) → false ≡ is_lt (nat_cmp a b) → a < b → ⊥
not_below a b e lt = omega (arith, ge_from_not_lt a b (sym e))

-- the transaction has one lock on a key
pub same_lock : (standing : Option Lock) (t : ℕ) (a b : Lock) → OwnLock standing t a → OwnLock standing t b → a ≡ b
same_lock standing t a b x y = cc (x.stands, y.stands)

-- a test that said no is not true
pub not_true : (b : Bool) → b ≡ false → IsTrue b → ⊥
not_true b e h = cc (e, h)

-- a test that said yes
pub is_below : (a b : ℕ) → true ≡ is_lt (nat_cmp a b) → a < b
is_below a b e =
    elim (cases_order a b) [
      | inl same ↦ absurd (cc (e, ap is_lt (nat_cmp_is a b Equal same)))
      | inr x ↦ elim x [
        | inl lt ↦ lt
        | inr gt ↦ absurd (cc (e, ap is_lt (nat_cmp_is a b Greater gt)))
      ]
    ]

-- what an `Ok` holds may be said otherwise
pub if_ok : {T E : Type 0} (P Q : T → Type 0) (r : Result T E) → ((x : T) → P x → Q x) → IfOk r P → IfOk r Q
if_ok P Q (Ok x) f p = f x p
if_ok P Q (Err e) f p = tt

-- a test that said not at most
pub not_upto : (a b : ℕ) → false ≡ is_le (nat_cmp a b) → b < a
not_upto a b e =
    elim (cases_order a b) [
      | inl same ↦ absurd (cc (e, ap is_le (nat_cmp_is a b Equal same)))
      | inr x ↦ elim x [
        | inl lt ↦ absurd (cc (e, ap is_le (nat_cmp_is a b Less lt)))
        | inr gt ↦ gt
      ]
    ]

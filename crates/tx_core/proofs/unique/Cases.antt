-- Two answers of one case table are of the same case of it, and what a case names is the only
-- one of its kind.
use Rattle.std.proofs.Common.{◌≡◌, ℕ, ◌≤◌, inl, inr, Option, Some, None, refl, sym, ap, subst, ◌∙◌, arith}
use Rattle.std.proofs.lemmas.Bool.{cases_lt}
use Rattle.tx_types.specs.declared.value.Value.{Value}
use Rattle.tx_plan.specs.declared.answer.Answer.{Answer}
use Rattle.tx_plan.specs.Tables.{Case, CaseOf}
use Rattle.tx_plan.specs.Cells.{Lock, CommitRecord, CommitOf, Writes}
use Rattle.tx_types.specs.Keys.{IsVisible}
use Rattle.tx_plan.specs.Reads.{Finds, Reads}
use Rattle.tx_core.proofs.Basics.{some_same}

-- ---- case tables

-- two answers of one table are of the same case of it
pub one_case : {C P Q S T R : Type 0} → (P → S → R) → (Q → T → R) → Case C P Q → Case C S T → R
one_case here else (inl x) (inl y) = here x.1 y.1
one_case here else (inl x) (inr y) = absurd (y.0 x.0)
one_case here else (inr x) (inl y) = absurd (x.0 y.0)
one_case here else (inr x) (inr y) = else x.1 y.1

pub one_case_of : {X : Type 0} {C P S : X → Type 0} {Q T R : Type 0} → ((x y : X) → C x → C y → P x → S y → R)
    → (Q → T → R) → CaseOf C P Q → CaseOf C S T → R
one_case_of here else (inl (x, c, p)) (inl (y, d, s)) = here x y c d p s
one_case_of here else (inl (x, c, p)) (inr (none, t)) = absurd (none x c)
one_case_of here else (inr (none, q)) (inl (y, d, s)) = absurd (none y d)
one_case_of here else (inr (none, q)) (inr (also, t)) = else q t

-- two answers that are both x
pub same : (x a b : Answer) → a ≡ x → b ≡ x → a ≡ b
same x a b is also = is ∙ sym also

-- two answers that say f of the same
pub alike : {X : Type 0} (f : X → Answer) (x y : X) (a b : Answer) → x ≡ y → a ≡ f x → b ≡ f y → a ≡ b
alike f x y a b e is also = is ∙ (ap f e ∙ sym also)

-- a key has one lock
pub one_lock : (standing : Option Lock) (x y : Lock) → standing ≡ Some x → standing ≡ Some y → x ≡ y
one_lock standing x y is also = some_same x y (sym is ∙ also)

-- there is one commit record at a timestamp
pub one_record : (write : Writes) (c : ℕ) (x y : CommitRecord) → write c ≡ Some (CommitOf x)
    → write c ≡ Some (CommitOf y) → x ≡ y
one_record write c x y is also = cc

-- ---- reads

module _ (write : Writes) (r : ℕ) where
  -- what a value was put by is seen
  is_seen : (v : Value) (x : Finds write r v) → IsVisible x.rec.mutation
  is_seen v x = subst IsVisible (sym x.puts) tt

  -- of two newest puts none is newer
  not_newer : (v u : Value) (x : Finds write r v) (y : Finds write r u) → y.at ≤ x.at
  not_newer v u x y = elim (cases_lt x.at y.at) [
    | inl lt ↦ absurd (x.newest y.at y.rec y.stands (is_seen u y) lt y.upto)
    | inr le ↦ le
  ]

  one_found : (v u : Value) → Finds write r v → Finds write r u → v ≡ u
  one_found v u x y =
      let at : y.at ≡ x.at = omega (arith, not_newer v u x y, not_newer u v y x) in
      let rec : x.rec ≡ y.rec =
      one_record write x.at x.rec y.rec x.stands (subst (λ n. write n ≡ Some (CommitOf y.rec)) at y.stands) in
      cc (rec, x.puts, y.puts)

  -- a read finds one thing
  pub one_read : (f g : Option Value) → Reads write r f → Reads write r g → f ≡ g
  one_read None None none also = refl
  one_read None (Some u) none y = absurd (none u y)
  one_read (Some v) None x none = absurd (none v x)
  one_read (Some v) (Some u) x y = ap Some (one_found v u x y)

-- What a try that stays in one place keeps.
use Rattle.std.proofs.Common.{◌≡◌, ◌≤◌, ℕ, Option, Some, None, refl, sym, subst}
use Rattle.std.specs.Prelude.{IfSome, IsSome, IsSomeAnd, unwrap_or, option_map, option_and_then}
use Rattle.tx_types.specs.declared.key.Key.{Key}
use Rattle.tx_plan.specs.declared.planned_answer.Plan.{Plan}
use Rattle.tx_plan.specs.Cells.{Region}
use Rattle.tx_core.specs.Histories.{History, left}
use Rattle.tx_journal.specs.Known.{greatest_ts}
use Rattle.tx_journal.specs.Replies.{Asked}
use Rattle.tx_region.specs.Copies.{key_in, LooksLike, IsPlan}
use Rattle.tx_region.specs.KeyPlans.{Copied, PlanOf, AreOf, IsCopyFor, IsPlanFor}
use Rattle.tx_region.specs.declared.copy.KeyView.{KeyView}
use Rattle.tx_region.specs.declared.copy.Loaded.{Loaded}
use Rattle.tx_region.specs.declared.copy.RegionNumbers.{RegionNumbers}
use Rattle.tx_region.proofs.Copies.{same_itself}

-- ---- a type whose values are tries that have a copy, or a plan

module _ {X : Type 0} (P : X → Type 0) where
  pub there_is : (o : Option X) → IsSomeAnd o P → IsSome o
  there_is None is = absurd is
  there_is (Some x) is = refl

  pub unwrapped : (o : Option X) (d : X) → IsSomeAnd o P → P (unwrap_or o d)
  unwrapped None d is = absurd is
  unwrapped (Some x) d is = is

  pub wrapped : (o : Option X) (d : X) → IsSome o → P (unwrap_or o d) → IsSomeAnd o P
  wrapped None d some is = absurd (cc (some))
  wrapped (Some x) d some is = is

  pub if_unwrapped : (o : Option X) (d : X) → IsSome o → IfSome o P → P (unwrap_or o d)
  if_unwrapped None d some is = absurd (cc (some))
  if_unwrapped (Some x) d some is = is

  pub there_then : (Q : X → Type 0) (o : Option X) → ((x : X) → P x → Q x) → IsSomeAnd o P → IsSomeAnd o Q
  there_then Q None then is = is
  there_then Q (Some x) then is = then x is

-- ---- what a try is made of

module _ {S : Type 0} (told : S → History) (bytes : S → Key) (n : ℕ) (view : KeyView) (numbers : RegionNumbers)
    (taken : ℕ) (loaded : Loaded) where
  abbrev pub copied : S → Copied
  copied s = record { region = n; events = told s; key = bytes s; view = view; numbers = numbers; loaded = loaded }

  abbrev pub planned_of : Plan → S → PlanOf
  planned_of p s = record { region = n; events = told s; key = bytes s; loaded = loaded; planned = p }

  pub low_of : (o : Option S) (q : Asked) → IfSome o (λ s. AreOf (told s) n numbers taken loaded)
      → IsSomeAnd (option_map copied o) (λ c. IsCopyFor q c) → (loaded.last ≤ greatest_ts) × (loaded.mark ≤ greatest_ts)
  low_of None q are copy = absurd copy
  low_of (Some s) q are copy = are.low

  pub looks_of : (o : Option S) (q : Asked) → IsSomeAnd (option_map copied o) (λ c. IsCopyFor q c)
      → (r : Region) × LooksLike r q.body view numbers
  looks_of None q copy = absurd copy
  looks_of (Some s) q copy =
      (left (told s) n, copy.looks (left (told s) n) (same_itself (key_in q.body) (left (told s) n)))

  pub plan_of : (o : Option S) (q : Asked) (p : Plan) → IsSomeAnd (option_map copied o)
      (λ c. IsCopyFor q c) → ((r : Region) → LooksLike r q.body view numbers
      → IsPlan loaded.mark r loaded.last q.body p)
      → IsSomeAnd (option_and_then (λ s. option_map (λ x. planned_of x s) (Some p)) o)
      (λ plan. IsPlanFor q plan
      × IsSomeAnd (option_map copied o) (λ c. (plan.region ≡ c.region) × (plan.events ≡ c.events)))
  plan_of None q p copy plans = absurd copy
  plan_of (Some s) q p copy plans = (
    record {
      of_key = copy.of_key;
      its_key = copy.its_key;
      knows = copy.knows;
      is_mark = copy.is_mark;
      plans = λ region same. plans region (copy.looks region same);
    },
    (refl, refl),
  )

  -- the plan of a try
  abbrev pub plan_in : Option S → Option Plan → Option PlanOf
  plan_in o po = option_and_then (λ s. option_map (λ p. planned_of p s) po) o

  module _ (P : PlanOf → Type 0) where
    pub not_unseen : (o : Option S) (po : Option Plan) → o ≡ None → IsSomeAnd (plan_in o po) P → ⊥
    not_unseen None po e is = is
    not_unseen (Some s) po e is = absurd (cc (e))

    pub not_unplanned : (o : Option S) (po : Option Plan) → po ≡ None → IsSomeAnd (plan_in o po) P → ⊥
    not_unplanned None po e is = is
    not_unplanned (Some s) None e is = is
    not_unplanned (Some s) (Some p) e is = absurd (cc (e))

    pub plan_there : (o : Option S) (po : Option Plan) (s : S) (p : Plan) → o ≡ Some s → po ≡ Some p
        → IsSomeAnd (plan_in o po) P → P (planned_of p s)
    plan_there o po s p e f is =
        subst (λ (x : Option S × Option Plan). IsSomeAnd (plan_in x.0 x.1) P) (λ i. (e i, f i)) is

    pub if_plan : (o : Option S) (po : Option Plan) (s : S) (p : Plan) → o ≡ Some s → po ≡ Some p → P (planned_of p s)
        → IfSome (plan_in o po) P
    if_plan o po s p e f is =
        subst (λ (x : Option S × Option Plan). IfSome (plan_in x.0 x.1) P) (λ i. (sym e i, sym f i)) is

  pub are_there : (o : Option S) (s : S) → o ≡ Some s → IfSome o (λ x. AreOf (told x) n numbers taken loaded)
      → AreOf (told s) n numbers taken loaded
  are_there o s e are = subst (λ (x : Option S). IfSome x (λ y. AreOf (told y) n numbers taken loaded)) e are

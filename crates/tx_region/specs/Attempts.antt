-- One try of a request, which stays in one place: its copy, the plan of that, and the answer.
use Rattle.std.specs.Prelude.{ℕ, List, [], Option, Some, None}
use Rattle.tx_types.specs.declared.key.Key.{Key}
use Rattle.tx_plan.specs.declared.answer.Answer.{Answer}
use Rattle.tx_plan.specs.declared.body.Body.{Body}
use Rattle.tx_plan.specs.declared.body.Body.TheVariants.{Get}
use Rattle.tx_plan.specs.declared.key_change.KeyChange.TheVariants.{Nothing}
use Rattle.tx_plan.specs.declared.planned_answer.Plan.{Plan}
use Rattle.tx_plan.specs.declared.planned_answer.PlannedAnswer.TheVariants.{KeyIsLocked}
use Rattle.tx_core.specs.Histories.{History}
use Rattle.tx_journal.specs.Replies.{Asked}
use Rattle.tx_region.specs.KeyPlans.{Copied, PlanOf, CarriesPlan, ComesOf}
use Rattle.tx_region.specs.declared.applied.Applied.{Applied}
use Rattle.tx_region.specs.declared.applied.Applied.TheVariants.{Done, Stale}
use Rattle.tx_region.specs.declared.copy.KeyView.TheVariants.{Read}

-- a try: the copy, if it was made, the plan of that, if it was planned, and the answer
pub record Tried : Type 0 where
  pub copy : Option Copied
  pub plan : Option PlanOf
  pub answer : Option Answer

-- What is read off a try that has no copy, and off one that has no plan. No value of `KeyCopy` or
-- `Planned` is such a try, by their invariants.
abbrev pub no_copy : Copied
no_copy = record {
  region = 0;
  events = [];
  key = [];
  view = Read record { lock = None; value = None };
  numbers = record { safe = 0; collected = 0 };
  loaded = record { last = 0; mark = 0 };
}

abbrev pub no_plan : PlanOf
no_plan = record {
  region = 0;
  events = [];
  key = [];
  loaded = record { last = 0; mark = 0 };
  planned = record { answer = KeyIsLocked; change = Nothing; read = None };
}

-- what came of a plan that was applied to a request, in the words of a region that takes the
-- request and gives a reply: it gave this answer and then knew this, or it gave the request back
abbrev pub applied_in : Asked → Option Answer → Option History → Applied (Unit {0})
applied_in q a (Some told) = Done record { request = q; answer = a; events = told }
applied_in q a None = Stale q

abbrev pub CarriesIn : List Key → ℕ → History → History → Asked → ℕ → Plan → Option Answer → Option History → Type 0
CarriesIn bounds n had now q loaded planned a r = CarriesPlan bounds n had now q loaded planned (applied_in q a r)

abbrev pub ComesIn : List Key → ℕ → History → History → Asked → PlanOf → Option Answer → Option History → Type 0
ComesIn bounds n had now q plan a r = ComesOf bounds n had now q plan (applied_in q a r)

-- a request that reads one key
abbrev pub IsRead : Body → Type 0
IsRead (Get b) = Unit {0}
IsRead _ = ⊥

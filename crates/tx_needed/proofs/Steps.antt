-- The steps of a history that is explained: which stand, and where.
use Rattle.std.proofs.Common.{◌≡◌, ◌≢◌, ℕ, ◌++◌, ◌⊎◌, inl, inr, List, [], ◌∷◌, Option, Some, None, Contains, refl, sym, ap, subst, ◌∙◌}
use Rattle.std.proofs.lemmas.List.Elements.{Contains-append_left, Contains-append_right, Contains-append_cases}
use Rattle.tx_types.specs.declared.mutation.Fate.{Fate}
use Rattle.tx_types.specs.declared.mutation.Fate.TheVariants.{Committed}
use Rattle.tx_machine.specs.declared.step.Step.{Step}
use Rattle.tx_machine.specs.declared.step.Step.TheVariants as step
use Rattle.tx_machine.specs.Machine.{State, Open, Done, Admits, table_of, IsRun}
use Rattle.tx_core.specs.declared.event.Declaration.{Declaration}
use Rattle.tx_core.specs.declared.event.Event.TheVariants.{Drawn, Began, Declared, Answered, Stopped, Took}
use Rattle.tx_core.specs.Histories.{History, declared, set_at}
use Rattle.tx_core.specs.Decisions.{decided, first_decided}
use Rattle.tx_core.specs.EventSteps.{IsStepOf, Explains}
use Rattle.tx_core.proofs.Basics.{nat_test, some_same}
use Rattle.tx_core.proofs.unique.KeyLists.{contains_none, contains_first, contains_next, contains_cases}

-- ---- which stand

-- it is a step of one of the events
abbrev pub Stands : History → Step → Type 0
Stands [] s = ⊥
Stands (e ∷ h) s = IsStepOf h e s ⊎ Stands h s

pub stands_in : (h : History) (steps : List Step) (s : Step) → Explains steps h → Stands h s → Contains steps s
stands_in [] steps s explains stands = absurd stands
stands_in (e ∷ h) steps s (own, earlier, is, before, each, truth) (inl now) =
    subst (λ y. Contains y s) (sym is) (Contains-append_left own earlier s ((each s).1 now))
stands_in (e ∷ h) steps s (own, earlier, is, before, each, truth) (inr old) =
    subst (λ y. Contains y s) (sym is) (Contains-append_right own earlier s (stands_in h earlier s before old))

pub in_stands : (h : History) (steps : List Step) (s : Step) → Explains steps h → Contains steps s → Stands h s
in_stands [] steps s explains has = absurd (contains_none s (subst (λ y. Contains y s) explains has))
in_stands (e ∷ h) steps s (own, earlier, is, before, each, truth) has =
    elim (Contains-append_cases own earlier s (subst (λ y. Contains y s) is has)) [
      | inl now ↦ inl ((each s).0 now)
      | inr old ↦ inr (in_stands h earlier s before old)
    ]

-- what a transaction declared is a step
declaration_stands : (h : History) (t : ℕ) (d : Declaration) → declared h t ≡ Some d
    → Stands h (step.Declare t d.changes)
declaration_stands [] t d is = absurd (cc (is))
declaration_stands (Declared e ∷ h) t d is = elim (nat_test e.start t) [
  | inl y ↦ (let same : Some e ≡ Some d = rw y.0 at is in
      let set = ap (λ (z : Declaration). z.changes) (some_same e d same) in let at = y.1 in inl (cc (set, at)))
  | inr y ↦ inr (declaration_stands h t d (rw y.0 at is))
]
declaration_stands (Began u ∷ h) t d is = inr (declaration_stands h t d is)
declaration_stands (Drawn seat n ∷ h) t d is = inr (declaration_stands h t d is)
declaration_stands (Answered u o ∷ h) t d is = inr (declaration_stands h t d is)
declaration_stands (Stopped seat ∷ h) t d is = inr (declaration_stands h t d is)
declaration_stands (Took x ∷ h) t d is = inr (declaration_stands h t d is)

pub set_stands : (h : History) (t : ℕ) → set_at h t ≢ [] → Stands h (step.Declare t (set_at h t))
set_stands h t some = go (declared h t) refl
  where
    go : (o : Option Declaration) → declared h t ≡ o → Stands h (step.Declare t (set_at h t))
    go None is = absurd (some (rw is refl))
    go (Some d) is = subst (λ set. Stands h (step.Declare t set)) (rw is refl) (declaration_stands h t d is)

-- so is each commit that is decided
later_stays : (new : State) (end : Fate) → first_decided new (Done end) ≡ Done end
later_stays Open end = refl
later_stays (Done other) end = refl

pub commit_stands : (h : History) (t c : ℕ) → decided h t ≡ Done (Committed c) → Stands h (step.Commit t c)
commit_stands [] t c is = absurd (cc (is))
commit_stands (Took x ∷ h) t c is = go (decided h t) refl (commit_stands h t c)
  where
    go : (before : State) → decided h t ≡ before
        → (decided h t ≡ Done (Committed c) → Stands h (step.Commit t c)) → Stands (Took x ∷ h) (step.Commit t c)
    go Open was earlier = inl record { before = was; now = is }
    go (Done end) was earlier = inr (earlier (was ∙ sym (later_stays _ end) ∙ (rw was at is)))
commit_stands (Declared d ∷ h) t c is = inr (commit_stands h t c is)
commit_stands (Began u ∷ h) t c is = inr (commit_stands h t c is)
commit_stands (Drawn seat n ∷ h) t c is = inr (commit_stands h t c is)
commit_stands (Answered u o ∷ h) t c is = inr (commit_stands h t c is)
commit_stands (Stopped seat ∷ h) t c is = inr (commit_stands h t c is)

-- ---- where

-- a step of the last block was made after all earlier blocks and some steps of its own
pub record Stood (own earlier : List Step) (s : Step) : Type 0 where
  pub before : List Step
  pub within : (y : Step) → Contains before y → Contains own y
  pub run : IsRun (before ++ earlier)
  pub admits : Admits (table_of (before ++ earlier)) s

pub stood : (own earlier : List Step) (s : Step) → IsRun (own ++ earlier) → Contains own s → Stood own earlier s
stood [] earlier s run has = absurd (contains_none s has)
stood (y ∷ ys) earlier s run has = elim (contains_cases y ys s has) [
  | inl e ↦ record {
    before = ys;
    within = λ z in_ys. contains_next y ys z in_ys;
    run = run.0;
    admits = subst (Admits (table_of (ys ++ earlier))) e run.1;
  }
  | inr later ↦ (let it = stood ys earlier s run.0 later in
      record {
        before = it.before;
        within = λ z inside. contains_next y ys z (it.within z inside);
        run = it.run;
        admits = it.admits;
      })
]

-- ---- none

-- a list that has nothing is empty
pub no_steps : (own : List Step) → ((s : Step) → Contains own s → ⊥) → own ≡ []
no_steps [] none = refl
no_steps (s ∷ own) none = absurd (none s (contains_first s own))

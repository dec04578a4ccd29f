-- What is no need: by the premise itself, and by what answers leave, all is explained.
use Rattle.std.proofs.Common.{◌≡◌, ℕ, inl, inr, List, [], ◌∷◌, refl, subst}
use Rattle.tx_types.specs.declared.key.Key.{Key}
use Rattle.tx_plan.specs.Answers.{Answers, leaves}
use Rattle.tx_core.specs.declared.event.Taken.{Taken}
use Rattle.tx_core.specs.declared.event.Event.{Event}
use Rattle.tx_core.specs.declared.event.Event.TheVariants.{Drawn, Began, Declared, Answered, Stopped, Took}
use Rattle.tx_core.specs.Histories.{History, last, left}
use Rattle.tx_core.specs.Shadow.{shadow}
use Rattle.tx_core.specs.Allowed.{Allowed}
use Rattle.tx_core.specs.Worlds.{MayCome}
use Rattle.tx_core.specs.Legal.{IsLegallyTaken, IsLegal, IsLegalRun}
use Rattle.tx_core.proofs.runs.AllRuns.{legal_shadow, legal_decisions}
use Rattle.tx_core.proofs.runs.EventSteps.{legal_explained}
use Rattle.tx_core.proofs.runs.Legal.{legal_request, legal_run}
use Rattle.tx_needed.specs.Needed.{IsRunBut, IsNeeded, IsExplained, TakesAs, left_by, IsRunBy, IsFalseBy}

is_explained : (bounds : List Key) (h : History) → IsLegalRun bounds h → IsExplained h
is_explained bounds h run =
    (shadow h, legal_explained bounds h run, legal_shadow bounds h run, legal_decisions bounds h run)

-- what may come is legal, and so is what is taken as the protocol allows
legally_taken : {bounds : List Key} {h : History} {x : Taken} → TakesAs Allowed left bounds h x
    → IsLegallyTaken bounds h x
legally_taken {bounds} {h} {x} it = record {
  legal = legal_request h x.body it.allowed;
  holds = it.holds;
  loaded = it.loaded;
  answers = it.answers;
}

legal_next : (bounds : List Key) (h : History) (e : Event) → MayCome bounds h e → IsLegal bounds h e
legal_next bounds h (Drawn seat n) may = may
legal_next bounds h (Began t) may = may
legal_next bounds h (Declared d) may =
    record { begun = may.begun; once = may.once; some = may.some; distinct = may.distinct }
legal_next bounds h (Answered t o) may = (may.0, may.2)
legal_next bounds h (Stopped seat) may = tt
legal_next bounds h (Took x) may = legally_taken record {
  allowed = may.allowed;
  holds = may.holds;
  loaded = may.loaded;
  answers = may.answers;
}

by_itself : (bounds : List Key) (h : History) → IsRunBut IsLegal bounds h → IsLegalRun bounds h
by_itself bounds [] but = absurd but
by_itself bounds (e ∷ h) (inl now) = (legal_run bounds h now.0, now.1)
by_itself bounds (e ∷ h) (inr later) = (by_itself bounds h later.0, legal_next bounds h e later.1)

pub nothing_by_itself : IsNeeded IsLegal → ⊥
nothing_by_itself need =
    need.unexplained (is_explained need.bounds need.events (by_itself need.bounds need.events need.run))

-- what is left by the tables' own rule
left_same : (h : History) (n : ℕ) → left_by leaves h n ≡ left h n
left_same [] n = refl
left_same (Took x ∷ h) n = rw (left_same h n) refl
left_same (Drawn seat m ∷ h) n = left_same h n
left_same (Began t ∷ h) n = left_same h n
left_same (Declared d ∷ h) n = left_same h n
left_same (Answered t o ∷ h) n = left_same h n
left_same (Stopped seat ∷ h) n = left_same h n

run_same : (bounds : List Key) (h : History) → IsRunBy leaves bounds h → IsLegalRun bounds h
run_same bounds [] run = tt
run_same bounds (Took x ∷ h) run = (
  run_same bounds h run.0,
  legally_taken record {
    allowed = run.1.allowed;
    holds = run.1.holds;
    loaded = run.1.loaded;
    answers = subst (λ r. Answers r x.loaded (last h) x.body x.answer) (left_same h x.region) run.1.answers;
  },
)
run_same bounds (Drawn seat n ∷ h) run = (run_same bounds h run.0, legal_next bounds h (Drawn seat n) run.1)
run_same bounds (Began t ∷ h) run = (run_same bounds h run.0, legal_next bounds h (Began t) run.1)
run_same bounds (Declared d ∷ h) run = (run_same bounds h run.0, legal_next bounds h (Declared d) run.1)
run_same bounds (Answered t o ∷ h) run = (run_same bounds h run.0, legal_next bounds h (Answered t o) run.1)
run_same bounds (Stopped seat ∷ h) run = (run_same bounds h run.0, tt)

pub nothing_by_leaves : IsFalseBy leaves → ⊥
nothing_by_leaves it = it.unexplained (is_explained it.bounds it.events (run_same it.bounds it.events it.run))

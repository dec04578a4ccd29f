-- Histories by which a rule is needed: where the event by it stands, and what nothing explains.
use Rattle.std.proofs.Common.{◌≡◌, ℕ, inl, inr, List, [], ◌∷◌, Some, refl}
use Rattle.tx_types.specs.declared.key.Key.{Key}
use Rattle.tx_types.specs.declared.value.Value.{Value}
use Rattle.tx_types.specs.declared.mutation.Mutation.TheVariants.{Put}
use Rattle.tx_types.specs.declared.mutation.Fate.TheVariants.{Committed, Aborted}
use Rattle.tx_plan.specs.declared.body.Body.{Body}
use Rattle.tx_plan.specs.declared.answer.Answer.{Answer}
use Rattle.tx_plan.specs.declared.answer.Answer.TheVariants as reply
use Rattle.tx_machine.specs.Keys.{mutation_at}
use Rattle.tx_machine.specs.Machine.{Done, Table}
use Rattle.tx_core.specs.declared.event.Event.{Event}
use Rattle.tx_core.specs.declared.event.Event.TheVariants.{Took, Answered}
use Rattle.tx_core.specs.declared.event.Outcome.TheVariants as outcome
use Rattle.tx_core.specs.Histories.{History, set_at}
use Rattle.tx_core.specs.Decisions.{decided}
use Rattle.tx_core.specs.Truth.{HasEnded, IsTrue}
use Rattle.tx_core.specs.Worlds.{IsWorldRun, MayCome}
use Rattle.tx_needed.specs.Needed.{IsRunBut, IsNeeded, IsExplained}
use Rattle.tx_needed.proofs.Unexplained.{tells_other, misses_put}
use Rattle.tx_needed.proofs.Words.{a, asks, took, gets, scans}

-- ---- what nothing explains

-- an answer tells that a transaction is aborted, which is committed
pub aborted : (h : History) (q : Body) (answer : Answer) (t c : ℕ) → decided (took q answer h) t ≡ Done (Committed c)
    → ((table : Table) → IsTrue table (Took (asks h q answer)) → HasEnded table t Aborted)
    → IsExplained (took q answer h) → ⊥
aborted h q answer t c is tells =
    tells_other h (Took (asks h q answer)) t (Committed c) Aborted is tells (λ e. (cc (e)))

-- a session answers that its transaction is committed, which is aborted
pub answers_committed : (h : History) (t c : ℕ) → decided h t ≡ Done Aborted
    → IsExplained (Answered t (outcome.Committed c) ∷ h) → ⊥
answers_committed h t c is =
    tells_other h (Answered t (outcome.Committed c)) t Aborted (Committed c) is (λ table true. true) (λ e. (cc (e)))

-- a get or a scan finds nothing where a value is committed at its timestamp
pub gets_none : (h : History) (k : Key) (r : ℕ) (bypass : List ℕ) (t : ℕ) (v : Value) → decided h t ≡ Done (Committed r)
    → mutation_at (set_at h t) k ≡ Some (Put v) → IsExplained (took (gets k r bypass) reply.Nothing h) → ⊥
gets_none h k r bypass t v is does =
    misses_put h (Took (asks h (gets k r bypass) reply.Nothing)) t r k v is does (λ table true. true.0)

pub scans_none : (h : History) (r : ℕ) (t : ℕ) (v : Value) → decided h t ≡ Done (Committed r)
    → mutation_at (set_at h t) a ≡ Some (Put v) → IsExplained (took (scans r) (reply.Rows []) h) → ⊥
scans_none h r t v is does =
    misses_put h (Took (asks h (scans r) (reply.Rows []))) t r a v is does (λ table true. true.0.each a refl)

-- ---- where the event by the rule stands

module _ {Rule : List Key → History → Event → Type 0} where
  -- it is the last one
  pub at_last : (h : History) (e : Event) → IsWorldRun [] h → Rule [] h e → (IsExplained (e ∷ h) → ⊥) → IsNeeded Rule
  at_last h e run by wrong = record { bounds = []; events = e ∷ h; run = inl (run, by); unexplained = wrong }

  -- it is the last one, and a request
  pub asked : (h : History) (q : Body) (answer : Answer) → IsWorldRun [] h → Rule [] h (Took (asks h q answer))
      → (IsExplained (took q answer h) → ⊥) → IsNeeded Rule
  asked h q answer = at_last h (Took (asks h q answer))

  -- one more event may come after it
  pub one_more : (h : History) (e f : Event) → IsWorldRun [] h → Rule [] h e → MayCome [] (e ∷ h) f
      → (IsExplained (f ∷ e ∷ h) → ⊥) → IsNeeded Rule
  one_more h e f run by next wrong =
      record { bounds = []; events = f ∷ e ∷ h; run = inr (inl (run, by), next); unexplained = wrong }

  -- it stands anywhere
  pub within : (h : History) → IsRunBut Rule [] h → (IsExplained h → ⊥) → IsNeeded Rule
  within h run wrong = record { bounds = []; events = h; run = run; unexplained = wrong }

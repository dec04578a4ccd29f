-- A region's cells depend on its own events alone, and what it or a session may answer stays so.
use Rattle.std.proofs.Common.{◌≡◌, ◌≢◌, ◌≤◌, ◌⊎◌, ℕ, max, inl, inr, List, [], ◌∷◌, Option, Some, None, refl, sym, ap, ◌∙◌, arith}
use Rattle.tx_types.specs.declared.key.Key.{Key}
use Rattle.tx_types.specs.declared.mutation.Fate.TheVariants as fate
use Rattle.tx_types.specs.declared.mutation.Change.{Change}
use Rattle.tx_plan.specs.declared.body.Body.{Body}
use Rattle.tx_plan.specs.declared.body.Body.TheVariants as body
use Rattle.tx_plan.specs.declared.body.Prewrite.{Prewrite}
use Rattle.tx_plan.specs.declared.answer.Answer.{Answer}
use Rattle.tx_plan.specs.Cells.{Cells, Region}
use Rattle.tx_plan.specs.Answers.{Answers, leaves}
use Rattle.tx_plan.specs.cases.Prewrite.{AnswersPrewrite, MayPromise}
use Rattle.tx_core.specs.declared.event.Outcome.{Outcome}
use Rattle.tx_core.specs.declared.event.Outcome.TheVariants as outcome
use Rattle.tx_core.specs.declared.event.Taken.{Taken}
use Rattle.tx_core.specs.declared.event.Event.{Event}
use Rattle.tx_core.specs.declared.event.Event.TheVariants.{Drawn, Began, Declared, Answered, Stopped, Took}
use Rattle.tx_core.specs.Histories.{History, declared, set_of, set_at, left, Begins}
use Rattle.tx_core.specs.Recording.{owner, Extends}
use Rattle.tx_core.specs.Decisions.{Acceptance, accepted, async_minimum, greater, greatest}
use Rattle.tx_core.specs.Worlds.{IsWorldRun, MayAnswer}
use Rattle.tx_core.proofs.Basics.{nat_test}
use Rattle.tx_core.proofs.seats.Beginnings.{other_on}
use Rattle.tx_core.proofs.seats.Stays.{set_on, accepted_on, told_on}

-- ---- regions

-- an event of another seat leaves a region as it was
left_next : (r : ℕ) (h : History) (e : Event) → owner h e ≢ Some r → left (e ∷ h) r ≡ left h r
left_next r h (Took x) other = elim (nat_test x.region r) [ inl y ↦ absurd (other (ap Some y.1)) | inr y ↦ rw y.0 refl ]
left_next r h (Drawn s n) other = refl
left_next r h (Began t) other = refl
left_next r h (Declared d) other = refl
left_next r h (Answered t o) other = refl
left_next r h (Stopped s) other = refl

pub left_on : (r : ℕ) (l h : History) → Extends r l h → left h r ≡ left l r
left_on r l h g = other_on r (λ x. left x r ≡ left l r) (λ x e other same. left_next r x e other ∙ same) l h g refl

-- what it takes then leaves what its answer leaves
pub left_took : (r : ℕ) (l h : History) (x : Taken) → x.region ≡ r → Extends r l h
    → left (Took x ∷ h) r ≡ leaves (left l r) x.body x.answer
left_took r l h x own g =
    elim (nat_test x.region r) [
      | inl y ↦ rw y.0 (ap (λ region. leaves region x.body x.answer) (left_on r l h g))
      | inr y ↦ absurd (y.1 own)
    ]

-- a row of a case table, where the later rows say more
later_row : {A B C D : Type 0} → (C → D) → A ⊎ (B × C) → A ⊎ (B × D)
later_row f (inl x) = inl x
later_row f (inr x) = inr (x.0, f x.1)

-- what a region may answer it may answer later: the bound of the free minimum only rises
promised_later : (P Q : ℕ → Type 0) → ((m : ℕ) → P m → Q m)
    → (cells : Cells) (safe loaded : ℕ) (b : Prewrite) (a : Answer) → AnswersPrewrite cells safe loaded P b a
    → AnswersPrewrite cells safe loaded Q b a
promised_later P Q more cells safe loaded b a answers =
    later_row (later_row (later_row
    (later_row (later_row
    (later_row (later_row
    (later_row (λ row. elim row [ inl x ↦ inl (x.0, (x.1.0, more x.1.0 x.1.1, x.1.2)) | inr x ↦ inr x ]))))))))
    answers

pub answers_later : (region : Region) (loaded top more : ℕ) → top ≤ more → (body : Body) (a : Answer)
    → Answers region loaded top body a → Answers region loaded more body a
answers_later region loaded top more le (body.Get b) a answers = answers
answers_later region loaded top more le (body.Scan b) a answers = answers
answers_later region loaded top more le (body.Prewrite b) a answers =
    promised_later (MayPromise region.max_read top b) (MayPromise region.max_read more b)
    (λ m promised. (promised.0, omega (arith, promised.1, le))) (region.cells b.key) region.safe loaded b a answers
answers_later region loaded top more le (body.Commit b) a answers = answers
answers_later region loaded top more le (body.BatchRollback b) a answers = answers
answers_later region loaded top more le (body.TxnHeartBeat b) a answers = answers
answers_later region loaded top more le (body.CheckTxnStatus b) a answers = answers
answers_later region loaded top more le (body.CheckSecondaryLocks b) a answers = answers
answers_later region loaded top more le (body.ResolveLock b) a answers = answers
answers_later region loaded top more le (body.RaiseSafe b) a answers = answers
answers_later region loaded top more le (body.LocksBelow b) a answers = answers
answers_later region loaded top more le (body.Collect b) a answers = answers

-- ---- sessions

-- the minimum of an acceptance that stands
minimum_stays : (o p : Option Acceptance) (c : ℕ) → ((by : Acceptance) → o ≡ Some by → p ≡ Some by)
    → async_minimum o ≡ Some c → async_minimum p ≡ Some c
minimum_stays None p c stays is = absurd (cc (is))
minimum_stays (Some by) p c stays is = ap async_minimum (stays by refl) ∙ is

greater_parts : (a b : Option ℕ) (c : ℕ) → greater a b ≡ Some c
    → (m : ℕ) × (n : ℕ) × (a ≡ Some m) × (b ≡ Some n) × (Some (max m n) ≡ Some c)
greater_parts None b c is = absurd (cc (is))
greater_parts (Some m) None c is = absurd (cc (is))
greater_parts (Some m) (Some n) c is = (m, n, refl, refl, is)

-- the greatest minimum of a set stands once each of its keys is accepted async
greatest_stays : (f g : Key → Option Acceptance) → ((k : Key) (by : Acceptance) → f k ≡ Some by → g k ≡ Some by)
    → (set : List Change) (c : ℕ) → greatest f set ≡ Some c → greatest g set ≡ Some c
greatest_stays f g stays [] c is = absurd (cc (is))
greatest_stays f g stays (x ∷ []) c is = minimum_stays (f x.key) (g x.key) c (stays x.key) is
greatest_stays f g stays (x ∷ y ∷ cs) c is =
    let parts = greater_parts (async_minimum (f x.key)) (greatest f (y ∷ cs)) c is in
    let one = minimum_stays (f x.key) (g x.key) parts.0 (stays x.key) parts.2 in
    let rest = greatest_stays f g stays (y ∷ cs) parts.1 parts.3 in
    (λ i. greater (one i) (rest i)) ∙ parts.4

-- a set with a greatest minimum was declared
greatest_declared : (l : History) (t c : ℕ) → greatest (accepted l t) (set_at l t) ≡ Some c → declared l t ≢ None
greatest_declared l t c is none =
    (let empty : greatest (accepted l t) (set_of None) ≡ Some c =
    ap (λ o. greatest (accepted l t) (set_of o)) (sym none) ∙ is in cc (empty))

-- a commit that a session may answer it may answer later
pub may_commit_on : (bounds : List Key) (l h : History) → IsWorldRun bounds h → Begins l h → (t c : ℕ)
    → MayAnswer l t (outcome.Committed c) → MayAnswer h t (outcome.Committed c)
may_commit_on bounds l h run b t c may =
    elim may [
      | inl told ↦ inl (told_on l h b t (fate.Committed c) told)
      | inr all ↦ inr (ap (greatest (accepted h t)) (set_on bounds l h run b t (greatest_declared l t c all))
          ∙ greatest_stays (accepted l t) (accepted h t) (accepted_on l h b t) (set_at l t) c all)
    ]

-- so it may every outcome, as long as nothing is declared since
pub may_answer_on : (bounds : List Key) (l h : History) → IsWorldRun bounds h → Begins l h → (t : ℕ) (o : Outcome)
    → (declared l t ≡ None → declared h t ≡ None) → MayAnswer l t o → MayAnswer h t o
may_answer_on bounds l h run b t (outcome.Committed c) still may = may_commit_on bounds l h run b t c may
may_answer_on bounds l h run b t outcome.Aborted still may = told_on l h b t fate.Aborted may
may_answer_on bounds l h run b t (outcome.Unknown cause) still may = tt
may_answer_on bounds l h run b t outcome.ReadOnly still may = still may

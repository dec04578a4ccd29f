-- A read that a history has finds the same in each later table.
use Rattle.std.proofs.Common.{◌≡◌, ℕ, ◌++◌, inl, inr, List, [], ◌∷◌, Option, Some, None, IsTrue, refl, sym, ap, subst, ◌∙◌, append_assoc}
use Rattle.tx_types.specs.declared.key.Key.{Key}
use Rattle.tx_types.specs.declared.value.Value.{Value}
use Rattle.tx_types.specs.declared.mutation.KeyValue.{KeyValue}
use Rattle.tx_types.specs.Keys.{value_in}
use Rattle.tx_plan.specs.declared.body.Body.{Body}
use Rattle.tx_plan.specs.declared.body.Body.TheVariants as body
use Rattle.tx_plan.specs.declared.body.Scan.{Scan}
use Rattle.tx_plan.specs.declared.answer.Answer.{Answer}
use Rattle.tx_plan.specs.declared.answer.Answer.TheVariants.{Found, Nothing, Rows}
use Rattle.tx_plan.specs.Answers.{start_in}
use Rattle.tx_machine.specs.declared.step.Step.{Step}
use Rattle.tx_machine.specs.declared.step.Step.TheVariants as step
use Rattle.tx_machine.specs.Machine.{Sees, SeesRows, IsRun, table_of}
use Rattle.tx_machine.proofs.Snapshots.{reads_stay, scans_stay}
use Rattle.tx_core.specs.declared.event.Taken.{Taken}
use Rattle.tx_core.specs.declared.event.Event.{Event}
use Rattle.tx_core.specs.declared.event.Event.TheVariants.{Drawn, Began, Declared, Answered, Stopped, Took}
use Rattle.tx_core.specs.Histories.{History, Among}
use Rattle.tx_core.specs.Decisions.{effect_in}
use Rattle.tx_core.specs.Shadow.{deciding_in, checking, answering, shadow}
use Rattle.tx_core.specs.EventSteps.{reading}
use Rattle.tx_core.specs.Truth.{scan_read}
use Rattle.tx_core.specs.Worlds.{IsWorldRun}
use Rattle.tx_core.proofs.runs.AllRuns.{shadow_runs}
use Rattle.tx_laws.specs.Told.{Says}

-- the steps of a read stand among those of a history
pub record Stands (read steps : List Step) : Type 0 where
  pub later : List Step
  pub before : List Step
  pub is : steps ≡ later ++ (read ++ before)

-- more steps come
stands_more : (read steps more : List Step) → Stands read steps → Stands read (more ++ steps)
stands_more read steps more s = record {
  later = more ++ s.later;
  before = s.before;
  is = ap (λ l. more ++ l) s.is ∙ sym (append_assoc more s.later (read ++ s.before));
}

stands_next : (read : List Step) (h : History) (e : Event) → Stands read (shadow h) → Stands read (shadow (e ∷ h))
stands_next read h (Drawn seat n) s = stands_more read (shadow h) (step.Draw n ∷ []) s
stands_next read h (Began t) s = stands_more read (shadow h) (step.Begin t ∷ []) s
stands_next read h (Declared d) s = stands_more read (shadow h) (step.Declare d.start d.changes ∷ []) s
stands_next read h (Answered t o) s = stands_more read (shadow h) (answering t o) s
stands_next read h (Stopped seat) s = s
stands_next read h (Took x) s =
    let first = stands_more read (shadow h) (reading x.body x.answer) s in
    let second = stands_more read (reading x.body x.answer ++ shadow h) (checking x.body (effect_in h x)) first in
    stands_more read (checking x.body (effect_in h x)
    ++ (reading x.body x.answer ++ shadow h)) (deciding_in h x (start_in x.body)) second

stands_now : (h : History) (x : Taken) → Stands (reading x.body x.answer) (shadow (Took x ∷ h))
stands_now h x = record {
  later = deciding_in h x (start_in x.body) ++ checking x.body (effect_in h x);
  before = shadow h;
  is = sym (append_assoc (deciding_in h x (start_in x.body)) (checking x.body (effect_in h x)) (reading x.body x.answer
      ++ shadow h));
}

stands : (h : History) (x : Taken) → Among h (Took x) → Stands (reading x.body x.answer) (shadow h)
stands [] x among = absurd among
stands (e ∷ h) x among = elim among [
  | inl now ↦ subst (λ y. Stands (reading x.body x.answer) (shadow (y ∷ h))) (sym now) (stands_now h x)
  | inr old ↦ stands_next (reading x.body x.answer) h e (stands h x old)
]

-- ---- what was read is seen

module _ (steps : List Step) (run : IsRun steps) where
  read_seen : (k : Key) (r : ℕ) (found : Option Value) → Stands (step.Read k r found ∷ []) steps
      → Sees (table_of steps).row k r found
  read_seen k r found s =
      subst (λ l. Sees (table_of l).row k r found) (sym s.is)
      (reads_stay s.later s.before k r found (subst IsRun s.is run))

  pub scan_seen : (b : Scan) (rows : List KeyValue) → Stands (step.Scan (scan_read b rows) ∷ []) steps
      → SeesRows (table_of steps).row (scan_read b rows)
  scan_seen b rows s = subst (λ l. SeesRows (table_of l).row (scan_read b rows)) (sym s.is)
      (scans_stay s.later s.before (scan_read b rows) (subst IsRun s.is run))

  module _ (k : Key) (r : ℕ) (found : Option Value) where
    moved : (j : Key) (q : ℕ) (o : Option Value) → j ≡ k → q ≡ r → o ≡ found → Sees (table_of steps).row j q o
        → Sees (table_of steps).row k r found
    moved j q o key at is sees =
        subst (Sees (table_of steps).row k r) is
        (subst (λ n. Sees (table_of steps).row k n o) at (subst (λ i. Sees (table_of steps).row i q o) key sees))

    says_seen : (b : Body) (a : Answer) → Stands (reading b a) steps → Says b a k r found
        → Sees (table_of steps).row k r found
    says_seen (body.Get b) (Found v) s (key, at, is) =
        moved b.key b.at (Some v) key at is (read_seen b.key b.at (Some v) s)
    says_seen (body.Get b) Nothing s (key, at, is) = moved b.key b.at None key at is (read_seen b.key b.at None s)
    says_seen (body.Get b) a s says = absurd says
    says_seen (body.Scan b) (Rows rows) s (inside, at, is) =
        moved k b.at (value_in rows k) refl at is ((scan_seen b rows s).each k inside)
    says_seen (body.Scan b) a s says = absurd says
    says_seen b a s says = absurd says

-- what an answer says of a key is what a read there sees in the table of the whole history
pub answer_seen : (bounds : List Key) (h : History) → IsWorldRun bounds h → (x : Taken) → Among h (Took x)
    → (k : Key) (r : ℕ) (found : Option Value) → Says x.body x.answer k r found
    → Sees (table_of (shadow h)).row k r found
answer_seen bounds h run x among k r found says =
    says_seen (shadow h) (shadow_runs bounds h run) k r found x.body x.answer (stands h x among) says

-- the rows of an answer are what a scan there sees
pub rows_seen : (bounds : List Key) (h : History) → IsWorldRun bounds h → (x : Taken) → Among h (Took x)
    → (b : Scan) (rows : List KeyValue) → x.body ≡ body.Scan b → x.answer ≡ Rows rows
    → SeesRows (table_of (shadow h)).row (scan_read b rows)
rows_seen bounds h run x among b rows asked told =
    scan_seen (shadow h) (shadow_runs bounds h run) b rows
    (subst (λ l. Stands l (shadow h)) (λ i. reading (asked i) (told i)) (stands h x among))

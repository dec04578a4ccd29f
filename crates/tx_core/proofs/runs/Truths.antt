-- Each answer of a legal run is true of the machine, and so is what is told of locks.
use Rattle.std.proofs.Common.{◌≡◌, ◌==◌, List, [], ◌∷◌, Some, sym, ap, subst, ◌∙◌}
use Rattle.std.specs.Prelude.{Contains}
use Rattle.tx_types.specs.declared.key.Key.{Key}
use Rattle.tx_types.specs.declared.lock.LockInfo.{LockInfo}
use Rattle.tx_core.specs.Decisions.{infos_in}
use Rattle.tx_plan.specs.Cells.{Region}
use Rattle.tx_plan.specs.Answers.{leaves}
use Rattle.tx_machine.specs.Machine.{table_of}
use Rattle.tx_core.specs.declared.event.Taken.{Taken}
use Rattle.tx_core.specs.declared.event.Event.{Event}
use Rattle.tx_core.specs.declared.event.Event.TheVariants.{Drawn, Began, Declared, Answered, Stopped, Took}
use Rattle.tx_core.specs.Histories.{History, last, left}
use Rattle.tx_core.specs.Worlds.{IsWorldRun}
use Rattle.tx_core.specs.Legal.{IsLegalRun}
use Rattle.tx_core.specs.Shadow.{shadow, AllTrue}
use Rattle.tx_core.specs.Truth.{IsToldLock, IsTrue}
use Rattle.tx_core.proofs.Basics.{nat_same, cond_true}
use Rattle.tx_core.proofs.view.HistoryView.{view}
use Rattle.tx_core.proofs.view.Tables.{stands_told}
use Rattle.tx_core.proofs.requests.Good.{cells_at}
use Rattle.tx_core.proofs.runs.AllRuns.{legal_told, next}
use Rattle.tx_core.proofs.runs.Legal.{legal_run}
use Rattle.tx_core.proofs.runs.Events.{true_outcome}
use Rattle.tx_core.proofs.locks.ToldLocks.{tells}

-- a lock that an answer shows stands after it
tells_locks : (bounds : List Key) (h : History) (x : Taken) → IsLegalRun bounds (Took x ∷ h)
    → (info : LockInfo) → Contains (infos_in x.answer) info → IsToldLock (table_of (shadow (Took x ∷ h))) info
tells_locks bounds h x run info told =
    let found = tells (left h x.region) x.loaded (last h) x.body x.answer run.1.answers info told in
    let after : left (Took x ∷ h) x.region ≡ leaves (left h x.region) x.body x.answer =
    cond_true (x.region == x.region) (leaves (left h x.region) x.body x.answer) (left h x.region) (nat_same x.region) in
    let stands : ((left (Took x ∷ h) x.region).cells info.key).lock ≡ Some found.0 =
    ap (λ (r : Region). (r.cells info.key).lock) after ∙ found.1 in
    let is = legal_told bounds (Took x ∷ h) run in
    let here : (cells_at bounds (Took x ∷ h) info.key).lock ≡ Some found.0 =
    subst (λ n. ((left (Took x ∷ h) n).cells info.key).lock ≡ Some found.0)
    (sym (is.1.routed x.region info.key found.0 stands)) stands in
    subst (IsToldLock (table_of (shadow (Took x ∷ h)))) (sym found.2)
    (stands_told (table_of (shadow (Took x ∷ h))) (view bounds (Took x ∷ h)) info.key found.0 is.0.sound.inv
    is.0.sound.shows here)

pub true_next : (bounds : List Key) (h : History) (e : Event) → IsLegalRun bounds (e ∷ h)
    → IsTrue (table_of (shadow (e ∷ h))) e
true_next bounds h (Took x) run =
    let before = legal_told bounds h run.0 in
    ((next bounds h before.0 before.1 x run.1).truth, tells_locks bounds h x run)
true_next bounds h (Answered t o) run = true_outcome bounds h (legal_told bounds h run.0).0 t o run.1.0 run.1.1
true_next bounds h (Drawn seat n) run = tt
true_next bounds h (Began t) run = tt
true_next bounds h (Declared d) run = tt
true_next bounds h (Stopped seat) run = tt

pub legal_true : (bounds : List Key) (h : History) → IsLegalRun bounds h → AllTrue h
legal_true bounds [] run = tt
legal_true bounds (e ∷ h) run = (legal_true bounds h run.0, true_next bounds h e run)

-- and so is each answer of a world run
pub all_true : (bounds : List Key) (h : History) → IsWorldRun bounds h → AllTrue h
all_true bounds h run = legal_true bounds h (legal_run bounds h run)

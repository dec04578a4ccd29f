-- By whom a read may pass: what it misses where it passes by others.
use Rattle.std.proofs.Common.{◌≡◌, ℕ, ◌<◌, inl, [], ◌∷◌, refl, arith}
use Rattle.tx_types.specs.declared.lock.LockInfo.{LockInfo}
use Rattle.tx_types.specs.declared.mutation.Mutation.TheVariants.{Put}
use Rattle.tx_types.specs.declared.mutation.Fate.TheVariants.{Committed}
use Rattle.tx_plan.specs.declared.answer.Answer.TheVariants as reply
use Rattle.tx_plan.specs.Cells.{info_of}
use Rattle.tx_plan.specs.cases.Prewrite.{lock_of}
use Rattle.tx_machine.specs.Machine.{Done}
use Rattle.tx_core.specs.declared.event.Declaration.{Declaration}
use Rattle.tx_core.specs.declared.event.Event.TheVariants.{Drawn}
use Rattle.tx_core.specs.Histories.{History}
use Rattle.tx_core.specs.Decisions.{decided}
use Rattle.tx_core.specs.Laws.{WasToldOf}
use Rattle.tx_core.specs.Worlds.{IsWorldRun}
use Rattle.tx_core.proofs.unique.KeyLists.{contains_first}
use Rattle.tx_needed.specs.Needed.{IsNeeded, Requests}
use Rattle.tx_needed.specs.Rules.{PassesCommitted, PassesShown, PassesUntold, PassesByOthers}
use Rattle.tx_needed.proofs.Words.{a, b, x, only, two_phase, async_a, begins, took, says, prewrites, gets}
use Rattle.tx_needed.proofs.Cells.{unwritten}
use Rattle.tx_needed.proofs.Tables.{comes, passed, locks_two_phase, reads_none, meets}
use Rattle.tx_needed.proofs.Comes.{begins_run, on_one_key, nobody, of_one, as_declared}
use Rattle.tx_needed.proofs.Needs.{asked, gets_none}
use Rattle.tx_needed.proofs.histories.OneKey.{committed_3, committed_3_run}

-- ---- a transaction that is committed at the timestamp of the read

abbrev drawn_3 : History
drawn_3 = Drawn 2 3 ∷ committed_3

drawn_3_run : IsWorldRun [] drawn_3
drawn_3_run = (committed_3_run, omega arith)

pub committed_above : IsNeeded (Requests PassesCommitted)
committed_above =
    asked drawn_3 (gets a 3 (1 ∷ [])) reply.Nothing drawn_3_run
    (reads_none (of_one (λ t. (c : ℕ) × (decided drawn_3 t ≡ Done (Committed c))) 1 (3, refl))
    (λ lock blocks. passed lock blocks refl) (λ v finds. (cc (finds.stands))) (omega arith) (omega arith))
    (gets_none drawn_3 a 3 (1 ∷ []) 1 x refl refl)

-- ---- one whose lock was shown, with a minimum at the timestamp of the read

abbrev met : History
met = took (gets a 3 []) (reply.KeyIsLocked (info_of a (lock_of (says async_a a (Put x)) 3))) drawn_3

pub shown_above : IsNeeded (Requests PassesShown)
shown_above =
    asked met (gets a 3 (1 ∷ [])) reply.Nothing
    (drawn_3_run, comes (meets _ (nobody _) refl tt (omega arith) (omega arith) (omega arith)))
    (reads_none (of_one (λ t. (info : LockInfo) × WasToldOf met info × (info.start ≡ t)) 1
    (_, record { by = _; among = inl refl; told = contains_first _ [] }, refl))
    (λ lock blocks. passed lock blocks refl) (λ v finds. (cc (finds.stands))) (omega arith) (omega arith))
    (gets_none met a 3 (1 ∷ []) 1 x refl refl)

-- ---- one whose lock nobody told of

pub untold : IsNeeded (Requests PassesUntold)
untold =
    asked drawn_3 (gets a 3 (1 ∷ [])) reply.Nothing drawn_3_run
    (reads_none (of_one (λ t. (info : LockInfo) × (info.start ≡ t) × (3 < info.min)) 1
    (info_of a (lock_of (says async_a a (Put x)) 4), refl, omega arith))
    (λ lock blocks. passed lock blocks refl) (λ v finds. (cc (finds.stands))) (omega arith) (omega arith))
    (gets_none drawn_3 a 3 (1 ∷ []) 1 x refl refl)

-- ---- another one's lock was shown, with a minimum above the read

abbrev second : Declaration
second = two_phase 4 5 (only b (Put x))

abbrev begun_second : History
begun_second = begins 2 second committed_3

abbrev locked_b : History
locked_b = took (prewrites second b) (reply.Prewritten 0) begun_second

abbrev met_second : History
met_second = took (gets b 5 []) (reply.KeyIsLocked (info_of b (lock_of (says second b (Put x)) 0))) locked_b

met_second_run : IsWorldRun [] met_second
met_second_run = (
  (
    begins_run committed_3 2 second (on_one_key b (Put x) refl (omega arith) (omega arith) refl refl refl) []
        committed_3_run,
    comes (locks_two_phase (as_declared begun_second second b (Put x) refl refl) (unwritten refl (λ c. refl))
        (omega arith) (omega arith) refl),
  ),
  comes (meets _ (nobody _) refl tt (omega arith) (omega arith) (omega arith)),
)

pub shown_own : IsNeeded (Requests PassesByOthers)
shown_own =
    asked met_second (gets a 3 (1 ∷ [])) reply.Nothing met_second_run
    (reads_none (of_one (λ t. (info : LockInfo) × WasToldOf met_second info × (3 < info.min)) 1
    (_, record { by = _; among = inl refl; told = contains_first _ [] }, omega arith))
    (λ lock blocks. passed lock blocks refl) (λ v finds. (cc (finds.stands))) (omega arith) (omega arith))
    (gets_none met_second a 3 (1 ∷ []) 1 x refl refl)

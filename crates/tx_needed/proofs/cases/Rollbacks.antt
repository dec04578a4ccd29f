-- What may be rolled back or resolved, and when a rollback finds something else than a lock.
use Rattle.std.proofs.Common.{◌≡◌, ℕ, inl, inr, [], ◌∷◌, None, refl, arith}
use Rattle.tx_types.specs.declared.mutation.Mutation.TheVariants.{Put}
use Rattle.tx_types.specs.declared.mutation.Fate.TheVariants.{Aborted}
use Rattle.tx_plan.specs.declared.answer.Answer.TheVariants as reply
use Rattle.tx_core.specs.declared.event.Declaration.{Declaration}
use Rattle.tx_core.specs.declared.event.Event.TheVariants.{Drawn, Declared, Answered}
use Rattle.tx_core.specs.declared.event.Outcome.TheVariants as outcome
use Rattle.tx_core.specs.Histories.{History, left}
use Rattle.tx_core.specs.Worlds.{IsWorldRun}
use Rattle.tx_needed.specs.Needed.{IsNeeded, Requests}
use Rattle.tx_needed.specs.Rules.{RollsBackUndeclared, RollsBackAnyKey, RollsBackAsync, ChecksUndeclared, ResolvesBlindly}
use Rattle.tx_needed.specs.Forgets.{Forgets, IsBatchRollback, on_writes, no_commit, no_collection}
use Rattle.tx_needed.proofs.Words.{a, b, x, only, async, async_a, starts, took, prewrites, rolls_back, checks_secondary, resolves}
use Rattle.tx_needed.proofs.Cells.{by_time, unwritten}
use Rattle.tx_needed.proofs.Tables.{comes, takes, locks_async, rolls_lock, rolls_nothing, misses_nothing}
use Rattle.tx_needed.proofs.Comes.{as_declared, of_primary}
use Rattle.tx_needed.proofs.Needs.{asked, within, aborted, answers_committed}
use Rattle.tx_needed.proofs.histories.OneKey.{committed_3, committed_3_run}
use Rattle.tx_needed.proofs.histories.BothKeys.{two_phase_both, primary_3, primary_3_run}
use Rattle.tx_needed.proofs.histories.Collected.{locks_two, dropped_two, dropped_two_run, none_of_two}

-- ---- an async transaction, committed at 3, is rolled back, or resolved as aborted

pub of_async : IsNeeded (Requests RollsBackAsync)
of_async =
    asked committed_3 (rolls_back a 1) reply.RolledBack committed_3_run
    (rolls_lock _ (async_a, refl, refl) refl refl (omega arith))
    (aborted committed_3 (rolls_back a 1) reply.RolledBack 1 3 refl (λ table true. true.0))

pub resolved : IsNeeded (Requests ResolvesBlindly)
resolved =
    asked committed_3 (resolves a 1 Aborted) reply.Resolved committed_3_run
    (takes tt refl (inr (λ low. omega (arith, low), inl (_, record { stands = refl; own = refl }, refl))))
    (aborted committed_3 (resolves a 1 Aborted) reply.Resolved 1 3 refl (λ table true. true.0))

-- ---- the other key of a transaction whose primary is committed at 3

pub of_other_key : IsNeeded (Requests RollsBackAnyKey)
of_other_key =
    asked primary_3 (rolls_back b 1) reply.RolledBack primary_3_run
    (rolls_lock _ (a, of_primary two_phase_both refl refl refl) refl refl (omega arith))
    (aborted primary_3 (rolls_back b 1) reply.RolledBack 1 3 refl (λ table true. true.0))

-- ---- the primary itself, whose commit record is forgotten

pub committed : IsNeeded (Forgets IsBatchRollback (on_writes no_commit))
committed =
    asked primary_3 (rolls_back a 1) reply.RolledBack primary_3_run
    (rolls_nothing (tt, of_primary two_phase_both refl refl refl) refl forgotten (omega arith))
    (aborted primary_3 (rolls_back a 1) reply.RolledBack 1 3 refl (λ table true. true.0))
  where
    forgotten : (q : ℕ) → no_commit (((left primary_3 0).cells a).write q) ≡ None
    forgotten = by_time (λ q. no_commit (((left primary_3 0).cells a).write q) ≡ None) 3 refl (λ q e. rw e refl)

-- ---- one whose commit record was collected

pub collected : IsNeeded (Forgets IsBatchRollback no_collection)
collected =
    asked dropped_two (rolls_back a 1) reply.RolledBack dropped_two_run
    (rolls_nothing (tt, of_primary locks_two refl refl refl) refl none_of_two (omega arith))
    (aborted dropped_two (rolls_back a 1) reply.RolledBack 1 3 refl (λ table true. true.0))

-- ---- a transaction that has declared nothing yet: then it declares another key, and its session
-- ---- learns from the acceptance that it is committed

abbrev begun : History
begun = starts 1 1 []

begun_run : IsWorldRun [] begun
begun_run = ((tt, omega arith), ((λ e. (cc (e))), refl))

abbrev async_b : Declaration
async_b = async 1 2 (only b (Put x))

abbrev declared_b : History → History
declared_b h = Declared async_b ∷ Drawn 1 2 ∷ h

abbrev answered_b : History → History
answered_b h = Answered 1 (outcome.Committed 3) ∷ took (prewrites async_b b) (reply.Prewritten 3) (declared_b h)

abbrev rolled : History
rolled = took (rolls_back a 1) reply.RolledBack begun

pub undeclared : IsNeeded (Requests RollsBackUndeclared)
undeclared =
    within (answered_b rolled)
    (inr (
      inr (
        inr (
          inr (inl (begun_run, rolls_nothing refl refl (λ c. refl) (omega arith)), omega arith),
          record {
            begun = refl;
            unanswered = refl;
            once = refl;
            some = λ e. (cc (e));
            distinct = (refl, tt);
            drew = inl (refl, refl, refl);
          },
        ),
        comes (locks_async (as_declared (declared_b rolled) async_b b (Put x) refl refl) (unwritten refl (λ c. refl))
            (omega arith) (omega arith) refl refl (omega arith) (omega arith)),
      ),
      (refl, refl, inr refl),
    )) (answers_committed (took (prewrites async_b b) (reply.Prewritten 3) (declared_b rolled)) 1 3 refl)

-- the same by a check of a secondary lock
abbrev missed : History
missed = took (checks_secondary a 1) reply.Missing begun

pub unchecked : IsNeeded (Requests ChecksUndeclared)
unchecked =
    within (answered_b missed)
    (inr (
      inr (
        inr (
          inr (inl (begun_run, misses_nothing refl refl (λ c. refl) (omega arith)), omega arith),
          record {
            begun = refl;
            unanswered = refl;
            once = refl;
            some = λ e. (cc (e));
            distinct = (refl, tt);
            drew = inl (refl, refl, refl);
          },
        ),
        comes (locks_async (as_declared (declared_b missed) async_b b (Put x) refl refl) (unwritten refl (λ c. refl))
            (omega arith) (omega arith) refl refl (omega arith) (omega arith)),
      ),
      (refl, refl, inr refl),
    )) (answers_committed (took (prewrites async_b b) (reply.Prewritten 3) (declared_b missed)) 1 3 refl)

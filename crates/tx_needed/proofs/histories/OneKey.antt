-- One transaction on one key: async, where its lock commits it at 3, and in two phases.
use Rattle.std.proofs.Common.{inl, [], refl, arith}
use Rattle.tx_types.specs.declared.mutation.Mutation.TheVariants.{Put}
use Rattle.tx_plan.specs.declared.answer.Answer.TheVariants as reply
use Rattle.tx_core.specs.Histories.{History}
use Rattle.tx_core.specs.Worlds.{IsWorldRun}
use Rattle.tx_needed.proofs.Words.{a, x, async_a, two_phase_a, begins, took, prewrites, commits}
use Rattle.tx_needed.proofs.Cells.{unwritten}
use Rattle.tx_needed.proofs.Tables.{comes, locks_async, locks_two_phase, commits_lock}
use Rattle.tx_needed.proofs.Comes.{MayBegin, begins_run, on_one_key, as_declared}

-- ---- async

pub begins_async : MayBegin [] 1 async_a
begins_async = on_one_key a (Put x) refl (omega arith) (omega arith) refl refl refl

abbrev pub declared_async : History
declared_async = begins 1 async_a []

pub declared_async_run : IsWorldRun [] declared_async
declared_async_run = begins_run [] 1 async_a begins_async [] tt

-- its lock is put with the minimum 3, which commits it there
abbrev pub committed_3 : History
committed_3 = took (prewrites async_a a) (reply.Prewritten 3) declared_async

pub committed_3_run : IsWorldRun [] committed_3
committed_3_run = (
  declared_async_run,
  comes (locks_async (as_declared declared_async async_a a (Put x) refl refl) (unwritten refl (λ c. refl)) (omega arith)
      (omega arith) refl refl (omega arith) (omega arith)),
)

-- the lock has become the commit record
abbrev pub settled : History
settled = took (commits a 1 3) (reply.Committed 3) committed_3

pub settled_run : IsWorldRun [] settled
settled_run = (committed_3_run, comes (commits_lock _ (inl refl) refl refl (omega arith) (omega arith) tt))

-- ---- in two phases

abbrev pub declared_two : History
declared_two = begins 1 two_phase_a []

pub declared_two_run : IsWorldRun [] declared_two
declared_two_run =
    begins_run [] 1 two_phase_a (on_one_key a (Put x) refl (omega arith) (omega arith) refl refl refl) [] tt

abbrev pub locked_two : History
locked_two = took (prewrites two_phase_a a) (reply.Prewritten 0) declared_two

pub locked_two_run : IsWorldRun [] locked_two
locked_two_run = (
  declared_two_run,
  comes (locks_two_phase (as_declared declared_two two_phase_a a (Put x) refl refl) (unwritten refl (λ c. refl))
      (omega arith) (omega arith) refl),
)

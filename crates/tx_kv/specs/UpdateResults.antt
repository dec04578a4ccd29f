-- What is told of an update, by how its last transaction ended.
use Rattle.std.specs.Prelude.{ℕ, Option, Some, None, Result, Ok, Err}
use Rattle.tx_core.specs.declared.event.Outcome.{Outcome}
use Rattle.tx_core.specs.declared.event.Outcome.TheVariants as outcome
use Rattle.tx_update.specs.declared.failure.Failure.{Failure}
use Rattle.tx_update.specs.declared.failure.Failure.TheVariants as failure
use Rattle.tx_update.specs.declared.stops.Stop.TheVariants.{RolledBack}
use Rattle.tx_kv.specs.declared.updated.Updated.{Updated}
use Rattle.tx_kv.specs.declared.updated.NotUpdated.{NotUpdated}
use Rattle.tx_kv.specs.declared.updated.NotUpdated.TheVariants.{Own, Stopped, Unknown}

-- why it was without effect: its own refusal, or what stopped it
abbrev pub told_stop : {E : Type 0} → Option (Failure E) → NotUpdated E
told_stop (Some (failure.Own own)) = Own own
told_stop (Some (failure.Stopped stop)) = Stopped stop
told_stop None = Stopped RolledBack

-- a commit, with the value that the work answered
abbrev pub told_commit : {O E : Type 0} → ℕ → ℕ → ℕ → Option O → Result (Updated O) (NotUpdated E)
told_commit start at retries (Some value) =
    Ok record { start = start; commit = Some at; retries = retries; value = value }
told_commit start at retries None = Err (Unknown start)

-- nothing written: it went well where nothing stopped it
abbrev pub told_reads : {O E : Type 0} → ℕ → ℕ → Option O → Option (Failure E) → Result (Updated O) (NotUpdated E)
told_reads start retries (Some value) None =
    Ok record { start = start; commit = None; retries = retries; value = value }
told_reads start retries (Some value) (Some failure) = Err (told_stop (Some failure))
told_reads start retries None stop = Err (told_stop stop)

abbrev pub told_end : {O E : Type 0} → ℕ → Outcome → ℕ → Option O → Option (Failure E)
    → Result (Updated O) (NotUpdated E)
told_end start (outcome.Committed at) retries value stop = told_commit start at retries value
told_end start outcome.ReadOnly retries value stop = told_reads start retries value stop
told_end start outcome.Aborted retries value stop = Err (told_stop stop)
told_end start (outcome.Unknown why) retries value stop = Err (Unknown start)

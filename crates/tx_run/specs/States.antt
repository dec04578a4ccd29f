-- What is on its way in a job, and where its session stands.
use Rattle.std.specs.Prelude.{ℕ, Bool, true, false, Option, Some, None}
use Rattle.tx_client.specs.Calls.{Seated}
use Rattle.tx_journal.specs.Known.{Known}
use Rattle.tx_transfer.specs.TransferSteps.{Moving}
use Rattle.tx_run.specs.Played.{Where, at, moving, away, free, live}
use Rattle.tx_run.specs.declared.state.JobState.{JobState}
use Rattle.tx_run.specs.declared.state.JobState.TheVariants.{Free, Live, Transfer, Taken}

-- the number of the line of the transfer that is on its way, if one is
abbrev pub going_of : {F L M : Type 0} → JobState F L M → (M → ℕ) → Option ℕ
going_of (Free seat) number = None
going_of (Live session) number = None
going_of (Transfer transfer) number = Some (number transfer)
going_of Taken number = None

-- whether one is
abbrev pub is_transfer : {F L M : Type 0} → JobState F L M → Bool
is_transfer (Free seat) = false
is_transfer (Live session) = false
is_transfer (Transfer transfer) = true
is_transfer Taken = false

-- where its session stands
abbrev pub where_of : {L M : Type 0} → JobState Known L M → (L → Seated) → (M → Moving) → Where
where_of (Free seat) session moves = at (free seat)
where_of (Live s) session moves = at (live (session s))
where_of (Transfer transfer) session moves = moving (moves transfer)
where_of Taken session moves = away

-- Which key the request of a line is of.
use Rattle.std.specs.Prelude.{Option, None}
use Rattle.tx_types.specs.declared.key.Key.{Key}
use Rattle.tx_transaction.specs.Sessions.{SessionState}
use Rattle.tx_transaction.specs.Next.{due_key, primary_of}
use Rattle.tx_workload.specs.declared.session_line.LatchNeed.{LatchNeed}
use Rattle.tx_workload.specs.declared.session_line.LatchNeed.TheVariants.{Due, Primary}

-- the key that the request of a line is of, where it is of one: what is due of a phase, or the
-- primary
abbrev pub key_of : SessionState → LatchNeed → Option Key
key_of s (Due phase) = due_key s phase
key_of s Primary = primary_of s
key_of s _ = None

-- What a session does by a line that sends no call, where a lock that it met may be resolved.
use Rattle.std.specs.Prelude.{◌≡◌, ℕ, List, Option, Some, None, Result, Ok, Err}
use Rattle.tx_types.specs.declared.key.Key.{Key}
use Rattle.tx_types.specs.declared.fault.Cause.TheVariants.{Order}
use Rattle.tx_types.specs.declared.fault.Fault.{Fault}
use Rattle.tx_journal.specs.Known.{Known}
use Rattle.tx_client.specs.declared.resolved.Status.{Status}
use Rattle.tx_client.specs.declared.resolved.Status.TheVariants.{Waiting}
use Rattle.tx_client.specs.declared.resolved.WaitCause.TheVariants.{OutOfMemory}
use Rattle.tx_client.specs.Calls.{Seated}
use Rattle.tx_ops.specs.Acts.{Does}
use Rattle.tx_ops.specs.Calls.{Said}
use Rattle.tx_steps.specs.Steps.{Text}
use Rattle.tx_steps.specs.declared.op.Op.{Op}
use Rattle.tx_steps.specs.declared.op.Op.TheVariants as op
use Rattle.tx_reply.specs.declared.reply.ScriptReply.TheVariants as reply
use Rattle.tx_transfer.specs.Resolutions.{ResolvesMet}

-- what was found of the lock that a session met, where it met one; where memory was refused on the
-- way, it waits
abbrev pub found_of : Result (Option Status) Fault → Option Status
found_of (Ok found) = found
found_of (Err e) = Some (Waiting OutOfMemory)

-- what the line is told of that: a step that resolves is not allowed where no lock was met
abbrev pub status_said : Option Status → Said
status_said None = Err Order
status_said (Some status) = Ok (reply.Status status)

-- the lock that a session met is resolved, or memory was refused, and the session is as it was
abbrev pub ResolvesOr : List Key → Seated → Known → ℕ → Result (Option Status) Fault → Seated → Known → Type 0
ResolvesOr bounds old resolver now (Ok found) new after =
    ResolvesMet bounds old resolver old.state.met (Some now) found new after
ResolvesOr bounds old resolver now (Err e) new after = new ≡ old

-- the lock that a session met is resolved, which comes to what the line is told
abbrev pub ResolvesSo : List Key → Seated → Known → ℕ → Said → Seated → Known → Type 0
ResolvesSo bounds old resolver now said new after = (came : Result (Option Status) Fault)
    × (said ≡ status_said (found_of came)) × ResolvesOr bounds old resolver now came new after

-- What becomes of a session and of the seat that resolves for it, which acts only to resolve.
abbrev pub Acts : List Key → Op Text → Seated → Known → Said → Seated → Known → Type 0
Acts bounds (op.Resolve now) old resolver said new after = ResolvesSo bounds old resolver now said new after
Acts bounds what old resolver said new after = Does bounds what old said new × (after ≡ resolver)

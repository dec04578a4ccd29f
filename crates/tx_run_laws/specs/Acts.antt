-- What stands behind what a line of a live session is told, by the state that its session had.
use Rattle.std.specs.Prelude.{◌≡◌, ◌⊎◌, ℕ, false, List, Option, Some, None}
use Rattle.tx_types.specs.declared.key.Key.{Key}
use Rattle.tx_types.specs.declared.mutation.Mutation.{Mutation}
use Rattle.tx_types.specs.declared.mutation.Mutation.TheVariants as mutation
use Rattle.tx_types.specs.declared.mutation.KeyValue.{KeyValue}
use Rattle.tx_plan.specs.declared.body.Body.TheVariants as body
use Rattle.tx_plan.specs.declared.body.Scan.{Scan}
use Rattle.tx_plan.specs.declared.answer.Answer.{Answer}
use Rattle.tx_plan.specs.declared.answer.Answer.TheVariants as answer
use Rattle.tx_core.specs.Histories.{History}
use Rattle.tx_transaction.specs.declared.state.Due.{Due}
use Rattle.tx_transaction.specs.declared.state.Terms.{Terms}
use Rattle.tx_transaction.specs.Buffers.{Entries, buffered, inserted, locked, put_over, touched}
use Rattle.tx_transaction.specs.Sessions.{SessionState, declaration, due_abort, due_commit, due_prewrite, exceeds, heartbeat_of, read_of}
use Rattle.tx_client.specs.Calls.{RecordsDeclared, Seated, seated}
use Rattle.tx_client.specs.Facts.{WasAnswered}
use Rattle.tx_evidence.specs.Tells.{AllScanned, joined}
use Rattle.tx_steps.specs.Steps.{Text}
use Rattle.tx_steps.specs.declared.call.Call.{Call}
use Rattle.tx_steps.specs.declared.call.Call.TheVariants as call
use Rattle.tx_steps.specs.declared.op.Op.{Op}
use Rattle.tx_steps.specs.declared.op.Op.TheVariants as op

-- another buffer takes the place of a session's, and nothing else changes
abbrev pub Enters : Seated → Entries → Seated → Type 0
Enters s es t = t ≡ seated (record s.state { buffer = es }) s.seat

-- the buffer is declared under these terms, as it is
abbrev pub IsDeclared : List Key → Seated → Terms → Seated → Type 0
IsDeclared bounds s terms t = (exceeds s.state.buffer terms ≡ false)
    × (t.state ≡ record s.state { declared = Some terms; placed = t.state.placed })
    × RecordsDeclared bounds s.seat (declaration s.state.start t.state.placed s.state.buffer terms) t.seat

-- an act of a live session was done
abbrev pub IsDone : List Key → Op Text → Seated → Seated → Type 0
IsDone bounds (op.Put key value) s t =
    Enters s (touched s.state.buffer key (put_over (buffered s.state.buffer key) value)) t
IsDone bounds (op.Insert key value) s t =
    (es : Entries) × (inserted s.state.buffer key value ≡ Some es) × Enters s es t
IsDone bounds (op.Delete key) s t = Enters s (touched s.state.buffer key mutation.Delete) t
IsDone bounds (op.Lock key) s t = Enters s (locked s.state.buffer key) t
IsDone bounds (op.Declare mode ttl max_commit) s t =
    IsDeclared bounds s (record { mode = mode; ttl = ttl; max_commit = max_commit }) t
IsDone bounds what s t = ⊥

-- what a buffer has of a key
abbrev pub IsBuffered : Option Mutation → Answer → Type 0
IsBuffered (Some (mutation.Put value)) a = a ≡ answer.Found value
IsBuffered (Some (mutation.Insert value)) a = a ≡ answer.Found value
IsBuffered (Some mutation.Delete) a = a ≡ answer.Nothing
IsBuffered entry a = ⊥

-- the request that was due was answered so
abbrev pub IsSent : History → Option Due → Answer → Type 0
IsSent h None a = ⊥
IsSent h (Some due) a = WasAnswered h due.body a

-- rows are those of scans at this timestamp, of one behind the other; any other answer was given to
-- such a scan
abbrev pub IsScanned : History → ℕ → Answer → Type 0
IsScanned h at (answer.Rows rows) = (parts : List (List KeyValue)) × (rows ≡ joined parts) × AllScanned h at parts
IsScanned h at a = (b : Scan) × (b.at ≡ at) × WasAnswered h (body.Scan b) a

-- An answer to a call is its buffer's, or a region's to just the request that the call sends in
-- this state: a get, and each part of a scan, at its session's start.
abbrev pub IsReplyTo : History → SessionState → Call Text → Answer → Type 0
IsReplyTo h s (call.Get key) a = IsBuffered (buffered s.buffer key) a ⊎ WasAnswered h (read_of s key) a
IsReplyTo h s (call.Scan from to limit) a = IsScanned h s.start a
IsReplyTo h s call.Prewrite a = IsSent h (due_prewrite s) a
IsReplyTo h s call.Commit a = IsSent h (due_commit s) a
IsReplyTo h s call.Abort a = IsSent h (due_abort s) a
IsReplyTo h s (call.Heartbeat ttl) a = WasAnswered h (heartbeat_of s ttl) a

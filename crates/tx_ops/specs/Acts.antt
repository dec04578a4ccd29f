-- What a session does by itself by a line, and what the line is told.
use Rattle.std.specs.Prelude.{◌≡◌, ◌<◌, ◌⊎◌, ℕ, Bool, true, false, List, Some, Ok, Err}
use Rattle.tx_types.specs.declared.key.Key.{Key}
use Rattle.tx_types.specs.declared.fault.Cause.TheVariants.{Order}
use Rattle.tx_transaction.specs.declared.state.Terms.{Terms}
use Rattle.tx_transaction.specs.Buffers.{not_empty}
use Rattle.tx_transaction.specs.Sessions.{is_declared, can_draw, exceeds, declaration}
use Rattle.tx_client.specs.Calls.{Seated, Draws, RecordsDeclared}
use Rattle.tx_steps.specs.Steps.{Text}
use Rattle.tx_steps.specs.declared.op.Op.{Op}
use Rattle.tx_steps.specs.declared.op.Op.TheVariants as op
use Rattle.tx_reply.specs.declared.reply.ScriptReply.TheVariants as reply
use Rattle.tx_ops.specs.Calls.{Said}
use Rattle.tx_ops.specs.Edits.{puts, inserts, deletes, locks, Edited}

-- a session that has declared may not do so again; of any other the buffer is fixed and recorded,
-- or it is refused and stays as it was
abbrev pub Declares : List Key → Bool → Seated → Terms → Said → Seated → Type 0
Declares bounds true old terms said new = (said ≡ Err Order) × (new ≡ old)
Declares bounds false old terms said new =
    ((said ≡ Ok reply.Fine) × (exceeds old.state.buffer terms ≡ false)
    × (new.state ≡ record old.state { declared = Some terms; placed = new.state.placed })
    × RecordsDeclared bounds old.seat (declaration old.state.start new.state.placed old.state.buffer terms) new.seat
    × (not_empty old.state.buffer ≡ false → new.state.placed ≡ 0))
    ⊎ ((said ≡ Ok reply.TooManyKeys) × (exceeds old.state.buffer terms ≡ true) × (new ≡ old))
    ⊎ ((said ≡ Ok reply.OracleSpent) × (exceeds old.state.buffer terms ≡ false)
    × (not_empty old.state.buffer ≡ true) × (old.seat.ticks < 1) × (new ≡ old))

-- a session that may draw its commit timestamp does so, unless its ticks are spent
abbrev pub DrawsIf : List Key → Bool → Seated → Said → Seated → Type 0
DrawsIf bounds false old said new = (said ≡ Err Order) × (new ≡ old)
DrawsIf bounds true old said new =
    ((c : ℕ) × (said ≡ Ok (reply.Drawn c)) × (new.state ≡ record old.state { drawn = Some c })
    × Draws bounds old.seat c new.seat)
    ⊎ ((said ≡ Ok reply.OracleSpent) × (old.seat.ticks < 1) × (new ≡ old))

-- What a session does by itself before it ends. How it ends, and what it resolves, is no line of
-- these.
abbrev pub Does : List Key → Op Text → Seated → Said → Seated → Type 0
Does bounds (op.Put key value) old said new = Edited (λ refused s. puts refused s key value) said old new
Does bounds (op.Insert key value) old said new = Edited (λ refused s. inserts refused s key value) said old new
Does bounds (op.Delete key) old said new = Edited (λ refused s. deletes refused s key) said old new
Does bounds (op.Lock key) old said new = Edited (λ refused s. locks refused s key) said old new
Does bounds (op.Declare mode ttl max_commit) old said new =
    Declares bounds (is_declared old.state) old (record { mode = mode; ttl = ttl; max_commit = max_commit }) said new
Does bounds op.Draw old said new = DrawsIf bounds (can_draw old.state) old said new
Does bounds _ old said new = (said ≡ Err Order) × (new ≡ old)

-- What a trace keeps, as callers see it.
use Rattle.std.specs.Prelude.{ℕ, List, ◌∷◌, map, reverse, Option, Some, None, IfSome, option_map}
use Rattle.std.specs.BTreeMap as tree
use Rattle.std.specs.List.{list_any}
use Rattle.std.specs.Map.{lookup}
use Rattle.std.specs.Ordering.{nat_cmp}
use Rattle.tx_types.specs.declared.key.Key.{Key}
use Rattle.tx_machine.specs.declared.step.Step.{Step}
use Rattle.tx_core.specs.declared.event.Event.{Event}
use Rattle.tx_core.specs.Histories.{History}
use Rattle.tx_core.specs.Worlds.{IsWorldRun}
use Rattle.tx_trace.specs.declared.pending.Pending.{Pending}
use Rattle.tx_trace.specs.declared.pending.Pending.TheVariants as pending
use Rattle.tx_trace.specs.declared.log.TraceLog.{TraceLog}
use Rattle.tx_trace.specs.declared.taken_log.TakenLog.{TakenLog}
use Rattle.tx_trace.specs.Takings.{AreTakings}
use Rattle.tx_trace.specs.Pending.{PendingByStart}
use Rattle.tx_trace.specs.Logs.{Follows, Checked, Tracks, by_start}

-- what a transaction waits for: the keys that are left and the greatest minimum so far, or none
-- where it waits for its primary alone
abbrev pub Waits : Type 0
Waits = Option (List Key × ℕ)

-- the steps, newest first, by start what each transaction that is declared and not decided waits
-- for, which keys were checked, and what regions took, where that is kept
pub record Noted : Type 0 where
  pub steps : List Step
  pub waits : List (ℕ × Waits)
  pub checked : List (ℕ × Key)
  pub taken : Option TakenLog

abbrev pub waits_of : Pending → Waits
waits_of pending.Primary = None
waits_of (pending.Locks locks) = Some (locks.left.keys, locks.min)

abbrev pub pending_of : Waits → Pending
pending_of None = pending.Primary
pending_of (Some x) = pending.Locks (record { left = record { keys = x.0 }; min = x.1 })

-- what a log has, and what was taken
abbrev pub noted : TraceLog → Option TakenLog → Noted
noted log taken = record {
  steps = reverse log.steps.items;
  waits = map (λ e. (e.0, waits_of e.1)) log.pending.entries;
  checked = log.checked.keys;
  taken = taken;
}

-- what each transaction waits for
abbrev pub kept_of : List (ℕ × Waits) → PendingByStart
kept_of waits t = option_map pending_of (lookup (tree.is_at (nat_cmp t)) waits)

-- which keys were checked
abbrev pub checked_of : List (ℕ × Key) → Checked
checked_of pairs t k = list_any (tree.is_at (by_start (t, k))) pairs

-- A trace of a history has just the steps of the machine that are read off it, each transaction
-- stands as it does there, the inserts that were accepted were checked, and what it has of what
-- regions took is all of that.
abbrev pub Traces : History → Noted → Type 0
Traces h n = Follows h n.steps (kept_of n.waits) × Tracks h (checked_of n.checked) × IfSome n.taken (AreTakings h)

-- The trace goes on with an event: of whatever run it was, it is then of that run with the event.
abbrev pub Adds : Noted → Event → Noted → Type 0
Adds old e new = (bounds : List Key) (h : History) → IsWorldRun bounds (e ∷ h) → Traces h old → Traces (e ∷ h) new

-- the trace is of the histories that it was of
abbrev pub Stays : Noted → Noted → Type 0
Stays old new = (h : History) → Traces h old → Traces h new

-- The steps that a line can say: texts are UTF-8, and each number is within its range.
use Rattle.std.specs.Prelude.{◌≡◌, ◌≢◌, ℕ, ◌≤◌, ◌<◌, ◌^◌, List, All, length, true, Option, Some, None, IsUtf8}
use Rattle.tx_types.specs.declared.limits.TheConstants.{MAX_TTL, MAX_TICK, MAX_SCAN_ROWS}
use Rattle.tx_types.specs.declared.mutation.Mode.{Mode}
use Rattle.tx_types.specs.declared.mutation.Mode.TheVariants.{TwoPhase, Async}
use Rattle.tx_types.specs.Lengths.{is_key}
use Rattle.tx_steps.specs.declared.transfer.TheConstants.{MAX_AMOUNT}
use Rattle.tx_steps.specs.declared.transfer.Transfer.{Transfer}
use Rattle.tx_steps.specs.declared.delivery.Delivery.{Delivery}
use Rattle.tx_steps.specs.declared.delivery.Delivery.TheVariants as delivery
use Rattle.tx_steps.specs.declared.call.Call.{Call}
use Rattle.tx_steps.specs.declared.call.Call.TheVariants as call
use Rattle.tx_steps.specs.declared.op.Op.{Op}
use Rattle.tx_steps.specs.declared.op.Op.TheVariants as op
use Rattle.tx_steps.specs.declared.step.Step.{Step}
use Rattle.tx_steps.specs.declared.step.Step.TheVariants as step
use Rattle.tx_steps.specs.Bounds.{are_rising, is_count}
use Rattle.tx_steps.specs.Steps.{Text}

-- a number of 64 bits
abbrev pub IsWhole : ℕ → Type 0
IsWhole n = n < 2 ^ 64

-- only an async commit has a greatest timestamp
abbrev pub IsBound : Mode → Option ℕ → Type 0
IsBound mode None = Unit {0}
IsBound TwoPhase (Some most) = ⊥
IsBound Async (Some most) = IsWhole most

-- what a session can be told to do by itself
abbrev pub IsOp : Op Text → Type 0
IsOp (op.Put key value) = IsUtf8 key × IsUtf8 value
IsOp (op.Insert key value) = IsUtf8 key × IsUtf8 value
IsOp (op.Delete key) = IsUtf8 key
IsOp (op.Lock key) = IsUtf8 key
IsOp (op.Declare mode ttl most) = (ttl ≤ MAX_TTL) × IsBound mode most
IsOp op.Draw = Unit {0}
IsOp op.Finish = Unit {0}
IsOp op.Stop = Unit {0}
IsOp (op.Resolve now) = IsWhole now

-- what a session can be told to send
abbrev pub IsCall : Call Text → Type 0
IsCall (call.Get key) = IsUtf8 key
IsCall (call.Scan from to limit) = IsUtf8 from × IsUtf8 to × (1 ≤ limit) × (limit ≤ MAX_SCAN_ROWS)
IsCall call.Prewrite = Unit {0}
IsCall call.Commit = Unit {0}
IsCall call.Abort = Unit {0}
IsCall (call.Heartbeat ttl) = ttl ≤ MAX_TTL

-- what can become of a request
abbrev pub IsDelivery : Delivery Text → Type 0
IsDelivery (delivery.Held name) = IsUtf8 name
IsDelivery _ = Unit {0}

-- what can be moved: the keys differ
abbrev pub IsTransfer : Transfer Text → Type 0
IsTransfer what = IsUtf8 what.from × IsUtf8 what.to × (what.from ≢ what.to) × (1 ≤ what.amount)
    × (what.amount ≤ MAX_AMOUNT)

-- a line can say the step
abbrev pub IsSayable : Step Text → Type 0
IsSayable (step.Begin name) = IsUtf8 name
IsSayable (step.Act name what) = IsUtf8 name × IsOp what
IsSayable (step.Send name what d) = IsUtf8 name × IsCall what × IsDelivery d
IsSayable (step.Deliver name) = IsUtf8 name
IsSayable (step.Read key at) = IsUtf8 key × IsWhole at
IsSayable (step.Versions key) = IsUtf8 key
IsSayable (step.Tick ticks) = (1 ≤ ticks) × (ticks ≤ MAX_TICK)
IsSayable (step.Gc safe) = IsWhole safe
IsSayable (step.Seed key value) = IsUtf8 key × IsUtf8 value
IsSayable (step.Transfer name what) = IsUtf8 name × IsTransfer what

-- line 1 can say these keys between the regions: few enough, each above the one before it, and each
-- a key of UTF-8
pub record AreBounds (keys : List Text) : Type 0 where
  pub few : is_count (length keys) ≡ true
  pub rising : are_rising keys ≡ true
  pub each : All (λ key. IsUtf8 key × (is_key key ≡ true)) keys

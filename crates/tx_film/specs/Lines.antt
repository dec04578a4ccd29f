-- The lines of a script, and the keys that steps name.
use Rattle.std.specs.Prelude.{◌≡◌, ◌≢◌, ◌≤◌, ℕ, List, true, All, length, Option, Some, None}
use Rattle.std.specs.Str.{is_utf8}
use Rattle.tx_types.specs.declared.key.Key.{Key}
use Rattle.tx_types.specs.declared.limits.TheConstants.{MAX_KEY_BYTES}
use Rattle.tx_steps.specs.declared.call.Call.TheVariants as call
use Rattle.tx_steps.specs.declared.op.Op.TheVariants as op
use Rattle.tx_steps.specs.declared.step.Step.{Step}
use Rattle.tx_steps.specs.declared.step.Step.TheVariants as step
use Rattle.tx_steps.specs.Steps.{Text}

-- the key that a step names
abbrev pub named_by : Step Text → Option Text
named_by (step.Act name (op.Put key value)) = Some key
named_by (step.Act name (op.Insert key value)) = Some key
named_by (step.Act name (op.Delete key)) = Some key
named_by (step.Act name (op.Lock key)) = Some key
named_by (step.Send name (call.Get key) delivery) = Some key
named_by (step.Read key at) = Some key
named_by (step.Versions key) = Some key
named_by _ = None

-- keys that lines can show: they are texts, and not too long
abbrev pub IsShowable : List Key → Type 0
IsShowable keys = All (λ (key : Key). (is_utf8 key ≡ true) × (length key ≤ MAX_KEY_BYTES)) keys

-- no line has a newline within
abbrev pub AreLines : List (List ℕ) → Type 0
AreLines lines = All (λ line. All (λ x. x ≢ 10) line) lines

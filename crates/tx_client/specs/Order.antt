-- The order of commits, as a session sees it.
use Rattle.std.specs.Prelude.{◌≡◌, ◌<◌, ℕ}
use Rattle.tx_types.specs.declared.mutation.Fate.TheVariants as fate
use Rattle.tx_machine.specs.Machine.{Done}
use Rattle.tx_core.specs.declared.event.Outcome.{Outcome}
use Rattle.tx_core.specs.declared.event.Outcome.TheVariants as outcome
use Rattle.tx_core.specs.Histories.{History}
use Rattle.tx_core.specs.Decisions.{decided}
use Rattle.tx_core.specs.Laws.{DecidedBefore}

-- in h the number p was drawn after each commit that is decided in what was known
abbrev pub IsDrawnAfter : History → History → ℕ → Type 0
IsDrawnAfter known h p = (u c : ℕ) → decided known u ≡ Done (fate.Committed c) → DecidedBefore h p u c

-- a commit lies above each that was decided in h when the number p was drawn
abbrev pub CommitsAbove : History → ℕ → Outcome → Type 0
CommitsAbove h p (outcome.Committed c) = (u d : ℕ) → DecidedBefore h p u d → d < c
CommitsAbove h p outcome.Aborted = Unit {0}
CommitsAbove h p (outcome.Unknown why) = Unit {0}
CommitsAbove h p outcome.ReadOnly = Unit {0}

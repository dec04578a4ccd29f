-- The limits of a script that is played.
use Rattle.std.specs.Prelude.{ℕ, ◌<◌, ◌≤◌, List, length}
use Rattle.tx_types.specs.declared.key.Key.{Key}
use Rattle.tx_types.specs.declared.limits.TheConstants.{MAX_REGIONS, MAX_LIVE_SESSIONS}
use Rattle.tx_types.specs.Keys.{AreRising}

-- the keys between its regions rise and are fewer than there may be regions, and it has no more
-- sessions than may live
abbrev pub IsWithin : List Key → ℕ → Type 0
IsWithin bounds sessions = AreRising bounds × (length bounds < MAX_REGIONS) × (sessions ≤ MAX_LIVE_SESSIONS)

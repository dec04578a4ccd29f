-- What is counted of the clients of a store, and up to where it may be collected.
use Rattle.std.specs.Prelude.{◌≡◌, ◌+◌, ◌-◌, ◌^◌, ℕ, min, Option, Some, None}
use Rattle.tx_kv.specs.declared.stats.Stats.{Stats}

-- a sum, as a counter of 64 bits has it
abbrev pub counted : ℕ → ℕ
counted n = min n (2 ^ 64 - 1)

-- The counters add up: the tries in vain are those of each reason, and all tries are those and the
-- last of each update.
abbrev pub AddsUp : Stats → Type 0
AddsUp s = (s.retries ≡ counted (counted (s.conflicts + s.waits) + s.others))
    × (s.tries ≡ counted (counted (counted (s.commits + s.reads) + s.refused) + s.retries))

-- the highest safe point that a collection may take, by the least timestamp at which a client reads
-- and the last one that was drawn
abbrev pub safe_upto : Option ℕ → ℕ → ℕ
safe_upto None last = last
safe_upto (Some oldest) last = min oldest last

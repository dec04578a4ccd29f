-- What a run collects.
use Rattle.std.specs.Prelude.{◌≡◌, ℕ, ◌-◌, nat_lt, Bool, true, false, List, Option, Some, None, Result, Ok, Err}
use Rattle.tx_types.specs.declared.key.Key.{Key}
use Rattle.tx_types.specs.declared.fault.Fault.{Fault}
use Rattle.tx_core.specs.Histories.{last}
use Rattle.tx_journal.specs.Known.{Known}
use Rattle.tx_resolve.specs.declared.collector.Counts.{Counts}
use Rattle.tx_resolve.specs.Collection.{gc_walk}
use Rattle.tx_transfer.specs.declared.collector.Collector.{Collector}
use Rattle.tx_transfer.specs.RequestCounts.{sum_of}
use Rattle.tx_transfer.specs.Sends.{SendsOver}
use Rattle.tx_transfer.specs.Resolutions.{HasLooked}

-- how many write records were dropped: none are told where the collection was refused
abbrev pub records_of : Result Counts Fault → ℕ
records_of (Ok counts) = counts.records
records_of (Err why) = 0

-- a seat sends just what collects at this safe point, which dropped so many write records
abbrev pub Collects : List Key → Known → ℕ → ℕ → Known → Type 0
Collects bounds old safe dropped new = (counts : Result Counts Fault)
    × SendsOver bounds old (gc_walk bounds safe) counts new × (dropped ≡ records_of counts)

-- whether the last timestamp that was drawn lies below what is due: it does, and all stays; or what
-- is as old as versions live is collected, and it is due again once they have lived as long
abbrev pub CollectsUnless : List Key → Collector → ℕ → Bool → Known → Collector → Known → Type 0
CollectsUnless bounds old life true seat new after = (new ≡ old) × (after ≡ seat)
CollectsUnless bounds old life false seat new after = (dropped : ℕ)
    × Collects bounds seat (last seat.events - life) dropped after
    × (new ≡ record old { due = sum_of (last seat.events) life; dropped = sum_of old.dropped dropped })

-- A collector that keeps all does nothing; any other looks at the last timestamp that was drawn.
abbrev pub CollectsBy : List Key → Collector → Option ℕ → Known → Collector → Known → Type 0
CollectsBy bounds old None seat new after = (new ≡ old) × (after ≡ seat)
CollectsBy bounds old (Some life) seat new after = (mid : Known) × HasLooked bounds seat mid
    × CollectsUnless bounds old life (nat_lt (last mid.events) old.due) mid new after

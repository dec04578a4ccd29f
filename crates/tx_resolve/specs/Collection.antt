-- What a collector sends, and what it counts.
use Rattle.std.specs.Prelude.{ℕ, zero, suc, ◌+◌, ◌-◌, ◌^◌, min, List, [], ◌∷◌, length, Result, Ok, Err}
use Rattle.tx_types.specs.declared.key.Key.{Key}
use Rattle.tx_types.specs.declared.lock.LockInfo.{LockInfo}
use Rattle.tx_types.specs.declared.fault.Fault.{Fault}
use Rattle.tx_types.specs.declared.fault.Fault.TheVariants as fault
use Rattle.tx_plan.specs.declared.body.Body.TheVariants as body
use Rattle.tx_plan.specs.declared.answer.Answer.TheVariants as answer
use Rattle.tx_transaction.specs.Returns.{Response}
use Rattle.tx_client.specs.Walks.{Walk, asks, ends, then_walk}
use Rattle.tx_resolve.specs.declared.findings.For.TheVariants.{Collector}
use Rattle.tx_resolve.specs.declared.collector.Counts.{Counts}
use Rattle.tx_resolve.specs.Resolution.{resolve_walk}

-- ---- one after another

-- what follows where nothing was refused
abbrev pub on_ok : {A B : Type 0} → (A → Walk (Result B Fault)) → Result A Fault → Walk (Result B Fault)
on_ok next (Ok a) = next a
on_ok next (Err why) = ends (Err why)

-- so many regions from the region n on, in order, each by what those before it came to,
-- until one refuses
abbrev pub in_regions : {A : Type 0} → (ℕ → A → Walk (Result A Fault)) → ℕ → ℕ → A → Walk (Result A Fault)
in_regions each zero n a = ends (Ok a)
in_regions each (suc count) n a = then_walk (each n a) (on_ok (in_regions each count (suc n)))

-- ---- one region: each answer of the case tables is handed on, and no answer is want of memory

abbrev pub raised_by : Response → Result (Unit {0}) Fault
raised_by (Ok answer.Raised) = Ok tt
raised_by (Ok (answer.BelowSafePoint safe)) = Err (fault.BelowSafePoint safe)
raised_by (Ok (answer.FutureTimestamp last)) = Err (fault.FutureTimestamp last)
raised_by _ = Err fault.OutOfMemory

abbrev pub listed_by : Response → Result (List LockInfo) Fault
listed_by (Ok (answer.Locks infos)) = Ok infos
listed_by _ = Err fault.OutOfMemory

-- the sums, as far as 64 bits hold them
abbrev pub added : Counts → Counts → Counts
added x y = record {
  records = min (x.records + y.records) (2 ^ 64 - 1);
  values = min (x.values + y.values) (2 ^ 64 - 1);
}

-- what was dropped is added to what was dropped before
abbrev pub dropped_by : Counts → Response → Result Counts Fault
dropped_by counts (Ok (answer.Collected records values)) =
    Ok (added counts (record { records = records; values = values }))
dropped_by counts (Ok (answer.BelowSafePoint safe)) = Err (fault.BelowSafePoint safe)
dropped_by counts _ = Err fault.OutOfMemory

abbrev pub collected_by : Counts → Response → Result Counts Fault
collected_by counts (Ok (answer.LocksRemain info)) = Err (fault.LocksRemain info)
collected_by counts c = dropped_by counts c

-- the safe point of a region rises
abbrev pub raise_walk : ℕ → ℕ → Walk (Result (Unit {0}) Fault)
raise_walk safe n = asks (body.RaiseSafe record { region = n; safe = safe }) (λ c. ends (raised_by c))

-- the locks of a region that started below the safe point are told
abbrev pub list_walk : ℕ → ℕ → Walk (Result (List LockInfo) Fault)
list_walk safe n = asks (body.LocksBelow record { region = n; safe = safe }) (λ c. ends (listed_by c))

-- each lock is resolved, whatever that comes to
abbrev pub locks_walk : List LockInfo → Walk (Result (Unit {0}) Fault)
locks_walk [] = ends (Ok tt)
locks_walk (info ∷ infos) = then_walk (resolve_walk info Collector) (λ status. locks_walk infos)

-- those of a region are
abbrev pub clear_walk : ℕ → ℕ → Walk (Result (Unit {0}) Fault)
clear_walk safe n = then_walk (list_walk safe n) (on_ok locks_walk)

-- a region collects
abbrev pub collect_walk : ℕ → ℕ → Counts → Walk (Result Counts Fault)
collect_walk safe n counts = asks (body.Collect record { region = n; safe = safe }) (λ c. ends (collected_by counts c))

-- ---- all regions

abbrev pub raises_walk : List Key → ℕ → Walk (Result (Unit {0}) Fault)
raises_walk bounds safe = in_regions (λ n u. raise_walk safe n) (length bounds + 1) 0 tt

abbrev pub clears_walk : List Key → ℕ → Walk (Result (Unit {0}) Fault)
clears_walk bounds safe = in_regions (λ n u. clear_walk safe n) (length bounds + 1) 0 tt

abbrev pub collects_walk : List Key → ℕ → Walk (Result Counts Fault)
collects_walk bounds safe = in_regions (collect_walk safe) (length bounds + 1) 0 (record { records = 0; values = 0 })

-- The safe point rises in each region; then in each the locks that started below it are resolved;
-- then each collects. The first refusal ends it.
abbrev pub gc_walk : List Key → ℕ → Walk (Result Counts Fault)
gc_walk bounds safe = then_walk (raises_walk bounds safe)
    (on_ok (λ u. then_walk (clears_walk bounds safe) (on_ok (λ v. collects_walk bounds safe))))

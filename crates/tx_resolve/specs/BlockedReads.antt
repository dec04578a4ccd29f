-- What a resolver sends for a lock that stopped a read.
use Rattle.std.specs.Prelude.{ℕ}
use Rattle.tx_types.specs.declared.lock.LockInfo.{LockInfo}
use Rattle.tx_client.specs.declared.resolved.Status.{Status}
use Rattle.tx_client.specs.Walks.{Walk}
use Rattle.tx_resolve.specs.declared.findings.For.TheVariants.{Reader}
use Rattle.tx_resolve.specs.Resolution.{resolve_walk}

-- the read is at a timestamp, and the time is handed in
abbrev pub read_walk : LockInfo → (at now : ℕ) → Walk Status
read_walk met at now = resolve_walk met (Reader at now)

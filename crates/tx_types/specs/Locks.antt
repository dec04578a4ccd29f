-- What is told of a lock.
use Rattle.std.specs.Prelude.{ℕ, List, []}
use Rattle.tx_types.specs.declared.key.Key.{Key}
use Rattle.tx_types.specs.declared.mutation.Mode.{Mode}
use Rattle.tx_types.specs.declared.mutation.Mode.TheVariants as mode
use Rattle.tx_types.specs.declared.lock.LockMode.{LockMode}
use Rattle.tx_types.specs.declared.lock.LockMode.TheVariants.{TwoPhase, Async}
use Rattle.tx_types.specs.declared.lock.LockRec.{LockRec}
use Rattle.tx_types.specs.declared.lock.LockInfo.{LockInfo}
use Rattle.tx_types.specs.Kinds.{stored_kind}

-- how a lock commits
abbrev pub mode_of : LockMode → Mode
mode_of TwoPhase = mode.TwoPhase
mode_of (Async others) = mode.Async

-- the minimum that counts of a lock of this mode, which has this one: 0 of a two-phase lock
abbrev pub async_min : Mode → ℕ → ℕ
async_min how min = elim how [ mode.TwoPhase ↦ 0 | mode.Async ↦ min ]

-- the other keys that a lock lists
abbrev pub secondaries_of : LockMode → List Key
secondaries_of TwoPhase = []
secondaries_of (Async others) = others

-- what is told of a lock that stands on a key
abbrev pub info_of : Key → LockRec → LockInfo
info_of key lock = record {
  key = key;
  start = lock.start;
  primary = lock.primary;
  min = lock.min;
  ttl = lock.ttl;
  kind = stored_kind lock.mutation;
  mode = mode_of lock.mode;
  secondaries = secondaries_of lock.mode;
}

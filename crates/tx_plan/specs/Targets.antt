-- What a request is of.
use Rattle.tx_types.specs.declared.key.Key.{Key as KeyOf}
use Rattle.tx_plan.specs.declared.body.Body.{Body}
use Rattle.tx_plan.specs.declared.body.Body.TheVariants.{Get, Scan, Prewrite, Commit, BatchRollback, TxnHeartBeat, CheckTxnStatus, CheckSecondaryLocks, ResolveLock, RaiseSafe, LocksBelow, Collect}
use Rattle.tx_plan.specs.declared.body.Scan.{Scan as ScanBody}
use Rattle.tx_plan.specs.declared.target.Target.{Target}
use Rattle.tx_plan.specs.declared.target.Target.TheVariants.{Key, Range, Region}

-- the key of a command, the range of a scan, or the region that a request names
abbrev pub target : Body → Target KeyOf ScanBody
target (Get b) = Key b.key
target (Scan b) = Range b
target (Prewrite b) = Key b.key
target (Commit b) = Key b.key
target (BatchRollback b) = Key b.key
target (TxnHeartBeat b) = Key b.key
target (CheckTxnStatus b) = Key b.key
target (CheckSecondaryLocks b) = Key b.key
target (ResolveLock b) = Key b.key
target (RaiseSafe b) = Region b.region
target (LocksBelow b) = Region b.region
target (Collect b) = Region b.region

-- the same, with its key or range in another form
abbrev pub by_parts : {A B C D : Type 0} → (A → C) → (B → D) → Target A B → Target C D
by_parts f g (Key k) = Key (f k)
by_parts f g (Range b) = Range (g b)
by_parts f g (Region n) = Region n

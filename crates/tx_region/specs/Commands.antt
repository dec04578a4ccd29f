-- Which command a request is of.
use Rattle.tx_plan.specs.declared.body.Body.{Body}
use Rattle.tx_plan.specs.declared.body.Body.TheVariants as body

abbrev pub IsGet : Body → Type 0
IsGet (body.Get b) = Unit {0}
IsGet _ = ⊥

abbrev pub IsScan : Body → Type 0
IsScan (body.Scan b) = Unit {0}
IsScan _ = ⊥

abbrev pub IsPrewrite : Body → Type 0
IsPrewrite (body.Prewrite b) = Unit {0}
IsPrewrite _ = ⊥

abbrev pub IsCommit : Body → Type 0
IsCommit (body.Commit b) = Unit {0}
IsCommit _ = ⊥

abbrev pub IsBatchRollback : Body → Type 0
IsBatchRollback (body.BatchRollback b) = Unit {0}
IsBatchRollback _ = ⊥

abbrev pub IsTxnHeartBeat : Body → Type 0
IsTxnHeartBeat (body.TxnHeartBeat b) = Unit {0}
IsTxnHeartBeat _ = ⊥

abbrev pub IsCheckTxnStatus : Body → Type 0
IsCheckTxnStatus (body.CheckTxnStatus b) = Unit {0}
IsCheckTxnStatus _ = ⊥

abbrev pub IsCheckSecondaryLocks : Body → Type 0
IsCheckSecondaryLocks (body.CheckSecondaryLocks b) = Unit {0}
IsCheckSecondaryLocks _ = ⊥

abbrev pub IsResolveLock : Body → Type 0
IsResolveLock (body.ResolveLock b) = Unit {0}
IsResolveLock _ = ⊥

abbrev pub IsRaiseSafe : Body → Type 0
IsRaiseSafe (body.RaiseSafe b) = Unit {0}
IsRaiseSafe _ = ⊥

abbrev pub IsLocksBelow : Body → Type 0
IsLocksBelow (body.LocksBelow b) = Unit {0}
IsLocksBelow _ = ⊥

abbrev pub IsCollect : Body → Type 0
IsCollect (body.Collect b) = Unit {0}
IsCollect _ = ⊥

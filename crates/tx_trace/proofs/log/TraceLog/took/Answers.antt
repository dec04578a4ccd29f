use Rattle.std.proofs.Common.{inl, inr, refl, subst, ◌∙◌}
use Rattle.std.specs.Prelude.{OnOk}
use Rattle.tx_plan.specs.declared.body.Body.TheVariants as body
use Rattle.tx_core.specs.Decisions.{fate_in}
use Rattle.tx_core.specs.EventSteps.{reading}
use Rattle.tx_trace.specs.Logs.{AddsSteps, TellsFate, Prewrites}
use Rattle.tx_trace.proofs.Requests.{on_ok, Follow, get_adds, scan_adds, prewrite_adds, commit_adds, rollback_adds, beat_adds, check_adds, secondary_adds, resolve_adds, region_adds}
use Rattle.tx_trace.proofs.log.TraceLog.took.Goals as goal

pub returns-in-Get-clause-ok : goal.returns-in-Get-clause-ok
returns-in-Get-clause-ok c =
    on_ok c.read.result (AddsSteps (reading (body.Get c.in-Get.body) c.args.answer.now) c.args.self.now c.read.new.self)
    (Follow c.args.self.now c.args.body.now c.args.answer.now c.read.new.self)
    (λ w x e f. get_adds c.args.self.now c.read.new.self c.in-Get.body c.args.answer.now w x (e ∙ c.in-Get.is) f)
    c.read.ensures.ok

pub returns-in-Scan-clause-ok : goal.returns-in-Scan-clause-ok
returns-in-Scan-clause-ok c =
    on_ok c.scan.result (AddsSteps (reading (body.Scan c.in-Scan.body) c.args.answer.now) c.args.self.now
    c.scan.new.self)
    (Follow c.args.self.now c.args.body.now c.args.answer.now c.scan.new.self)
    (λ w x e f. scan_adds c.args.self.now c.scan.new.self c.in-Scan.body c.args.answer.now w x (e ∙ c.in-Scan.is) f)
    (subst (λ b. OnOk c.scan.result
    (AddsSteps (reading (body.Scan b) c.args.answer.now) c.args.self.now c.scan.new.self))
    c.asked.ensures c.scan.ensures.ok)

pub returns-in-Prewrite-clause-ok : goal.returns-in-Prewrite-clause-ok
returns-in-Prewrite-clause-ok c =
    on_ok c.prewrite.result (Prewrites c.in-Prewrite.body c.args.answer.now c.args.self.now c.prewrite.new.self)
    (Follow c.args.self.now c.args.body.now c.args.answer.now c.prewrite.new.self)
    (λ w x e f. prewrite_adds c.args.self.now c.prewrite.new.self c.in-Prewrite.body c.args.answer.now w x (e
    ∙ c.in-Prewrite.is) f)
    (subst (λ b. OnOk c.prewrite.result (Prewrites b c.args.answer.now c.args.self.now c.prewrite.new.self))
    c.asked-in-Prewrite.ensures c.prewrite.ensures.ok)

pub returns-in-Commit-clause-ok : goal.returns-in-Commit-clause-ok
returns-in-Commit-clause-ok c =
    on_ok c.tell.result (TellsFate c.in-Commit.body.start (fate_in c.args.answer.now) c.args.self.now c.tell.new.self)
    (Follow c.args.self.now c.args.body.now c.args.answer.now c.tell.new.self)
    (λ w x e f. commit_adds c.args.self.now c.tell.new.self c.in-Commit.body c.args.answer.now w x (e
    ∙ c.in-Commit.is) f) c.tell.ensures.ok

pub returns-in-BatchRollback-clause-ok : goal.returns-in-BatchRollback-clause-ok
returns-in-BatchRollback-clause-ok c =
    on_ok c.tell-in-BatchRollback.result
    (TellsFate c.in-BatchRollback.body.start (fate_in c.args.answer.now) c.args.self.now
    c.tell-in-BatchRollback.new.self)
    (Follow c.args.self.now c.args.body.now c.args.answer.now c.tell-in-BatchRollback.new.self)
    (λ w x e f. rollback_adds c.args.self.now c.tell-in-BatchRollback.new.self c.in-BatchRollback.body c.args.answer.now
    w x (e ∙ c.in-BatchRollback.is) f) c.tell-in-BatchRollback.ensures.ok

pub returns-in-TxnHeartBeat-clause-ok : goal.returns-in-TxnHeartBeat-clause-ok
returns-in-TxnHeartBeat-clause-ok c =
    on_ok c.tell-in-TxnHeartBeat.result
    (TellsFate c.in-TxnHeartBeat.body.start (fate_in c.args.answer.now) c.args.self.now c.tell-in-TxnHeartBeat.new.self)
    (Follow c.args.self.now c.args.body.now c.args.answer.now c.tell-in-TxnHeartBeat.new.self)
    (λ w x e f. beat_adds c.args.self.now c.tell-in-TxnHeartBeat.new.self c.in-TxnHeartBeat.body c.args.answer.now w x
    (e ∙ c.in-TxnHeartBeat.is) f) c.tell-in-TxnHeartBeat.ensures.ok

pub returns-in-CheckTxnStatus-clause-ok : goal.returns-in-CheckTxnStatus-clause-ok
returns-in-CheckTxnStatus-clause-ok c =
    on_ok c.tell-in-CheckTxnStatus.result
    (TellsFate c.in-CheckTxnStatus.body.start (fate_in c.args.answer.now) c.args.self.now
    c.tell-in-CheckTxnStatus.new.self)
    (Follow c.args.self.now c.args.body.now c.args.answer.now c.tell-in-CheckTxnStatus.new.self)
    (λ w x e f. check_adds c.args.self.now c.tell-in-CheckTxnStatus.new.self c.in-CheckTxnStatus.body c.args.answer.now
    w x (e ∙ c.in-CheckTxnStatus.is) f) c.tell-in-CheckTxnStatus.ensures.ok

pub returns-in-CheckSecondaryLocks-clause-ok : goal.returns-in-CheckSecondaryLocks-clause-ok
returns-in-CheckSecondaryLocks-clause-ok c =
    on_ok c.tell-in-CheckSecondaryLocks.result
    (TellsFate c.in-CheckSecondaryLocks.body.start (fate_in c.args.answer.now) c.args.self.now
    c.tell-in-CheckSecondaryLocks.new.self)
    (Follow c.args.self.now c.args.body.now c.args.answer.now c.tell-in-CheckSecondaryLocks.new.self)
    (λ w x e f. secondary_adds c.args.self.now c.tell-in-CheckSecondaryLocks.new.self c.in-CheckSecondaryLocks.body
    c.args.answer.now w x (e ∙ c.in-CheckSecondaryLocks.is) f) c.tell-in-CheckSecondaryLocks.ensures.ok

pub returns-in-ResolveLock-clause-ok : goal.returns-in-ResolveLock-clause-ok
returns-in-ResolveLock-clause-ok c =
    on_ok c.tell-in-ResolveLock.result
    (TellsFate c.in-ResolveLock.body.start (fate_in c.args.answer.now) c.args.self.now c.tell-in-ResolveLock.new.self)
    (Follow c.args.self.now c.args.body.now c.args.answer.now c.tell-in-ResolveLock.new.self)
    (λ w x e f. resolve_adds c.args.self.now c.tell-in-ResolveLock.new.self c.in-ResolveLock.body c.args.answer.now w x
    (e ∙ c.in-ResolveLock.is) f) c.tell-in-ResolveLock.ensures.ok

pub returns-in-RaiseSafe-clause-ok : goal.returns-in-RaiseSafe-clause-ok
returns-in-RaiseSafe-clause-ok c x e f =
    elim c.in-RaiseSafe.is [
      | inl y ↦ region_adds c.args.self.now (body.RaiseSafe y.0) c.args.answer.now refl refl (λ z. refl) (λ b z. cc z) x
          (e ∙ y.1) f
      | inr rest ↦ elim rest [
        | inl y ↦ region_adds c.args.self.now (body.LocksBelow y.0) c.args.answer.now refl refl (λ z. refl)
            (λ b z. cc z) x (e ∙ y.1) f
        | inr y ↦ region_adds c.args.self.now (body.Collect y.0) c.args.answer.now refl refl (λ z. refl) (λ b z. cc z) x
            (e ∙ y.1) f
      ]
    ]

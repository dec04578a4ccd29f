use Rattle.std.proofs.Common.{◌≡◌, ℕ, Result, sym, ap, subst, ◌∙◌}
use Rattle.std.specs.Prelude.{OnOk}
use Rattle.tx_types.specs.declared.key.Key.{Key}
use Rattle.tx_plan.specs.declared.body.Body.{Body}
use Rattle.tx_plan.specs.Cells.{Cells}
use Rattle.tx_region.specs.declared.copy.KeyView.{KeyView}
use Rattle.tx_region.specs.Copies.{key_in, SeesTxn, Sees}
use Rattle.tx_region.specs.Regions.{region_of}
use Rattle.tx_region.proofs.records.Records.view_into.Goals as goal

-- what is seen of the key that was spelt is seen of the key of the body
module _ {A E : Type 0} (cells : Key → Cells) (r : Result A E) (v : KeyView) (key k : Key) (same : key ≡ k) where
  seen_txn : (start commit : ℕ) → OnOk r (SeesTxn (cells key) start commit v)
      → OnOk r (SeesTxn (cells k) start commit v)
  seen_txn start commit = subst (λ (j : Key). OnOk r (SeesTxn (cells j) start commit v)) same

  seen_resolve : (start commit t : ℕ) → commit ≡ t → OnOk r (SeesTxn (cells key) start commit v)
      → OnOk r (SeesTxn (cells k) start t v)
  seen_resolve start commit t is seen =
      subst (λ (m : ℕ). OnOk r (SeesTxn (cells k) start m v)) is (seen_txn start commit seen)

pub returns-in-Commit-clause-ok : goal.returns-in-Commit-clause-ok
returns-in-Commit-clause-ok g c =
    let cells = (region_of g.F.Holds.content c.args.self.now 0).cells in
    subst (λ (b : Body). OnOk c.txn_view_into.result (Sees cells b c.txn_view_into.new.place)) (sym c.in-Commit.is)
    (seen_txn cells c.txn_view_into.result
    c.txn_view_into.new.place c.args.key.now _ (c.requires.of ∙ ap key_in c.in-Commit.is) _ _
    c.txn_view_into.ensures.ok)

pub returns-in-BatchRollback-clause-ok : goal.returns-in-BatchRollback-clause-ok
returns-in-BatchRollback-clause-ok g c =
    let cells = (region_of g.F.Holds.content c.args.self.now 0).cells in
    subst (λ (b : Body). OnOk c.txn_view_into-in-BatchRollback.result
    (Sees cells b c.txn_view_into-in-BatchRollback.new.place)) (sym c.in-BatchRollback.is)
    (seen_txn cells c.txn_view_into-in-BatchRollback.result c.txn_view_into-in-BatchRollback.new.place
    c.args.key.now _ (c.requires.of ∙ ap key_in c.in-BatchRollback.is) _ _
    c.txn_view_into-in-BatchRollback.ensures.ok)

pub returns-in-TxnHeartBeat-clause-ok : goal.returns-in-TxnHeartBeat-clause-ok
returns-in-TxnHeartBeat-clause-ok g c =
    let cells = (region_of g.F.Holds.content c.args.self.now 0).cells in
    subst (λ (b : Body). OnOk c.txn_view_into-in-TxnHeartBeat.result
    (Sees cells b c.txn_view_into-in-TxnHeartBeat.new.place)) (sym c.in-TxnHeartBeat.is)
    (seen_txn cells c.txn_view_into-in-TxnHeartBeat.result c.txn_view_into-in-TxnHeartBeat.new.place
    c.args.key.now _ (c.requires.of ∙ ap key_in c.in-TxnHeartBeat.is) _ _
    c.txn_view_into-in-TxnHeartBeat.ensures.ok)

pub returns-in-CheckTxnStatus-clause-ok : goal.returns-in-CheckTxnStatus-clause-ok
returns-in-CheckTxnStatus-clause-ok g c =
    let cells = (region_of g.F.Holds.content c.args.self.now 0).cells in
    subst (λ (b : Body). OnOk c.txn_view_into-in-CheckTxnStatus.result
    (Sees cells b c.txn_view_into-in-CheckTxnStatus.new.place)) (sym c.in-CheckTxnStatus.is)
    (seen_txn cells c.txn_view_into-in-CheckTxnStatus.result c.txn_view_into-in-CheckTxnStatus.new.place
    c.args.key.now _ (c.requires.of ∙ ap key_in c.in-CheckTxnStatus.is) _ _
    c.txn_view_into-in-CheckTxnStatus.ensures.ok)

pub returns-in-CheckSecondaryLocks-clause-ok : goal.returns-in-CheckSecondaryLocks-clause-ok
returns-in-CheckSecondaryLocks-clause-ok g c =
    let cells = (region_of g.F.Holds.content c.args.self.now 0).cells in
    subst (λ (b : Body). OnOk c.txn_view_into-in-CheckSecondaryLocks.result
    (Sees cells b c.txn_view_into-in-CheckSecondaryLocks.new.place)) (sym c.in-CheckSecondaryLocks.is)
    (seen_txn cells c.txn_view_into-in-CheckSecondaryLocks.result c.txn_view_into-in-CheckSecondaryLocks.new.place
    c.args.key.now _ (c.requires.of ∙ ap key_in c.in-CheckSecondaryLocks.is) _ _
    c.txn_view_into-in-CheckSecondaryLocks.ensures.ok)

pub returns-in-ResolveLock-clause-ok : goal.returns-in-ResolveLock-clause-ok
returns-in-ResolveLock-clause-ok g c =
    let cells = (region_of g.F.Holds.content c.args.self.now 0).cells in
    subst (λ (b : Body). OnOk c.txn_view_into-in-ResolveLock.result
    (Sees cells b c.txn_view_into-in-ResolveLock.new.place)) (sym c.in-ResolveLock.is)
    (seen_resolve cells c.txn_view_into-in-ResolveLock.result c.txn_view_into-in-ResolveLock.new.place c.args.key.now _
    (c.requires.of ∙ ap key_in c.in-ResolveLock.is) _ _ _ c.commit.ensures
    c.txn_view_into-in-ResolveLock.ensures.ok)

-- One transaction more.
use Rattle.std.proofs.Common.{length, sym, ◌∙◌}
use Rattle.tx_recording.specs.Recordings.{ops_of}
use Rattle.tx_views.proofs.ValueOwners.{all_more}
use Rattle.tx_views.proofs.owner.owners.Goals as goal

pub loop-txn-preserved : goal.loop-txn-preserved
loop-txn-preserved c = record {
  each = c.in_default.ensures.each ∙ c.loop-txn.invariant.each;
  all = all_more c.args.recording.now c.loop-txn.table.items c.note.new.table.items c.loop-txn.txn
      c.loop-txn.invariant.all
      c.in_default.ensures.kept c.in_default.ensures.noted;
  early = c.in_default.ensures.early;
  only = c.in_default.ensures.only;
}

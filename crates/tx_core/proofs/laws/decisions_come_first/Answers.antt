use Rattle.tx_core.proofs.runs.CommitOrder.{decided_below, decided_in_order, reads_decided, answered_before}
use Rattle.tx_core.proofs.laws.decisions_come_first.Goals as goal

pub returns : goal.returns
returns c = record {
  starts = λ bounds h p u c run before. decided_below bounds h run p u c before;
  reads = reads_decided;
  commits = decided_in_order;
  answered = answered_before;
}

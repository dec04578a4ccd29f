use Rattle.tx_transaction.specs.Sessions.{sent_by}
use Rattle.tx_transaction.specs.Buffers.{progress_at}
use Rattle.tx_transaction.proofs.Entries.{few_with}
use Rattle.tx_transaction.proofs.transaction.Transaction.after_miss.Goals as goal

pub invariant_of-self : goal.invariant_of-self
invariant_of-self c = (
  few_with c.self.inside.buffer c.note_sent.new.buffer c.args.index
      (sent_by c.args.phase (progress_at c.self.inside.buffer c.args.index)) c.self.inside.declared c.self.invariant.0
      c.note_sent.ensures,
  c.self.invariant.1,
)

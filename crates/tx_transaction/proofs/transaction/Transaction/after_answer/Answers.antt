use Rattle.tx_transaction.specs.Sessions.{sent_by, marked_by}
use Rattle.tx_transaction.specs.Buffers.{progress_at}
use Rattle.tx_transaction.proofs.Entries.{few_with}
use Rattle.tx_transaction.proofs.transaction.Transaction.after_answer.Goals as goal

pub invariant_of-self : goal.invariant_of-self
invariant_of-self c = (
  few_with c.self.inside.buffer c.note.new.buffer c.args.index
      (marked_by c.args.phase c.args.answer.now (sent_by c.args.phase (progress_at c.self.inside.buffer c.args.index)))
      c.self.inside.declared c.self.invariant.0 c.note.ensures,
  c.self.invariant.1,
)

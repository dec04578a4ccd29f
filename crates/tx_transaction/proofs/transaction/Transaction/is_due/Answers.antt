use Rattle.std.proofs.Common.{◌≡◌, Option, Some, None, is_some, refl, ap, ◌∙◌}
use Rattle.tx_transaction.specs.declared.state.Due.{Due}
use Rattle.tx_transaction.specs.Next.{index_in, due}
use Rattle.tx_transaction.proofs.transaction.Transaction.is_due.Goals as goal

-- a request has an index
placed : (o : Option Due) → is_some (index_in o) ≡ is_some o
placed None = refl
placed (Some d) = refl

pub returns : goal.returns
returns c = c.is_some.ensures ∙ ap is_some c.due_index.ensures.index ∙ placed (due c.args.self.now c.args.phase)

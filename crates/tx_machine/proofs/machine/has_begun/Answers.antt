use Rattle.std.proofs.Common.{sym, ap, ◌∙◌, Some, Option}
use Rattle.tx_machine.specs.declared.machine.TxnStage.{TxnStage}
use Rattle.tx_machine.specs.Representation.{row_of}
use Rattle.tx_machine.proofs.machine.has_begun.Goals as goal

pub returns-in-Some-Declared-clause-some : goal.returns-in-Some-Declared-clause-some
returns-in-Some-Declared-clause-some c e = (
  Some c.in-Some-Declared.field-0-0,
  λ fate. ap (λ (s : Option TxnStage). row_of s fate) (sym c.in-Some-Declared.ensures.value
      ∙ ap (λ (s : TxnStage). Some s) c.in-Some-Declared.field-0-is),
)

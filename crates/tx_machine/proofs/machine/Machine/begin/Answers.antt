use Rattle.std.proofs.Common.{◌≡◌, sym, ap, ◌∙◌, refl, Some}
use Rattle.std.specs.Ordering.{nat_cmp}
use Rattle.std.specs.BTreeMap as tree
use Rattle.tx_machine.specs.declared.machine.TxnStage.{TxnStage}
use Rattle.tx_machine.specs.declared.machine.TxnStage.TheVariants.{Drawn, Begun}
use Rattle.tx_machine.proofs.Steps.{begins}
use Rattle.tx_machine.proofs.machine.Machine.begin.Goals as goal

pub returns-clause-ok : goal.returns-clause-ok
returns-clause-ok c table stands =
    let there : tree.get nat_cmp c.args.self.now.stages c.args.t ≡ Some Drawn =
    sym c.in-Some.ensures.value ∙ ap (λ (x : TxnStage). Some x) c.in-Drawn.is in
    begins _ _ _ _ _ table stands c.args.t there _ ((c.get_mut.follows.holds Begun).3 (rw there refl)).0

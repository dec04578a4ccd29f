use Rattle.std.proofs.Common.{arith}
use Rattle.std.specs.Ordering.{nat_cmp}
use Rattle.std.specs.BTreeMap as tree
use Rattle.tx_machine.proofs.ReadSteps.{shows_rows}
use Rattle.tx_machine.proofs.Reasons.{why_order}
use Rattle.tx_machine.proofs.machine.Machine.why_scan.Goals as goal

pub returns-in-Some-clause-ok : goal.returns-in-Some-clause-ok
returns-in-Some-clause-ok c =
    why_order c.args.self.now c.args.scan.now c.in-Some.key.now c.in_ok-order_reason.field-0 c.in-Some.ensures.some
    c.in_ok-order_reason.ensures.ok

pub returns-in-None-clause-ok : goal.returns-in-None-clause-ok
returns-in-None-clause-ok c table tells =
    let l = tells.last_is in (
      omega (arith, c.get.ensures, c.get-2.ensures, c.if-get.false),
      shows_rows c.args.self.now.last (tree.get nat_cmp c.args.self.now.stages) c.args.self.now.fates
          c.args.self.now.index c.args.self.now.reads table tells c.args.scan.now c.in-None.ensures.none,
    )

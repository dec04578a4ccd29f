use Rattle.std.proofs.Common.{arith}
use Rattle.std.specs.Ordering.{nat_cmp}
use Rattle.std.specs.BTreeMap as tree
use Rattle.tx_machine.proofs.Reasons.{why_reads, sees_value}
use Rattle.tx_machine.proofs.machine.Machine.why_read.Goals as goal

pub returns-then-is_same-clause-ok : goal.returns-then-is_same-clause-ok
returns-then-is_same-clause-ok c table tells =
    let l = tells.last_is in (
      omega (arith, c.get.ensures, c.get-2.ensures, c.if-get.false),
      sees_value c.args.self.now.last (tree.get nat_cmp c.args.self.now.stages) c.args.self.now.fates
          c.args.self.now.index c.args.self.now.reads table tells c.args.key.now c.args.at c.in_ok-seen.seen
          c.args.found.now c.in_ok-seen.ensures.ok (c.is_same.ensures.0 c.if-is_same.true),
    )

pub returns-clause-ok : goal.returns-clause-ok
returns-clause-ok c =
    why_reads c.args.self.now c.args.key.now c.args.at c.args.found.now _ c.in_ok-seen.seen c.in_ok-read_reason.field-0
    c.in_ok-seen.ensures.ok (λ e. cc (c.is_same.ensures.1 e, c.if-is_same.false)) c.as_ref.ensures.value
    c.in_ok-read_reason.ensures.ok

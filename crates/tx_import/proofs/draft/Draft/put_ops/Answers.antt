use Rattle.std.proofs.Common.{◌∙◌, ◌+◌, arith}
use Rattle.tx_import.proofs.Extensions.{draft_then, ops_more, lists_more}
use Rattle.tx_import.proofs.Weights.{weight_more, weight_part}
use Rattle.tx_import.proofs.draft.Draft.put_ops.Goals as goal

pub put_op-requires-clause-few : goal.put_op-requires-clause-few
put_op-requires-clause-few c =
    let said = c.args.said.now in
    let i = c.loop-op.op-index in
    let more = weight_more said i c.op-item.result c.loop-op-test.true c.op-item.is in
    let part = weight_part said (i + 1) in omega (arith, more, part, c.loop-op.invariant.3, c.requires.few)

pub loop-op-preserved : goal.loop-op-preserved
loop-op-preserved c =
    let start = c.args.self.now in
    let mid = c.loop-op.self in
    let new = c.put_op.new.self in
    let said = c.args.said.now in
    let i = c.loop-op.op-index in
    let before = c.loop-op.invariant in
    let is = c.in_ok-put_op.ensures in
    let more = weight_more said i c.op-item.result c.loop-op-test.true c.op-item.is in (
      ops_more start mid new said i c.op-item.result c.loop-op-test.true c.op-item.is is.grows before.0 is.said,
      draft_then start mid new before.1 is.grows,
      is.fits,
      omega (arith, before.3, is.held, more),
      is.same ∙ before.4,
      is.processes ∙ before.5,
      lists_more start.tables.lists.items mid.tables.lists.items new.tables.lists.items said i c.op-item.result
          c.loop-op-test.true c.op-item.is before.6 is.lists,
    )

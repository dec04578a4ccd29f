use Rattle.std.proofs.Common.{◌≡◌, ◌+◌, ◌<◌, false, true, arith}
use Rattle.tx_import.specs.Drafts.{weight, held}
use Rattle.tx_import.proofs.Weights.{weight_more, weight_part}
use Rattle.tx_import.proofs.draft.Draft.has_room.Goals as goal

pub returns-then-width-room : goal.returns-then-width-room
returns-then-width-room c =
    let said = c.args.said.now in
    let i = c.loop-op.op-index in
    let more = weight_more said i c.op-item.result c.loop-op-test.true c.op-item.is in
    let part = weight_part said (i + 1) in
    let none : false ≡ true → held c.args.self.now + weight said < 4294967296 = λ e. cc in (
      none,
      λ few. absurd (omega (arith, few, more, part, c.loop-op.invariant, c.if-width-room.true, c.width-width.ensures)),
    )

pub loop-op-preserved : goal.loop-op-preserved
loop-op-preserved c =
    let more = weight_more c.args.said.now c.loop-op.op-index c.op-item.result c.loop-op-test.true c.op-item.is in
    omega (arith, more, c.loop-op.invariant, c.if-width-room.false, c.width-width.ensures)

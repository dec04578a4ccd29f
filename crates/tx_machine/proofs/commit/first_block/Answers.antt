use Rattle.std.proofs.Common.{subst}
use Rattle.tx_types.specs.declared.mutation.Change.{Change}
use Rattle.tx_machine.specs.Representation.{IsFree}
use Rattle.tx_machine.proofs.Commits.{free_more}
use Rattle.tx_machine.proofs.commit.first_block.Goals as goal

pub loop-change-preserved : goal.loop-change-preserved
loop-change-preserved c ordered =
    let P : Change → Type 0 =
    λ change. IsFree c.args.index.now c.args.fates.now c.args.reads.now c.args.t c.args.c change in
    free_more P c.args.set.now c.loop-change.change-index c.change-item.result c.loop-change-test.true
    (c.loop-change.invariant ordered)
    (subst P c.change-item.is (c.in_default.ensures.free ordered))

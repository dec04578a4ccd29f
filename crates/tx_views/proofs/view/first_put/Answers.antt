-- One read more.
use Rattle.tx_recording.specs.Recordings.{no_op}
use Rattle.tx_views.proofs.Effects.{reads_more}
use Rattle.tx_views.proofs.view.first_put.Goals as goal

pub loop-i-preserved : goal.loop-i-preserved
loop-i-preserved c = reads_more c.args.ops.now c.loop-i.i no_op c.in-Read.field-0 c.loop-i-test.true c.in-Read.is
    c.loop-i.invariant

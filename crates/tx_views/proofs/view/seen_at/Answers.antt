-- The first operations that are reads leave what there is.
use Rattle.std.proofs.Common.{[], take, get_or}
use Rattle.tx_recording.specs.Recordings.{no_op}
use Rattle.tx_views.specs.Views.{IsSeen}
use Rattle.tx_views.proofs.ReadViews.{if_ok, seen_same}
use Rattle.tx_views.proofs.view.seen_at.Goals as goal

pub returns-then-place-reads : goal.returns-then-place-reads
returns-then-place-reads c =
    let r = c.args.recording.now in
    let os = c.args.ops.now in
    let p = c.args.place in
    let k = (get_or os p no_op).key in
    if_ok (IsSeen r [] k c.args.span) (IsSeen r (take p os) k c.args.span) c.seen_behind.result
    (λ s. seen_same r [] (take p os) k c.args.span s (λ xs. c.requires.reads p k xs c.if-place-reads.true))
    c.seen_behind.ensures

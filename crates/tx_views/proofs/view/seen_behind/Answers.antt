-- What is in front of the reader's own values.
use Rattle.std.proofs.Common.{◌-◌, length, refl, drop}
use Rattle.tx_views.proofs.ReadViews.{base_so}
use Rattle.tx_views.proofs.view.seen_behind.Goals as goal

pub returns : goal.returns
returns c =
    let list = c.list_of-list.result.now in
    let own = c.as_slice-own.result.now in
    let le = c.if-own-list.false in
    base_so c.args.recording.now c.args.ops.now c.args.key c.args.span c.in_ok-effect.effect own list
    (length list - length own)
    c.in_ok-effect.ensures c.if-effect.false c.as_slice-own.ensures.value c.list_of-list.ensures c.requires le refl
    (c.is_end.ensures.0 c.if-not-is_end.false)

-- The order at the place, over the stretches.
use Rattle.std.proofs.Common.{get_or, arith}
use Rattle.std.proofs.lemmas.Grind.{common_steps}
use Rattle.std.proofs.lemmas.List.Elements.{Contains-get_or}
use Rattle.tx_verdict.specs.Refutations.{no_order}
use Rattle.tx_verdict.proofs.ground.is_ordered.Goals as goal

pub returns : goal.returns
returns c is =
    let known = c.args.known.now in
    let o = get_or known c.args.place no_order in (
      o,
      Contains-get_or known c.args.place no_order (grind (arith, common_steps, c.if-place-known.false)),
      grind (arith, common_steps, c.if-order-key.false),
      c.in_ok-is_train.ensures c.if-not-branch.false,
      c.in_ok-behind.ensures is,
    )

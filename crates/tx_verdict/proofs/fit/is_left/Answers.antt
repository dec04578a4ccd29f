-- The values are the writer's own, or stand behind those before.
use Rattle.tx_verdict.proofs.Small.{left_anew}
use Rattle.tx_verdict.proofs.Texts.{left_behind}
use Rattle.std.proofs.Common.{◌∙◌}
use Rattle.tx_verdict.proofs.fit.is_left.Goals as goal

pub returns-then-starts_anew : goal.returns-then-starts_anew
returns-then-starts_anew c is =
    left_anew c.args.texts.now c.in-Some.text.now c.args.before c.args.span c.args.effect.now c.as_slice-own.result.now
    c.in-Some.ensures
    (c.starts_anew.ensures.yes c.if-starts_anew.true) (c.is_end.ensures.0 is) c.as_slice-own.ensures.value

pub returns : goal.returns
returns c is =
    left_behind c.args.texts.now c.in-Some.text.now c.args.before c.args.span c.args.effect.now c.in-Some.ensures
    (c.starts_anew.ensures.no c.if-starts_anew.false) c.if-before-span.false c.if-before-span-2.false
    (c.is_end-2.ensures.0 is ∙ c.as_slice-own.ensures.value)

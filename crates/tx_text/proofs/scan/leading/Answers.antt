use Rattle.std.proofs.Common.{drop, subst, sym}
use Rattle.tx_text.specs.Scan.{ReadParts}
use Rattle.tx_text.proofs.Leaves.{read_none, read_more, read_all}
use Rattle.tx_text.proofs.scan.leading.Goals as goal

pub parts-init : goal.parts-init
parts-init c =
    let left = drop c.in_ok-at.at c.args.line.now in (
      c.in_ok-at.ensures.range,
      subst (λ parts. ReadParts c.args.line.now parts left) (sym c.requires)
          (read_none c.args.line.now left c.in_ok-at.ensures.same),
    )

pub returns-then-is_over : goal.returns-then-is_over
returns-then-is_over c =
    rw c.push.ensures.items
    (read_all c.args.line.now c.parts.parts.items c.in-Some.part _ _ c.parts.invariant.1 c.in-Some.ensures.begins
    (c.is_over.ensures c.if-is_over.true))

pub parts-preserved : goal.parts-preserved
parts-preserved c =
    let left = drop c.in-Some-pass.next c.args.line.now in (
      c.in-Some-pass.ensures.range,
      subst (λ parts. ReadParts c.args.line.now parts left) (sym c.push.ensures.items)
          (read_more c.args.line.now c.parts.parts.items c.in-Some.part _ _ left c.parts.invariant.1
          c.in-Some.ensures.begins c.in-Some-pass.ensures.same),
    )

use Rattle.std.proofs.Common.{◌≡◌, ◌<◌, ◌+◌, ◌^◌, length, map, take, get_or, sym, ap, subst, ◌∙◌, arith}
use Rattle.std.proofs.lemmas.List.{length-map, length-take-le, get_or-map}
use Rattle.tx_workload.specs.Texts.{IsRoomy, counts_of, counted}
use Rattle.tx_workload.proofs.OutcomeCounts.{counted_more, roomy}
use Rattle.tx_workload.proofs.counts.counts_of.Goals as goal

pub add-requires : goal.add-requires
add-requires c =
    let i = c.loop-reply.reply-index in
    let lines = map (λ p. p.1.now) c.args.lines.now in
    let len = length-map c.args.lines.now (λ p. p.1.now) in
    let short = length-take-le i lines (omega (arith, len)) in
    subst IsRoomy (sym c.loop-reply.invariant) (roomy (take i lines) (omega (arith, short)))

pub loop-reply-preserved : goal.loop-reply-preserved
loop-reply-preserved c =
    let i = c.loop-reply.reply-index in
    let lines = map (λ p. p.1.now) c.args.lines.now in
    let d = c.loop-reply-item.result.1.now in
    let len = length-map c.args.lines.now (λ p. p.1.now) in
    let at : get_or lines i d ≡ d =
    get_or-map (λ p. p.1.now) c.args.lines.now i c.loop-reply-item.result d c.loop-reply-test.true
    ∙ ap (λ p. p.1.now) (sym c.loop-reply-item.is) in
    c.add.ensures ∙ ap (λ counts. counted counts d.answer) c.loop-reply.invariant
    ∙ ap (λ s. counted (counts_of (take i lines)) s.answer) (sym at)
    ∙ sym (counted_more lines i d (omega (arith, len)))

use Rattle.std.proofs.Common.{sym, ap, ◌∙◌, take, take_all}
use Rattle.std.specs.List.{fold}
use Rattle.std.proofs.lemmas.List.Sums.{fold_more}
use Rattle.tx_transfer.specs.declared.refusals.Refusals.{Refusals}
use Rattle.tx_workload.specs.declared.reply.LineReply.{LineReply}
use Rattle.tx_run.specs.Refusals.{with_line}
use Rattle.tx_run.proofs.refusals.and_lines.Goals as goal

pub loop-reply-preserved : goal.loop-reply-preserved
loop-reply-preserved c =
    let f = λ (r : Refusals) (s : LineReply). with_line r s.answer in
    let xs = c.args.lines.now in
    let i = c.loop-reply.reply-index in
    let d = c.reply-item.result in
    c.and_line-refusals.ensures ∙ ap (λ (r : Refusals). with_line r d.answer) c.loop-reply.invariant
    ∙ ap (λ (s : LineReply). with_line (fold f c.args.refusals (take i xs)) s.answer) c.reply-item.is
    ∙ sym (fold_more f c.args.refusals xs i d c.loop-reply-test.true)

pub returns : goal.returns
returns c =
    c.loop-reply.invariant
    ∙ ap (fold (λ (r : Refusals) (s : LineReply). with_line r s.answer) c.args.refusals)
    (take_all c.loop-reply.reply-index c.args.lines.now c.loop-reply-test.false)

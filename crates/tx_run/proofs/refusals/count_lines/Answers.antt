use Rattle.std.proofs.Common.{List, ◌++◌, sym, ap, ◌∙◌, take, take_all, arith}
use Rattle.std.specs.List.{fold}
use Rattle.std.proofs.lemmas.List.Sums.{fold-append}
use Rattle.tx_transfer.specs.declared.refusals.Refusals.{Refusals}
use Rattle.tx_workload.specs.declared.reply.LineReply.{LineReply}
use Rattle.tx_workload.specs.Replies.{all_of}
use Rattle.tx_workload.proofs.LineOrder.{all_of_more}
use Rattle.tx_run.specs.Refusals.{none_told, refusals_in, with_line}
use Rattle.tx_run.proofs.refusals.count_lines.Goals as goal

pub loop-part-preserved : goal.loop-part-preserved
loop-part-preserved c =
    let f = λ (r : Refusals) (s : LineReply). with_line r s.answer in
    let parts = c.parts-part-items.result.now in
    let i = c.loop-part.part-index in
    let part = c.as_slice.result.now in
    c.and_lines-refusals.ensures ∙ ap (λ (r : Refusals). fold f r part) c.loop-part.invariant
    ∙ sym (fold-append f none_told (all_of (take i parts)) part)
    ∙ ap (λ (l : List LineReply). refusals_in (all_of (take i parts) ++ l))
    (c.as_slice.ensures.value ∙ ap (λ part. part.items) c.part-item.is)
    ∙ ap refusals_in (sym (all_of_more parts i c.part-item.result c.loop-part-test.true))

pub returns : goal.returns
returns c =
    let parts = c.parts-part-items.result.now in
    c.loop-part.invariant
    ∙ ap refusals_in (ap all_of (take_all c.loop-part.part-index parts (omega arith)) ∙ c.parts-part-items.ensures)

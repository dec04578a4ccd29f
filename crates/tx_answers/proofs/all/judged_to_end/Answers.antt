use Rattle.std.proofs.Common.{false, get_or, subst}
use Rattle.tx_onward.specs.Left.{IsLeft}
use Rattle.tx_answers.proofs.Onward.{done, more_so, nothing_told}
use Rattle.tx_answers.proofs.all.judged_to_end.Goals as goal

pub verdicts-init : goal.verdicts-init
verdicts-init c =
    nothing_told c.args.options c.args.history.now c.in_ok-told.told.items c.no_answer-answer.result.text.items
    c.no_answer-answer.result.end c.in_ok-told.ensures.none c.in_ok-told.ensures.count c.no_answer-answer.ensures

pub verdicts-preserved : goal.verdicts-preserved
verdicts-preserved c =
    more_so c.args.options c.args.history.now c.verdicts.told.items c.note_all-is_more.new.told.items
    c.verdicts.answer.text.items c.put_one.new.answer.text.items c.verdicts.answer.end c.put_one.new.answer.end
    c.verdicts.is_first c.in_ok-left.left c.in_ok-verdict.verdict c.verdicts.invariant
    (subst (λ bs. IsLeft c.args.history.now.recording (λ t. get_or bs t false) c.in_ok-left.left)
    c.as_slice.ensures.value
    c.in_ok-left.ensures.left) c.in_ok-verdict.ensures c.in_ok-put_one.ensures.text c.in_ok-put_one.ensures.end
    c.note_all-is_more.ensures.told (c.note_all-is_more.ensures.one c.if-not-is_more.false)
    c.note_all-is_more.ensures.count

pub returns-then-not-is_more : goal.returns-then-not-is_more
returns-then-not-is_more c =
    done c.args.options c.args.history.now c.verdicts.told.items c.note_all-is_more.new.told.items
    c.verdicts.answer.text.items c.put_one.new.answer.text.items c.verdicts.answer.end c.put_one.new.answer.end
    c.verdicts.is_first c.in_ok-left.left c.in_ok-verdict.verdict c.verdicts.invariant
    (subst (λ bs. IsLeft c.args.history.now.recording (λ t. get_or bs t false) c.in_ok-left.left)
    c.as_slice.ensures.value
    c.in_ok-left.ensures.left) c.in_ok-verdict.ensures c.in_ok-put_one.ensures.text c.in_ok-put_one.ensures.end
    c.note_all-is_more.ensures.told (c.note_all-is_more.ensures.none c.if-not-is_more.true)

pub note_all-is_more-requires-clause-count : goal.note_all-is_more-requires-clause-count
note_all-is_more-requires-clause-count c = c.verdicts.invariant.1.count

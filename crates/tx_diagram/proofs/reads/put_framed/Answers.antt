use Rattle.std.proofs.Common.{◌++◌, ap, ◌∙◌}
use Rattle.tx_ring.specs.declared.ring.Subject.TheVariants.{Read}
use Rattle.tx_ring.specs.Rings.{head_text, close_text}
use Rattle.tx_verdict_text.specs.Words.{rule_word}
use Rattle.tx_diagram.specs.Reads.{boxes_text, boxes_of}
use Rattle.tx_ring.proofs.Pieces.{after, on_so}
use Rattle.tx_diagram.proofs.reads.put_framed.Goals as goal

pub returns : goal.returns
returns c =
    let h = c.args.history.now in
    let f = c.args.fact in
    let rows = c.args.rows in
    let reach = c.args.reach in
    let old = c.args.out.now.items in
    let boxes = boxes_text h f rows f.by in
    on_so c.put_close.result c.put_close.ensures (λ e.
    after old (head_text Read (rule_word f.rule) rows (boxes_of f.by) reach) (boxes ++ close_text)
    (c.in_ok-put_head.ensures
    ∙ ap (λ n. old ++ head_text Read n rows c.boxes_of-count.result reach)
    (c.as_bytes-title.ensures.value ∙ c.rule_word.ensures)
    ∙ ap (λ m. old ++ head_text Read (rule_word f.rule) rows m reach) c.boxes_of-count.ensures)
    (after c.put_head.new.out.items boxes close_text c.in_ok-put_boxes.ensures e))

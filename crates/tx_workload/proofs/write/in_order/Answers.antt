use Rattle.std.proofs.Common.{◌≡◌, ◌++◌, sym, ap, ◌∙◌, take, take_all, rules, arith}
use Rattle.std.proofs.lemmas.List.Sorted.{IsNonDecreasingBy-from_sort_by_key}
use Rattle.tx_workload.specs.Replies.{all_of}
use Rattle.tx_workload.proofs.LineOrder.{all_of_more, in_order}
use Rattle.tx_workload.proofs.write.in_order.Goals as goal

pub loop-part-preserved : goal.loop-part-preserved
loop-part-preserved c =
    let parts = c.parts-part-items.result.now in
    let i = c.loop-part.part-index in
    record {
      numbers = c.in_ok-enter.ensures.numbers;
      lines = c.in_ok-enter.ensures.lines ∙ ap (λ l. l ++ c.as_slice.result.now) c.loop-part.invariant.lines
          ∙ ap (λ l. all_of (take i parts) ++ l) (c.as_slice.ensures.value ∙ ap (λ part. part.items) c.part-item.is)
          ∙ sym (all_of_more parts i c.part-item.result c.loop-part-test.true);
    }

pub returns : goal.returns
returns c =
    let parts = c.parts-part-items.result.now in
    let all = take_all c.loop-part.part-index parts (omega arith) in
    in_order (λ p. p.0) (λ p. p.1.now) c.loop-part.lines.items c.sort_by_key.new.self.items c.args.replies.now
    c.loop-part.invariant.numbers
    (c.loop-part.invariant.lines ∙ ap all_of all ∙ c.parts-part-items.ensures)
    c.in_ok-sort_by_key.ensures.permutation
    (IsNonDecreasingBy-from_sort_by_key (λ p. p.0) _ c.in_ok-sort_by_key.ensures.sorted (λ a r q k. search rules))

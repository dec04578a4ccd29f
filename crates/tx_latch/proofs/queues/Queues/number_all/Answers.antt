use Rattle.std.proofs.Common.{◌≡◌, ◌<◌, ◌+◌, ◌++◌, ◌∷◌, [], length, None, get_or, take, sym, ap, ◌∙◌, arith, add-zero}
use Rattle.std.specs.Option.{option_map}
use Rattle.std.proofs.lemmas.List.{take_more, length-map, length-take-le}
use Rattle.tx_latch.specs.Queues.{links, link_of, position_of, replaced}
use Rattle.tx_latch.proofs.Compact.{replaced-append}
use Rattle.tx_latch.proofs.queues.Queues.number_all.Goals as goal

pub loop-position-preserved : goal.loop-position-preserved
loop-position-preserved c =
    let asked = c.args.self.now.asked.items in
    let ls = links asked in
    let k = c.loop-position.position in
    let below : k < length asked = omega (arith, c.len-position-end.ensures) in
    let same : length ls ≡ length asked = length-map asked (option_map link_of) in
    let lt : k < length ls = omega arith in
    let more : take (k + 1) ls ≡ take k ls ++ get_or ls k None ∷ [] = take_more ls k None lt in
    let long : length (take k ls) + 0 ≡ k = add-zero (length (take k ls)) ∙ length-take-le k ls (omega arith) in
    record {
      asked = c.number_one.ensures.asked ∙ c.loop-position.invariant.asked;
      lasts = c.number_one.ensures.last ∙ c.loop-position.invariant.lasts;
      placed = λ q. c.number_one.ensures.placed q
          ∙ ap (λ v. replaced (get_or (links v.items) k None ∷ []) k q (position_of c.loop-position.self q))
          c.loop-position.invariant.asked
          ∙ ap (replaced (get_or ls k None ∷ []) k q) (c.loop-position.invariant.placed q)
          ∙ ap (λ n. replaced (get_or ls k None ∷ []) n q (replaced (take k ls) 0 q (position_of c.args.self.now q)))
          (sym long)
          ∙ sym (replaced-append (take k ls) (get_or ls k None ∷ []) 0 q (position_of c.args.self.now q))
          ∙ ap (λ t. replaced t 0 q (position_of c.args.self.now q)) (sym more);
    }

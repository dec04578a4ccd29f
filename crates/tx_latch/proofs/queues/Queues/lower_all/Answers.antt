use Rattle.std.proofs.Common.{◌≡◌, ◌+◌, ◌++◌, ◌∷◌, [], take, map, refl, sym, ap, ◌∙◌, arith}
use Rattle.std.specs.Option.{option_map}
use Rattle.std.proofs.lemmas.List.{take_more}
use Rattle.tx_latch.specs.Queues.{links, position_of, at_position, lowered, lowered_in}
use Rattle.tx_latch.proofs.Read.{lower-none, lower-step}
use Rattle.tx_latch.proofs.queues.Queues.lower_all.Goals as goal

pub loop-cid-init : goal.loop-cid-init
loop-cid-init c = record {
  same = sym (lower-none (links c.args.self.now.asked.items));
  found = λ _. refl;
  lasts = refl;
  wide = λ i. omega arith;
}

pub loop-cid-preserved : goal.loop-cid-preserved
loop-cid-preserved c =
    let xs = c.args.cids.now in
    let i = c.loop-cid.cid-index in
    let x = c.cid-item.result in
    let more : take (i + 1) xs ≡ take i xs ++ x ∷ [] =
    take_more xs i x (omega arith) ∙ ap (λ d. take i xs ++ d ∷ []) (sym c.cid-item.is) in
    record {
      same = c.lower.ensures.lowered
          ∙ ap (λ o. at_position o lowered (links c.loop-cid.self.asked.items)) (c.loop-cid.invariant.found x)
          ∙ ap (at_position (position_of c.args.self.now x) lowered) c.loop-cid.invariant.same
          ∙ lower-step (links c.args.self.now.asked.items) (position_of c.args.self.now) c.requires (take i xs) x
          ∙ ap (λ t. map (option_map (lowered_in t)) (links c.args.self.now.asked.items)) (sym more);
      found = λ k. c.lower.ensures.positions k ∙ c.loop-cid.invariant.found k;
      lasts = c.lower.ensures.last ∙ c.loop-cid.invariant.lasts;
      wide = λ k. omega (arith, c.lower.ensures.room k, c.loop-cid.invariant.wide k);
    }

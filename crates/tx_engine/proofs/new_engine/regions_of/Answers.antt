use Rattle.std.proofs.Common.{◌≡◌, ◌<◌, ◌+◌, suc, [], ◌∷◌, ◌++◌, length, sym, ap, subst, ◌∙◌, arith, length-append}
use Rattle.tx_cells.specs.Contents.{nothing_held}
use Rattle.tx_journal.specs.Known.{known}
use Rattle.tx_engine.specs.Openings.{AreDealt}
use Rattle.tx_engine.proofs.Dealt.{removed, dealt_push, front_of}
use Rattle.tx_engine.proofs.new_engine.regions_of.Goals as goal

pub families-preserved : goal.families-preserved
families-preserved g c =
    let x = c.families.invariant in
    let seats = c.families.seats.items in
    let regions = c.families.regions.items in
    let families = c.families.families.items in
    let front = c.pop.new.self.items in
    let rest = c.remove-seat.new.self.items in
    let seat = c.remove-seat.result in
    let popped : families ≡ front ++ c.in-Some.empty ∷ [] = c.in-Some.ensures.items in
    let shorter : length families ≡ length front + 1 =
    ap length popped ∙ (length-append front (c.in-Some.empty ∷ []) ∙ omega arith) in
    let some : 0 < length seats = omega (arith, x.made, x.count, shorter, c.requires.more, c.args.families.ok.0) in
    let split : seats ≡ seat ∷ rest = removed seats rest seat some c.remove-seat.ensures.value
    c.remove-seat.ensures.items in
    let first : AreDealt (length regions) (seat ∷ rest) = subst (AreDealt (length regions)) split x.left in
    let pushed : c.push.new.self.items ≡ regions ++ c.new.result ∷ [] = c.in_ok-push.ensures.items in
    let longer : length c.push.new.self.items ≡ suc (length regions) =
    ap length pushed ∙ (length-append regions (c.new.result ∷ []) ∙ omega arith) in
    let is : c.new.result ≡ known (0 + length regions) 4294967296 [] =
    c.new.ensures ∙ (first.0 ∙ ap (λ j. known j 4294967296 []) (let e : length regions
    ≡ 0 + length regions = omega arith in e)) in
    record {
      made = omega (arith, x.made, shorter, longer);
      taken = subst (AreDealt 0) (sym pushed) (dealt_push 0 regions c.new.result is x.taken);
      left = subst (λ n. AreDealt n rest) (sym longer) first.1;
      count = omega (arith, x.count, longer, ap length split);
      empty = front_of (λ f. g.F.Holds.content f ≡ (λ k. nothing_held)) families front c.in-Some.empty popped x.empty;
    }

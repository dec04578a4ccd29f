use Rattle.std.proofs.Common.{◌≡◌, ◌<◌, length, Some, arith, sym, ap, ◌∙◌}
use Rattle.std.specs.HashMap.{get}
use Rattle.std.proofs.Common.{nat_eq}
use Rattle.tx_latch.specs.Queues.{position_of, lowered}
use Rattle.tx_latch.proofs.Places.{links-write}
use Rattle.tx_latch.proofs.queues.Queues.lower.Goals as goal

pub returns-then-position-len-clause-lowered : goal.returns-then-position-len-clause-lowered
returns-then-position-len-clause-lowered c =
    let at : position_of c.args.self.now c.args.cid ≡ Some c.in-Some.position =
    sym (ap (λ n. get nat_eq c.args.self.now.positions n) c.get.ensures) ∙ sym c.get-2.ensures.value
    ∙ sym c.copied.ensures ∙ c.in-Some.is in
    let lt : c.in-Some.position < length c.args.self.now.asked.items = omega arith in
    rw at (links-write c.args.self.now.asked.items c.in-Some.position c.lower.new.position c.index_mut.result.now
    lowered lt c.index_mut.ensures.value c.lower.ensures.lowered)

use Rattle.std.proofs.Common.{◌≡◌, ◌<◌, nat_eq, length, Some, arith, sym, ap, ◌∙◌}
use Rattle.std.specs.HashMap.{get}
use Rattle.tx_latch.specs.Queues.{position_of, followed}
use Rattle.tx_latch.proofs.Places.{links-write, room-read}
use Rattle.tx_latch.proofs.queues.Queues.queue_behind.Goals as goal

pub follow-requires : goal.follow-requires
follow-requires c =
    let at : position_of c.args.self.now c.args.before ≡ Some c.in-Some.position =
    sym (ap (λ n. get nat_eq c.args.self.now.positions n) c.get.ensures) ∙ sym c.get-2.ensures.value
    ∙ sym c.copied.ensures ∙ c.in-Some.is in
    let lt : c.in-Some.position < length c.args.self.now.asked.items = omega arith in
    room-read c.args.cid c.args.self.now.asked.items c.in-Some.position c.index_mut.result.now lt
    c.index_mut.ensures.value (c.requires c.in-Some.position at)

pub returns-in-Some-clause-followed : goal.returns-in-Some-clause-followed
returns-in-Some-clause-followed c =
    let at : position_of c.args.self.now c.args.before ≡ Some c.in-Some.position =
    sym (ap (λ n. get nat_eq c.args.self.now.positions n) c.get.ensures) ∙ sym c.get-2.ensures.value
    ∙ sym c.copied.ensures ∙ c.in-Some.is in
    let lt : c.in-Some.position < length c.args.self.now.asked.items = omega arith in
    rw at (links-write c.args.self.now.asked.items c.in-Some.position c.follow.new.position c.index_mut.result.now
    (followed c.args.cid) lt c.index_mut.ensures.value c.follow.ensures.followed)

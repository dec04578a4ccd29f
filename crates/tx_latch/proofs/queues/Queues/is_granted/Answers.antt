use Rattle.std.proofs.Common.{◌≡◌, ◌<◌, nat_eq, length, get_or, Some, None, arith, ap, sym, ◌∙◌}
use Rattle.std.specs.Option.{option_map}
use Rattle.std.specs.HashMap.{get}
use Rattle.std.proofs.lemmas.List.{get_or_read}
use Rattle.tx_latch.specs.Queues.{links, link_of, position_of, last_of, room_at, has_none_before}
use Rattle.tx_latch.proofs.Places.{link-get}
use Rattle.tx_latch.proofs.Read.{granted-read-at, granted-none}
use Rattle.tx_latch.proofs.queues.Queues.is_granted.Goals as goal

pub returns-in-Some : goal.returns-in-Some
returns-in-Some c =
    let at : position_of c.args.self.now c.args.cid ≡ Some c.in-Some.position =
    sym (ap (λ n. get nat_eq c.args.self.now.positions n) c.get.ensures) ∙ sym c.get-2.ensures.value
    ∙ sym c.copied.ensures ∙ c.in-Some.is in
    let lt : c.in-Some.position < length c.args.self.now.asked.items = omega arith in
    let is : get_or (links c.args.self.now.asked.items) c.in-Some.position None ≡ option_map link_of c.index.result.now
    =
    link-get link_of c.args.self.now.asked.items c.in-Some.position
    ∙ ap (option_map link_of)
    (sym (get_or_read c.args.self.now.asked.items c.in-Some.position c.index.result.now lt c.index.ensures None)) in
    c.is_first.ensures ∙ ap has_none_before (sym is)
    ∙ granted-read-at (links c.args.self.now.asked.items) (position_of c.args.self.now) (last_of c.args.self.now)
    (room_at c.args.self.now.asked.items) c.args.cid c.in-Some.position c.requires.0 at
    (c.requires.1 c.args.cid c.in-Some.position at)

pub returns-in_default-2 : goal.returns-in_default-2
returns-in_default-2 c =
    let at : position_of c.args.self.now c.args.cid ≡ None =
    sym (ap (λ n. get nat_eq c.args.self.now.positions n) c.get.ensures) ∙ sym c.get-2.ensures.value
    ∙ sym c.copied.ensures ∙ c.in_default.is in
    granted-none (links c.args.self.now.asked.items) (position_of c.args.self.now) c.args.cid (
      c.requires.0.listed,
      c.requires.0.found,
    ) at

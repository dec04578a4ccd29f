use Rattle.std.proofs.Common.{◌≡◌, ◌<◌, ◌≤◌, ◌&&◌, ℕ, cond, length, None, Some, get_or, set, nat_eq, map, sym, ap, ◌∙◌, subst, arith}
use Rattle.std.specs.Option.{option_map, is_some}
use Rattle.std.specs.HashMap.{get}
use Rattle.std.proofs.lemmas.List.{map-set, get_or_read, get_or-set_other, length-map}
use Rattle.tx_latch.specs.Asked.{contains}
use Rattle.tx_latch.specs.Queues.{Placed, links, link_of, position_of, last_of, room_at, room_of, lowered_in, is_number}
use Rattle.tx_latch.proofs.Places.{link-get}
use Rattle.tx_latch.proofs.Read.{granted-none, true_false}
use Rattle.tx_latch.proofs.Taken.{Taken, taken, placed-set}
use Rattle.tx_latch.proofs.queues.Queues.take_out.Goals as goal

pub unreachable-requires : goal.unreachable-requires
unreachable-requires c =
    let at : position_of c.args.self.now c.args.cid ≡ None =
    sym (ap (λ n. get nat_eq c.args.self.now.positions n) c.get.ensures) ∙ sym c.in_default.ensures.value in
    true_false (sym c.requires.granted
    ∙ sym (granted-none (links c.args.self.now.asked.items) (position_of c.args.self.now) c.args.cid
    (c.requires.kept.0.listed, c.requires.kept.0.found) at))

pub unreachable-requires-in_default-take : goal.unreachable-requires-in_default-take
unreachable-requires-in_default-take c =
    let asked = c.args.self.now.asked.items in
    let at : position_of c.args.self.now c.args.cid ≡ Some c.in-Some.position =
    sym (ap (λ n. get nat_eq c.args.self.now.positions n) c.get.ensures) ∙ sym c.in-Some.ensures.value in
    let within : c.in-Some.position < length (links asked) =
    c.requires.kept.0.within c.args.cid c.in-Some.position at in
    let lt : c.in-Some.position < length asked =
    subst (λ n. c.in-Some.position < n) (length-map asked (option_map link_of)) within in
    let none : get_or (links asked) c.in-Some.position None ≡ None =
    link-get link_of asked c.in-Some.position
    ∙ ap (option_map link_of)
    (sym (get_or_read asked c.in-Some.position c.index_mut.result.now lt c.index_mut.ensures.value None)
    ∙ sym c.in_default-take.ensures.value) in
    true_false (sym (c.requires.kept.1 c.args.cid c.in-Some.position at) ∙ ap is_some none)

pub lower_all-requires : goal.lower_all-requires
lower_all-requires c =
    let asked = c.args.self.now.asked.items in
    let at : position_of c.args.self.now c.args.cid ≡ Some c.in-Some.position =
    sym (ap (λ n. get nat_eq c.args.self.now.positions n) c.get.ensures) ∙ sym c.in-Some.ensures.value in
    let items : links c.free.new.self.asked.items ≡ set (links asked) c.in-Some.position None =
    ap (λ v. links v.items) c.free.ensures.asked ∙ map-set (option_map link_of) asked c.in-Some.position c.take.new.self
    ∙ ap (λ o. set (links asked) c.in-Some.position (option_map link_of o)) c.take.ensures.after in
    let left : (k : ℕ) → position_of c.free.new.self k ≡ cond (nat_eq c.args.cid k) None (position_of c.args.self.now k)
    =
    λ k. ap (λ m. get nat_eq m k) c.free.ensures.positions ∙ c.in-Some.ensures.updates.0 k
    ∙ ap (λ n. cond (nat_eq n k) None (position_of c.args.self.now k)) c.get.ensures in
    subst (λ t. Placed t (position_of c.free.new.self)) (sym items)
    (placed-set (links asked) (position_of c.args.self.now) (position_of c.free.new.self) (last_of c.args.self.now)
    (room_at asked) c.args.cid c.in-Some.position c.requires.kept.0 at left)

facts : (c : goal.Joined-entry)
    → Taken (links c.args.self.now.asked.items) (links c.lower_all.new.self.asked.items)
    (position_of c.lower_all.new.self) (last_of c.lower_all.new.self) (room_at c.lower_all.new.self.asked.items)
    c.args.cid c.in-Some-take.entry.behind.items
facts c =
    let asked = c.args.self.now.asked.items in
    let i = c.in-Some.position in
    let at : position_of c.args.self.now c.args.cid ≡ Some i =
    sym (ap (λ n. get nat_eq c.args.self.now.positions n) c.get.ensures) ∙ sym c.in-Some.ensures.value in
    let within : i < length (links asked) = c.requires.kept.0.within c.args.cid i at in
    let lt : i < length asked = subst (λ n. i < n) (length-map asked (option_map link_of)) within in
    let there : get_or (links asked) i None ≡ Some (link_of c.in-Some-take.entry) =
    link-get link_of asked i
    ∙ ap (option_map link_of) (sym (get_or_read asked i c.index_mut.result.now lt c.index_mut.ensures.value None)
    ∙ sym c.in-Some-take.ensures.value) in
    let gone : c.free.new.self.asked.items ≡ set asked i None =
    ap (λ v. v.items) c.free.ensures.asked ∙ ap (set asked i) c.take.ensures.after in
    let items : links c.free.new.self.asked.items ≡ set (links asked) i None =
    ap links gone ∙ map-set (option_map link_of) asked i None in
    let left : (k : ℕ) → position_of c.lower_all.new.self k
    ≡ cond (nat_eq c.args.cid k) None (position_of c.args.self.now k) =
    λ k. c.lower_all.ensures.positions k ∙ ap (λ m. get nat_eq m k) c.free.ensures.positions
    ∙ c.in-Some.ensures.updates.0 k
    ∙ ap (λ n. cond (nat_eq n k) None (position_of c.args.self.now k)) c.get.ensures in
    taken (links asked) (links c.lower_all.new.self.asked.items) (position_of c.args.self.now)
    (position_of c.lower_all.new.self) (last_of c.args.self.now) (last_of c.lower_all.new.self) (room_at asked)
    (room_at c.lower_all.new.self.asked.items) c.args.cid i (link_of c.in-Some-take.entry)
    c.requires.kept.0 c.requires.kept.1 c.requires.granted at there left
    (λ s less. ap (λ t. get_or t s None) c.lower_all.ensures.last ∙ c.free.ensures.last s less
    ∙ ap (λ t. cond (contains s t && is_number c.args.cid (last_of c.args.self.now s)) None (last_of c.args.self.now s))
    c.as_slice.ensures)
    (c.lower_all.ensures.lowered
    ∙ ap (λ t. map (option_map (lowered_in t)) (links c.free.new.self.asked.items)) c.as_slice-2.ensures.value
    ∙ ap (map (option_map (lowered_in c.in-Some-take.entry.behind.items))) items)
    (λ k n.
    let one : room_at c.free.new.self.asked.items k ≤ room_at c.lower_all.new.self.asked.items k =
    c.lower_all.ensures.room k in
    let two : room_at c.free.new.self.asked.items k ≡ room_at asked k =
    ap (λ t. room_at t k) gone ∙ ap room_of (get_or-set_other asked i k None None n) in
    omega arith)

pub returns-clause-kept : goal.returns-clause-kept
returns-clause-kept c = let f = facts c in (f.chained, f.stands)

pub returns-clause-left : goal.returns-clause-left
returns-clause-left c = (facts c).list

pub returns-clause-freed : goal.returns-clause-freed
returns-clause-freed c = (facts c).freed

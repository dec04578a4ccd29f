use Rattle.std.proofs.Common.{◌≡◌, ◌<◌, ◌≤◌, ◌+◌, ◌++◌, ◌∷◌, [], ℕ, cond, length, Some, None, get_or, take, map, sym, ap, ◌∙◌, refl, subst, arith, nat_eq}
use mir.Val.{bool_byte}
use Rattle.std.specs.Option.{option_map}
use Rattle.std.proofs.lemmas.List.{take_more, take_all}
use Rattle.tx_latch.specs.Asked.{contains}
use Rattle.tx_latch.specs.Queues.{links, position_of, last_of, room_at, joined, count_links, after_slot, adds_slot}
use Rattle.tx_latch.proofs.Steps.{is_last, join-room, join-none, count-none, slot-links, slot-count, after-agree, adds-agree, last-step, byte-is, byte-small}
use Rattle.tx_latch.proofs.queues.Queues.join.Goals as goal

pub join_slot-requires : goal.join_slot-requires
join_slot-requires c = λ b i lb pb l h add.
    let xs = c.args.slots.now in
    let k = c.loop-slot.slot-index in
    let n = c.slot-item.result in
    let small : n < 256 = subst (λ (s : ℕ). s < 256) (sym c.slot-item.is) (c.requires.small k n (omega arith)) in
    let room : length l.behind < room_at c.args.self.now.asked.items i =
    join-room (links c.args.self.now.asked.items) (position_of c.args.self.now) (last_of c.args.self.now)
    (room_at c.args.self.now.asked.items) c.args.cid (take k xs) n b i c.requires.joinable c.requires.absent small
    (sym (c.loop-slot.invariant.lasts n) ∙ lb) (sym (c.loop-slot.invariant.found b)
    ∙ pb) l (ap (λ t. get_or t i None) (sym c.loop-slot.invariant.same) ∙ h) add in
    let wide : room_at c.args.self.now.asked.items i ≤ room_at c.loop-slot.self.asked.items i =
    c.loop-slot.invariant.wide i in
    omega arith

pub loop-slot-init : goal.loop-slot-init
loop-slot-init c = record {
  same = join-none c.args.cid (last_of c.args.self.now) (links c.args.self.now.asked.items);
  count = count-none (last_of c.args.self.now) (links c.args.self.now.asked.items);
  lasts = λ s. refl;
  found = λ k. refl;
  wide = λ i. omega arith;
  few = omega arith;
}

pub loop-slot-preserved : goal.loop-slot-preserved
loop-slot-preserved c =
    let xs = c.args.slots.now in
    let k = c.loop-slot.slot-index in
    let n = c.slot-item.result in
    let ks = take k xs in
    let ls = links c.args.self.now.asked.items in
    let at = position_of c.args.self.now in
    let last = last_of c.args.self.now in
    let cur = map (option_map (joined c.args.cid last ks)) ls in
    let o = cond (contains n ks) (Some c.args.cid) (last n) in
    let more : take (k + 1) xs ≡ ks ++ n ∷ [] =
    take_more xs k n (omega arith) ∙ ap (λ d. ks ++ d ∷ []) (sym c.slot-item.is) in
    let told : c.join_slot.result ≡ adds_slot o at c.args.cid cur =
    c.join_slot.ensures.told
    ∙ adds-agree (last_of c.loop-slot.self n) at (position_of c.loop-slot.self) c.args.cid
    (links c.loop-slot.self.asked.items) c.loop-slot.invariant.found
    ∙ ap (λ p. adds_slot p at c.args.cid (links c.loop-slot.self.asked.items)) (c.loop-slot.invariant.lasts n)
    ∙ ap (adds_slot o at c.args.cid) c.loop-slot.invariant.same in
    let byte : c.from-ahead.result ≡ cond (adds_slot o at c.args.cid cur) 1 0 =
    c.from-ahead.ensures ∙ byte-is c.join_slot.result ∙ ap (λ b. cond {A = ℕ} b 1 0) told in
    let counted : count_links (is_last last (ks ++ n ∷ [])) ls
    ≡ count_links (is_last last ks) ls + cond (adds_slot o at c.args.cid cur) 1 0 =
    slot-count ls at last (room_at c.args.self.now.asked.items) c.args.cid ks n o c.requires.joinable c.requires.absent
    refl in
    record {
      same = c.join_slot.ensures.links
          ∙ after-agree (last_of c.loop-slot.self n) at (position_of c.loop-slot.self) c.args.cid
          (links c.loop-slot.self.asked.items) c.loop-slot.invariant.found
          ∙ ap (λ p. after_slot p at c.args.cid (links c.loop-slot.self.asked.items)) (c.loop-slot.invariant.lasts n)
          ∙ ap (after_slot o at c.args.cid) c.loop-slot.invariant.same
          ∙ slot-links ls at last (room_at c.args.self.now.asked.items) c.args.cid ks n o c.requires.joinable
          c.requires.absent refl
          ∙ ap (λ t. map (option_map (joined c.args.cid last t)) ls) (sym more);
      count = ap (λ a. a + c.from-ahead.result) c.loop-slot.invariant.count
          ∙ ap (λ a. count_links (is_last last ks) ls + a) byte ∙ sym counted
          ∙ ap (λ t. count_links (is_last last t) ls) (sym more);
      lasts = λ s. c.join_slot.ensures.last s ∙ ap (cond (nat_eq s n) (Some c.args.cid)) (c.loop-slot.invariant.lasts s)
          ∙ last-step c.args.cid s n ks (last s) ∙ ap (λ t. cond (contains s t) (Some c.args.cid) (last s)) (sym more);
      found = λ j. c.join_slot.ensures.positions j ∙ c.loop-slot.invariant.found j;
      wide = λ i. omega (arith, c.join_slot.ensures.room i, c.loop-slot.invariant.wide i);
      few = (let one : bool_byte c.join_slot.result ≤ 1 = byte-small c.join_slot.result in
          let is : c.from-ahead.result ≡ bool_byte c.join_slot.result = c.from-ahead.ensures in
          let few : c.loop-slot.ahead ≤ k = c.loop-slot.invariant.few in omega arith);
    }

pub returns-clause-ahead : goal.returns-clause-ahead
returns-clause-ahead c =
    c.loop-slot.invariant.count
    ∙ ap (λ t. count_links (is_last (last_of c.args.self.now) t) (links c.args.self.now.asked.items))
    (take_all c.loop-slot.slot-index c.args.slots.now (omega arith))

use Rattle.std.proofs.Common.{◌≡◌, ◌<◌, ◌≤◌, ◌+◌, ◌++◌, ◌∷◌, [], cond, length, Some, None, set, map, nat_eq, sym, ap, ◌∙◌, subst, arith}
use Rattle.std.specs.Option.{option_map}
use Rattle.std.specs.List.{list_any, All}
use Rattle.std.specs.Vec.{vec_capacity}
use Rattle.std.specs.Map.{lookup}
use Rattle.std.specs.HashMap.{get}
use Rattle.std.proofs.lemmas.List.{length-map, length-append}
use Rattle.tx_latch.specs.Asked.{contains, is_asked, Command}
use Rattle.tx_latch.specs.Queues.{links, link_of, position_of, last_of, joined, count_links, is_number, commands}
use Rattle.tx_latch.specs.declared.queues.QueueEntry.{QueueEntry}
use Rattle.tx_latch.proofs.Ends.{Added, added, kept-end, joinable-end, asked-end, on_err}
use Rattle.tx_latch.proofs.queues.Queues.add.Goals as goal

pub returns-in_err-insert-clause-kept : goal.returns-in_err-insert-clause-kept
returns-in_err-insert-clause-kept c =
    kept-end c.args.self.now.asked.items c.push.new.self.items (position_of c.args.self.now)
    (λ k. get nat_eq c.insert.new.self k) (last_of c.args.self.now) c.requires.kept.0 c.requires.kept.1
    c.in_ok-push.ensures.items
    (λ k. ap (lookup (nat_eq k)) c.in_err-insert.ensures.err)

pub returns-in_err-insert-clause-same : goal.returns-in_err-insert-clause-same
returns-in_err-insert-clause-same c =
    on_err c.from_residual-in_err-insert.result
    (asked-end c.args.self.now.asked.items c.push.new.self.items c.in_ok-push.ensures.items)

pub join-ahead-requires-clause-joinable : goal.join-ahead-requires-clause-joinable
join-ahead-requires-clause-joinable c =
    let asked = c.args.self.now.asked.items in
    let here : c.len-position.result ≡ length asked = omega (arith, c.len-position.ensures) in
    let position : c.len-position.result ≡ length (links asked) = here ∙ sym (length-map asked (option_map link_of)) in
    joinable-end asked c.push.new.self.items (position_of c.args.self.now) (λ k. get nat_eq c.insert.new.self k)
    (last_of c.args.self.now) c.args.cid c.requires.kept.0 c.in_ok-push.ensures.items c.requires.absent
    (λ k. c.in_ok-insert.ensures.updates.0 k
    ∙ ap (λ n. cond (nat_eq n k) (Some c.len-position.result) (position_of c.args.self.now k)) c.get.ensures
    ∙ ap (λ p. cond (nat_eq c.args.cid k) (Some p) (position_of c.args.self.now k)) position)

pub join-ahead-requires-clause-absent : goal.join-ahead-requires-clause-absent
join-ahead-requires-clause-absent c =
    ap (λ l. is_asked l c.args.cid)
    (asked-end c.args.self.now.asked.items c.push.new.self.items c.in_ok-push.ensures.items) ∙ c.requires.absent

pub index_mut-requires : goal.index_mut-requires
index_mut-requires c =
    let same : length c.join-ahead.new.self.asked.items ≡ length c.push.new.self.items =
    sym (length-map c.join-ahead.new.self.asked.items (option_map link_of)) ∙ ap length c.join-ahead.ensures.joined
    ∙ length-map (links c.push.new.self.items)
    (option_map (joined c.args.cid (last_of c.args.self.now) c.args.slots.now))
    ∙ length-map c.push.new.self.items (option_map link_of) in
    let more : length c.push.new.self.items ≡ length c.args.self.now.asked.items + 1 =
    ap length c.in_ok-push.ensures.items ∙ length-append c.args.self.now.asked.items (None ∷ []) in
    let position : c.len-position.result ≡ length c.args.self.now.asked.items = omega (arith, c.len-position.ensures) in
    omega arith

facts : (c : goal.Joined-index_mut)
    → Added c.args.self.now.asked.items
    (set c.join-ahead.new.self.asked.items c.len-position.result
    (Some (record {
      cid = c.args.cid;
      slots = c.in_ok-own.own;
      ahead = c.join-ahead.result;
      behind =
          c.in_ok-behind.behind;
    }))) (position_of c.join-ahead.new.self) (last_of c.join-ahead.new.self) c.args.cid
    c.in_ok-own.own.items c.join-ahead.result
facts c =
    let asked = c.args.self.now.asked.items in
    let items = c.push.new.self.items in
    let e : QueueEntry = record {
      cid = c.args.cid;
      slots = c.in_ok-own.own;
      ahead = c.join-ahead.result;
      behind =
          c.in_ok-behind.behind;
    } in
    let own : c.args.slots.now ≡ c.in_ok-own.own.items = sym c.in_ok-own.ensures.ok in
    let position : c.len-position.result ≡ length asked = omega (arith, c.len-position.ensures) in
    added asked items c.join-ahead.new.self.asked.items (position_of c.args.self.now)
    (λ k. get nat_eq c.insert.new.self k) (position_of c.join-ahead.new.self) (last_of c.args.self.now)
    (last_of c.join-ahead.new.self) e c.len-position.result
    c.requires.kept.0 c.requires.kept.1 c.requires.absent c.in_ok-push.ensures.items position
    (λ k. c.in_ok-insert.ensures.updates.0 k
    ∙ ap (λ n. cond (nat_eq n k) (Some c.len-position.result) (position_of c.args.self.now k)) c.get.ensures)
    (c.join-ahead.ensures.joined
    ∙ ap (λ t. map (option_map (joined c.args.cid (last_of c.args.self.now) t)) (links items)) own)
    (c.join-ahead.ensures.ahead
    ∙ ap (λ t. count_links (λ l. list_any (λ s. is_number l.cid (last_of c.args.self.now s)) t) (links items)) own)
    (λ s lt. c.join-ahead.ensures.last s
    ∙ ap (λ t. cond (contains s t) (Some c.args.cid) (last_of c.args.self.now s)) own)
    c.join-ahead.ensures.positions c.join-ahead.ensures.room
    (subst (All (λ s. s < 256)) own c.know_small.ensures)
    c.in_ok-behind.ensures.items
    (let wide : length c.args.slots.now ≤ vec_capacity c.in_ok-behind.behind = c.in_ok-behind.ensures.capacity in
    let k : length c.args.slots.now ≡ length c.in_ok-own.own.items = ap length own in omega arith)

pub returns-clause-kept : goal.returns-clause-kept
returns-clause-kept c = let f = facts c in (f.chained, f.stands)

pub returns-clause-ok : goal.returns-clause-ok
returns-clause-ok c =
    (facts c).list ∙ ap (λ t. commands (links c.args.self.now.asked.items)
    ++ (let d : Command = record { cid = c.args.cid; slots = t } in d) ∷ []) c.in_ok-own.ensures.ok

pub returns-clause-granted : goal.returns-clause-granted
returns-clause-granted c = (facts c).first

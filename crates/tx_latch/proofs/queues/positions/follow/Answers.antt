use Rattle.std.proofs.Common.{◌≡◌, ◌<◌, length, true, not, refl, ap, ◌∙◌, sym, arith, Option, Some, ◌≤◌, ◌-◌, ℕ, Bool, List, subst}
use Rattle.std.specs.Option.{option_map}
use Rattle.std.specs.List.{slice_get}
use Rattle.std.specs.Vec.{vec_capacity}
use Rattle.tx_latch.specs.Queues.{link_of, adds, is_number, Link, HasRoom, room_of}
use Rattle.tx_latch.specs.declared.queues.QueueEntry.{QueueEntry}
use Rattle.tx_latch.proofs.queues.positions.follow.Goals as goal

pub unreachable-requires : goal.unreachable-requires
unreachable-requires c =
    let apart : adds c.args.cid (let o : Option Link = Some (link_of c.in-Some.entry) in o) ≡ true =
    (let last : List ℕ → Bool = λ xs. is_number c.args.cid (slice_get xs (length xs - 1)) in
    ap not (sym (ap last c.as_slice.ensures.value) ∙ sym c.ends_with.ensures ∙ c.if-ends_with.false)) in
    let room : length c.in-Some.entry.behind.items < vec_capacity c.in-Some.entry.behind =
    subst (λ (o : Option QueueEntry). HasRoom c.args.cid (option_map link_of o) (room_of o)) c.in-Some.is c.requires
    (link_of c.in-Some.entry) refl apart in
    let full : vec_capacity c.in-Some.entry.behind ≤ length c.in-Some.entry.behind.items =
    omega (arith, c.in_default-push.ensures.full) in
    omega arith

use Rattle.std.proofs.Common.{◌≡◌, false, eqb, refl, sym, ap, ◌∙◌}
use Rattle.std.specs.List.{list_any}
use Rattle.tx_latch.specs.declared.asked_commands.Lone.{Lone}
use Rattle.tx_latch.specs.Queues.{asked_of}
use Rattle.tx_latch.proofs.Lone.{free-slot, is_false}
use Rattle.tx_latch.proofs.asked_commands.AskedCommands.needs_no_queue.Goals as goal

pub returns-clause-free : goal.returns-clause-free
returns-clause-free c = λ t.
    let none : list_any (λ (one : Lone). eqb one.slot c.args.slot) c.args.self.now.lone.items ≡ false =
    ap (list_any (λ (one : Lone). eqb one.slot c.args.slot)) (sym c.as_slice.ensures.value) ∙ sym c.has_slot.ensures
    ∙ is_false c.has_slot.result t in
    free-slot (asked_of c.args.self.now.queues) c.args.self.now.lone.items c.args.slot (c.if-not-is_empty.ensures refl)
    none

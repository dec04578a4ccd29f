use Rattle.std.proofs.Common.{◌≡◌, ap, sym, ◌∙◌, eqb}
use Rattle.std.specs.List.{list_any}
use Rattle.tx_latch.specs.declared.asked_commands.Lone.{Lone}
use Rattle.tx_latch.specs.Queues.{asked_of}
use Rattle.tx_latch.proofs.Lone.{granted-lone, granted-queued}
use Rattle.tx_latch.proofs.asked_commands.AskedCommands.is_granted.Goals as goal

pub returns-then-has_command : goal.returns-then-has_command
returns-then-has_command c =
    let told : list_any (λ (one : Lone). eqb c.args.cid one.cid) c.args.self.now.lone.items ≡ c.has_command.result =
    ap (list_any (λ (one : Lone). eqb c.args.cid one.cid)) (sym c.as_slice.ensures.value) ∙ sym c.has_command.ensures in
    c.if-has_command.true
    ∙ granted-lone (asked_of c.args.self.now.queues) c.args.self.now.lone.items c.args.cid c.requires.free (told
    ∙ c.if-has_command.true)

pub returns-else-has_command : goal.returns-else-has_command
returns-else-has_command c =
    let told : list_any (λ (one : Lone). eqb c.args.cid one.cid) c.args.self.now.lone.items ≡ c.has_command.result =
    ap (list_any (λ (one : Lone). eqb c.args.cid one.cid)) (sym c.as_slice.ensures.value) ∙ sym c.has_command.ensures in
    c.is_granted.ensures ∙ granted-queued (asked_of c.args.self.now.queues) c.args.self.now.lone.items c.args.cid
    c.requires.free (told ∙ c.if-has_command.false)

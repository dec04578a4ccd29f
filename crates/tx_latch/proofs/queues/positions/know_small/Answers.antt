use Rattle.std.proofs.Common.{◌<◌, ℕ, ◌∙◌, subst, arith}
use Rattle.std.specs.List.{All}
use Rattle.std.proofs.lemmas.List.{take_all}
use Rattle.std.proofs.lemmas.List.Elements.{All-more}
use Rattle.tx_latch.proofs.queues.positions.know_small.Goals as goal

pub loop-slot-preserved : goal.loop-slot-preserved
loop-slot-preserved c =
    All-more (λ s. s < 256) c.args.slots.now c.loop-slot.slot-index c.slot-item.result (omega arith)
    c.loop-slot.invariant
    (subst (λ (n : ℕ). n < 256) (c.get-number.ensures ∙ c.slot-item.is) c.get-number.type_inv)

pub returns : goal.returns
returns c = subst (All (λ s. s < 256)) (take_all c.loop-slot.slot-index c.args.slots.now (omega arith))
    c.loop-slot.invariant

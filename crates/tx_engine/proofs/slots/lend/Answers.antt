use Rattle.std.proofs.Common.{◌<◌, List, length, Option, Some, None, refl, subst}
use Rattle.std.specs.Prelude.{IfNone}
use Rattle.tx_engine.specs.Slots.{SlotContent, NamesNone}
use Rattle.tx_engine.proofs.slots.lend.Goals as goal

-- what holds anyway holds where there is none
any_none : {T : Type 0} (o : Option T) (P : Type 0) → P → IfNone o P
any_none None P p = p
any_none (Some x) P p = tt

pub returns-in_err-k-clause-none : goal.returns-in_err-k-clause-none
returns-in_err-k-clause-none g c = any_none c.from_residual.result _ (
  refl,
  subst (λ (ps : List SlotContent). NamesNone g.J.JournalId.bounds c.args.names.now ps c.args.name.now)
      c.deref.ensures.value
      c.in_err-k.ensures.none,
)

pub swap_slot-requires : goal.swap_slot-requires
swap_slot-requires g c = subst (λ (ps : List SlotContent). c.in_ok-k.k
    < length ps) c.deref.ensures.value c.in_ok-k.ensures.live.0

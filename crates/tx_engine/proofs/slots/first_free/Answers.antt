use Rattle.std.proofs.Common.{◌∷◌, ◌+◌, map, drop, option_map, sym, ap, ◌∙◌}
use Rattle.std.proofs.lemmas.List.{at_drop_more}
use Rattle.tx_engine.specs.Semantics.{first_free}
use Rattle.tx_engine.specs.Slots.{slot_of}
use Rattle.tx_engine.proofs.Engines.{first_more}
use Rattle.tx_engine.proofs.slots.first_free.Goals as goal

pub session_slot-preserved : goal.session_slot-preserved
session_slot-preserved g c =
    let all = c.args.slots.now in
    let i = c.session_slot.slot-index in
    let p = c.slot-item.result in (
      ap (λ n. n + 1) c.session_slot.invariant.0,
      c.session_slot.invariant.1
          ∙ (at_drop_more (λ xs. option_map (λ n. n + i) (first_free (map slot_of xs))) all i p c.session_slot-test.true
          ∙ (ap (λ x. option_map (λ n. n + i) (first_free (map slot_of (x ∷ drop (i + 1) all)))) (sym c.slot-item.is)
          ∙ first_more p (drop (i + 1) all) i c.in_default.not-Free)),
    )

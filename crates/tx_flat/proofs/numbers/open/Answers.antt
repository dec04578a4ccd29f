use Rattle.std.proofs.Common.{ℕ, List, ap, ◌∙◌}
use Rattle.std.specs.BTreeMap.{BTreeMap}
use Rattle.tx_types.specs.declared.key.Key.{Key}
use Rattle.tx_flat.specs.Numbered.{numbers_among}
use Rattle.tx_flat.proofs.FlatNumbers.{empty_more}
use Rattle.tx_flat.proofs.numbers.open.Goals as goal

pub slots-preserved : goal.slots-preserved
slots-preserved c = λ k.
    ap (λ (xs : List (BTreeMap Key ℕ)). numbers_among xs k) c.in_ok-push.ensures.items
    ∙ empty_more c.slots.numbers.items c.new.result c.new.ensures.empty k
    ∙ c.slots.invariant k

use Rattle.std.proofs.Common.{◌≡◌, false, take}
use Rattle.std.specs.Prelude.{Any}
use Rattle.tx_sheet.specs.Arrows.{Gains}
use Rattle.tx_sheet.proofs.arrows.put_changed.Given as goal

abbrev pub invariant-changes : goal.invariant-changes
invariant-changes l = Gains l.fn.arrows.items l.arrows.items
    (λ x. Any (λ c. c.key ≡ x.key) (take l.change-index l.changes) × (x.meets_lock ≡ false))

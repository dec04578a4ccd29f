use Rattle.std.proofs.Common.{◌≡◌, take}
use Rattle.std.specs.Prelude.{All}
use Rattle.tx_sheet.proofs.changes.is_told.Given as goal

abbrev pub invariant-changes : goal.invariant-changes
invariant-changes l = All (λ c. c.key ≡ l.key → ⊥) (take l.change-index l.changes)

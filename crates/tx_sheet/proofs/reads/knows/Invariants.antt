use Rattle.std.proofs.Common.{◌≡◌, take}
use Rattle.std.specs.Prelude.{All, string_bytes}
use Rattle.tx_sheet.proofs.reads.knows.Given as goal

abbrev pub invariant-reads : goal.invariant-reads
invariant-reads l = All (λ r. (r.key ≡ l.place) × (string_bytes r.found ≡ l.text) → ⊥) (take l.read-index l.reads)

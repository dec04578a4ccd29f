use Rattle.std.proofs.Common.{◌≡◌, length, map, take}
use Rattle.serde_json.specs.View.{view}
use Rattle.tx_text.specs.Parts.{part_data}
use Rattle.tx_text.proofs.part.parts_of.Given as goal

abbrev pub invariant-loop-item : goal.invariant-loop-item
invariant-loop-item l =
    (length l.parts.items ≡ l.item-index) × (map part_data l.parts.items ≡ map view (take l.item-index l.item-items))

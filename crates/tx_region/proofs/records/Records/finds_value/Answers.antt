use Rattle.std.proofs.Common.{ℕ, ◌↔◌, Option, Some, None, is_some, IsTrue, refl, sym, subst}
use Rattle.tx_types.specs.declared.value.Value.{Value}
use Rattle.tx_plan.specs.Cells.{Writes}
use Rattle.tx_plan.specs.Reads.{Reads}
use Rattle.tx_plan.specs.cases.Prewrite.{HasValue}
use Rattle.tx_region.specs.Regions.{region_of}
use Rattle.tx_region.proofs.records.Records.finds_value.Goals as goal

found : (write : Writes) (at : ℕ) (o : Option Value) → Reads write at o → IsTrue (is_some o) ↔ HasValue write at
found write at (Some v) finds = (λ is. (v, finds), λ has. refl)
found write at None none = (λ is. cc (is), λ has. absurd (none has.0 has.1))

pub returns-clause-ok : goal.returns-clause-ok
returns-clause-ok g c =
    let write : Writes = ((region_of g.F.Holds.content c.args.self.now 0).cells c.args.key.now).write in
    subst (λ b. IsTrue b ↔ HasValue write c.args.at) (sym c.is_some.ensures)
    (found write c.args.at c.in_ok-view.view.value c.in_ok-view.ensures.shows.value)

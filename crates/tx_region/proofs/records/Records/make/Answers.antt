use Rattle.std.proofs.Common.{◌≡◌, ℕ, sym, subst}
use Rattle.std.specs.Prelude.{IfOk}
use Rattle.tx_plan.specs.declared.body.Body.{Body}
use Rattle.tx_region.specs.Calls.{CarriesOut}
use Rattle.tx_region.specs.Copies.{made}
use Rattle.tx_region.specs.Regions.{region_of}
use Rattle.tx_region.proofs.records.Records.make.Goals as goal

pub returns-in-Get-clause-ok : goal.returns-in-Get-clause-ok
returns-in-Get-clause-ok g c =
    let content = g.F.Holds.content in
    let s = c.args.self.now in
    subst (λ (b : Body). IfOk c.make_read.result (λ r. (n : ℕ)
    → CarriesOut (region_of content s n) c.args.key.now
    (made b ((region_of content s n).cells c.args.key.now) c.args.planned.now.change) c.args.planned.now r.answer
    r.read (region_of content c.args.self.now n))) (sym c.in-Get.is) c.make_read.ensures.ok

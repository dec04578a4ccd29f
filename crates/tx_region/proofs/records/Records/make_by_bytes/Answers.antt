use Rattle.std.proofs.Common.{◌≡◌, ℕ, sym, subst, ◌∙◌}
use Rattle.std.specs.Prelude.{IfOk}
use Rattle.tx_types.specs.declared.key.Key.{Key}
use Rattle.tx_region.specs.Calls.{CarriesOut}
use Rattle.tx_region.specs.Copies.{key_in, made, MayMake}
use Rattle.tx_region.specs.Regions.{region_of}
use Rattle.tx_region.proofs.records.Records.make_by_bytes.Goals as goal

pub make-requires : goal.make-requires
make-requires g c =
    let before = region_of g.F.Holds.content c.args.self.now 0 in
    let of : c.with_bytes-key.result ≡ key_in c.args.body.now = c.with_bytes-key.ensures ∙ c.key_of.ensures in
    record {
      of_key = c.requires.of_key;
      of = of;
      may = subst (λ (k : Key). MayMake c.args.body.now (before.cells k) c.args.planned.now.change)
          (sym of) c.requires.may;
    }

pub returns-clause-ok : goal.returns-clause-ok
returns-clause-ok g c =
    let content = g.F.Holds.content in
    let s = c.args.self.now in
    let of : c.with_bytes-key.result ≡ key_in c.args.body.now = c.with_bytes-key.ensures ∙ c.key_of.ensures in
    subst (λ (k : Key). IfOk c.make.result (λ r. (n : ℕ) → CarriesOut (region_of content s n) k
    (made c.args.body.now ((region_of content s n).cells k) c.args.planned.now.change) c.args.planned.now r.answer
    r.read (region_of content c.make.new.self n))) of c.make.ensures.ok

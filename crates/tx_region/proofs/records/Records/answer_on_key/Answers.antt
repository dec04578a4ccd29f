use Rattle.std.proofs.Common.{ℕ, sym, subst}
use Rattle.tx_types.specs.declared.key.Key.{Key}
use Rattle.tx_region.specs.Calls.{CarriesOut}
use Rattle.tx_region.specs.Copies.{LooksLike, MayMake, made}
use Rattle.tx_region.specs.Regions.{region_of}
use Rattle.tx_region.proofs.Basics.{if_ok}
use Rattle.tx_region.proofs.Copies.{executes_plan}
use Rattle.tx_region.proofs.records.Records.answer_on_key.Goals as goal

pub plan-planned-requires-clause-seen : goal.plan-planned-requires-clause-seen
plan-planned-requires-clause-seen g c =
    let before = region_of g.F.Holds.content c.args.self.now in (
      before 0,
      record {
        sees = c.in_ok-view_into.ensures.ok;
        safe = c.numbers-copied.ensures.0;
        collected = c.numbers-copied.ensures.1;
      },
    )

pub make-requires-clause-may : goal.make-requires-clause-may
make-requires-clause-may g c =
    let before = region_of g.F.Holds.content c.args.self.now in
    let looks : LooksLike (before 0) c.args.body.now c.view_into.new.place c.numbers-copied.result =
    record {
      sees = c.in_ok-view_into.ensures.ok;
      safe = c.numbers-copied.ensures.0;
      collected = c.numbers-copied.ensures.1;
    } in
    subst (λ (k : Key). MayMake c.args.body.now ((before 0).cells k) c.plan-planned.result.change)
    (sym c.in_ok-key.ensures.ok) (c.plan-planned.ensures (before 0) looks).may

pub returns-clause-ok : goal.returns-clause-ok
returns-clause-ok g c =
    let content = g.F.Holds.content in
    let s = c.args.self.now in
    let before = region_of content s in
    let loaded = c.args.loaded.now in
    let looks : (n : ℕ) → LooksLike (before n) c.args.body.now c.view_into.new.place c.numbers-copied.result =
    λ n. record {
      sees = c.in_ok-view_into.ensures.ok;
      safe = c.numbers-copied.ensures.0;
      collected = c.numbers-copied.ensures.1;
    } in
    if_ok c.make.result _ _ (λ r out. executes_plan (content s.families) s.safe s.collected
    (region_of content c.make.new.self) loaded.mark loaded.last c.args.body.now c.plan-planned.result r.answer
    r.read
    (subst (λ (k : Key). (n : ℕ)
    → CarriesOut (before n) k (made c.args.body.now ((before n).cells k) c.plan-planned.result.change)
    c.plan-planned.result r.answer r.read (region_of content c.make.new.self n)) c.in_ok-key.ensures.ok out)
    (λ n. c.plan-planned.ensures (before n) (looks n))) c.make.ensures.ok

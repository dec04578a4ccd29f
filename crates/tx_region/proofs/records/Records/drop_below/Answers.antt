use Rattle.std.proofs.Common.{rules, ◌≡◌, ◌≢◌, inr, sym, ◌∙◌}
use Rattle.tx_cells.specs.Contents.{cells_in}
use Rattle.tx_region.proofs.Notes.{none_dropped, some_dropped}
use Rattle.tx_region.proofs.records.Records.drop_below.Goals as goal

pub returns-then-records-eq0-clause-cells : goal.returns-then-records-eq0-clause-cells
returns-then-records-eq0-clause-cells g c =
    let zero : c.args.records ≡ 0 = search rules in
    none_dropped (cells_in (g.F.Holds.content c.args.self.now.families)) c.args.safe c.requires.0 c.requires.1
    (sym c.requires.2 ∙ zero)

pub returns-clause-notes : goal.returns-clause-notes
returns-clause-notes g c =
    let some : c.args.records ≢ 0 = search rules in
    inr (
      λ same. some_dropped (cells_in (g.F.Holds.content c.args.self.now.families))
          c.args.safe c.requires.0 c.requires.1 (λ zero. some (c.requires.2 ∙ zero))
          (λ k. same k ∙ c.drop_below.ensures.cells k),
      c.drop_below.ensures.numbers,
    )

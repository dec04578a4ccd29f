use Rattle.std.proofs.Common.{inl, inr, refl, ap, ◌∙◌}
use Rattle.tx_transfer.specs.SeedLines.{seeded_by}
use Rattle.tx_transfer.proofs.seeds.seed_key.Goals as goal

pub returns-in-Err-clause-plays : goal.returns-in-Err-clause-plays
returns-in-Err-clause-plays g c = inr (refl, c.in-Err.ensures.spent.1, c.in-Err.ensures.spent.0)

pub returns-in-Ok-clause-plays : goal.returns-in-Ok-clause-plays
returns-in-Ok-clause-plays g c = inl (record {
  first = c.in-Ok.session;
  begun = c.in-Ok.ensures.ok;
  written = c.write-written.result;
  last = c.write-written.new.session;
  writes = c.write-written.ensures.writes;
  ends = c.end-seat.ensures.ends;
  is = c.seeded.ensures.is ∙ ap (λ b. seeded_by c.write-written.result b) c.end-seat.ensures.says;
})

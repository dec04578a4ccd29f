use Rattle.std.proofs.Common.{◌-◌, refl, arith}
use Rattle.json.proofs.Unique.Keys.{AreDistinct-from_places, DifferAt-from_distinct, DifferAt-from_sorted}
use Rattle.tx_import.proofs.member_names.neighbours_differ.Goals as goal

pub returns-then-eq : goal.returns-then-eq
returns-then-eq c = (
  λ never. absurd (cc),
  λ h.
      let differ = DifferAt-from_distinct c.args.names.now (c.loop-i.i - 1) c.loop-i.i h (omega arith)
      c.loop-i-test.true in
      grind arith,
)

pub returns : goal.returns
returns c = (
  λ _. AreDistinct-from_places c.args.names.now
      (DifferAt-from_sorted c.args.names.now c.requires (λ k h. c.loop-i.invariant k (omega arith))),
  λ _. refl,
)

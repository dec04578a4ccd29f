use Rattle.std.proofs.Common.{◌≡◌}
use Rattle.tx_generate.specs.Scripts.{IsGrown, IsBegun}
use Rattle.tx_generate.proofs.script.add_line.Given as goal

-- no thought so far was a line more
abbrev pub invariant-tries : goal.invariant-tries
invariant-tries g l = record {
  grown : IsGrown g.J.JournalId.bounds l.text.items l.player;
  begun : IsBegun g.J.JournalId.bounds l.text.items;
  same : l.text.items ≡ l.fn.text.items;
}

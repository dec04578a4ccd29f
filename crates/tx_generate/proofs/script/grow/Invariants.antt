use Rattle.std.proofs.Common.{◌≡◌, length}
use Rattle.tx_text.specs.Lines.{lines_of}
use Rattle.tx_generate.specs.Scripts.{IsGrown, IsBegun}
use Rattle.tx_generate.proofs.script.grow.Given as goal

-- the text has so many lines
abbrev pub invariant-lines : goal.invariant-lines
invariant-lines g l = record {
  grown : IsGrown g.J.JournalId.bounds l.text.items l.player;
  begun : IsBegun g.J.JournalId.bounds l.text.items;
  count : length (lines_of l.text.items) ≡ l.number;
}

use Rattle.std.proofs.Common.{rules, [], sym, ◌∙◌}
use Rattle.tx_generate.proofs.Growth.{ends}
use Rattle.tx_generate.proofs.script.script_over.Goals as goal

pub grow-requires-clause-begun : goal.grow-requires-clause-begun
grow-requires-clause-begun g c =
    let first = rw c.in-Some.is at c.in_ok-reply.ensures.first in
    record {
      first = c.args.first.now;
      rest = [];
      lines = first c.new-text.ensures.items;
      says = sym c.requires.says ∙ c.requires.named.1;
    }

pub returns : goal.returns
returns g c = record {
  ends = ends g.J.JournalId.bounds c.grow.new.text.items c.grow.new.player c.in_ok-grow.ensures.grown
      c.in_ok-grow.ensures.begun c.end.ensures;
  all = c.in_ok-grow.ensures.all (search rules);
}

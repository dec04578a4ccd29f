-- The list begins with the values, or with something else.
use Rattle.std.proofs.Common.{sym, ◌∙◌}
use Rattle.std.proofs.lemmas.Bool.{false≢true}
use Rattle.std.proofs.lemmas.Bool.Decides.{Decides-eqb}
use Rattle.std.proofs.lemmas.Slice.Eq.{starts_is}
use Rattle.tx_verdict.proofs.block.begins.Goals as goal

pub returns : goal.returns
returns c not_so rest is =
    false≢true (sym not_so ∙ (starts_is Decides-eqb c.args.list.now c.args.own.now c.starts_with.result
    c.starts_with.ensures.value).1 rest is)

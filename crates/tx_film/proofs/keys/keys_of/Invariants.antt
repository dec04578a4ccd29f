use Rattle.tx_types.specs.Keys.{AreRising}
use Rattle.tx_film.specs.Lines.{IsShowable}
use Rattle.tx_film.proofs.keys.keys_of.Given as goal

abbrev pub invariant-lines : goal.invariant-lines
invariant-lines l = IsShowable l.keys.items × AreRising l.keys.items

use Rattle.std.proofs.Common.{◌≡◌, ◌++◌, take}
use Rattle.std.specs.List.{flat_map}
use Rattle.tx_diagram.specs.Drawings.{lemma_text}
use Rattle.tx_diagram.proofs.drawing.put_all_lemmas.Given as goal

abbrev pub invariant-loop-lemma : goal.invariant-loop-lemma
invariant-loop-lemma l = l.out.items ≡ l.fn.out.items ++ flat_map (lemma_text l.history) (take l.lemma-index l.lemmas)

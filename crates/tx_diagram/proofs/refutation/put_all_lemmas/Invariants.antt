use Rattle.std.proofs.Common.{◌≡◌, ◌++◌, take}
use Rattle.std.specs.List.{flat_map}
use Rattle.tx_diagram.specs.Pictures.{lemma_picture}
use Rattle.tx_diagram.proofs.refutation.put_all_lemmas.Given as goal

abbrev pub invariant-loop-lemma : goal.invariant-loop-lemma
invariant-loop-lemma l =
    l.out.items ≡ l.fn.out.items ++ flat_map (lemma_picture l.history) (take l.lemma-index l.lemmas)

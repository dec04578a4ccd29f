use Rattle.std.proofs.Common.{◌≡◌, ◌++◌, map, take}
use Rattle.serde_json.specs.View.{items_of}
use Rattle.tx_text.specs.Texts.{members_text}
use Rattle.tx_verdict_text.specs.Words.{lemma_data}
use Rattle.tx_verdict_text.proofs.refutation.put_more_lemmas.Given as goal

abbrev pub invariant-loop-lemma : goal.invariant-loop-lemma
invariant-loop-lemma l =
    l.out.items ≡ l.fn.out.items ++ members_text (items_of (map (lemma_data l.history) (take l.lemma-index l.lemmas)))

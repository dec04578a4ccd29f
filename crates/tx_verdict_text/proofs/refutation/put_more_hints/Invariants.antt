use Rattle.std.proofs.Common.{◌≡◌, ◌++◌, map, take}
use Rattle.serde_json.specs.View.{items_of}
use Rattle.tx_text.specs.Texts.{members_text}
use Rattle.tx_verdict_text.specs.Words.{hint_data}
use Rattle.tx_verdict_text.proofs.refutation.put_more_hints.Given as goal

abbrev pub invariant-loop-hint : goal.invariant-loop-hint
invariant-loop-hint l =
    l.out.items ≡ l.fn.out.items ++ members_text (items_of (map (hint_data l.history) (take l.hint-index l.hints)))

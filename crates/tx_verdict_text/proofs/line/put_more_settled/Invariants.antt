use Rattle.std.proofs.Common.{◌≡◌, ◌++◌, map, take}
use Rattle.serde_json.specs.View.{items_of}
use Rattle.tx_text.specs.Texts.{members_text}
use Rattle.tx_verdict_text.specs.Words.{settled_data}
use Rattle.tx_verdict_text.proofs.line.put_more_settled.Given as goal

abbrev pub invariant-loop-fact : goal.invariant-loop-fact
invariant-loop-fact l =
    l.out.items ≡ l.fn.out.items ++ members_text (items_of (map (settled_data l.history) (take l.fact-index l.facts)))

use Rattle.std.proofs.Common.{◌≡◌, ◌++◌, map, take}
use Rattle.serde_json.specs.View.{items_of}
use Rattle.tx_text.specs.Texts.{members_text}
use Rattle.tx_verdict_text.specs.Words.{step_data}
use Rattle.tx_verdict_text.proofs.line.put_more_steps.Given as goal

abbrev pub invariant-loop-step : goal.invariant-loop-step
invariant-loop-step l =
    l.out.items ≡ l.fn.out.items ++ members_text (items_of (map (step_data l.history) (take l.step-index l.steps)))

use Rattle.std.proofs.Common.{rules, tests, ◌∙◌}
use Rattle.std.specs.Option.{is_some}
use Rattle.std.proofs.lemmas.Iterator.{YieldsList-from_slice}
use Rattle.std.proofs.lemmas.Iterator.Search.{find_from_yields_List}
use Rattle.tx_verdict.specs.declared.verdict.CycleStep.{CycleStep}
use Rattle.tx_onward.proofs.tells.first_keyed.Goals as goal

pub returns : goal.returns
returns c =
    let found = find_from_yields_List (λ (s : CycleStep). is_some s.key) _ _ c.find.result c.find.ensures.ran
    (YieldsList-from_slice c.args.steps.now c.iter.ensures.rest) (λ x b q k. search (rules, tests)) in
    c.copied.ensures ∙ found

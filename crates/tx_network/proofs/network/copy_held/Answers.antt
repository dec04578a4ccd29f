use Rattle.std.proofs.Common.{◌≡◌, Some, sym, ap, ◌∙◌}
use Rattle.std.specs.BTreeMap.{get_by_text}
use Rattle.std.proofs.lemmas.Map.Steps.{set_value_same}
use Rattle.tx_network.proofs.network.copy_held.Goals as goal

pub returns-in-Some-clause-same : goal.returns-in-Some-clause-same
returns-in-Some-clause-same g c =
    let w = c.again.new.request in
    let there : get_by_text c.args.held.now c.args.name.now ≡ Some w =
    sym c.in-Some.ensures.value ∙ ap Some (sym c.again.ensures.same) in
    (c.get_mut.follows.holds w).0 ∙ set_value_same _ c.args.held.now.entries w there

pub returns-in-Some-clause-some : goal.returns-in-Some-clause-some
returns-in-Some-clause-some g c = (c.in-Some.request.now, sym c.in-Some.ensures.value, c.again.ensures.ok)

use Rattle.std.proofs.Common.{◌∙◌}
use Rattle.std.specs.Range.Bound.{bound_map}
use Rattle.tx_machine.proofs.Scans.{ShowsNone, all_first, all_next, all_passed, seen_none, bare_from_entries}
use Rattle.tx_machine.proofs.scan.first_shown.Goals as goal

pub loop-key-init : goal.loop-key-init
loop-key-init c = all_first (ShowsNone c.args.fates.now c.args.at) _ _ (c.into_iter-key-iterator.ensures.into_iter_gives
    ∙ c.range-key-items.ensures.between tt)

pub loop-key-preserved : goal.loop-key-preserved
loop-key-preserved c =
    all_next (ShowsNone c.args.fates.now c.args.at) _ _ _ _ c.loop-key.invariant c.in-Some.ensures.steps
    (seen_none (λ v. v.now) _ _ _ c.seen.result c.seen.ensures c.if-is_some.ensures)

pub returns-clause-none : goal.returns-clause-none
returns-clause-none c =
    bare_from_entries c.args.index.now c.args.fates.now (bound_map (λ x. x.now) c.args.from) c.args.to.now c.args.at
    c.range-key-items.ensures.ordered
    (all_passed (ShowsNone c.args.fates.now c.args.at) _ _ c.loop-key.invariant c.in-None.ensures.steps.0)

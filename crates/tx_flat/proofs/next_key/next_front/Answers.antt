use Rattle.std.proofs.Common.{ℕ, List, refl, ap, sym, subst, ◌∙◌}
use Rattle.std.specs.Map.Iter.{deref_pair}
use Rattle.std.specs.BTreeMap.Range.{entries_between}
use Rattle.std.specs.declared.ops.Bound.TheVariants.{Excluded, Unbounded}
use Rattle.tx_spelling.specs.Spelt.{version_cmp}
use Rattle.tx_flat.proofs.Positions.{AreBehind, behind_newest, behind_next, behind_other, coming_is, searched}
use Rattle.tx_flat.proofs.next_key.next_front.Goals as goal

pub steps-init : goal.steps-init
steps-init c = behind_newest c.args.key.now c.args.writes.now.entries (deref_pair c.args.newest) c.args.rest.now
    c.requires.order c.requires.of c.requires.left

pub steps-preserved : goal.steps-preserved
steps-preserved c =
    let all = c.args.writes.now.entries in
    let key = c.args.key.now in
    behind_next key all (deref_pair c.in-Some.next) c.next.new.self (c.if-not-is_beside.ensures.0 refl
    ∙ c.requires.of) (subst (AreBehind key all) c.in-Some.ensures.steps c.steps.invariant)

pub returns-in_default : goal.returns-in_default
returns-in_default c =
    let all = c.args.writes.now.entries in
    let key = c.args.key.now in
    let left = subst (AreBehind key all) c.in_default.ensures.steps.0 c.steps.invariant in
    left.above

pub returns-then-not-is_beside : goal.returns-then-not-is_beside
returns-then-not-is_beside c =
    let all = c.args.writes.now.entries in
    let key = c.args.key.now in
    behind_other key all (deref_pair c.in-Some.next) c.next.new.self
    (λ same. cc (c.if-not-is_beside.ensures.1 (same ∙ sym c.requires.of)))
    (subst (AreBehind key all) c.in-Some.ensures.steps c.steps.invariant)

pub returns : goal.returns
returns c =
    let all = c.args.writes.now.entries in
    coming_is c.range.result c.next-2.new.self c.next-2.result c.next-2.ensures.steps
    ∙ c.range.ensures.between tt
    ∙ ap (λ (v : List ℕ × ℕ). entries_between version_cmp (Excluded v) Unbounded all) c.in_ok-last.ensures
    ∙ searched c.args.key.now all

-- What stays is a filter of the entries by their timestamps.
use Rattle.std.proofs.Common.{ℕ, not, cond, Option, None, sym, ap, subst, ◌∙◌, rules}
use Rattle.std.specs.BTreeMap.{BTreeMap}
use Rattle.std.proofs.lemmas.Fn.{filter_same}
use Rattle.tx_nested.specs.Indexes.{goes_below}
use Rattle.tx_nested.proofs.EntryOrder.{Rises}
use Rattle.tx_nested.proofs.Lookups.{find}
use Rattle.tx_nested.proofs.EntryChanges.{rises_kept, find_kept}
use Rattle.tx_nested.proofs.timeline.Timeline.keep_above.Goals as goal

pub invariant_of-self : goal.invariant_of-self
invariant_of-self g c =
    let kept = filter_same _ (λ (e : ℕ × g.row.X.Denot). not (goes_below c.args.safe c.args.stay e.0)) _
    (λ x b f told. search rules) _ _ c.retain.ensures.filtered in
    subst Rises (sym kept)
    (rises_kept (λ k. not (goes_below c.args.safe c.args.stay k)) c.self.inside.entries.items c.self.invariant)

pub returns : goal.returns
returns g c q =
    let seen = ap (λ (m : BTreeMap ℕ g.row.X.Denot). m.entries) c.self.view_is in
    let kept = filter_same _ (λ (e : ℕ × g.row.X.Denot). not (goes_below c.args.safe c.args.stay e.0)) _
    (λ x b f told. search rules) _ _ c.retain.ensures.filtered in
    ap (find q) kept
    ∙ find_kept c.args.safe c.args.stay c.self.inside.entries.items q
    ∙ ap (λ (o : Option g.row.X.Denot). cond (goes_below c.args.safe c.args.stay q) None o) (ap (find q) seen)

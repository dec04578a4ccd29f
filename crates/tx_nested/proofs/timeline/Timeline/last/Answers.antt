-- The last entry is found, and is the newest.
use Rattle.std.proofs.Common.{ℕ, ◌-◌, List, length, slice_get, sym, ap, subst, ◌∙◌}
use Rattle.std.specs.BTreeMap.{BTreeMap}
use Rattle.std.specs.Option.{option_copied}
use Rattle.tx_nested.proofs.EntryOrder.{Rises}
use Rattle.tx_nested.proofs.Lookups.{found_here, last_newest}
use Rattle.tx_nested.proofs.timeline.Timeline.last.Goals as goal

pub returns-clause-found : goal.returns-clause-found
returns-clause-found g c =
    let seen = c.deref.ensures.value ∙ ap (λ (m : BTreeMap ℕ g.row.X.Denot). m.entries) c.self.view_is in
    let s = subst Rises (ap (λ (m : BTreeMap ℕ g.row.X.Denot). m.entries) c.self.view_is) c.self.invariant in
    let last = ap (λ (xs : List (ℕ × g.row.X.Denot)). slice_get xs (length xs - 1)) (sym seen)
    ∙ sym c.last.ensures.value ∙ ap option_copied c.in_ok-at.was in
    found_here c.args.self.now.entries _ _ _ s last

pub returns-clause-newest : goal.returns-clause-newest
returns-clause-newest g c =
    let seen = c.deref.ensures.value ∙ ap (λ (m : BTreeMap ℕ g.row.X.Denot). m.entries) c.self.view_is in
    let s = subst Rises (ap (λ (m : BTreeMap ℕ g.row.X.Denot). m.entries) c.self.view_is) c.self.invariant in
    let last = ap (λ (xs : List (ℕ × g.row.X.Denot)). slice_get xs (length xs - 1)) (sym seen)
    ∙ sym c.last.ensures.value ∙ ap option_copied c.in_ok-at.was in
    last_newest c.args.self.now.entries c.in_ok-at.field-0.now s last

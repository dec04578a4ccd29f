use Rattle.std.proofs.Common.{◌≡◌, ◌∙◌, ℕ, sym, subst}
use Rattle.tx_machine.specs.Machine.{Done}
use Rattle.tx_core.specs.Histories.{History}
use Rattle.tx_core.specs.Decisions.{decided}
use Rattle.tx_client.proofs.Due.{known_decided}
use Rattle.tx_client.proofs.session.Session.decision.Goals as goal

pub new-requires : goal.new-requires
new-requires g c =
    let k = c.self.inside.seat in
    let fate = c.in_ok-fate.fate in
    let is = known_decided g.J.JournalId.bounds k.events
    c.self.invariant.0 k.seat c.self.inside.transaction c.self.invariant.1 fate (sym c.decision.ensures
    ∙ c.in_ok-fate.was) in
    subst (λ (x : History × ℕ). decided x.0 x.1 ≡ Done fate)
    (λ j. (sym c.tell-told.ensures.told j, sym c.start.ensures j)) is

use Rattle.std.proofs.Common.{◌≡◌, ◌<◌, ◌+◌, ◌∷◌, length, ap, subst, ◌∙◌, arith}
use Rattle.tx_journal.specs.Known.{Known}
use Rattle.tx_network.specs.Networks.{NetworkParts}
use Rattle.tx_engine.specs.Openings.{AreDealt}
use Rattle.tx_engine.proofs.Dealt.{removed, numbered, opens, ready, sized}
use Rattle.tx_engine.proofs.new_engine.engine_of.Goals as goal

pub new-network-requires : goal.new-network-requires
new-network-requires g c =
    let made = c.in-Ok.ensures.regions in
    (numbered 0 c.in-Ok.regions.items made.0, made.1 ∙ c.requires.few)

pub returns-clause-opening : goal.returns-clause-opening
returns-clause-opening g c =
    let bounds = g.J.JournalId.bounds in
    let regions = c.in-Ok.regions.items in
    let system_seat = c.remove-system_seat.result in
    let rest = c.remove-system_seat.new.self.items in
    let left = c.regions_of.new.seats.items in
    let some : 0 < length left = omega (arith, c.in-Ok.ensures.rest.1, c.requires.few, c.requires.some) in
    let split : left ≡ system_seat ∷ rest = removed left rest system_seat some c.remove-system_seat.ensures.value
    c.remove-system_seat.ensures.items in
    let all : AreDealt (length bounds + 1) (system_seat ∷ rest) =
    subst (AreDealt (length bounds + 1)) split (subst (λ n. AreDealt n left) c.requires.few c.in-Ok.ensures.rest.0)
    in
    let network = c.new.ensures.network ∙ c.new-network.ensures in
    let at_system_seat = c.new.ensures.system_seat ∙ c.tell-newest.ensures.same in
    opens bounds c.new.result regions system_seat rest c.in-Ok.ensures.regions.0 all
    (ap (λ (d : NetworkParts). d.regions) network)
    (ap (λ (d : NetworkParts). d.newest) network ∙
    (c.tell-newest.ensures.told ∙ ap (λ (k : Known). k.events) all.0)) (ap (λ (d : NetworkParts). d.held) network)
    at_system_seat c.new.ensures.names (c.new.ensures.slots ∙ c.in-Ok-places_of.ensures)

pub returns-clause-ready : goal.returns-clause-ready
returns-clause-ready g c =
    let bounds = g.J.JournalId.bounds in
    let regions = c.in-Ok.regions.items in
    let system_seat = c.remove-system_seat.result in
    let rest = c.remove-system_seat.new.self.items in
    let left = c.regions_of.new.seats.items in
    let some : 0 < length left = omega (arith, c.in-Ok.ensures.rest.1, c.requires.few, c.requires.some) in
    let split : left ≡ system_seat ∷ rest = removed left rest system_seat some c.remove-system_seat.ensures.value
    c.remove-system_seat.ensures.items in
    let all : AreDealt (length bounds + 1) (system_seat ∷ rest) =
    subst (AreDealt (length bounds + 1)) split (subst (λ n. AreDealt n left) c.requires.few c.in-Ok.ensures.rest.0)
    in
    let network = c.new.ensures.network ∙ c.new-network.ensures in
    let at_system_seat = c.new.ensures.system_seat ∙ c.tell-newest.ensures.same in
    ready bounds c.new.result regions system_seat rest c.in-Ok.ensures.regions.0 all
    (ap (λ (d : NetworkParts). d.regions) network)
    (ap (λ (d : NetworkParts). d.newest) network ∙
    (c.tell-newest.ensures.told ∙ ap (λ (k : Known). k.events) all.0)) (ap (λ (d : NetworkParts). d.held) network)
    at_system_seat c.new.ensures.names (c.new.ensures.slots ∙ c.in-Ok-places_of.ensures)

pub returns-clause-size : goal.returns-clause-size
returns-clause-size g c =
    let bounds = g.J.JournalId.bounds in
    let regions = c.in-Ok.regions.items in
    let system_seat = c.remove-system_seat.result in
    let rest = c.remove-system_seat.new.self.items in
    let left = c.regions_of.new.seats.items in
    let some : 0 < length left = omega (arith, c.in-Ok.ensures.rest.1, c.requires.few, c.requires.some) in
    let split : left ≡ system_seat ∷ rest = removed left rest system_seat some c.remove-system_seat.ensures.value
    c.remove-system_seat.ensures.items in
    let all : AreDealt (length bounds + 1) (system_seat ∷ rest) =
    subst (AreDealt (length bounds + 1)) split (subst (λ n. AreDealt n left) c.requires.few c.in-Ok.ensures.rest.0)
    in
    let network = c.new.ensures.network ∙ c.new-network.ensures in
    let at_system_seat = c.new.ensures.system_seat ∙ c.tell-newest.ensures.same in
    let slots : length c.new.result.slots ≡ length rest =
    sized bounds c.new.result regions system_seat rest c.in-Ok.ensures.regions.0 all
    (ap (λ (d : NetworkParts). d.regions) network)
    (ap (λ (d : NetworkParts). d.newest) network ∙
    (c.tell-newest.ensures.told ∙ ap (λ (k : Known). k.events) all.0)) (ap (λ (d : NetworkParts). d.held) network)
    at_system_seat c.new.ensures.names (c.new.ensures.slots ∙ c.in-Ok-places_of.ensures) in
    omega (arith, slots, ap length split, c.in-Ok.ensures.rest.1, c.requires.few)

use Rattle.std.proofs.Common.{◌≡◌, ℕ, false, Some, Ok, Err, option_map, is_some, sym, ap, subst, ◌∙◌}
use Rattle.std.specs.Prelude.{IfSome}
use Rattle.tx_types.specs.declared.fault.Cause.TheVariants as cause
use Rattle.tx_core.specs.Histories.{History}
use Rattle.tx_core.specs.Laws.{WasToldOf}
use Rattle.tx_client.specs.Calls.{Seated}
use Rattle.tx_steps.specs.declared.delivery.Delivery.TheVariants as deliveries
use Rattle.tx_resolve.specs.BlockedReads.{read_walk}
use Rattle.tx_network.specs.Networks.{network_state, Runs}
use Rattle.tx_engine.specs.Slots.{Serves, Resolves}
use Rattle.tx_engine.proofs.Resolves.{resolve_none, resolve_found}
use Rattle.tx_engine.proofs.resolver.resolve_at.Goals as goal

pub find-found-requires : goal.find-found-requires
find-found-requires g c =
    let told : IfSome c.tell-told.new.self.state.met (λ info. WasToldOf c.tell-told.new.self.seat.events info) =
    c.met_lock.ensures.told in
    let here : WasToldOf c.tell-told.new.self.seat.events c.in-Some.met.now =
    subst (λ o. IfSome o (λ info. WasToldOf c.tell-told.new.self.seat.events info))
    (sym c.met_lock.ensures.lock ∙ ap (option_map (λ info. info.now)) c.in-Some.is) told in
    subst (λ (h : History). WasToldOf h c.in-Some.met.now)
    (ap (λ (s : Seated). s.seat.events) c.tell-told.ensures.same ∙ sym c.tell-told.ensures.told) here

-- no lock was met
pub returns-in-None : goal.returns-in-None
returns-in-None g c =
    let bounds = g.J.JournalId.bounds in
    let none : is_some c.args.session.now.state.met ≡ false =
    sym (ap (λ (s : Seated). is_some s.state.met) c.tell-told.ensures.same) ∙
    (ap is_some (sym c.met_lock.ensures.lock) ∙ ap (λ o. is_some (option_map (λ info. info.now) o)) c.in-None.is) in
    subst (λ (s : Seated). Resolves bounds c.args.now (Err cause.Order) c.args.session.now s c.args.system_seat.now
    c.args.system_seat.now c.args.direct.now.network c.args.direct.now.network) (sym c.tell-told.ensures.same)
    (resolve_none bounds c.args.now c.args.session.now c.args.system_seat.now c.args.direct.now.network none)

pub returns-in-Some : goal.returns-in-Some
returns-in-Some g c =
    let bounds = g.J.JournalId.bounds in
    let at = c.tell-told.new.self in
    let from = c.args.direct.now.network in
    let to = c.find-found.new.direct.network in
    let met = c.in-Some.met.now in
    let found = c.find-found.result in
    let some : at.state.met ≡ Some met = sym c.met_lock.ensures.lock ∙ ap (option_map (λ info. info.now)) c.in-Some.is
    in
    let serves : Serves c.args.system_seat.now c.find-found.new.system_seat from to
    (Runs bounds (Some deliveries.Taken) (network_state from) (read_walk met at.state.start c.args.now) found.status
    (network_state to)) =
    subst (λ (t : ℕ). Serves c.args.system_seat.now c.find-found.new.system_seat from to
    (Runs bounds (Some deliveries.Taken) (network_state from) (read_walk met t c.args.now) found.status
    (network_state to))) c.start.ensures c.find-found.ensures.serves in
    subst (λ (s : Seated). Resolves bounds c.args.now (Ok c.learn.result) s c.learn.new.session c.args.system_seat.now
    c.find-found.new.system_seat from to) c.tell-told.ensures.same
    (resolve_found bounds c.args.now at c.learn.new.session c.args.system_seat.now c.find-found.new.system_seat from to
    met some found c.find-found.ensures.start c.learn.result c.find-found.ensures.ticks serves c.learn.ensures)

use Rattle.std.proofs.Common.{option_map, string_bytes, refl, sym, subst}
use Rattle.tx_steps.specs.Steps.{delivery_named}
use Rattle.tx_network.specs.Networks.{NetworkParts, AllFit, requests, HoldsRequest}
use Rattle.tx_network.proofs.HeldRequests.{requests_set, fit_set, many_set}
use Rattle.tx_network.proofs.network.Network.hold.Goals as goal

pub invariant_of-self : goal.invariant_of-self
invariant_of-self g c = (
  c.self.invariant.0,
  c.self.invariant.1,
  fit_set g.J.JournalId.bounds c.self.inside.held c.keep.new.held (string_bytes c.args.name) c.args.request
      c.in-Ok.ensures.sets c.requires c.self.invariant.2,
)

pub invariant_of-self-in-Err : goal.invariant_of-self-in-Err
invariant_of-self-in-Err g c = (
  c.self.invariant.0,
  c.self.invariant.1,
  subst (λ es. AllFit g.J.JournalId.bounds (requests es)) (sym c.in-Err.ensures.same.1) c.self.invariant.2,
)

pub returns-in-Ok : goal.returns-in-Ok
returns-in-Ok g c =
    let old = c.self.inside.held in
    let new = c.keep.new.held in
    let name = string_bytes c.args.name in
    let s = c.self.inside in
    let to : NetworkParts =
    record {
      regions = s.regions.items;
      newest = s.newest;
      held = requests new.entries;
      delivery =
          option_map (delivery_named string_bytes) s.delivery;
      trace = s.trace;
    } in
    subst (λ (d : NetworkParts). HoldsRequest name d to c.args.request) c.self.view_is (record {
      regions = refl;
      newest = refl;
      held = requests_set old new name c.args.request c.in-Ok.ensures.sets;
      many = many_set old new name c.in-Ok.ensures.many;
      delivery = refl;
      trace = refl;
    })

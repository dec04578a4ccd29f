use Rattle.std.proofs.Common.{slice_set, option_map, string_bytes, refl, subst, ◌∙◌, arith}
use Rattle.std.proofs.lemmas.List.{length-set}
use Rattle.tx_core.specs.Worlds.{route}
use Rattle.tx_steps.specs.Steps.{delivery_named}
use Rattle.tx_network.specs.Networks.{NetworkParts, Displays, requests}
use Rattle.tx_network.proofs.ShownKeys.{displayed_at}
use Rattle.tx_network.proofs.Posts.{there_at, numbered_set}
use Rattle.tx_network.proofs.network.Network.show_key.Goals as goal

pub invariant_of-self : goal.invariant_of-self
invariant_of-self g c =
    let ks = c.self.inside.regions.items in
    let there = there_at ks c.index-index.result c.index_mut.result.now
    (omega (arith, c.index-index.ensures.1, c.self.invariant.1)) c.index_mut.ensures.value in (
      numbered_set 0 c.index-index.result ks c.index_mut.result.now c.show_at.new.region there c.show_at.ensures.number
          c.self.invariant.0,
      length-set ks c.index-index.result c.show_at.new.region ∙ c.self.invariant.1,
      c.self.invariant.2,
    )

pub returns : goal.returns
returns g c =
    let s = c.self.inside in
    let index = c.index-index.result in
    let from : NetworkParts =
    record {
      regions = s.regions.items;
      newest = s.newest;
      held = requests s.held.entries;
      delivery =
          option_map (delivery_named string_bytes) s.delivery;
      trace = s.trace;
    } in
    let to : NetworkParts =
    record {
      regions = slice_set s.regions.items index c.show_at.new.region;
      newest = c.show_at.new.newest;
      held =
          requests s.held.entries;
      delivery = option_map (delivery_named string_bytes) s.delivery;
      trace = s.trace;
    } in
    let n = route g.J.JournalId.bounds c.args.key.now in
    let there = there_at s.regions.items index c.index_mut.result.now
    (omega (arith, c.index-index.ensures.1, c.self.invariant.1)) c.index_mut.ensures.value in
    subst (λ (d : NetworkParts). Displays n d to c.args.key.now c.show_at.result) c.self.view_is
    (displayed_at n index from to c.index_mut.result.now c.show_at.new.region c.args.key.now c.show_at.result
    c.index-index.ensures.0 there c.self.invariant.0 refl refl refl c.show_at.ensures)

use Rattle.std.proofs.Common.{ℕ, List, subst}
use Rattle.tx_plan.specs.declared.body.Body.TheVariants as body
use Rattle.tx_network.specs.Networks.{network_state, Met}
use Rattle.tx_engine.specs.Slots.{Serves}
use Rattle.tx_engine.proofs.SystemSeat.{ask_serves}
use Rattle.tx_engine.proofs.acts.read_at.Goals as goal

pub returns-clause-serves : goal.returns-clause-serves
returns-clause-serves g c =
    let bounds = g.J.JournalId.bounds in
    let from = c.args.network.now in
    let to = c.ask.new.sender in
    let k = c.args.system_seat.now in
    let m = c.ask.new.seat in
    subst (λ (bypass : List ℕ). Serves k m from to (Met bounds (network_state from) (body.Get record {
      key = c.args.key;
      at = c.args.at;
      bypass = bypass;
    }) c.ask.result (network_state to))) c.new.ensures
    (ask_serves bounds from c.set_delivery.new.self to k m _ c.ask.result c.set_delivery.ensures c.ask.ensures.asked)

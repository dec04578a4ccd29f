use Rattle.std.proofs.Common.{subst, ◌∙◌}
use Rattle.tx_core.specs.Histories.{Begins}
use Rattle.tx_network.specs.Networks.{IsDone}
use Rattle.tx_network.proofs.SettledSeats.{done_learnt, done_popped}
use Rattle.tx_network.proofs.network.Network.settle.Goals as goal

pub regions-preserved : goal.regions-preserved
regions-preserved g c =
    let n = c.args.newest.now in
    let k = c.in-Some.region in
    let knows : Begins n c.learn.new.self.events =
    subst (λ h. Begins h c.learn.new.self.events) (c.copy.ensures.copy
    ∙ c.regions.invariant.newest) c.learn.ensures.told in
    record {
      newest = c.copy.ensures.same ∙ c.regions.invariant.newest;
      rest = λ rest. c.regions.invariant.rest
          (done_popped (IsDone n) c.regions.regions.items c.pop.new.self.items k c.in-Some.ensures.items
          (done_learnt n k c.learn.new.self knows c.learn.ensures.own) rest);
    }

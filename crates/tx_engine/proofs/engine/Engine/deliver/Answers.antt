use Rattle.std.proofs.Common.{refl, subst}
use Rattle.tx_steps.specs.declared.step.Step.TheVariants as step
use Rattle.tx_engine.specs.Slots.{Held, texts, Goes, Turned}
use Rattle.tx_engine.proofs.Deliveries.{step_delivered}
use Rattle.tx_engine.proofs.engine.Engine.deliver.Goals as goal

pub returns : goal.returns
returns g c =
    let s = c.self.inside in
    let name = c.args.name.now in
    let bounds = g.J.JournalId.bounds in
    let old : Held = record {
      network = s.direct.network;
      system_seat = s.system_seat;
      names = texts s.names.entries;
      slots = s.slots.items;
    } in
    let new : Held = record {
      network = c.deliver.new.network;
      system_seat = s.system_seat;
      names = texts s.names.entries;
      slots = s.slots.items;
    } in
    record {
      goes = subst (λ (o : Held). Goes bounds o new (Turned bounds (step.Deliver name) c.deliver.result o new))
          c.self.view_is (step_delivered bounds name old new refl refl refl c.deliver.result c.deliver.ensures);
    }

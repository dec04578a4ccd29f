use Rattle.std.proofs.Common.{Ok, refl, subst}
use Rattle.tx_steps.specs.declared.step.Step.TheVariants as step
use Rattle.tx_engine.specs.Slots.{Held, texts, Goes, Turned}
use Rattle.tx_engine.proofs.Inspections.{step_inspected}
use Rattle.tx_engine.proofs.engine.Engine.versions.Goals as goal

pub returns : goal.returns
returns g c =
    let s = c.self.inside in
    let key = c.args.key.now in
    let bounds = g.J.JournalId.bounds in
    let old : Held = record {
      network = s.direct.network;
      system_seat = s.system_seat;
      names = texts s.names.entries;
      slots = s.slots.items;
    } in
    let new : Held = record {
      network = c.versions.new.network;
      system_seat = s.system_seat;
      names = texts s.names.entries;
      slots = s.slots.items;
    } in
    record {
      goes = subst (λ (o : Held). Goes bounds o new
          (Turned bounds (step.Versions key) (Ok c.versions.result) o new)) c.self.view_is
          (step_inspected bounds key old new refl refl refl c.versions.result c.versions.ensures);
    }

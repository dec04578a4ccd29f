use Rattle.std.proofs.Common.{Ok, refl, subst}
use Rattle.tx_steps.specs.declared.step.Step.TheVariants as step
use Rattle.tx_engine.specs.Slots.{Held, texts, Goes, Turned}
use Rattle.tx_engine.proofs.Resolves.{step_collected}
use Rattle.tx_engine.proofs.engine.Engine.gc.Goals as goal

pub returns : goal.returns
returns g c =
    let s = c.self.inside in
    let bounds = g.J.JournalId.bounds in
    let old : Held = record {
      network = s.direct.network;
      system_seat = s.system_seat;
      names = texts s.names.entries;
      slots = s.slots.items;
    } in
    let new : Held = record {
      network = c.gc_at-collected.new.direct.network;
      system_seat = c.gc_at-collected.new.system_seat;
      names = texts s.names.entries;
      slots = s.slots.items;
    } in
    record {
      goes = subst (λ (o : Held). Goes bounds o new
          (Turned bounds (step.Gc c.args.safe) (Ok c.collected_as.result) o new)) c.self.view_is
          (step_collected bounds old new c.args.safe c.gc_at-collected.result c.collected_as.result
          c.collected_as.ensures refl refl c.gc_at-collected.ensures.ticks c.gc_at-collected.ensures.serves);
    }

use Rattle.std.proofs.Common.{refl, subst}
use Rattle.tx_core.specs.Worlds.{route}
use Rattle.tx_engine.specs.Slots.{Held, texts, Peeks}
use Rattle.tx_engine.proofs.engine.Engine.show_key.Goals as goal

pub returns : goal.returns
returns g c =
    let s = c.self.inside in
    let key = c.args.key.now in
    let old : Held = record {
      network = s.direct.network;
      system_seat = s.system_seat;
      names = texts s.names.entries;
      slots = s.slots.items;
    } in
    let new : Held = record {
      network = c.show_key.new.self;
      system_seat = s.system_seat;
      names = texts s.names.entries;
      slots = s.slots.items;
    } in
    subst (λ (o : Held). Peeks (route g.J.JournalId.bounds key) o new key c.show_key.result) c.self.view_is
    (record { shown = c.show_key.ensures; system_seat = refl; names = refl; slots = refl })

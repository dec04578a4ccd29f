use Rattle.std.proofs.Common.{◌≡◌, slice_get, Some, None, Ok, Err, refl, sym, ap, subst, ◌∙◌}
use Rattle.tx_types.specs.declared.fault.Cause.TheVariants as cause
use Rattle.tx_engine.specs.declared.slots.SessionSlot.TheVariants.{Live}
use Rattle.tx_reply.specs.declared.reply.ScriptReply.TheVariants as reply
use Rattle.tx_steps.specs.declared.op.Op.TheVariants as op
use Rattle.tx_steps.specs.declared.step.Step.TheVariants as step
use Rattle.std.proofs.lemmas.Map.Text.{btree_map_updates_text}
use Rattle.tx_engine.specs.Slots.{Held, texts, name_at, AllSeated, Goes, Turned}
use Rattle.tx_engine.proofs.Engines.{named, renamed, stop_stops, step_stopped, step_stops}
use Rattle.tx_engine.proofs.engine.Engine.stop.Goals as goal

pub returns-in_default : goal.returns-in_default
returns-in_default g c =
    let s = c.self.inside in
    let name = c.args.name.now in
    let bounds = g.J.JournalId.bounds in
    let old : Held = record {
      network = s.direct.network;
      system_seat = s.system_seat;
      names = texts s.names.entries;
      slots = s.slots.items;
    } in
    let new : Held = record {
      network = s.direct.network;
      system_seat = s.system_seat;
      names = texts s.names.entries;
      slots = c.lend.new.slots.items;
    } in
    let ready : AllSeated bounds 1 old = subst (AllSeated bounds 1) (sym c.self.view_is) c.requires.ready in
    let none = c.in_default.ensures.none in
    record {
      goes = subst (λ (o : Held). Goes bounds o new
          (Turned bounds (step.Act name op.Stop) (Err cause.Name) o new)) c.self.view_is
          (step_stops bounds old new (step.Act name op.Stop) cause.Name refl refl refl none.0
          (stop_stops bounds old name (none.1 old refl refl ready)));
    }

pub returns : goal.returns
returns g c =
    let s = c.self.inside in
    let name = c.args.name.now in
    let k = c.in-Some.k in
    let bounds = g.J.JournalId.bounds in
    let live = c.in-Some.session in
    let old : Held = record {
      network = s.direct.network;
      system_seat = s.system_seat;
      names = texts s.names.entries;
      slots = s.slots.items;
    } in
    let at : name_at old.names name ≡ Some k = named s.names name ∙ c.in-Some.ensures.named.0 in
    let ready : AllSeated bounds 1 old = subst (AllSeated bounds 1) (sym c.self.view_is) c.requires.ready in
    let there : slice_get old.slots k ≡ Some (Live live) = c.in-Some.ensures.named.1 in
    let new : Held = record {
      network = c.stop_at-seat.new.network;
      system_seat = s.system_seat;
      names = texts c.remove.new.self.entries;
      slots = c.swap_slot.new.slots.items;
    } in
    record {
      goes = subst (λ (o : Held). Goes bounds o new (Turned bounds (step.Act name op.Stop) (Ok reply.Fine) o new))
          c.self.view_is
          (step_stopped bounds old name k live at there ready new c.stop_at-seat.result c.lend.new.slots.items
          c.in-Some.ensures.lent.1 c.swap_slot.ensures.after refl
          (renamed s.names c.remove.new.self name None
          (btree_map_updates_text name s.names c.remove.new.self None c.remove.ensures.updates))
          c.stop_at-seat.ensures.acts);
    }

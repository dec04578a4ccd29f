use Rattle.std.proofs.Common.{◌≡◌, slice_get, Some, None, Err, refl, sym, ap, subst, ◌∙◌}
use Rattle.tx_types.specs.declared.fault.Cause.TheVariants as cause
use Rattle.tx_engine.specs.declared.slots.SessionSlot.TheVariants.{Live}
use Rattle.tx_steps.specs.declared.op.Op.TheVariants as op
use Rattle.tx_steps.specs.declared.step.Step.TheVariants as step
use Rattle.tx_engine.specs.Slots.{Held, texts, name_at, AllSeated, Goes, Turned}
use Rattle.tx_engine.proofs.Engines.{named, step_stops}
use Rattle.tx_engine.proofs.Resolves.{resolve_stops, step_resolved}
use Rattle.tx_engine.proofs.engine.Engine.resolve.Goals as goal

pub returns-in_default : goal.returns-in_default
returns-in_default g c =
    let s = c.self.inside in
    let name = c.args.name.now in
    let bounds = g.J.JournalId.bounds in
    let old : Held = record {
      network = s.direct.network;
      system_seat = s.system_seat;
      names = texts s.names.entries;
      slots = s.slots.items;
    } in
    let new : Held = record {
      network = s.direct.network;
      system_seat = s.system_seat;
      names = texts s.names.entries;
      slots = c.lend.new.slots.items;
    } in
    let ready : AllSeated bounds 1 old = subst (AllSeated bounds 1) (sym c.self.view_is) c.requires.ready in
    let none = c.in_default.ensures.none in
    record {
      goes = subst (λ (o : Held). Goes bounds o new (Turned bounds (step.Act name (op.Resolve c.args.now))
          (Err cause.Name) o new)) c.self.view_is (step_stops bounds old new (step.Act name (op.Resolve c.args.now))
          cause.Name refl refl refl none.0 (resolve_stops bounds c.args.now old name (none.1 old refl refl ready)));
    }

pub returns : goal.returns
returns g c =
    let s = c.self.inside in
    let name = c.args.name.now in
    let k = c.in-Some.k in
    let bounds = g.J.JournalId.bounds in
    let live = c.in-Some.session in
    let old : Held = record {
      network = s.direct.network;
      system_seat = s.system_seat;
      names = texts s.names.entries;
      slots = s.slots.items;
    } in
    let at : name_at old.names name ≡ Some k = named s.names name ∙ c.in-Some.ensures.named.0 in
    let ready : AllSeated bounds 1 old = subst (AllSeated bounds 1) (sym c.self.view_is) c.requires.ready in
    let there : slice_get old.slots k ≡ Some (Live live) = c.in-Some.ensures.named.1 in
    let new : Held = record {
      network = c.resolve_at-reply.new.direct.network;
      system_seat = c.resolve_at-reply.new.system_seat;
      names = texts s.names.entries;
      slots =
          c.swap_slot.new.slots.items;
    } in
    record {
      goes = subst (λ (o : Held). Goes bounds o new
          (Turned bounds (step.Act name (op.Resolve c.args.now)) c.resolve_at-reply.result o new)) c.self.view_is
          (step_resolved bounds c.args.now old name k live at there ready new c.resolve_at-reply.new.session
          c.lend.new.slots.items c.in-Some.ensures.lent.1 c.swap_slot.ensures.after refl c.resolve_at-reply.result
          c.resolve_at-reply.ensures);
    }

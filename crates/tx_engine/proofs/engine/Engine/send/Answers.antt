use Rattle.std.proofs.Common.{◌≡◌, ◌<◌, List, length, slice_get, Some, None, Err, refl, sym, ap, subst, ◌∙◌}
use Rattle.std.specs.Vec.{with_item}
use Rattle.std.proofs.lemmas.Option.{slice_get-get_or}
use Rattle.tx_types.specs.declared.fault.Cause.TheVariants as cause
use Rattle.tx_engine.specs.declared.slots.SessionSlot.TheVariants.{Live}
use Rattle.tx_steps.specs.Steps.{called, delivered}
use Rattle.tx_engine.specs.Semantics.{live_at, sends}
use Rattle.tx_engine.specs.Slots.{Held, SlotContent, texts, name_at, engine_state, AllSeated, Goes, TurnedBy}
use Rattle.tx_engine.proofs.SlotCounts.{at_place_of}
use Rattle.tx_engine.proofs.Engines.{named, no_name, no_place, in_name, act_stops, step_in, turn_stops}
use Rattle.tx_engine.proofs.SessionTurns.{SessionTurn}
use Rattle.tx_engine.proofs.engine.Engine.send.Goals as goal

pub returns-in_default : goal.returns-in_default
returns-in_default g c =
    let s = c.self.inside in
    let name = c.args.name.now in
    let bounds = g.J.JournalId.bounds in
    let f : SessionTurn = λ refused engine j x. sends refused engine j x bounds (called c.args.call.now)
    (delivered c.args.delivery.now) in
    let old : Held = record {
      network = s.direct.network;
      system_seat = s.system_seat;
      names = texts s.names.entries;
      slots = s.slots.items;
    } in
    let ready : AllSeated bounds 1 old = subst (AllSeated bounds 1) (sym c.self.view_is) c.requires.ready in
    let none : live_at (engine_state old) name ≡ None =
    c.in_default.ensures.none old refl (sym c.deref.ensures.value) ready in
    record {
      goes = subst (λ (o : Held). Goes bounds o o (TurnedBy bounds (in_name bounds name f) (Err cause.Name) o o))
          c.self.view_is (turn_stops bounds (in_name bounds name f) old old cause.Name refl refl refl refl
          (act_stops bounds old name f none));
    }

pub returns : goal.returns
returns g c =
    let s = c.self.inside in
    let name = c.args.name.now in
    let k = c.in-Some.k in
    let bounds = g.J.JournalId.bounds in
    let f : SessionTurn = λ refused engine j x. sends refused engine j x bounds (called c.args.call.now)
    (delivered c.args.delivery.now) in
    let old : Held = record {
      network = s.direct.network;
      system_seat = s.system_seat;
      names = texts s.names.entries;
      slots = s.slots.items;
    } in
    let at : name_at old.names name ≡ Some k = named s.names name ∙ c.in-Some.ensures.some.0 in
    let ready : AllSeated bounds 1 old = subst (AllSeated bounds 1) (sym c.self.view_is) c.requires.ready in
    let x : SlotContent = c.index_mut.result.now in
    let y : SlotContent = c.send_in.new.slot in
    let lt : k < length old.slots = subst (λ (ps : List SlotContent). k
    < length ps) c.deref.ensures.value c.in-Some.ensures.some.1 in
    let there : slice_get old.slots k ≡ Some x = slice_get-get_or old.slots k x lt ∙ ap Some
    (sym c.index_mut.ensures.value) in
    let new : Held = record {
      network = c.send_in.new.network;
      system_seat = s.system_seat;
      names = texts s.names.entries;
      slots = (with_item s.slots k y).items;
    } in
    record {
      goes = subst (λ (o : Held). Goes bounds o new (TurnedBy bounds (in_name bounds name f) c.send_in.result o new))
          c.self.view_is
          (step_in bounds old name k at ready new x y there refl refl refl f c.send_in.result c.send_in.ensures);
    }

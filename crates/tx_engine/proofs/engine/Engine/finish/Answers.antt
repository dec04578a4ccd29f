use Rattle.std.proofs.Common.{◌≡◌, ◌<◌, List, length, slice_get, slice_set, Some, None, Ok, Err, refl, sym, ap, subst, ◌∙◌}
use Rattle.std.specs.Vec.{with_item}
use Rattle.std.proofs.lemmas.Option.{slice_get-get_or}
use Rattle.std.proofs.lemmas.List.{set-set}
use Rattle.tx_types.specs.declared.fault.Cause.TheVariants as cause
use Rattle.tx_client.specs.Calls.{Seated}
use Rattle.tx_engine.specs.declared.slots.SessionSlot.TheVariants.{Free, Live, Lent}
use Rattle.tx_reply.specs.declared.reply.ScriptReply.TheVariants as reply
use Rattle.tx_steps.specs.declared.op.Op.TheVariants as op
use Rattle.tx_steps.specs.declared.step.Step.TheVariants as step
use Rattle.std.proofs.lemmas.Map.Text.{btree_map_updates_text}
use Rattle.tx_engine.specs.Slots.{Held, SlotContent, texts, name_at, AllSeated, Goes, Turned}
use Rattle.tx_engine.proofs.Engines.{named, renamed, finish_stops, step_finished, step_unfinished, step_stops}
use Rattle.tx_engine.proofs.engine.Engine.finish.Goals as goal

pub returns-in_default : goal.returns-in_default
returns-in_default g c =
    let s = c.self.inside in
    let name = c.args.name.now in
    let bounds = g.J.JournalId.bounds in
    let old : Held = record {
      network = s.direct.network;
      system_seat = s.system_seat;
      names = texts s.names.entries;
      slots = s.slots.items;
    } in
    let ready : AllSeated bounds 1 old = subst (AllSeated bounds 1) (sym c.self.view_is) c.requires.ready in
    let none = c.in_default.ensures.none old refl (sym c.deref.ensures.value) ready in
    record {
      goes = subst (λ (o : Held). Goes bounds o o (Turned bounds (step.Act name op.Finish) (Err cause.Name) o o))
          c.self.view_is (step_stops bounds old old (step.Act name op.Finish) cause.Name refl refl refl refl
          (finish_stops bounds old name none));
    }

pub finish_in-requires : goal.finish_in-requires
finish_in-requires g c =
    let s = c.self.inside in
    let k = c.in-Some.k in
    let slots = s.slots.items in
    let x : SlotContent = c.index_mut.result.now in
    let lt : k < length slots = subst (λ (ps : List SlotContent). k
    < length ps) c.deref.ensures.value c.in-Some.ensures.live.0 in
    let there : slice_get slots k ≡ Some x = slice_get-get_or slots k x lt ∙ ap Some (sym c.index_mut.ensures.value)
    in
    let (_, live, is) = c.in-Some.ensures.live in
    let at : slice_get slots k ≡ Some (Live live) = subst (λ (ps : List SlotContent). slice_get ps k
    ≡ Some (Live live)) c.deref.ensures.value is in
    record { live = (live, cc (there, at)) }

pub returns-in_default-finish_in : goal.returns-in_default-finish_in
returns-in_default-finish_in g c =
    let s = c.self.inside in
    let name = c.args.name.now in
    let k = c.in-Some.k in
    let bounds = g.J.JournalId.bounds in
    let old : Held = record {
      network = s.direct.network;
      system_seat = s.system_seat;
      names = texts s.names.entries;
      slots = s.slots.items;
    } in
    let at : name_at old.names name ≡ Some k = named s.names name ∙ c.in-Some.ensures.named in
    let ready : AllSeated bounds 1 old = subst (AllSeated bounds 1) (sym c.self.view_is) c.requires.ready in
    let x : SlotContent = c.index_mut.result.now in
    let y : SlotContent = c.finish_in.new.slot in
    let lt : k < length old.slots = subst (λ (ps : List SlotContent). k
    < length ps) c.deref.ensures.value c.in-Some.ensures.live.0 in
    let there : slice_get old.slots k ≡ Some x = slice_get-get_or old.slots k x lt ∙ ap Some
    (sym c.index_mut.ensures.value) in
    let new : Held = record {
      network = c.finish_in.new.network;
      system_seat = s.system_seat;
      names = texts s.names.entries;
      slots = (with_item s.slots k y).items;
    } in
    let (live, t, was, is, ends, state, acts) = c.in_default-finish_in.ensures.open_yet in
    record {
      goes = subst (λ (o : Held). Goes bounds o new (Turned bounds (step.Act name op.Finish) (Err cause.Order) o new))
          c.self.view_is
          (step_unfinished bounds old name k live at (there ∙ ap Some was) ready new t (slice_set old.slots k Lent)
          refl
          (ap (λ z. slice_set old.slots k z) is ∙ sym (set-set old.slots k Lent (Live t))) refl refl ends state acts);
    }

pub returns : goal.returns
returns g c =
    let s = c.self.inside in
    let name = c.args.name.now in
    let k = c.in-Some.k in
    let bounds = g.J.JournalId.bounds in
    let old : Held = record {
      network = s.direct.network;
      system_seat = s.system_seat;
      names = texts s.names.entries;
      slots = s.slots.items;
    } in
    let at : name_at old.names name ≡ Some k = named s.names name ∙ c.in-Some.ensures.named in
    let ready : AllSeated bounds 1 old = subst (AllSeated bounds 1) (sym c.self.view_is) c.requires.ready in
    let x : SlotContent = c.index_mut.result.now in
    let y : SlotContent = c.finish_in.new.slot in
    let lt : k < length old.slots = subst (λ (ps : List SlotContent). k
    < length ps) c.deref.ensures.value c.in-Some.ensures.live.0 in
    let there : slice_get old.slots k ≡ Some x = slice_get-get_or old.slots k x lt ∙ ap Some
    (sym c.index_mut.ensures.value) in
    let new : Held = record {
      network = c.finish_in.new.network;
      system_seat = s.system_seat;
      names = texts c.remove.new.self.entries;
      slots = (with_item s.slots k y).items;
    } in
    let o = c.in-Some-finish_in.outcome in
    let (live, seat, was, is, ends, acts) = c.in-Some-finish_in.ensures.ended in
    record {
      goes = subst (λ (x : Held). Goes bounds x new (Turned bounds (step.Act name op.Finish) (Ok (reply.Ended o)) x
          new))
          c.self.view_is
          (step_finished bounds old name k live at (there ∙ ap Some was) ready new seat (slice_set old.slots k Lent)
          refl
          (ap (λ z. slice_set old.slots k z) is ∙ sym (set-set old.slots k Lent (Free seat))) refl
          (renamed s.names c.remove.new.self name None
          (btree_map_updates_text name s.names c.remove.new.self None c.remove.ensures.updates)) o ends acts);
    }

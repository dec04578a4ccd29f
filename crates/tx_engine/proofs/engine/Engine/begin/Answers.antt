use Rattle.std.proofs.Common.{rules, ◌≡◌, not, map, length, slice_get, Some, None, Ok, Err, is_some, true, false, refl, sym, ap, subst, ◌∙◌, arith}
use Rattle.std.proofs.lemmas.List.{length-set}
use Rattle.std.proofs.lemmas.Option.{slice_get_within}
use Rattle.tx_types.specs.declared.fault.Cause.TheVariants as cause
use Rattle.tx_engine.specs.declared.slots.SessionSlot.TheVariants.{Free, Lent}
use Rattle.tx_reply.specs.declared.reply.ScriptReply.TheVariants as reply
use Rattle.tx_engine.specs.Semantics.{first_free}
use Rattle.tx_types.specs.Names.{is_name}
use Rattle.tx_steps.specs.declared.step.Step.TheVariants as step
use Rattle.tx_engine.specs.Slots.{slot_of, Held, texts, name_at, AllSeated, Goes, Turned}
use Rattle.tx_engine.proofs.SlotCounts.{at_place_of}
use Rattle.tx_engine.proofs.Engines.{on_ok, on_err, named, renamed, step_begun, step_refused, step_stops, begin_unnamed, begin_taken, begin_full}
use Rattle.tx_engine.proofs.engine.Engine.begin.Goals as goal

pub returns-then-not-is_name : goal.returns-then-not-is_name
returns-then-not-is_name g c =
    let name = c.args.name.now in
    let bounds = g.J.JournalId.bounds in
    let old = c.args.self.now in
    let bad : not (is_name name) ≡ true = search rules in
    record {
      goes = step_stops bounds old old (step.Begin name) cause.Name refl refl refl refl
          (begin_unnamed bounds old name bad);
    }

pub returns-then-contains_key : goal.returns-then-contains_key
returns-then-contains_key g c =
    let s = c.self.inside in
    let name = c.args.name.now in
    let bounds = g.J.JournalId.bounds in
    let old : Held = record {
      network = s.direct.network;
      system_seat = s.system_seat;
      names = texts s.names.entries;
      slots = s.slots.items;
    } in
    let right : not (is_name name) ≡ false = search rules in
    let taken : is_some (name_at old.names name) ≡ true =
    ap is_some (named s.names name) ∙ sym c.if-contains_key.ensures in
    record {
      goes = subst (λ (o : Held). Goes bounds o o (Turned bounds (step.Begin name) (Err cause.Name) o o))
          c.self.view_is (step_stops bounds old old (step.Begin name) cause.Name refl refl refl refl
          (begin_taken bounds old name right taken));
    }

pub returns-in_default : goal.returns-in_default
returns-in_default g c =
    let s = c.self.inside in
    let name = c.args.name.now in
    let bounds = g.J.JournalId.bounds in
    let old : Held = record {
      network = s.direct.network;
      system_seat = s.system_seat;
      names = texts s.names.entries;
      slots = s.slots.items;
    } in
    let right : not (is_name name) ≡ false = search rules in
    let unnamed : is_some (name_at old.names name) ≡ false =
    ap is_some (named s.names name) ∙ sym c.if-contains_key.ensures in
    let full : first_free (map slot_of old.slots) ≡ None =
    sym (c.in_default.ensures.first ∙ ap (λ ps. first_free (map slot_of ps)) c.deref.ensures.value) in
    record {
      goes = subst (λ (o : Held). Goes bounds o o (Turned bounds (step.Begin name) (Err cause.Sessions) o o))
          c.self.view_is (step_stops bounds old old (step.Begin name) cause.Sessions refl refl refl refl
          (begin_full bounds old name right unnamed full));
    }

pub returns-then-is_err : goal.returns-then-is_err
returns-then-is_err g c =
    let s = c.self.inside in
    let name = c.args.name.now in
    let bounds = g.J.JournalId.bounds in
    let k = c.in-Some.k in
    let old : Held = record {
      network = s.direct.network;
      system_seat = s.system_seat;
      names = texts s.names.entries;
      slots = s.slots.items;
    } in
    let new : Held = record {
      network = s.direct.network;
      system_seat = s.system_seat;
      names = texts c.enter.new.names.entries;
      slots = s.slots.items;
    } in
    let right : not (is_name name) ≡ false = search rules in
    let unnamed : is_some (name_at old.names name) ≡ false =
    ap is_some (named s.names name) ∙ sym c.if-contains_key.ensures in
    let first : first_free (map slot_of old.slots) ≡ Some k =
    sym (c.in-Some.ensures.first ∙ ap (λ ps. first_free (map slot_of ps)) c.deref.ensures.value) in
    let names = on_err _ c.enter.result c.if-is_err.ensures.value c.enter.ensures.same in
    record {
      goes = subst (λ (o : Held). Goes bounds o new
          (Turned bounds (step.Begin name) (Ok reply.OutOfMemory) o new)) c.self.view_is
          (step_refused bounds old name right unnamed k first new refl refl refl
          (λ q. named c.enter.new.names q ∙ (names q ∙ sym (named s.names q))));
    }

pub swap_slot-requires : goal.swap_slot-requires
swap_slot-requires g c = slice_get_within c.self.inside.slots.items c.in-Some.k _ (subst (λ ps. slice_get ps c.in-Some.k
    ≡ Some (Free c.in-Some.ensures.free.0)) c.deref.ensures.value c.in-Some.ensures.free.1)

pub begin_at-session-requires : goal.begin_at-session-requires
begin_at-session-requires g c =
    let s = c.self.inside in
    let bounds = g.J.JournalId.bounds in
    let old : Held = record {
      network = s.direct.network;
      system_seat = s.system_seat;
      names = texts s.names.entries;
      slots = s.slots.items;
    } in
    let ready : AllSeated bounds 1 old = subst (AllSeated bounds 1) (sym c.self.view_is) c.requires.ready in
    let there : slice_get s.slots.items c.in-Some.k ≡ Some (Free c.in-Free.seat) =
    c.swap_slot.ensures.value ∙ ap Some c.in-Free.is in
    record { ticks = (at_place_of bounds 1 c.in-Some.k old (Free c.in-Free.seat) c.in-Free.seat there refl ready).1 }

pub swap_slot-requires-2 : goal.swap_slot-requires-2
swap_slot-requires-2 g c =
    let there : slice_get c.self.inside.slots.items c.in-Some.k ≡ Some (Free c.in-Free.seat) =
    c.swap_slot.ensures.value ∙ ap Some c.in-Free.is in
    omega (
      arith,
      slice_get_within c.self.inside.slots.items c.in-Some.k _ there,
      ap length c.swap_slot.ensures.after,
      length-set c.self.inside.slots.items c.in-Some.k Lent,
    )

pub returns : goal.returns
returns g c =
    let s = c.self.inside in
    let name = c.args.name.now in
    let bounds = g.J.JournalId.bounds in
    let k = c.in-Some.k in
    let seat = c.in-Free.seat in
    let live = c.begin_at-session.result.0 in
    let old : Held = record {
      network = s.direct.network;
      system_seat = s.system_seat;
      names = texts s.names.entries;
      slots = s.slots.items;
    } in
    let new : Held = record {
      network = c.begin_at-session.new.network;
      system_seat = s.system_seat;
      names = texts c.enter.new.names.entries;
      slots = c.swap_slot-2.new.slots.items;
    } in
    let right : not (is_name name) ≡ false = search rules in
    let unnamed : is_some (name_at old.names name) ≡ false =
    ap is_some (named s.names name) ∙ sym c.if-contains_key.ensures in
    let first : first_free (map slot_of old.slots) ≡ Some k =
    sym (c.in-Some.ensures.first ∙ ap (λ ps. first_free (map slot_of ps)) c.deref.ensures.value) in
    let there : slice_get old.slots k ≡ Some (Free seat) = c.swap_slot.ensures.value ∙ ap Some c.in-Free.is in
    let ready : AllSeated bounds 1 old = subst (AllSeated bounds 1) (sym c.self.view_is) c.requires.ready in
    let sets = on_ok _ c.enter.result c.if-is_err.ensures.value c.enter.ensures.sets in
    record {
      goes = subst (λ (o : Held). Goes bounds o new
          (Turned bounds (step.Begin name) (Ok (reply.Start c.begin_at-session.result.1)) o new)) c.self.view_is
          (step_begun bounds old name right unnamed k first new seat live c.swap_slot.new.slots.items there
          c.swap_slot.ensures.after c.swap_slot-2.ensures.after refl
          (renamed s.names c.enter.new.names name (Some k) sets) ready c.begin_at-session.result.1
          c.begin_at-session.ensures.state c.begin_at-session.ensures.acts);
    }

use Rattle.std.proofs.Common.{◌≡◌, nat_eq, Ok, false, refl, sym, subst}
use Rattle.std.proofs.lemmas.Bool.{ne_eqb}
use Rattle.tx_types.specs.declared.fault.Cause.TheVariants as cause
use Rattle.tx_reply.specs.declared.reply.ScriptReply.TheVariants as reply
use Rattle.tx_steps.specs.declared.step.Step.TheVariants as step
use Rattle.tx_engine.specs.Slots.{Held, texts, AllSeated, Goes, Turned}
use Rattle.tx_engine.proofs.Engines.{tick_stops, step_stops, step_ticked, step_spent}
use Rattle.tx_engine.proofs.engine.Engine.tick.Goals as goal

pub returns-then-ticks-eq0 : goal.returns-then-ticks-eq0
returns-then-ticks-eq0 g c =
    let bounds = g.J.JournalId.bounds in
    let old = c.args.self.now in
    record {
      goes = step_stops bounds old old (step.Tick c.args.ticks) cause.Form refl refl refl refl
          (tick_stops bounds old c.args.ticks c.if-ticks-eq0.true);
    }

pub returns-in_default : goal.returns-in_default
returns-in_default g c =
    let s = c.self.inside in
    let n = c.args.ticks in
    let bounds = g.J.JournalId.bounds in
    let old : Held = record {
      network = s.direct.network;
      system_seat = s.system_seat;
      names = texts s.names.entries;
      slots = s.slots.items;
    } in
    let new : Held = record {
      network = c.tick_at.new.network;
      system_seat = c.tick_at.new.system_seat;
      names = texts s.names.entries;
      slots = s.slots.items;
    } in
    let some : nat_eq n 0 ≡ false = ne_eqb n 0 c.if-ticks-eq0.false in
    let x = c.in_default.ensures.spent in
    record {
      goes = subst (λ (o : Held). Goes bounds o new (Turned bounds (step.Tick n) (Ok reply.OracleSpent) o new))
          c.self.view_is (step_spent bounds old new n some refl refl x.0 x.1 x.2);
    }

pub returns : goal.returns
returns g c =
    let s = c.self.inside in
    let n = c.args.ticks in
    let bounds = g.J.JournalId.bounds in
    let old : Held = record {
      network = s.direct.network;
      system_seat = s.system_seat;
      names = texts s.names.entries;
      slots = s.slots.items;
    } in
    let new : Held = record {
      network = c.tick_at.new.network;
      system_seat = c.tick_at.new.system_seat;
      names = texts s.names.entries;
      slots = s.slots.items;
    } in
    let some : nat_eq n 0 ≡ false = ne_eqb n 0 c.if-ticks-eq0.false in
    let ready : AllSeated bounds 1 old = subst (AllSeated bounds 1) (sym c.self.view_is) c.requires.ready in
    let x = c.in-Some.ensures.drawn in
    record {
      goes = subst (λ (o : Held). Goes bounds o new
          (Turned bounds (step.Tick n) (Ok (reply.Last c.in-Some.last)) o new)) c.self.view_is
          (step_ticked bounds old new n some refl refl ready c.in-Some.last x.0 x.1);
    }

use Rattle.std.proofs.Common.{rules, ◌≡◌, [], not, true, false, Ok, refl, sym, subst, ◌∙◌}
use Rattle.tx_types.specs.declared.key.Key.{Key}
use Rattle.tx_plan.specs.declared.body.Body.TheVariants as request
use Rattle.tx_reply.specs.declared.reply.ScriptReply.{ScriptReply}
use Rattle.tx_network.specs.Networks.{network_state, Met}
use Rattle.tx_types.specs.Lengths.{is_key}
use Rattle.tx_steps.specs.declared.step.Step.TheVariants as step
use Rattle.tx_engine.specs.Slots.{Held, texts, Serves, Goes, Turned}
use Rattle.tx_engine.proofs.Engines.{step_unkeyed, step_unread, step_read}
use Rattle.tx_engine.proofs.engine.Engine.read.Goals as goal

pub returns-then-not-is_key : goal.returns-then-not-is_key
returns-then-not-is_key g c =
    let bounds = g.J.JournalId.bounds in
    let old = c.args.self.now in
    let bad : not (is_key c.args.key.now) ≡ true = search rules in
    record { goes = step_unkeyed bounds old old c.args.key.now c.args.at refl refl bad refl refl }

pub returns-in_default : goal.returns-in_default
returns-in_default g c =
    let bounds = g.J.JournalId.bounds in
    let old = c.args.self.now in
    let right : not (is_key c.args.key.now) ≡ false = search rules in
    record { goes = step_unread bounds old old c.args.key.now c.args.at refl refl right refl refl }

pub returns : goal.returns
returns g c =
    let s = c.self.inside in
    let key = c.args.key.now in
    let at = c.args.at in
    let bounds = g.J.JournalId.bounds in
    let response = c.read_at-response.result in
    let old : Held = record {
      network = s.direct.network;
      system_seat = s.system_seat;
      names = texts s.names.entries;
      slots = s.slots.items;
    } in
    let new : Held = record {
      network = c.read_at-response.new.network;
      system_seat = c.read_at-response.new.system_seat;
      names = texts s.names.entries;
      slots = s.slots.items;
    } in
    let right : not (is_key key) ≡ false = search rules in
    let serves : Serves old.system_seat new.system_seat old.network new.network
    (Met bounds (network_state old.network) (request.Get (record {
      key = key;
      at = at;
      bypass = [];
    })) response (network_state new.network)) =
    subst (λ (k : Key). Serves old.system_seat new.system_seat old.network new.network
    (Met bounds (network_state old.network) (request.Get (record {
      key = k;
      at = at;
      bypass = [];
    })) response (network_state new.network))) (c.in-Ok.ensures.ok ∙ c.as_bytes.ensures.value)
    c.read_at-response.ensures.serves in
    record {
      goes = subst (λ (o : Held). Goes bounds o new (Turned bounds (step.Read key at) (Ok c.reply_to.result) o new))
          c.self.view_is
          (subst (λ (r : ScriptReply). Goes bounds old new (Turned bounds (step.Read key at) (Ok r) old new))
          (sym c.reply_to.ensures) (step_read bounds old new key at refl refl right response
          c.read_at-response.ensures.ticks serves));
    }

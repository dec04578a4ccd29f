-- What a session does to its buffer before it declares is its turn.
use Rattle.std.proofs.Common.{◌≡◌, ℕ, Bool, List, Option, Result, Ok, Err, inl, inr, refl, sym, ap, subst}
use Rattle.std.specs.Borrow.{Bor}
use Rattle.tx_types.specs.declared.fault.Cause.{Cause}
use Rattle.tx_types.specs.declared.fault.Cause.TheVariants.{Order}
use Rattle.tx_types.specs.declared.mutation.Mode.{Mode}
use Rattle.tx_types.specs.declared.key.Key.{Key}
use Rattle.tx_transaction.specs.Sessions.{SessionState}
use Rattle.tx_client.specs.Calls.{Seated}
use Rattle.tx_reply.specs.declared.reply.ScriptReply.{ScriptReply}
use Rattle.tx_reply.specs.declared.reply.ScriptReply.TheVariants as reply
use Rattle.tx_steps.specs.Steps.{Text, acted}
use Rattle.tx_steps.specs.declared.op.Op.{Op}
use Rattle.tx_steps.specs.declared.op.Op.TheVariants as op
use Rattle.tx_ops.specs.Acts.{Does}
use Rattle.tx_ops.specs.Edits.{Edit, Edited, puts, inserts, deletes, locks}
use Rattle.tx_network.specs.Networks.{NetworkParts, network_state}
use Rattle.tx_engine.specs.Semantics.{EngineState, stops, edited, edits}
use Rattle.tx_engine.specs.Slots.{Did}
use Rattle.tx_engine.proofs.Turns.{did_not, did_change, session_goes}
use Rattle.tx_engine.proofs.SessionTurns.{SessionTurn, rests}

module _ (bounds : List Key) (edit : List Bool → SessionState → Edit) (old new : Seated) (network : NetworkParts) where
  abbrev editing : SessionTurn
  editing = λ refused engine k s. edited engine k s (edit refused s)

  -- what became of the session is its turn at a slot, and nothing else changes
  pub did_edit : (r : Result ScriptReply Cause) → Edited edit r old new → Did bounds editing r old new network network
  did_edit (Err cause) (same, is) =
      subst (λ (z : Seated). Did bounds editing (Err cause) old z network network) (sym same)
      (did_not bounds editing old network cause (λ refused engine k. ap (edited engine k old.state) (is refused)))
  did_edit (Ok said) (refused, inl (same, is)) =
      subst (λ (z : Seated). Did bounds editing (Ok said) old z network network) (sym same)
      (rests bounds editing old network refused said (λ later engine k. ap (edited engine k old.state) (is later)))
  did_edit (Ok said) (refused, inr (fine, now, is)) =
      subst (λ (s : ScriptReply). Did bounds editing (Ok s) old new network network) (sym fine)
      (did_change bounds editing old new network reply.Fine (ap (λ (s : Seated). s.seat) now)
      (session_goes bounds editing old.seat.seat old.state new.state (network_state network)
      (network_state network) reply.Fine reply.Fine refused (record old.state { buffer = new.state.buffer })
      (λ engine k. engine.network) (λ later engine k. ap (edited engine k old.state) (is later))
      (λ engine k at number. at) (ap (λ (s : Seated). s.state) (sym now)) refl))

module _ (bounds : List Key) (old new : Seated) (network : NetworkParts) (r : Result ScriptReply Cause) where
  not_allowed : (what : Op Text) → ((refused : List Bool) (engine : EngineState) (k : ℕ)
      → edits refused engine k old.state bounds what ≡ stops Order) → (r ≡ Err Order) × (new ≡ old)
      → Did bounds (λ refused engine k s. edits refused engine k s bounds what) r old new network network
  not_allowed what halts (is, same) =
      subst (λ (x : Result ScriptReply Cause × Seated).
      Did bounds (λ refused engine k s. edits refused engine k s bounds what) x.0 old x.1 network network)
      (λ i. (sym is i, sym same i))
      (did_not bounds (λ refused engine k s. edits refused engine k s bounds what) old network Order halts)

  -- what makes no event is its turn, and nothing else changes
  pub did_alone : (what : Op (Bor Text))
      → ((mode : Mode) (ttl : ℕ) (most : Option ℕ) → what ≡ op.Declare mode ttl most → ⊥)
      → (what ≡ op.Draw → ⊥) → Does bounds (acted what) old r new
      → Did bounds (λ refused engine k s. edits refused engine k s bounds (acted what)) r old new network network
  did_alone (op.Put key value) a b does =
      did_edit bounds (λ refused s. puts refused s key.now value.now) old new network r does
  did_alone (op.Insert key value) a b does =
      did_edit bounds (λ refused s. inserts refused s key.now value.now) old new network r does
  did_alone (op.Delete key) a b does = did_edit bounds (λ refused s. deletes refused s key.now) old new network r does
  did_alone (op.Lock key) a b does = did_edit bounds (λ refused s. locks refused s key.now) old new network r does
  did_alone (op.Declare mode ttl most) a b does = absurd (a mode ttl most refl)
  did_alone op.Draw a b does = absurd (b refl)
  did_alone op.Finish a b does = not_allowed op.Finish (λ refused engine k. refl) does
  did_alone op.Stop a b does = not_allowed op.Stop (λ refused engine k. refl) does
  did_alone (op.Resolve now) a b does = not_allowed (op.Resolve now) (λ refused engine k. refl) does

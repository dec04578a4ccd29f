-- What a call sends is its walk.
use Rattle.std.proofs.Common.{◌≡◌, inl, inr, Bool, true, false, List, Option, Result, Ok, Err, refl, ap}
use Rattle.tx_types.specs.declared.key.Key.{Key}
use Rattle.tx_types.specs.declared.fault.Cause.TheVariants.{Order}
use Rattle.tx_plan.specs.declared.answer.Answer.{Answer}
use Rattle.tx_journal.specs.Replies.{Asked}
use Rattle.tx_journal.specs.Senders.{Reached}
use Rattle.tx_transaction.specs.declared.state.Miss.{Miss}
use Rattle.tx_transaction.specs.Sessions.{SessionState}
use Rattle.tx_client.specs.Calls.{Seated}
use Rattle.tx_client.specs.Walks.{Walk, ends, Sends}
use Rattle.tx_client.proofs.Sends.{sent_then}
use Rattle.tx_reply.specs.declared.reply.ScriptReply.{ScriptReply}
use Rattle.tx_reply.specs.declared.reply.ScriptReply.TheVariants as reply
use Rattle.tx_ops.specs.Calls.{read_reply, sent_reply, read_call, allowed_call}

module _ {S : Type 0} (sends : S → Asked → Reached → S → Type 0) (bounds : List Key) (old : Seated) (from : S) where
  -- ---- a read of keys

  -- its keys are none
  pub read_unkeyed : (is : Bool) (walk : Walk (SessionState × Result Answer Miss)) → is ≡ false
      → Sends sends bounds old.seat from (read_call is old.state walk) (old.state, Ok reply.KeyLength) from old.seat
  read_unkeyed false walk bad = (refl, refl, refl)
  read_unkeyed true walk bad = absurd (cc (bad))

  -- memory for them was refused
  pub read_short : (is : Bool) (walk : Walk (SessionState × Result Answer Miss)) → is ≡ true
      → Sends sends bounds old.seat from (read_call is old.state walk) (old.state, Ok reply.OutOfMemory) from old.seat
  read_short true walk good = inl (refl, refl, refl)
  read_short false walk good = absurd (cc (good))

  -- it was sent
  pub read_sent : (is : Bool) (walk : Walk (SessionState × Result Answer Miss)) → is ≡ true
      → (new : Seated) (to : S) (r : Result Answer Miss) (said : ScriptReply)
      → Sends sends bounds old.seat from walk (new.state, r) to new.seat → said ≡ read_reply r
      → Sends sends bounds old.seat from (read_call is old.state walk) (new.state, Ok said) to new.seat
  read_sent true walk good new to r said sent says =
      inr (sent_then sends bounds walk (λ x. ends (x.0, Ok (read_reply x.1))) old.seat new.seat new.seat from to to
      (new.state, r) (new.state, Ok said) sent (ap (λ z. (new.state, Ok z)) says, refl, refl))
  read_sent false walk good new to r said sent says = absurd (cc (good))

  -- ---- a request that the session's state allows, or not

  pub not_allowed : (is : Bool) (walk : Walk (SessionState × Result (Option Answer) Miss)) → is ≡ false
      → Sends sends bounds old.seat from (allowed_call is old.state walk) (old.state, Err Order) from old.seat
  not_allowed false walk bad = (refl, refl, refl)
  not_allowed true walk bad = absurd (cc (bad))

  pub allowed_sent : (is : Bool) (walk : Walk (SessionState × Result (Option Answer) Miss)) → is ≡ true
      → (new : Seated) (to : S) (r : Result (Option Answer) Miss) (said : ScriptReply)
      → Sends sends bounds old.seat from walk (new.state, r) to new.seat → said ≡ sent_reply r
      → Sends sends bounds old.seat from (allowed_call is old.state walk) (new.state, Ok said) to new.seat
  allowed_sent true walk good new to r said sent says =
      sent_then sends bounds walk (λ x. ends (x.0, Ok (sent_reply x.1))) old.seat new.seat new.seat from to to
      (new.state, r) (new.state, Ok said) sent (ap (λ z. (new.state, Ok z)) says, refl, refl)
  allowed_sent false walk good new to r said sent says = absurd (cc (good))

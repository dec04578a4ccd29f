-- What the line of a call is told tells of what has happened, by what was answered on the way.
use Rattle.std.proofs.Common.{◌&&◌, Bool, true, false, List, Option, Some, None, Result, Ok, Err}
use Rattle.tx_types.specs.declared.key.Key.{Key}
use Rattle.tx_types.specs.Lengths.{is_key}
use Rattle.tx_plan.specs.declared.answer.Answer.{Answer}
use Rattle.tx_core.specs.Histories.{History}
use Rattle.tx_transaction.specs.declared.state.Miss.{Miss}
use Rattle.tx_transaction.specs.declared.state.Miss.TheVariants as miss
use Rattle.tx_transaction.specs.declared.state.Phase.TheVariants as phase
use Rattle.tx_transaction.specs.Sessions.{SessionState, is_declared, can_commit, can_abort, has_primary, due_prewrite, due_commit, due_abort}
use Rattle.tx_client.specs.Walks.{Walk, get_walk, scan_walk, heartbeat_walk}
use Rattle.tx_steps.specs.Steps.{Text}
use Rattle.tx_steps.specs.declared.call.Call.{Call}
use Rattle.tx_steps.specs.declared.call.Call.TheVariants as call
use Rattle.tx_steps.specs.declared.delivery.Delivery.{Delivery}
use Rattle.tx_steps.specs.declared.step.Step.{Step}
use Rattle.tx_steps.specs.declared.step.Step.TheVariants as step
use Rattle.tx_ops.specs.Calls.{Said, read_reply, sent_reply, read_call, allowed_call, call_walk}
use Rattle.tx_evidence.specs.Tells.{Entered, TellsAnswer, TellsBy}
use Rattle.tx_evidence.specs.Buffers.{AllBy}
use Rattle.tx_evidence.proofs.Results.{Comes, Keeps, Told, ToldMay, comes_then, due_comes, heartbeat_comes, get_comes, scan_comes}

module _ (bounds : List Key) (entered : Entered) (name : Text) where
  -- a session's buffer has what was entered under its name
  abbrev pub Own : SessionState → Type 0
  Own s = AllBy (entered name) s.buffer

  -- what a line is told, where it is told something, tells of what has happened
  abbrev pub TellsSaid : Step Text → History → Said → Type 0
  TellsSaid what h (Ok said) = TellsBy bounds entered h what said
  TellsSaid what h (Err cause) = Unit {0}

  -- so it does, and the session's buffer is still as it was entered
  abbrev pub TellsOwn : Step Text → History → SessionState × Said → Type 0
  TellsOwn what h x = Own x.0 × TellsSaid what h x.1

  module _ (what : Step Text) where
    abbrev Tells : History → Answer → Type 0
    Tells h a = TellsAnswer bounds entered h what a

    read_told : (h : History) (r : Result Answer Miss) → Told Tells h r → TellsBy bounds entered h what (read_reply r)
    read_told h (Ok a) told = told
    read_told h (Err miss.Lost) told = tt
    read_told h (Err miss.Fault) told = tt

    sent_told : (h : History) (r : Result (Option Answer) Miss) → ToldMay Tells h r
        → TellsBy bounds entered h what (sent_reply r)
    sent_told h (Ok None) told = tt
    sent_told h (Ok (Some a)) told = told
    sent_told h (Err miss.Lost) told = tt
    sent_told h (Err miss.Fault) told = tt

    read_tells : (h : History) (s : SessionState) → Own s → (is : Bool) (w : Walk (SessionState × Result Answer Miss))
        → Comes (Keeps entered name (Told Tells)) h w → Comes (TellsOwn what) h (read_call is s w)
    read_tells h s own false w comes = (own, tt)
    read_tells h s own true w comes = (
      comes_then (Keeps entered name (Told Tells)) (TellsOwn what) w _ h comes
          (λ l x begins told. (told.0, read_told l x.1 told.1)),
      (own, tt),
    )

    allowed_tells : (h : History) (s : SessionState) → Own s → (is : Bool)
        (w : Walk (SessionState × Result (Option Answer) Miss)) → Comes (Keeps entered name (ToldMay Tells)) h w
        → Comes (TellsOwn what) h (allowed_call is s w)
    allowed_tells h s own false w comes = (own, tt)
    allowed_tells h s own true w comes =
        comes_then (Keeps entered name (ToldMay Tells)) (TellsOwn what) w _ h comes
        (λ l x begins told. (told.0, sent_told l x.1 told.1))

  pub call_comes : (h : History) (s : SessionState) → Own s → (what : Call Text) (d : Delivery Text)
      → Comes (TellsOwn (step.Send name what d)) h (call_walk bounds s what)
  call_comes h s own (call.Get key) d =
      read_tells (step.Send name (call.Get key) d) h s own (is_key key) (get_walk s key)
      (get_comes entered name h s own key)
  call_comes h s own (call.Scan from to limit) d =
      read_tells (step.Send name (call.Scan from to limit) d) h s own (is_key from && is_key to)
      (scan_walk s bounds from to limit) (scan_comes bounds entered name from to limit d h s own)
  call_comes h s own call.Prewrite d = allowed_tells (step.Send name call.Prewrite d) h s own (is_declared s) _
      (due_comes entered name h s own phase.Prewrite (due_prewrite s))
  call_comes h s own call.Commit d = allowed_tells (step.Send name call.Commit d) h s own (can_commit s) _
      (due_comes entered name h s own phase.Commit (due_commit s))
  call_comes h s own call.Abort d = allowed_tells (step.Send name call.Abort d) h s own (can_abort s) _
      (due_comes entered name h s own phase.Abort (due_abort s))
  call_comes h s own (call.Heartbeat ttl) d = allowed_tells (step.Send name (call.Heartbeat ttl) d) h s own
      (has_primary s) (heartbeat_walk s ttl) (heartbeat_comes entered name h s own ttl)

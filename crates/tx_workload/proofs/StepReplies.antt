-- What a step of a session is told, over a store: it tells of what has happened.
use Rattle.std.proofs.Common.{◌≡◌, inl, inr, ℕ, Bool, true, false, List, [], ◌++◌, Option, Some, None, Result, Ok, Err, refl, sym, ap, subst, ◌∙◌}
use Rattle.tx_types.specs.declared.fault.Fault.{Fault}
use Rattle.tx_types.specs.declared.fault.Cause.{Cause}
use Rattle.tx_types.specs.declared.fault.Cause.TheVariants.{Order}
use Rattle.tx_types.specs.declared.key.Key.{Key}
use Rattle.tx_types.specs.declared.value.Value.{Value}
use Rattle.tx_types.specs.declared.lock.LockInfo.{LockInfo}
use Rattle.tx_core.specs.declared.event.Event.TheVariants as event
use Rattle.tx_core.specs.Histories.{History, Among, Begins}
use Rattle.tx_core.proofs.seats.Beginnings.{extends_begins}
use Rattle.tx_core.proofs.seats.Stays.{among_on}
use Rattle.tx_journal.specs.Known.{Known}
use Rattle.tx_store.specs.Stores.{Replies}
use Rattle.tx_transaction.specs.declared.state.Terms.{Terms}
use Rattle.tx_transaction.specs.Sessions.{SessionState, is_declared, can_draw, with_passed}
use Rattle.tx_client.specs.declared.resolved.Status.{Status}
use Rattle.tx_client.specs.Statuses.{lies_above}
use Rattle.tx_client.specs.Calls.{Seated, BeganAt}
use Rattle.tx_client.specs.Walks.{Walk}
use Rattle.tx_resolve.specs.BlockedReads.{read_walk}
use Rattle.tx_ops.specs.Edits.{Edit, Edited, puts, inserts, deletes, locks}
use Rattle.tx_steps.specs.declared.call.Call.{Call}
use Rattle.tx_steps.specs.declared.delivery.Delivery.{Delivery}
use Rattle.tx_steps.specs.declared.op.Op.{Op}
use Rattle.tx_steps.specs.declared.op.Op.TheVariants as op
use Rattle.tx_steps.specs.declared.step.Step.{Step}
use Rattle.tx_steps.specs.declared.step.Step.TheVariants as step
use Rattle.tx_steps.specs.Steps.{Text}
use Rattle.tx_reply.specs.declared.reply.ScriptReply.{ScriptReply}
use Rattle.tx_reply.specs.declared.reply.ScriptReply.TheVariants as reply
use Rattle.tx_evidence.specs.Tells.{Entered, Enters, WasFound, TellsBy}
use Rattle.tx_evidence.specs.Buffers.{AllBy}
use Rattle.tx_evidence.proofs.Buffers.{IsRefusal, EntersBy, puts_by, inserts_so, deletes_by, locks_by}
use Rattle.tx_evidence.proofs.Calls.{TellsSaid, call_comes}
use Rattle.tx_evidence.proofs.Calls.{TellsOwn as CallTells}
use Rattle.tx_evidence.proofs.Results.{Comes, resolve_comes}
use Rattle.tx_evidence.proofs.Sends.{sends_comes}
use Rattle.tx_evidence.proofs.Stays.{found_on}
use Rattle.tx_ops.specs.Acts.{Declares, DrawsIf}
use Rattle.tx_ops.specs.Calls.{Said, call_walk}
use Rattle.tx_transfer.specs.Acts.{found_of, status_said, ResolvesOr, Acts}
use Rattle.tx_transfer.specs.Resolutions.{ResolvesMet}
use Rattle.tx_transfer.specs.Sends.{SendsOver}
use Rattle.tx_workload.specs.Tells.{SaidTells}

-- what a step is told, where it is told something, tells of what has happened
abbrev SaidBy : List Key → Entered → History → Step Text → Result ScriptReply Cause → Type 0
SaidBy bounds entered h what (Ok said) = TellsBy bounds entered h what said
SaidBy bounds entered h what (Err cause) = Unit {0}

-- what a session does by itself tells nothing that was entered, and no step of a session is a seed
module _ (bounds : List Key) (entered before : Entered) (h : History) (name : Text) (what : Op Text) where
  act_by : (it : ScriptReply) → TellsBy bounds entered h (step.Act name what) it
      → TellsBy bounds before h (step.Act name what) it
  act_by (reply.Answered a) tells = tells
  act_by (reply.Versions copy) tells = tells
  act_by _ tells = tells

  said_act : (said : Said) → SaidBy bounds entered h (step.Act name what) said
      → SaidTells bounds before h (step.Act name what) said
  said_act (Ok it) tells = (act_by it tells, tt)
  said_act (Err cause) tells = tt

said_send : (bounds : List Key) (entered : Entered) (h : History) (name : Text) (what : Call Text) (d : Delivery Text)
    (said : Said) → SaidBy bounds entered h (step.Send name what d) said
    → SaidTells bounds entered h (step.Send name what d) said
said_send bounds entered h name what d (Ok it) tells = (tells, tt)
said_send bounds entered h name what d (Err cause) tells = tt

-- whatever is answered on its way, this holds of what a walk comes to: so it holds where the
-- requests were sent over a store
over : {R : Type 0} (bounds : List Key) (Q : History → R → Type 0) (w : Walk R) (old new : Known) (r : R)
    → Comes Q old.events w → SendsOver bounds old w r new → Q new.events r
over bounds Q w old new r comes sent =
    sends_comes (Replies {S = Unit {0}}) bounds Q (λ a b q g is. is) w old new tt tt r comes sent

module _ (bounds : List Key) (entered : Entered) (name : Text) where
  -- a session's buffer has what was entered under its name
  abbrev pub Own : SessionState → Type 0
  Own s = AllBy (entered name) s.buffer

  -- what a step is told tells of what has happened, and the session's buffer is still as it was
  -- entered
  abbrev pub TellsOwn : Step Text → History → SessionState × Said → Type 0
  TellsOwn what h x = Own x.0 × SaidBy bounds entered h what x.1

  said_tells : (what : Step Text) (h : History) (said : Said) → TellsSaid bounds entered name what h said
      → SaidBy bounds entered h what said
  said_tells what h (Ok said) told = told
  said_tells what h (Err cause) told = tt

  -- what a session is told that made a call
  pub send_tells : (old new : Seated) (what : Call Text) (d : Delivery Text) (said : Said) → Own old.state
      → SendsOver bounds old.seat (call_walk bounds old.state what) (new.state, said) new.seat
      → Own new.state × SaidTells bounds entered new.seat.events (step.Send name what d) said
  send_tells old new what d said own sent =
      let told = over bounds (CallTells bounds entered name (step.Send name what d)) (call_walk bounds old.state what)
      old.seat new.seat (new.state, said) (call_comes bounds entered name old.seat.events old.state own what d) sent
      in (
        told.0,
        said_send bounds entered new.seat.events name what d said
            (said_tells (step.Send name what d) new.seat.events said told.1),
      )

  -- ---- what a session does by itself

  module _ (what : Step Text) (old new : Seated) (said : Said) (own : Own old.state) where
    abbrev Does : Type 0
    Does = TellsOwn what new.seat.events (new.state, said)

    same_own : new ≡ old → Own new.state
    same_own is = subst (λ (s : Seated). Own s.state) (sym is) own

    told : Own new.state → (r : Said) → said ≡ r → SaidBy bounds entered new.seat.events what r → Does
    told still r is by = (still, subst (λ (x : Said). SaidBy bounds entered new.seat.events what x) (sym is) by)

    refusal : (r : ScriptReply) → IsRefusal r → TellsBy bounds entered new.seat.events what r
    refusal reply.OutOfMemory is = tt
    refusal reply.KeyLength is = tt
    refusal reply.ValueLength is = tt
    refusal reply.TooManyKeys is = tt
    refusal reply.AlreadyExists is = tt
    refusal _ is = absurd is

    edit_tells : (e : List Bool → SessionState → Edit)
        → ((refused : List Bool) → EntersBy (entered name) (e refused old.state)) → (r : Said) → said ≡ r
        → Edited e r old new → Does
    edit_tells e by (Err cause) is edited = told (same_own edited.0) (Err cause) is tt
    edit_tells e by (Ok it) is (refused, inl (same, says)) =
        told (same_own same) (Ok it) is
        (refusal it (subst (EntersBy (entered name)) (says []) (by (refused ++ []))))
    edit_tells e by (Ok it) is (refused, inr (fine, state, enters)) =
        told (subst (EntersBy (entered name)) (enters []) (by (refused ++ []))) (Ok reply.Fine)
        (is ∙ ap Ok fine) tt

    declare_tells : (b : Bool) (terms : Terms) → Declares bounds b old terms said new → Does
    declare_tells true terms (is, same) = told (same_own same) (Err Order) is tt
    declare_tells false terms (inl (is, fits, state, records, placed)) =
        told (subst Own (sym state) own) (Ok reply.Fine) is tt
    declare_tells false terms (inr (inl (is, exceeds, same))) = told (same_own same) (Ok reply.TooManyKeys) is tt
    declare_tells false terms (inr (inr (is, fits, some, ticks, same))) =
        told (same_own same) (Ok reply.OracleSpent) is tt

    draw_tells : (b : Bool) → DrawsIf bounds b old said new → Does
    draw_tells false (is, same) = told (same_own same) (Err Order) is tt
    draw_tells true (inl (c, is, state, draws)) =
        told (subst Own (sym state) own) (Ok (reply.Drawn c)) is
        (old.seat.seat, subst (λ (h : History). Among h (event.Drawn old.seat.seat c)) (sym draws.drawn.is) (inl refl))
    draw_tells true (inr (is, ticks, same)) = told (same_own same) (Ok reply.OracleSpent) is tt

    passed_own : (start : ℕ) (b : Bool) → Own (with_passed old.state start b)
    passed_own start false = own
    passed_own start true = own

    met_tells : (resolver after : Known) (now : ℕ) (met : Option LockInfo) (found : Option Status)
        → said ≡ status_said found → ResolvesMet bounds old resolver met (Some now) found new after → Does
    met_tells resolver after now None found is (none, same, stays) =
        told (same_own same) (Err Order) (is ∙ ap status_said none) tt
    met_tells resolver after now (Some lock) found is (status, some, resolves, state, heard) =
        told (subst Own (sym state) (passed_own lock.start (lies_above status old.state.start)))
        (Ok (reply.Status status)) (is ∙ ap status_said some)
        (found_on bounds entered after.events new.seat.events heard.knows status
        (over bounds WasFound (read_walk lock old.state.start now) resolves.mid after status
        (resolve_comes lock old.state.start now resolves.mid.events) resolves.sends))

    resolve_tells : (resolver after : Known) (now : ℕ) (came : Result (Option Status) Fault)
        → said ≡ status_said (found_of came) → ResolvesOr bounds old resolver now came new after → Does
    resolve_tells resolver after now (Ok found) is by = met_tells resolver after now old.state.met found is by
    resolve_tells resolver after now (Err e) is same = told (same_own same) _ is tt

  acts_tell : (old new : Seated) (resolver after : Known) (what : Op Text) (said : Said) → Own old.state
      → ((k : Key) (o : Option Value) → Enters (step.Act name what) name k o → entered name k o)
      → Acts bounds what old resolver said new after
      → TellsOwn (step.Act name what) new.seat.events (new.state, said)
  acts_tell old new resolver after (op.Put key value) said own more acts =
      edit_tells (step.Act name (op.Put key value)) old new said own (λ refused s. puts refused s key value)
      (λ refused. puts_by (entered name) refused old.state own key value (more key (Some value) (refl, refl, refl)))
      said refl acts.0
  acts_tell old new resolver after (op.Insert key value) said own more acts =
      edit_tells (step.Act name (op.Insert key value)) old new said own (λ refused s. inserts refused s key value)
      (λ refused. inserts_so (entered name) refused old.state own key value (more key (Some value) (refl, refl, refl)))
      said refl acts.0
  acts_tell old new resolver after (op.Delete key) said own more acts =
      edit_tells (step.Act name (op.Delete key)) old new said own (λ refused s. deletes refused s key)
      (λ refused. deletes_by (entered name) refused old.state own key (more key None (refl, refl, refl)))
      said refl acts.0
  acts_tell old new resolver after (op.Lock key) said own more acts =
      edit_tells (step.Act name (op.Lock key)) old new said own (λ refused s. locks refused s key)
      (λ refused. locks_by (entered name) refused old.state own key) said refl acts.0
  acts_tell old new resolver after (op.Declare mode ttl max_commit) said own more acts =
      declare_tells (step.Act name (op.Declare mode ttl max_commit)) old new said own (is_declared old.state) _ acts.0
  acts_tell old new resolver after op.Draw said own more acts =
      draw_tells (step.Act name op.Draw) old new said own (can_draw old.state) acts.0
  acts_tell old new resolver after (op.Resolve now) said own more acts =
      resolve_tells (step.Act name (op.Resolve now)) old new said own resolver after now acts.0 acts.1 acts.2
  acts_tell old new resolver after op.Finish said own more acts =
      told (step.Act name op.Finish) old new said own (same_own (step.Act name op.Finish) old new said own acts.0.1)
      (Err Order) acts.0.0 tt
  acts_tell old new resolver after op.Stop said own more acts =
      told (step.Act name op.Stop) old new said own (same_own (step.Act name op.Stop) old new said own acts.0.1)
      (Err Order) acts.0.0 tt

  -- what a session is told that did this, where its line entered what it puts
  pub act_tells : (before : Entered) (old new : Seated) (resolver after : Known) (what : Op Text) (said : Said)
      → Own old.state → ((k : Key) (o : Option Value) → Enters (step.Act name what) name k o → entered name k o)
      → Acts bounds what old resolver said new after
      → Own new.state × SaidTells bounds before new.seat.events (step.Act name what) said
  act_tells before old new resolver after what said own more acts =
      let tells = acts_tell old new resolver after what said own more acts in
      (tells.0, said_act bounds entered before new.seat.events name what said tells.1)

  -- a session that has just begun tells of its start
  pub begin_tells : (what : Step Text) (old new : Known) (start : ℕ) → BeganAt bounds old start new
      → TellsBy bounds entered new.events what (reply.Start start)
  begin_tells what old new start began =
      let drawn : Among began.mid (event.Drawn old.seat start) =
      subst (λ (h : History). Among h (event.Drawn old.seat start)) (sym began.drew.is) (inl refl) in
      let before : Begins began.mid began.began.before =
      extends_begins old.seat began.mid began.began.before began.began.extends in (
        (
          old.seat,
          subst (λ (h : History). Among h (event.Drawn old.seat start)) (sym began.began.is)
              (inr (among_on began.mid began.began.before before (event.Drawn old.seat start) drawn)),
        ),
        subst (λ (h : History). Among h (event.Began start)) (sym began.began.is) (inl refl),
      )

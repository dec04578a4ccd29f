-- What the seat of a session knew begins what it then knows, whatever its line does.
use Rattle.std.proofs.Common.{◌≡◌, inl, inr, ℕ, Bool, true, false, List, Option, Some, None, Result, Ok, Err, refl, sym, ap, subst, ◌∙◌}
use Rattle.tx_types.specs.declared.fault.Fault.{Fault}
use Rattle.tx_types.specs.declared.key.Key.{Key}
use Rattle.tx_types.specs.declared.lock.LockInfo.{LockInfo}
use Rattle.tx_core.specs.declared.event.Declaration.{Declaration}
use Rattle.tx_core.specs.declared.event.Event.{Event}
use Rattle.tx_core.specs.declared.event.Event.TheVariants.{Began, Declared, Drawn}
use Rattle.tx_core.specs.Histories.{History, Begins}
use Rattle.tx_core.specs.Worlds.{IsWorldRun}
use Rattle.tx_core.proofs.seats.Beginnings.{begins_all, begins_more, extends_begins}
use Rattle.tx_journal.specs.Known.{Known, HasDrawn}
use Rattle.tx_journal.specs.Replies.{Asked}
use Rattle.tx_journal.specs.Senders.{Reached}
use Rattle.tx_journal.proofs.Calls.{recorded_begins, drawn_recorded}
use Rattle.tx_transaction.specs.declared.state.Terms.{Terms}
use Rattle.tx_transaction.specs.Sessions.{SessionState, can_draw, declaration, is_declared}
use Rattle.tx_client.specs.declared.resolved.Status.{Status}
use Rattle.tx_client.specs.Calls.{BeganAt, Draws, HasHeard, Records, RecordsDeclared, Seated}
use Rattle.tx_client.specs.Learns.{Learns, response_of}
use Rattle.tx_client.specs.Walks.{Walk, asks, grows, ends, Sends}
use Rattle.tx_evidence.proofs.Sends.{learns_begins}
use Rattle.tx_steps.specs.Steps.{Text}
use Rattle.tx_steps.specs.declared.op.Op.{Op}
use Rattle.tx_steps.specs.declared.op.Op.TheVariants as op
use Rattle.tx_steps.specs.declared.step.Step.{Step}
use Rattle.tx_steps.specs.declared.step.Step.TheVariants as step
use Rattle.tx_ops.specs.Acts.{Declares, DrawsIf}
use Rattle.tx_ops.specs.Calls.{Said, call_walk}
use Rattle.tx_ops.specs.Edits.{Edit, Edited, deletes, inserts, locks, puts}
use Rattle.tx_store.specs.Stores.{Replies}
use Rattle.tx_transfer.specs.Acts.{Acts, ResolvesOr}
use Rattle.tx_transfer.specs.Resolutions.{ResolvesMet}
use Rattle.tx_transfer.specs.Sends.{SendsOver}
use Rattle.tx_run.specs.Played.{Makes}

-- it is the same seat, what it knew begins what it knows, and that is a world run where it was one
pub record Follows (bounds : List Key) (old new : Known) : Type 0 where
  pub number : new.seat ≡ old.seat
  pub begins : Begins old.events new.events
  pub run : IsWorldRun bounds old.events → IsWorldRun bounds new.events

module _ (bounds : List Key) where
  pub follows_itself : (k : Known) → Follows bounds k k
  follows_itself k = record { number = refl; begins = begins_all k.events; run = λ run. run }

  pub follows_same : (k l : Known) → l ≡ k → Follows bounds k l
  follows_same k l is = subst (λ (x : Known). Follows bounds k x) (sym is) (follows_itself k)

  pub follows_more : (a b c : Known) → Follows bounds a b → Follows bounds b c → Follows bounds a c
  follows_more a b c first then = record {
    number = then.number ∙ first.number;
    begins = begins_more a.events b.events c.events first.begins then.begins;
    run = λ run. then.run (first.run run);
  }

  -- ---- what a seat does

  pub heard_follows : (k l : Known) (told : History) → HasHeard bounds k told l → Follows bounds k l
  heard_follows k l told heard = record {
    number = heard.number;
    begins = extends_begins k.seat k.events l.events heard.seen.extends;
    run = λ run. heard.seen.run;
  }

  pub records_follows : (k l : Known) (e : Event) → Records bounds k e l → Follows bounds k l
  records_follows k l e records = record {
    number = records.number;
    begins = recorded_begins bounds k.seat k.events l.events e records.recorded;
    run = λ run. records.recorded.run;
  }

  drawn_begins : (k : Known) (ticks ts : ℕ) (h : History) → HasDrawn bounds k.seat k.events ticks ts h
      → Begins k.events h
  drawn_begins k ticks ts h drew = recorded_begins bounds k.seat k.events h (Drawn k.seat ts)
      (drawn_recorded bounds k.seat k.events h ticks ts drew)

  pub draws_follows : (k l : Known) (c : ℕ) → Draws bounds k c l → Follows bounds k l
  draws_follows k l c draws = record {
    number = draws.number;
    begins = drawn_begins k 1 c l.events draws.drawn;
    run = λ run. draws.drawn.run;
  }

  pub begun_follows : (k l : Known) (start : ℕ) → BeganAt bounds k start l → Follows bounds k l
  begun_follows k l start began = record {
    number = began.number;
    begins = begins_more k.events began.mid l.events (drawn_begins k 1 start began.mid began.drew)
        (recorded_begins bounds k.seat began.mid l.events (Began start) began.began);
    run = λ run. began.began.run;
  }

  pub declared_follows : (k l : Known) (d : Option Declaration) → RecordsDeclared bounds k d l → Follows bounds k l
  declared_follows k l None is = follows_same k l is
  declared_follows k l (Some d) with_it = record {
    number = with_it.number;
    begins = begins_more k.events with_it.mid l.events (drawn_begins k 1 d.drawn with_it.mid with_it.drew)
        (recorded_begins bounds k.seat with_it.mid l.events (Declared d) with_it.recorded);
    run = λ run. with_it.recorded.run;
  }

  learnt_follows : (k l : Known) (r : Reached) → Learns bounds k r l → Follows bounds k l
  learnt_follows k l (Err lost) learns = follows_same k l learns
  learnt_follows k l (Ok g) learns = record {
    number = learns.0;
    begins = learns_begins bounds k l (Ok g) learns;
    run = λ run. learns.2.run;
  }

  walk_follows : {S R : Type 0} (sends : S → Asked → Reached → S → Type 0) (w : Walk R) (k l : Known) (from to : S)
      (r : R) → Sends sends bounds k from w r to l → Follows bounds k l
  walk_follows sends (ends s) k l from to r sent = follows_same k l sent.2
  walk_follows sends (grows more short) k l from to r (inl sent) = walk_follows sends short k l from to r sent
  walk_follows sends (grows more short) k l from to r (inr sent) = walk_follows sends more k l from to r sent
  walk_follows sends (asks body more) k l from to r (reached, mid, then, did, learns, rest) =
      follows_more k then l (learnt_follows k then reached learns)
      (walk_follows sends (more (response_of reached)) then l mid to r rest)

  pub sends_follows : {R : Type 0} (w : Walk R) (k l : Known) (r : R) → SendsOver bounds k w r l → Follows bounds k l
  sends_follows w k l r sent = walk_follows (Replies {S = Unit {0}}) w k l tt tt r sent

  -- ---- what a live session does

  same_follows : (old new : Seated) → new ≡ old → Follows bounds old.seat new.seat
  same_follows old new is = follows_same old.seat new.seat (ap (λ (s : Seated). s.seat) is)

  edit_follows : (e : List Bool → SessionState → Edit) (old new : Seated) (said : Said) → Edited e said old new
      → Follows bounds old.seat new.seat
  edit_follows e old new (Err cause) edited = same_follows old new edited.0
  edit_follows e old new (Ok it) (refused, inl (same, says)) = same_follows old new same
  edit_follows e old new (Ok it) (refused, inr (fine, is, enters)) =
      follows_same old.seat new.seat (ap (λ (s : Seated). s.seat) is)

  declare_follows : (already : Bool) (old new : Seated) (terms : Terms) (said : Said)
      → Declares bounds already old terms said new → Follows bounds old.seat new.seat
  declare_follows true old new terms said (is, same) = same_follows old new same
  declare_follows false old new terms said (inl (is, fits, state, records, placed)) =
      declared_follows old.seat new.seat
      (declaration old.state.start new.state.placed old.state.buffer terms) records
  declare_follows false old new terms said (inr (inl (is, exceeds, same))) = same_follows old new same
  declare_follows false old new terms said (inr (inr (is, fits, some, ticks, same))) = same_follows old new same

  draw_follows : (may : Bool) (old new : Seated) (said : Said) → DrawsIf bounds may old said new
      → Follows bounds old.seat new.seat
  draw_follows false old new said (is, same) = same_follows old new same
  draw_follows true old new said (inl (c, is, state, draws)) = draws_follows old.seat new.seat c draws
  draw_follows true old new said (inr (is, ticks, same)) = same_follows old new same

  pub met_follows : (old new : Seated) (resolver after : Known) (met : Option LockInfo) (now : Option ℕ)
      (found : Option Status) → ResolvesMet bounds old resolver met now found new after
      → Follows bounds old.seat new.seat
  met_follows old new resolver after None now found (none, same, stays) = same_follows old new same
  met_follows old new resolver after (Some lock) now found (status, some, resolves, state, heard) =
      heard_follows old.seat new.seat after.events heard

  resolve_follows : (old new : Seated) (resolver after : Known) (now : ℕ) (came : Result (Option Status) Fault)
      → ResolvesOr bounds old resolver now came new after → Follows bounds old.seat new.seat
  resolve_follows old new resolver after now (Ok found) by =
      met_follows old new resolver after old.state.met (Some now) found by
  resolve_follows old new resolver after now (Err e) same = same_follows old new same

  act_follows : (what : Op Text) (old new : Seated) (resolver after : Known) (said : Said)
      → Acts bounds what old resolver said new after → Follows bounds old.seat new.seat
  act_follows (op.Put key value) old new resolver after said acts =
      edit_follows (λ refused s. puts refused s key value) old new said acts.0
  act_follows (op.Insert key value) old new resolver after said acts =
      edit_follows (λ refused s. inserts refused s key value) old new said acts.0
  act_follows (op.Delete key) old new resolver after said acts =
      edit_follows (λ refused s. deletes refused s key) old new said acts.0
  act_follows (op.Lock key) old new resolver after said acts =
      edit_follows (λ refused s. locks refused s key) old new said acts.0
  act_follows (op.Declare mode ttl most) old new resolver after said acts =
      declare_follows (is_declared old.state) old new
      (record { mode = mode; ttl = ttl; max_commit = most }) said acts.0
  act_follows op.Draw old new resolver after said acts = draw_follows (can_draw old.state) old new said acts.0
  act_follows (op.Resolve now) old new resolver after said acts =
      resolve_follows old new resolver after now acts.0 acts.2
  act_follows op.Finish old new resolver after said acts = same_follows old new acts.0.1
  act_follows op.Stop old new resolver after said acts = same_follows old new acts.0.1

  -- whatever a live session makes of a step, its seat goes on
  pub makes_follows : (what : Step Text) (old new : Seated) (said : Said) → Makes bounds what old said new
      → Follows bounds old.seat new.seat
  makes_follows (step.Act name what) old new said (resolver, after, acts) =
      act_follows what old new resolver after said acts
  makes_follows (step.Send name what delivery) old new said sent =
      sends_follows (call_walk bounds old.state what) old.seat new.seat (new.state, said) sent
  makes_follows _ old new said made = same_follows old new made.1

-- As the lines of a session are played, its seat goes on.
use Rattle.std.proofs.Common.{◌≡◌, inl, inr, ℕ, Bool, true, false, List, [], ◌∷◌, Option, None, Result, Ok, Err, refl, ap}
use Rattle.std.specs.Prelude.{decimal}
use Rattle.tx_types.specs.declared.fault.Fault.{Fault}
use Rattle.tx_types.specs.declared.key.Key.{Key}
use Rattle.tx_types.specs.declared.value.Value.{Value}
use Rattle.tx_core.specs.declared.event.Event.TheVariants.{Answered, Stopped}
use Rattle.tx_journal.specs.Known.{Known}
use Rattle.tx_transaction.specs.declared.state.Terms.{Terms}
use Rattle.tx_transaction.specs.Sessions.{can_draw, declaration}
use Rattle.tx_client.specs.declared.resolved.Status.{Status}
use Rattle.tx_client.specs.Calls.{Seated}
use Rattle.tx_client.specs.Walks.{due_walk, get_walk}
use Rattle.tx_steps.specs.Steps.{Text}
use Rattle.tx_steps.specs.declared.step.Step.{Step}
use Rattle.tx_steps.specs.declared.transfer.Transfer.{Transfer}
use Rattle.tx_reply.specs.declared.reply.ScriptReply.{ScriptReply}
use Rattle.tx_transfer.specs.declared.progress.TransferProgress.{TransferProgress}
use Rattle.tx_transfer.specs.declared.progress.TransferProgress.TheVariants as progress
use Rattle.tx_transfer.specs.Replies.{said_of}
use Rattle.tx_transfer.specs.Steps.{Came, DeclaresOr, DrawsOr, DrewIf, Enters, Left}
use Rattle.tx_transfer.specs.TransferSteps.{Moving, PutsBoth, ResolvesOr, starting, terms_of}
use Rattle.tx_workload.specs.declared.reply.LineAnswer.{LineAnswer}
use Rattle.tx_workload.specs.declared.reply.LineAnswer.TheVariants.{Plain, Ended}
use Rattle.tx_workload.specs.declared.reply.LineReply.{LineReply}
use Rattle.tx_run.specs.Transfers.{Ends, HearsMore, Transfers}
use Rattle.tx_run.specs.Played.{Hears, IsUnread, LinePlays, NotBegun, Plays, Standing, free, known_at, live}
use Rattle.tx_run_laws.proofs.LineCases.{TurnCases, turn_by}
use Rattle.tx_run_laws.proofs.Seats.{Follows, begun_follows, declared_follows, draws_follows, follows_itself, follows_more, follows_same, heard_follows, makes_follows, met_follows, records_follows, sends_follows}
use Rattle.tx_run_laws.proofs.TransferRequests.{IsKept, steps_keep}

module _ (bounds : List Key) where
  -- ---- what a session does by steps of its own

  abbrev pub Goes : Seated → Seated → Type 0
  Goes s t = Follows bounds s.seat t.seat

  same_goes : (s t : Seated) → t ≡ s → Goes s t
  same_goes s t is = follows_same bounds s.seat t.seat (ap (λ (x : Seated). x.seat) is)

  pub enters_goes : (key : Key) (value : Value) (s t : Seated) (came : Came) → Enters key value s came t → Goes s t
  enters_goes key value s t (Ok u) is = follows_same bounds s.seat t.seat (ap (λ (x : Seated). x.seat) is)
  enters_goes key value s t (Err e) (same, why) = same_goes s t same

  pub declares_goes : (terms : Terms) (s t : Seated) (came : Came) → DeclaresOr bounds terms s came t → Goes s t
  declares_goes terms s t (Ok u) (fits, state, records) = declared_follows bounds s.seat t.seat
      (declaration s.state.start t.state.placed s.state.buffer terms) records
  declares_goes terms s t (Err e) (same, why) = same_goes s t same

  drew_goes : (may : Bool) (s t : Seated) → DrewIf bounds may s t → Goes s t
  drew_goes false s t same = same_goes s t same
  drew_goes true s t (c, state, draws) = draws_follows bounds s.seat t.seat c draws

  draws_goes : (s t : Seated) (came : Came) → DrawsOr bounds s came t → Goes s t
  draws_goes s t (Ok u) drew = drew_goes (can_draw s.state) s t drew
  draws_goes s t (Err e) (spent, may, ticks, same) = same_goes s t same

  resolved_goes : (s t : Seated) (came : Result (Option Status) Fault) → ResolvesOr bounds came s t → Goes s t
  resolved_goes s t (Ok found) (resolver, after, met) = met_follows bounds s t resolver after s.state.met None found met
  resolved_goes s t (Err e) same = same_goes s t same

  writes_go : (what : Transfer Text) (left : ℕ × ℕ) (s t : Seated) (came : Came) → PutsBoth bounds what left s came t
      → Goes s t
  writes_go what left s t came (inl (e, is, enters)) = enters_goes what.from (decimal left.0) s t (Err e) enters
  writes_go what left s t came (inr (one, first, inl (e, is, enters))) =
      follows_more bounds s.seat one.seat t.seat (enters_goes what.from (decimal left.0) s one (Ok tt) first)
      (enters_goes what.to (decimal left.1) one t (Err e) enters)
  writes_go what left s t came (inr (one, first, inr (two, second, declares))) =
      follows_more bounds s.seat one.seat t.seat (enters_goes what.from (decimal left.0) s one (Ok tt) first)
      (follows_more bounds one.seat two.seat t.seat (enters_goes what.to (decimal left.1) one two (Ok tt) second)
      (declares_goes (terms_of what) two t came declares))

  pub transfer_kept : (what : Transfer Text) → IsKept bounds what Goes
  transfer_kept what = record {
    itself = λ s. follows_itself bounds s.seat;
    more = λ r s t first then. follows_more bounds r.seat s.seat t.seat first then;
    got = λ s t key came sent. sends_follows bounds (get_walk s.state key) s.seat t.seat (t.state, came) sent;
    sent = λ s t x due came sent. sends_follows bounds (due_walk s.state x due) s.seat t.seat (t.state, came) sent;
    wrote = λ s t left came puts. writes_go what left s t came puts;
    drew = draws_goes;
    resolved = resolved_goes;
  }

  -- ---- transfers

  pub hears_goes : (s t : Seated) → HearsMore bounds s t → Goes s t
  hears_goes s t (state, told, heard) = heard_follows bounds s.seat t.seat told heard

  left_follows : (s : Seated) (k : Known) → Left bounds s k → Follows bounds s.seat k
  left_follows s k left = records_follows bounds s.seat k (Stopped s.seat.seat) left

  pub ends_follows : (m : Moving) (p : TransferProgress) (answer : LineAnswer) (k : Known) → Ends bounds m p answer k
      → Follows bounds m.session.seat k
  ends_follows m p (Plain (Ok plain)) k (given, (t, hears, left)) =
      follows_more bounds m.session.seat t.seat k (hears_goes m.session t hears) (left_follows t k left)
  ends_follows m progress.Over (Ended start o keys) k (is, pair, told, finished) =
      follows_more bounds m.session.seat finished.mid k
      (heard_follows bounds m.session.seat finished.mid told finished.heard)
      (records_follows bounds finished.mid k (Answered m.session.state.start o) finished.records)
  ends_follows m p answer k never = absurd never

  begun_moves : (what : Transfer Text) (k l : Known) (answer : LineAnswer) → Transfers bounds what k answer l
      → Follows bounds k l
  begun_moves what k l answer (inl (plain, is, not, same)) = follows_same bounds k l same
  begun_moves what k l answer (inr (s, t, number, begun, hears, inl ends)) =
      follows_more bounds k s.seat l (begun_follows bounds k s.seat s.state.start begun.1)
      (follows_more bounds s.seat t.seat l (hears_goes s t hears)
      (ends_follows (starting number what t) progress.OutOfMemory answer l ends))
  begun_moves what k l answer (inr (s, t, number, begun, hears, inr (last, p, steps, ends))) =
      let went = steps_keep bounds what Goes (transfer_kept what) (starting number what t) last p steps refl in
      follows_more bounds k s.seat l (begun_follows bounds k s.seat s.state.start begun.1)
      (follows_more bounds s.seat t.seat l (hears_goes s t hears)
      (follows_more bounds t.seat last.session.seat l went.1 (ends_follows last p answer l ends)))

  -- ---- lines

  not_begun_follows : (k l : Known) (said : ScriptReply) → NotBegun bounds k said l → Follows bounds k l
  not_begun_follows k l said (inl (is, ticks, same)) = follows_same bounds k l same
  not_begun_follows k l said (inr (is, s, t, begun, hears, left)) =
      follows_more bounds k s.seat l (begun_follows bounds k s.seat s.state.start begun.1)
      (follows_more bounds s.seat t.seat l (hears_goes s t hears) (left_follows t l left))

  abbrev LeadsOn : Step Text → Standing → LineAnswer → Standing → Type 0
  LeadsOn what from answer to = Follows bounds (known_at from) (known_at to)

  turn_cases : TurnCases bounds LeadsOn
  turn_cases = record {
    begun = λ name k p s named is begun. begun_follows bounds k s.seat s.state.start begun.1;
    not_begun = λ name k p l not. not_begun_follows k l p.reply not;
    finished = λ name s start o l is finish records. records_follows bounds s.seat l (Answered start o) records;
    unfinished = λ name s cause l left. left_follows s l left;
    stopped = λ name s p l is left. left_follows s l left;
    moved = λ name what k answer l told. begun_moves what k l answer told;
    fault = λ what k answer l is none same. follows_same bounds k l same;
    made = λ what s answer t stay makes. makes_follows bounds what s t (said_of answer) makes;
  }

  hears_on : (from to : Standing) → Hears bounds from to → Follows bounds (known_at from) (known_at to)
  hears_on from to (inl same) = follows_same bounds (known_at from) (known_at to) (ap known_at same)
  hears_on (free k) (free l) (inr (told, heard)) = heard_follows bounds k l told heard
  hears_on (live s) (live t) (inr more) = hears_goes s t more
  hears_on from to (inr never) = absurd never

  unread_on : (from : Standing) (answer : LineAnswer) (to : Standing) → IsUnread bounds from answer to
      → Follows bounds (known_at from) (known_at to)
  unread_on from (Plain (Ok p)) to (is, same) = follows_same bounds (known_at from) (known_at to) (ap known_at same)
  unread_on from answer to never = absurd never

  module _ (source : Option (List ℕ)) where
    -- what follows the turn of a line is known behind it
    pub line_there : (from : Standing) (s : LineReply) (to : Standing) (line : LinePlays bounds source from s to)
        → Follows bounds (known_at line.there) (known_at to)
    line_there from s to line = hears_on line.there to line.heard

    pub line_here : (from : Standing) (s : LineReply) (to : Standing) (line : LinePlays bounds source from s to)
        → Follows bounds (known_at from) (known_at line.here)
    line_here from s to line = hears_on from line.here line.hears

    pub line_follows : (from : Standing) (s : LineReply) (to : Standing) → LinePlays bounds source from s to
        → Follows bounds (known_at from) (known_at to)
    line_follows from s to line =
        let turned : Follows bounds (known_at line.here) (known_at line.there) = elim line.turns [
          | inl turns ↦ turn_by bounds LeadsOn turn_cases line.what line.here s.answer line.there turns
          | inr unread ↦ unread_on line.here s.answer line.there unread
        ] in
        follows_more bounds (known_at from) (known_at line.here) (known_at to) (line_here from s to line)
        (follows_more bounds (known_at line.here) (known_at line.there) (known_at to) turned
        (line_there from s to line))

    pub plays_follow : (from last : Standing) (replies : List LineReply) → Plays bounds source from replies last
        → Follows bounds (known_at from) (known_at last)
    plays_follow from last [] is = follows_same bounds (known_at from) (known_at last) (ap known_at is)
    plays_follow from last (s ∷ more) (next, line, rest) =
        follows_more bounds (known_at from) (known_at next) (known_at last) (line_follows from s next line)
        (plays_follow next last more rest)

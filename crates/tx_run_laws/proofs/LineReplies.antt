-- What a line of a played session is told tells of what its seat then knows.
use Rattle.std.proofs.Common.{◌≡◌, inl, inr, ℕ, ◌+◌, List, [], ◌∷◌, All, Option, Some, Result, Ok, Err, refl, sym, subst}
use Rattle.std.proofs.lemmas.List.Elements.{All-nil, All-cons}
use Rattle.tx_types.specs.declared.fault.Cause.{Cause}
use Rattle.tx_types.specs.declared.fault.Cause.TheVariants.{Name}
use Rattle.tx_types.specs.declared.key.Key.{Key}
use Rattle.tx_core.specs.declared.event.Event.{Event}
use Rattle.tx_core.specs.declared.event.Event.TheVariants.{Answered}
use Rattle.tx_core.specs.Histories.{History, Among}
use Rattle.tx_journal.specs.Known.{Known}
use Rattle.tx_transaction.specs.Buffers.{Entries}
use Rattle.tx_transaction.specs.Sessions.{SessionState}
use Rattle.tx_client.specs.Calls.{Records, Seated}
use Rattle.tx_evidence.specs.Buffers.{AllBy}
use Rattle.tx_evidence.specs.Tells.{TellsBy}
use Rattle.tx_steps.specs.Steps.{Text}
use Rattle.tx_steps.specs.declared.op.Op.TheVariants as op
use Rattle.tx_steps.specs.declared.step.Step.{Step}
use Rattle.tx_steps.specs.declared.step.Step.TheVariants as step
use Rattle.tx_steps.specs.declared.transfer.Transfer.{Transfer}
use Rattle.tx_reply.specs.declared.reply.ScriptReply.{ScriptReply}
use Rattle.tx_reply.specs.declared.reply.ScriptReply.TheVariants as reply
use Rattle.tx_ops.specs.Calls.{Said}
use Rattle.tx_transfer.specs.declared.plain_reply.PlainReply.{PlainReply}
use Rattle.tx_transfer.specs.declared.progress.TransferProgress.{TransferProgress}
use Rattle.tx_transfer.specs.declared.progress.TransferProgress.TheVariants as progress
use Rattle.tx_transfer.specs.Replies.{said_of}
use Rattle.tx_transfer.specs.TransferSteps.{Moving, starting}
use Rattle.tx_workload.specs.declared.reply.LineAnswer.{LineAnswer}
use Rattle.tx_workload.specs.declared.reply.LineAnswer.TheVariants.{Plain, Ended}
use Rattle.tx_workload.specs.declared.reply.LineReply.{LineReply}
use Rattle.tx_workload.specs.Answers.{numbers_of}
use Rattle.tx_workload.specs.Readers.{HasSession}
use Rattle.tx_workload.specs.Tells.{AnswerTells, AreEntered, AreOf, EnteredBefore, EnteredBy, SaidTells, SaysOwn, TellsLine, TellsSeed, session_name}
use Rattle.tx_workload.proofs.Evidence.{line_tells_on}
use Rattle.tx_workload.proofs.StepReplies.{begin_tells}
use Rattle.tx_run.specs.Transfers.{Ends, IsGivenUp, IsNotBegun, Transfers}
use Rattle.tx_run.specs.Played.{Hears, IsUnread, LinePlays, Makes, NotBegun, Plays, Standing, at, buffer_at, free, known_at, live}
use Rattle.tx_run.proofs.LinesLeft.{first_entered, first_own, first_rises, rest_own}
use Rattle.tx_run.proofs.OwnLines.{act_own, later_entered, next_entered, send_own}
use Rattle.tx_run_laws.proofs.LineCases.{TurnCases, turn_by}
use Rattle.tx_run_laws.proofs.LineSeats.{line_there, plays_follow}

-- its session's buffer
abbrev entries_of : Standing → Entries
entries_of s = buffer_at (at s)

-- an event that a seat recorded stands in what it then knows
pub recorded_among : (bounds : List Key) (k l : Known) (e : Event) → Records bounds k e l → Among l.events e
recorded_among bounds k l e records =
    subst (λ (h : History). Among h e) (sym records.recorded.is) (inl refl)

module _ (bounds : List Key) (source : Option (List ℕ)) (job number : ℕ) where
  -- what an answer tells at this history, of a line that says this
  abbrev Tells : History → Step Text → LineAnswer → Type 0
  Tells h what answer = AnswerTells bounds (EnteredBefore source number) h (Some what) answer

  abbrev TellsReply : History → Step Text → ScriptReply → Type 0
  TellsReply h what it = TellsBy bounds (EnteredBefore source number) h what it × TellsSeed h what it

  told_as : (h : History) (what : Step Text) (p : PlainReply) (it : ScriptReply) → p.reply ≡ it → TellsReply h what it
      → Tells h what (Plain (Ok p))
  told_as h what p it is tells = subst (λ (x : ScriptReply). TellsReply h what x) (sym is) tells

  tells_same : (h : History) (what : Step Text) (a b : LineAnswer) → a ≡ b → Tells h what b → Tells h what a
  tells_same h what a b is tells = subst (λ (x : LineAnswer). Tells h what x) (sym is) tells

  -- ---- a transfer's line

  module _ (name : Text) (what : Transfer Text) (h : History) where
    abbrev ToldSo : LineAnswer → Type 0
    ToldSo answer = Tells h (step.Transfer name what) answer

    given_up : (m : Moving) (p : TransferProgress) (plain : PlainReply) → IsGivenUp m p plain.reply
        → ToldSo (Plain (Ok plain))
    given_up m progress.Over plain (is, none) = told_as h (step.Transfer name what) plain reply.OutOfMemory is (tt, tt)
    given_up m progress.Spent plain is = told_as h (step.Transfer name what) plain reply.OracleSpent is (tt, tt)
    given_up m progress.OutOfMemory plain is = told_as h (step.Transfer name what) plain reply.OutOfMemory is (tt, tt)
    given_up m progress.More plain never = absurd never

    not_begun_told : (k : Known) (plain : PlainReply) → IsNotBegun what k plain.reply → ToldSo (Plain (Ok plain))
    not_begun_told k plain (inl is) = told_as h (step.Transfer name what) plain reply.OutOfMemory is (tt, tt)
    not_begun_told k plain (inr (inl (is, length))) =
        told_as h (step.Transfer name what) plain reply.KeyLength is (tt, tt)
    not_begun_told k plain (inr (inr (is, ticks))) =
        told_as h (step.Transfer name what) plain reply.OracleSpent is (tt, tt)

  ends_told : (name : Text) (what : Transfer Text) (m : Moving) (p : TransferProgress) (answer : LineAnswer) (k : Known)
      → Ends bounds m p answer k → Tells k.events (step.Transfer name what) answer
  ends_told name what m p (Plain (Ok plain)) k (given, left) = given_up name what k.events m p plain given
  ends_told name what m progress.Over (Ended start o keys) k (is, pair, told, finished) = (
    m.session.state.start,
    recorded_among bounds finished.mid k (Answered m.session.state.start o) finished.records,
  )
  ends_told name what m p answer k never = absurd never

  transfer_told : (name : Text) (what : Transfer Text) (k : Known) (answer : LineAnswer) (l : Known)
      → Transfers bounds what k answer l → Tells l.events (step.Transfer name what) answer
  transfer_told name what k answer l (inl (plain, is, not, same)) =
      tells_same l.events (step.Transfer name what) answer (Plain (Ok plain)) is
      (not_begun_told name what l.events k plain not)
  transfer_told name what k answer l (inr (s, t, n, begun, hears, inl ends)) =
      ends_told name what (starting n what t) progress.OutOfMemory answer l ends
  transfer_told name what k answer l (inr (s, t, n, begun, hears, inr (last, p, steps, ends))) =
      ends_told name what last p answer l ends

  -- ---- a live session's line

  -- what a session has entered, lines of its own before this one did; then lines before the next
  abbrev Own : Entries → Type 0
  Own es = AllBy (EnteredBy source job number) es

  abbrev OwnNext : Entries → Type 0
  OwnNext es = AllBy (EnteredBy source job (number + 1)) es

  own_next : (s : Standing) → Own (entries_of s) → OwnNext (entries_of s)
  own_next s own = next_entered source job number (entries_of s) own

  nothing_made : (what : Step Text) (s t : Seated) (said : Said) (cause : Cause) → said ≡ Err cause → t ≡ s
      → Own s.state.buffer
      → OwnNext t.state.buffer × SaidTells bounds (EnteredBefore source number) t.seat.events what said
  nothing_made what s t said cause is same own = (
    subst (λ (x : Seated). OwnNext x.state.buffer) (sym same) (own_next (live s) own),
    subst (λ (x : Said). SaidTells bounds (EnteredBefore source number) t.seat.events what x) (sym is) tt,
  )

  made_told : (what : Step Text) (s t : Seated) (said : Said) → SaysOwn source job number what → Own s.state.buffer
      → Makes bounds what s said t
      → OwnNext t.state.buffer × SaidTells bounds (EnteredBefore source number) t.seat.events what said
  made_told (step.Act name o) s t said says own (resolver, after, acts) =
      act_own source bounds job number name s t said own resolver after o says acts
  made_told (step.Send name c d) s t said says own sent =
      send_own source bounds job number name s t said own c d says sent
  made_told what s t said says own made = nothing_made what s t said _ made.0 made.1 own

  answer_told : (what : Step Text) (h : History) (answer : Result PlainReply Cause)
      → SaidTells bounds (EnteredBefore source number) h what (said_of answer) → Tells h what (Plain answer)
  answer_told what h (Ok plain) tells = tells
  answer_told what h (Err cause) tells = tt

  -- ---- each kind of turn

  abbrev Tellings : Step Text → Standing → LineAnswer → Standing → Type 0
  Tellings what from answer to = SaysOwn source job number what → Own (entries_of from)
      → OwnNext (entries_of to) × Tells (known_at to).events what answer

  not_begun_tells : (name : Text) (h : History) (k : Known) (p : PlainReply) (l : Known) → NotBegun bounds k p.reply l
      → Tells h (step.Begin name) (Plain (Ok p))
  not_begun_tells name h k p l (inl (is, ticks, same)) = told_as h (step.Begin name) p reply.OracleSpent is (tt, tt)
  not_begun_tells name h k p l (inr (is, s, t, begun, hears, left)) =
      told_as h (step.Begin name) p reply.OutOfMemory is (tt, tt)

  turn_cases : TurnCases bounds Tellings
  turn_cases = record {
    begun = λ name k p s named is begun says own. (
      subst (λ (x : SessionState). OwnNext x.buffer) (sym begun.0) tt,
      told_as s.seat.events (step.Begin name) p (reply.Start s.state.start) is
          (begin_tells bounds (EnteredBefore source number) [] (step.Begin name) k s.seat s.state.start begun.1, tt),
    );
    not_begun = λ name k p l not says own. (tt, not_begun_tells name l.events k p l not);
    finished = λ name s start o l is finish records says own.
        (tt, (start, recorded_among bounds s.seat l (Answered start o) records));
    unfinished = λ name s cause l left says own. (tt, tt);
    stopped = λ name s p l is left says own.
        (tt, told_as l.events (step.Act name op.Stop) p reply.Fine is (tt, tt));
    moved = λ name what k answer l told says own. (tt, transfer_told name what k answer l told);
    fault = λ what k answer l is none same says own. (tt, tells_same l.events what answer (Plain (Err Name)) is tt);
    made = λ what s answer t stay makes says own.
        (let told = made_told what s t (said_of answer) says own makes in
        (told.0, answer_told what t.seat.events answer told.1));
  }

  -- ---- a line

  seed_unread : (h : History) (what : Step Text) → TellsSeed h what reply.OutOfMemory
  seed_unread h (step.Seed key value) = refl
  seed_unread h _ = tt

  unread_tells : (what : Step Text) (from : Standing) (answer : LineAnswer) (to : Standing)
      → IsUnread bounds from answer to
      → Tellings what from answer to
  unread_tells what from (Plain (Ok p)) to (is, same) says own = (
    subst (λ (x : Standing). OwnNext (entries_of x)) (sym same) (own_next from own),
    told_as (known_at to).events what p reply.OutOfMemory is (tt, seed_unread (known_at to).events what),
  )
  unread_tells what from answer to never says own = absurd never

  -- its buffer stays as it was, as its seat hears of others
  hears_own : (P : Entries → Type 0) (from to : Standing) → Hears bounds from to → P (entries_of from)
      → P (entries_of to)
  hears_own P from to (inl same) own = subst (λ (x : Standing). P (entries_of x)) (sym same) own
  hears_own P (free k) (free l) (inr heard) own = own
  hears_own P (live s) (live t) (inr (state, told, heard)) own =
      subst (λ (x : SessionState). P x.buffer) (sym state) own
  hears_own P from to (inr never) own = absurd never

module _ (bounds : List Key) (source : Option (List ℕ)) (job : ℕ) where
  -- a line of a session is played: what it is told tells of what its seat then knows
  pub line_tells : (from : Standing) (s : LineReply) (to : Standing) → LinePlays bounds source from s to
      → HasSession source s.number (session_name source job)
      → AllBy (EnteredBy source job s.number) (entries_of from)
      → AllBy (EnteredBy source job (s.number + 1)) (entries_of to) × TellsLine source bounds (known_at to).events s
  line_tells from s to line named own =
      let n = s.number in
      let says : SaysOwn source job n line.what = record { says = line.says; named = named } in
      let here = hears_own bounds source job n (AllBy (EnteredBy source job n)) from line.here line.hears own in
      let told : AllBy (EnteredBy source job (n + 1)) (entries_of line.there)
      × AnswerTells bounds (EnteredBefore source n) (known_at line.there).events (Some line.what) s.answer =
      elim line.turns [
        | inl turns ↦ turn_by bounds (Tellings bounds source job n) (turn_cases bounds source job n) line.what line.here
            s.answer line.there turns says here
        | inr unread ↦ unread_tells bounds source job n line.what line.here s.answer line.there unread says here
      ] in (
        hears_own bounds source job n (AllBy (EnteredBy source job (n + 1))) line.there to line.heard told.0,
        line_tells_on source bounds (known_at line.there).events (known_at to).events
            (line_there bounds source from s to line).begins s (Some line.what, line.says, told.1),
      )

  -- so are all of them
  pub plays_tell : (from last : Standing) (replies : List LineReply) → Plays bounds source from replies last
      → AreOf source job (numbers_of replies) → AreEntered source job (numbers_of replies) (entries_of from)
      → All (TellsLine source bounds (known_at last).events) replies
  plays_tell from last [] is own entered = All-nil (TellsLine source bounds (known_at last).events)
  plays_tell from last (s ∷ more) (next, line, rest) own entered =
      let n = s.number in
      let left = numbers_of more in
      let told = line_tells from s next line (first_own source job n left own)
      (first_entered source job n left (entries_of from) entered) in
      let later = first_rises source n left own.rise in
      All-cons (TellsLine source bounds (known_at last).events) s more
      (line_tells_on source bounds (known_at next).events (known_at last).events
      (plays_follow bounds source next last more rest).begins s told.1)
      (plays_tell next last more rest (rest_own source job n left own)
      (later_entered source job n left (entries_of next) later told.0))

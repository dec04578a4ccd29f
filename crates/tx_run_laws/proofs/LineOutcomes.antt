-- The outcome that a line of a played session is told was answered by its seat, once, with the keys
-- that the line says.
use Rattle.std.proofs.Common.{◌≡◌, ◌≢◌, ◌⊎◌, inl, inr, ℕ, List, [], ◌∷◌, ◌++◌, All, Option, Some, None, Result, Ok, Err, refl, sym, ap, subst, ◌∙◌, append_assoc, append-nil}
use Rattle.std.proofs.lemmas.List.Elements.{All-nil, All-cons}
use Rattle.tx_types.specs.declared.fault.Cause.{Cause}
use Rattle.tx_types.specs.declared.fault.Cause.TheVariants.{Name}
use Rattle.tx_types.specs.declared.key.Key.{Key}
use Rattle.tx_core.specs.declared.event.Event.TheVariants.{Answered}
use Rattle.tx_core.specs.declared.event.Outcome.{Outcome}
use Rattle.tx_core.specs.declared.event.Outcome.TheVariants as outcome
use Rattle.tx_core.specs.Histories.{History, Begins, drawer}
use Rattle.tx_core.specs.Worlds.{IsWorldRun}
use Rattle.tx_core.proofs.seats.Beginnings.{begins_more, extends_begins}
use Rattle.tx_journal.specs.Known.{Known}
use Rattle.tx_client.specs.Calls.{Records}
use Rattle.tx_steps.specs.Steps.{IsApart, Text}
use Rattle.tx_steps.specs.declared.step.Step.{Step}
use Rattle.tx_steps.specs.declared.step.Step.TheVariants as step
use Rattle.tx_steps.specs.declared.transfer.Transfer.{Transfer}
use Rattle.tx_transfer.specs.declared.plain_reply.PlainReply.{PlainReply}
use Rattle.tx_transfer.specs.declared.progress.TransferProgress.{TransferProgress}
use Rattle.tx_transfer.specs.declared.progress.TransferProgress.TheVariants as progress
use Rattle.tx_transfer.specs.Sources.{pair_of}
use Rattle.tx_transfer.specs.TransferSteps.{Moving, starting}
use Rattle.tx_transfer.specs.Transfers.{IsBetween}
use Rattle.tx_workload.specs.declared.reply.LineAnswer.{LineAnswer}
use Rattle.tx_workload.specs.declared.reply.LineAnswer.TheVariants.{Plain, Ended}
use Rattle.tx_workload.specs.declared.reply.LineReply.{LineReply}
use Rattle.tx_workload.specs.Logs.{IsAnswered, StandsBy, TellsBy, answer_to}
use Rattle.tx_workload.specs.Outcomes.{AreApart}
use Rattle.tx_workload.specs.Pairs.{SaysPair, TellsPair}
use Rattle.tx_workload.proofs.SessionAnswers.{fresh, none_apart, plain_apart, tells_on, told_more}
use Rattle.tx_run.specs.Transfers.{Ends, Transfers}
use Rattle.tx_run.specs.Played.{IsUnread, LinePlays, Plays, Standing, known_at}
use Rattle.tx_run_laws.proofs.LineCases.{TurnCases, turn_by}
use Rattle.tx_run_laws.proofs.LineReplies.{recorded_among}
use Rattle.tx_run_laws.proofs.LineSeats.{Goes, hears_goes, line_follows, line_here, line_there, transfer_kept}
use Rattle.tx_run_laws.proofs.SaidSteps.{says_apart, says_pair}
use Rattle.tx_run_laws.proofs.Seats.{Follows, begun_follows, follows_itself, follows_more, heard_follows}
use Rattle.tx_run_laws.proofs.TransferDeclarations.{IsSo, StaysSo, declares_kept, ended_between, started_so}
use Rattle.tx_run_laws.proofs.TransferRequests.{steps_keep}

between_none : (h : History) (t : ℕ) (o : Outcome) → IsBetween h t o None
between_none h t (outcome.Committed c) = tt
between_none h t outcome.Aborted = tt
between_none h t (outcome.Unknown why) = tt
between_none h t outcome.ReadOnly = tt

-- an outcome that was recorded by a seat that went on from here, of a transaction that declared
-- just the keys with which it is told
pub record Concludes (bounds : List Key) (k : Known) (start : ℕ) (o : Outcome) (keys : Option (Key × Key)) (l : Known)
    : Type 0 where
  pub mid : Known
  pub follows : Follows bounds k mid
  pub records : Records bounds mid (Answered start o) l
  pub between : IsBetween l.events start o keys

module _ (bounds : List Key) where
  -- an answer tells no outcome, or this one, with the keys of its step
  abbrev Tells : Step Text → Known → LineAnswer → Known → Type 0
  Tells what k answer l = ((plain : Result PlainReply Cause) × (answer ≡ Plain plain))
      ⊎ ((start : ℕ) × (o : Outcome) × (answer ≡ Ended start o (pair_of what))
      × Concludes bounds k start o (pair_of what) l)

  ends_tell : (name : Text) (what : Transfer Text) (apart : what.from ≢ what.to) (k : Known) (m : Moving)
      (p : TransferProgress) (answer : LineAnswer) (l : Known) → m.what ≡ what → Follows bounds k m.session.seat
      → IsSo bounds what apart m.session → Ends bounds m p answer l → Tells (step.Transfer name what) k answer l
  ends_tell name what apart k m p (Plain (Ok plain)) l same went so (given, left) = inl (Ok plain, refl)
  ends_tell name what apart k m progress.Over (Ended start o keys) l same went so (is, pair, told, finished) =
      let both : keys ≡ Some (what.from, what.to) =
      pair ∙ ap (λ (t : Transfer Text). Some (t.from, t.to)) same in
      let at = m.session.state.start in
      inr (
        at,
        o,
        ap (λ (n : ℕ). Ended n o keys) is ∙ ap (λ (x : Option (Key × Key)). Ended at o x) both,
        record {
          mid = finished.mid;
          follows = follows_more bounds k m.session.seat finished.mid went
              (heard_follows bounds m.session.seat finished.mid told finished.heard);
          records = finished.records;
          between = ended_between bounds what apart m.session finished.mid l told o so finished.heard finished.records;
        },
      )
  ends_tell name what apart k m p answer l same went so never = absurd never

  transfer_tells : (name : Text) (what : Transfer Text) (k : Known) (answer : LineAnswer) (l : Known)
      → what.from ≢ what.to → Transfers bounds what k answer l → Tells (step.Transfer name what) k answer l
  transfer_tells name what k answer l apart (inl (plain, is, not, same)) = inl (Ok plain, is)
  transfer_tells name what k answer l apart (inr (s, t, number, begun, hears, inl ends)) =
      let went = follows_more bounds k s.seat t.seat (begun_follows bounds k s.seat s.state.start begun.1)
      (hears_goes bounds s t hears) in
      ends_tell name what apart k (starting number what t) progress.OutOfMemory answer l refl went
      (started_so bounds what apart k s t begun hears) ends
  transfer_tells name what k answer l apart (inr (s, t, number, begun, hears, inr (last, p, steps, ends))) =
      let first = starting number what t in
      let goes = steps_keep bounds what (Goes bounds) (transfer_kept bounds what) first last p steps refl in
      let keeps = steps_keep bounds what (StaysSo bounds what apart) (declares_kept bounds what apart) first last p
      steps refl in
      let went = follows_more bounds k s.seat t.seat (begun_follows bounds k s.seat s.state.start begun.1)
      (hears_goes bounds s t hears) in
      ends_tell name what apart k last p answer l goes.0 (follows_more bounds k t.seat last.session.seat went goes.1)
      (keeps.1 (started_so bounds what apart k s t begun hears)) ends

  -- ---- each kind of turn

  abbrev Telling : Step Text → Standing → LineAnswer → Standing → Type 0
  Telling what from answer to = IsApart what → Tells what (known_at from) answer (known_at to)

  turn_cases : TurnCases bounds Telling
  turn_cases = record {
    begun = λ name k p s named is begun apart. inl (Ok p, refl);
    not_begun = λ name k p l not apart. inl (Ok p, refl);
    finished = λ name s start o l is finish records apart. inr (
      start,
      o,
      refl,
      record {
        mid = s.seat;
        follows = follows_itself bounds s.seat;
        records = records;
        between = between_none l.events start o;
      },
    );
    unfinished = λ name s cause l left apart. inl (Err cause, refl);
    stopped = λ name s p l is left apart. inl (Ok p, refl);
    moved = λ name what k answer l told apart. transfer_tells name what k answer l apart told;
    fault = λ what k answer l is none same apart. inl (Err Name, is);
    made = λ what s answer t stay makes apart. inl (answer, refl);
  }

  unread_plain : (from : Standing) (answer : LineAnswer) (to : Standing) → IsUnread bounds from answer to
      → (plain : Result PlainReply Cause) × (answer ≡ Plain plain)
  unread_plain from (Plain (Ok p)) to (is, same) = (Ok p, refl)
  unread_plain from answer to never = absurd never

  module _ (text : List ℕ) where
    -- a line tells no outcome, or one with the keys that it says
    line_told : (from : Standing) (s : LineReply) (to : Standing) (line : LinePlays bounds (Some text) from s to)
        → Tells line.what (known_at line.here) s.answer (known_at line.there)
    line_told from s to line = elim line.turns [
      | inl turns ↦ turn_by bounds Telling turn_cases line.what line.here s.answer line.there turns
          (says_apart s.number line.what text line.says)
      | inr unread ↦ inl (unread_plain line.here s.answer line.there unread)
    ]

    pub line_pair : (from : Standing) (s : LineReply) (to : Standing) → LinePlays bounds (Some text) from s to
        → TellsPair (Some text) s
    line_pair from s to line = elim (line_told from s to line) [
      | inl plain ↦ subst (λ (a : LineAnswer). SaysPair (Some text) s.number a) (sym plain.1) tt
      | inr ended ↦ subst (λ (a : LineAnswer). SaysPair (Some text) s.number a) (sym ended.2)
          (says_pair s.number line.what (Some text) line.says)
    ]

    pub plays_pair : (from last : Standing) (replies : List LineReply) → Plays bounds (Some text) from replies last
        → All (TellsPair (Some text)) replies
    plays_pair from last [] is = All-nil (TellsPair (Some text))
    plays_pair from last (s ∷ more) (next, line, rest) =
        All-cons (TellsPair (Some text)) s more (line_pair from s next line) (plays_pair next last more rest)

    -- ---- each is of its own transaction

    module _ (seat : ℕ) where
      plain_more : (l h : History) (seen : List LineReply) (s : LineReply) (plain : Result PlainReply Cause)
          → s.answer ≡ Plain plain → IsWorldRun bounds h → Begins l h → TellsBy l seat seen
          → TellsBy h seat (seen ++ s ∷ [])
      plain_more l h seen s plain is run begins tells =
          let now = sym (ap (λ (a : LineAnswer). answer_to s.number a) is) in
          told_more h seat seen s (tells_on bounds l h run begins seat seen tells)
          (subst (λ (a : LineAnswer). StandsBy h seat a) (sym is) tt)
          (subst (λ (x : LineReply). All (λ y. AreApart y x) seen) now (plain_apart plain s.number seen))

      ended_more : (k l : Known) (seen : List LineReply) (s : LineReply) (start : ℕ) (o : Outcome)
          (keys : Option (Key × Key)) → s.answer ≡ Ended start o keys → Concludes bounds k start o keys l
          → k.seat ≡ seat → TellsBy k.events seat seen → TellsBy l.events seat (seen ++ s ∷ [])
      ended_more k l seen s start o keys is ended at tells =
          let r = ended.records.recorded in
          let knew = begins_more k.events ended.mid.events r.before ended.follows.begins
          (extends_begins ended.mid.seat ended.mid.events r.before r.extends) in
          let run : IsWorldRun bounds (Answered start o ∷ r.before) = subst (IsWorldRun bounds) r.is r.run in
          let begins : Begins k.events l.events = subst (λ (h : History). Begins k.events h) (sym r.is) (inr knew) in
          let answered : IsAnswered l.events seat start o keys = record {
            drew = ap (λ (h : History). drawer h start) r.is ∙ r.own ∙ ap Some (ended.follows.number ∙ at);
            among = recorded_among bounds ended.mid l (Answered start o) ended.records;
            between = ended.between;
          } in
          let now = sym (ap (λ (a : LineAnswer). answer_to s.number a) is) in
          told_more l.events seat seen s (tells_on bounds k.events l.events r.run begins seat seen tells)
          (subst (λ (a : LineAnswer). StandsBy l.events seat a) (sym is) answered)
          (subst (λ (x : LineReply). All (λ y. AreApart y x) seen) now
          (none_apart start o keys s.number seen (fresh bounds k.events r.before seat start o seen run knew tells)))

      line_stands : (from : Standing) (s : LineReply) (to : Standing) → LinePlays bounds (Some text) from s to
          → (seen : List LineReply) → IsWorldRun bounds (known_at from).events → (known_at from).seat ≡ seat
          → TellsBy (known_at from).events seat seen → TellsBy (known_at to).events seat (seen ++ s ∷ [])
      line_stands from s to line seen run at tells =
          let here = line_here bounds (Some text) from s to line in
          let all = line_follows bounds (Some text) from s to line in
          let there = line_there bounds (Some text) from s to line in
          elim (line_told from s to line) [
            | inl plain ↦ plain_more (known_at from).events (known_at to).events seen s plain.0 plain.1 (all.run run)
                all.begins tells
            | inr ended ↦ tells_on bounds (known_at line.there).events (known_at to).events (all.run run) there.begins
                seat (seen ++ s ∷ [])
                (ended_more (known_at line.here) (known_at line.there) seen s ended.0 ended.1 (pair_of line.what)
                ended.2 ended.3 (here.number ∙ at)
                (tells_on bounds (known_at from).events (known_at line.here).events (here.run run) here.begins seat seen
                tells))
          ]

      -- behind what was told before, the lines that are played are told outcomes of their seat
      pub plays_stand : (from last : Standing) (replies : List LineReply) → Plays bounds (Some text) from replies last
          → (seen : List LineReply) → IsWorldRun bounds (known_at from).events → (known_at from).seat ≡ seat
          → TellsBy (known_at from).events seat seen → TellsBy (known_at last).events seat (seen ++ replies)
      plays_stand from last [] is seen run at tells =
          subst (λ (l : List LineReply). TellsBy (known_at last).events seat l) (sym (append-nil seen))
          (subst (λ (x : Standing). TellsBy (known_at x).events seat seen) (sym is) tells)
      plays_stand from last (s ∷ more) (next, line, rest) seen run at tells =
          let went = line_follows bounds (Some text) from s next line in
          subst (λ (l : List LineReply). TellsBy (known_at last).events seat l) (append_assoc seen (s ∷ []) more)
          (plays_stand next last more rest (seen ++ s ∷ []) (went.run run) (went.number ∙ at)
          (line_stands from s next line seen run at tells))

-- What the step of a line leads to, kind by kind.
use Rattle.std.proofs.Common.{◌≡◌, inl, inr, ℕ, true, false, List, Some, None, Result, Ok, Err, ap}
use Rattle.tx_types.specs.Names.{is_name}
use Rattle.tx_types.specs.declared.fault.Cause.{Cause}
use Rattle.tx_types.specs.declared.fault.Cause.TheVariants.{Name}
use Rattle.tx_types.specs.declared.key.Key.{Key}
use Rattle.tx_core.specs.declared.event.Event.TheVariants.{Answered}
use Rattle.tx_core.specs.declared.event.Outcome.{Outcome}
use Rattle.tx_journal.specs.Known.{Known}
use Rattle.tx_transaction.specs.Sessions.{finish_of}
use Rattle.tx_client.specs.Calls.{Records, Seated}
use Rattle.tx_steps.specs.Steps.{Text}
use Rattle.tx_steps.specs.declared.op.Op.TheVariants as op
use Rattle.tx_steps.specs.declared.step.Step.{Step}
use Rattle.tx_steps.specs.declared.step.Step.TheVariants as step
use Rattle.tx_steps.specs.declared.transfer.Transfer.{Transfer}
use Rattle.tx_reply.specs.declared.reply.ScriptReply.TheVariants as reply
use Rattle.tx_transfer.specs.declared.plain_reply.PlainReply.{PlainReply}
use Rattle.tx_transfer.specs.Replies.{said_of}
use Rattle.tx_transfer.specs.Steps.{Begun, Left}
use Rattle.tx_workload.specs.declared.reply.LineAnswer.{LineAnswer}
use Rattle.tx_workload.specs.declared.reply.LineAnswer.TheVariants.{Plain, Ended}
use Rattle.tx_run.specs.Played.{Makes, NotBegun, Standing, Turns, begins, free, live, stays}
use Rattle.tx_run.specs.Transfers.{Transfers}

-- what holds of each kind of turn
pub record TurnCases (bounds : List Key) (Q : Step Text → Standing → LineAnswer → Standing → Type 0) : Type 0 where
  pub begun : (name : Text) (k : Known) (p : PlainReply) (s : Seated) → is_name name ≡ true
      → p.reply ≡ reply.Start s.state.start → Begun bounds k s → Q (step.Begin name) (free k) (Plain (Ok p)) (live s)
  pub not_begun : (name : Text) (k : Known) (p : PlainReply) (l : Known) → NotBegun bounds k p.reply l
      → Q (step.Begin name) (free k) (Plain (Ok p)) (free l)
  pub finished : (name : Text) (s : Seated) (start : ℕ) (o : Outcome) (l : Known) → start ≡ s.state.start
      → finish_of s.state ≡ Some o → Records bounds s.seat (Answered start o) l
      → Q (step.Act name op.Finish) (live s) (Ended start o None) (free l)
  pub unfinished : (name : Text) (s : Seated) (cause : Cause) (l : Known) → Left bounds s l
      → Q (step.Act name op.Finish) (live s) (Plain (Err cause)) (free l)
  pub stopped : (name : Text) (s : Seated) (p : PlainReply) (l : Known) → p.reply ≡ reply.Fine → Left bounds s l
      → Q (step.Act name op.Stop) (live s) (Plain (Ok p)) (free l)
  pub moved : (name : Text) (what : Transfer Text) (k : Known) (answer : LineAnswer) (l : Known)
      → Transfers bounds what k answer l → Q (step.Transfer name what) (free k) answer (free l)
  pub fault : (what : Step Text) (k : Known) (answer : LineAnswer) (l : Known) → answer ≡ Plain (Err Name)
      → begins what ≡ false → l ≡ k → Q what (free k) answer (free l)
  pub made : (what : Step Text) (s : Seated) (answer : Result PlainReply Cause) (t : Seated) → stays what ≡ true
      → Makes bounds what s (said_of answer) t → Q what (live s) (Plain answer) (live t)

-- a turn is of one of these kinds
pub turn_by : (bounds : List Key) (Q : Step Text → Standing → LineAnswer → Standing → Type 0) → TurnCases bounds Q
    → (what : Step Text) (from : Standing) (answer : LineAnswer) (to : Standing) → Turns bounds what from answer to
    → Q what from answer to
turn_by bounds Q c (step.Begin name) (free k) (Plain (Ok p)) (live s) (named, is, begun) =
    c.begun name k p s named is begun
turn_by bounds Q c (step.Begin name) (free k) (Plain (Ok p)) (free l) (named, not) = c.not_begun name k p l not
turn_by bounds Q c (step.Act name op.Finish) (live s) (Ended start o None) (free l) (is, finish, records) =
    c.finished name s start o l is finish records
turn_by bounds Q c (step.Act name op.Finish) (live s) (Plain (Err cause)) (free l) (is, none, left) =
    c.unfinished name s cause l left
turn_by bounds Q c (step.Act name op.Stop) (live s) (Plain (Ok p)) (free l) (is, left) = c.stopped name s p l is left
turn_by bounds Q c (step.Transfer name what) (free k) answer (free l) (inl told) = c.moved name what k answer l told
turn_by bounds Q c (step.Transfer name what) (free k) answer (free l) (inr (is, none, same)) =
    c.fault (step.Transfer name what) k answer l is none same
turn_by bounds Q c what (live s) (Plain (Ok p)) (live t) made = c.made what s (Ok p) t made.0 made.1
turn_by bounds Q c what (live s) (Plain (Err why)) (live t) made = c.made what s (Err why) t made.0 made.1
turn_by bounds Q c what (free k) (Plain (Err cause)) (free l) fault =
    c.fault what k (Plain (Err cause)) l (ap (λ (x : Cause). Plain (Err x)) fault.0) fault.1 fault.2
turn_by bounds Q c what from answer to never = absurd never

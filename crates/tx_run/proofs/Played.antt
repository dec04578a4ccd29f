-- How the lines of a session are played, one after another.
use Rattle.std.proofs.Common.{◌≡◌, inr, ℕ, List, [], ◌∷◌, ◌++◌, false, Option, Result, Ok, Err, refl, sym, ap, subst, ◌∙◌}
use Rattle.tx_types.specs.declared.key.Key.{Key}
use Rattle.tx_types.specs.declared.fault.Cause.{Cause}
use Rattle.tx_types.specs.declared.fault.Cause.TheVariants.{Name}
use Rattle.tx_journal.specs.Known.{Known}
use Rattle.tx_client.specs.Calls.{Seated}
use Rattle.tx_steps.specs.declared.op.Op.TheVariants as op
use Rattle.tx_steps.specs.declared.step.Step.{Step}
use Rattle.tx_steps.specs.declared.step.Step.TheVariants as step
use Rattle.tx_steps.specs.Steps.{Text}
use Rattle.tx_transfer.specs.declared.plain_reply.PlainReply.{PlainReply}
use Rattle.tx_transfer.specs.Replies.{said_of}
use Rattle.tx_workload.specs.declared.reply.LineAnswer.{LineAnswer}
use Rattle.tx_workload.specs.declared.reply.LineAnswer.TheVariants.{Plain}
use Rattle.tx_workload.specs.declared.reply.LineReply.{LineReply}
use Rattle.tx_workload.specs.Logs.{KeepsAnswer, Logged, answer_to}
use Rattle.std.specs.Prelude.{true, Some, None, is_some, option_and_then}
use Rattle.tx_steps.specs.declared.program.Program.TheVariants.{Run}
use Rattle.tx_steps.specs.Lines.{data_said}
use Rattle.tx_evidence.specs.Lines.{step_by}
use Rattle.tx_transfer.specs.Sources.{HasLine}
use Rattle.tx_workload.specs.Steps.{Says, SaysStep, step_at}
use Rattle.tx_run.specs.Played.{Standing, Where, at, moving, away, free, live, begins, stays, Makes, PlaysOne, Turns, LinePlays, Plays}

module _ (bounds : List Key) (source : Option (List ℕ)) where
  -- one more line is played
  pub plays_more : (from to next : Standing) (replies : List LineReply) (s : LineReply)
      → Plays bounds source from replies to → LinePlays bounds source to s next
      → Plays bounds source from (replies ++ s ∷ []) next
  plays_more from to next [] s is line =
      (next, subst (λ (f : Standing). LinePlays bounds source f s next) is line, refl)
  plays_more from to next (r ∷ more) s (mid, first, rest) line =
      (mid, first, plays_more mid to next more s rest line)

  -- some lines are played, and then more
  pub plays_on : (from to next : Standing) (first more : List LineReply)
      → Plays bounds source from first to → Plays bounds source to more next
      → Plays bounds source from (first ++ more) next
  plays_on from to next [] more is then =
      subst (λ (f : Standing). Plays bounds source f more next) is then
  plays_on from to next (s ∷ first) more (mid, line, rest) then =
      (mid, line, plays_on mid to next first more rest then)

-- what a live session makes of a step, where it stays live, is the turn of a line
pub turns_live : (bounds : List Key) (what : Step Text) (s t : Seated) (answer : Result PlainReply Cause)
    → stays what ≡ true → Makes bounds what s (said_of answer) t
    → Turns bounds what (live s) (Plain answer) (live t)
turns_live bounds (step.Begin name) s t (Ok p) stay makes = (stay, makes)
turns_live bounds (step.Begin name) s t (Err c) stay makes = (stay, makes)
turns_live bounds (step.Act name (op.Put k v)) s t (Ok p) stay makes = (stay, makes)
turns_live bounds (step.Act name (op.Put k v)) s t (Err c) stay makes = (stay, makes)
turns_live bounds (step.Act name (op.Insert k v)) s t (Ok p) stay makes = (stay, makes)
turns_live bounds (step.Act name (op.Insert k v)) s t (Err c) stay makes = (stay, makes)
turns_live bounds (step.Act name (op.Delete k)) s t (Ok p) stay makes = (stay, makes)
turns_live bounds (step.Act name (op.Delete k)) s t (Err c) stay makes = (stay, makes)
turns_live bounds (step.Act name (op.Lock k)) s t (Ok p) stay makes = (stay, makes)
turns_live bounds (step.Act name (op.Lock k)) s t (Err c) stay makes = (stay, makes)
turns_live bounds (step.Act name (op.Declare mode ttl most)) s t (Ok p) stay makes = (stay, makes)
turns_live bounds (step.Act name (op.Declare mode ttl most)) s t (Err c) stay makes = (stay, makes)
turns_live bounds (step.Act name op.Draw) s t (Ok p) stay makes = (stay, makes)
turns_live bounds (step.Act name op.Draw) s t (Err c) stay makes = (stay, makes)
turns_live bounds (step.Act name (op.Resolve now)) s t (Ok p) stay makes = (stay, makes)
turns_live bounds (step.Act name (op.Resolve now)) s t (Err c) stay makes = (stay, makes)
turns_live bounds (step.Act name op.Finish) s t (Ok p) stay makes = (stay, makes)
turns_live bounds (step.Act name op.Finish) s t (Err c) stay makes = (stay, makes)
turns_live bounds (step.Act name op.Stop) s t (Ok p) stay makes = (stay, makes)
turns_live bounds (step.Act name op.Stop) s t (Err c) stay makes = (stay, makes)
turns_live bounds (step.Send name call d) s t (Ok p) stay makes = (stay, makes)
turns_live bounds (step.Send name call d) s t (Err c) stay makes = (stay, makes)
turns_live bounds (step.Deliver name) s t (Ok p) stay makes = (stay, makes)
turns_live bounds (step.Deliver name) s t (Err c) stay makes = (stay, makes)
turns_live bounds (step.Read k n) s t (Ok p) stay makes = (stay, makes)
turns_live bounds (step.Read k n) s t (Err c) stay makes = (stay, makes)
turns_live bounds (step.Versions k) s t (Ok p) stay makes = (stay, makes)
turns_live bounds (step.Versions k) s t (Err c) stay makes = (stay, makes)
turns_live bounds (step.Tick n) s t (Ok p) stay makes = (stay, makes)
turns_live bounds (step.Tick n) s t (Err c) stay makes = (stay, makes)
turns_live bounds (step.Gc n) s t (Ok p) stay makes = (stay, makes)
turns_live bounds (step.Gc n) s t (Err c) stay makes = (stay, makes)
turns_live bounds (step.Seed k v) s t (Ok p) stay makes = (stay, makes)
turns_live bounds (step.Seed k v) s t (Err c) stay makes = (stay, makes)
turns_live bounds (step.Transfer name what) s t (Ok p) stay makes = (stay, makes)
turns_live bounds (step.Transfer name what) s t (Err c) stay makes = (stay, makes)

-- what a log that was told more keeps, the log before that keeps
pub kept_told : (old mid new : Logged) (number : ℕ) (answer : LineAnswer) → mid.lost ≡ old.lost
    → mid.replies ≡ old.replies → KeepsAnswer mid number answer new → KeepsAnswer old number answer new
kept_told old mid new number answer lost same keeps more = (
  sym lost ∙ (keeps more).0,
  (keeps more).1 ∙ ap (λ (l : List LineReply). l ++ answer_to number answer ∷ []) same,
)

-- a step that begins nothing is told so where no transaction is open
pub turns_free : (bounds : List Key) (what : Step Text) (k : Known) → begins what ≡ false
    → Turns bounds what (free k) (Plain (Err Name)) (free k)
turns_free bounds (step.Begin name) l none = (refl, none, refl)
turns_free bounds (step.Act name (op.Put k v)) l none = (refl, none, refl)
turns_free bounds (step.Act name (op.Insert k v)) l none = (refl, none, refl)
turns_free bounds (step.Act name (op.Delete k)) l none = (refl, none, refl)
turns_free bounds (step.Act name (op.Lock k)) l none = (refl, none, refl)
turns_free bounds (step.Act name (op.Declare mode ttl most)) l none = (refl, none, refl)
turns_free bounds (step.Act name op.Draw) l none = (refl, none, refl)
turns_free bounds (step.Act name (op.Resolve now)) l none = (refl, none, refl)
turns_free bounds (step.Act name op.Finish) l none = (refl, none, refl)
turns_free bounds (step.Act name op.Stop) l none = (refl, none, refl)
turns_free bounds (step.Send name call d) l none = (refl, none, refl)
turns_free bounds (step.Deliver name) l none = (refl, none, refl)
turns_free bounds (step.Read k n) l none = (refl, none, refl)
turns_free bounds (step.Versions j) l none = (refl, none, refl)
turns_free bounds (step.Tick n) l none = (refl, none, refl)
turns_free bounds (step.Gc n) l none = (refl, none, refl)
turns_free bounds (step.Seed k v) l none = (refl, none, refl)
turns_free bounds (step.Transfer name what) l none = inr (refl, none, refl)

standing_at : Standing → Where → Standing
standing_at else (at s) = s
standing_at else (moving number) = else
standing_at else away = else

-- one place is one standing
pub same_standing : (w : Where) (a b : Standing) → at a ≡ w → w ≡ at b → a ≡ b
unfolding standing_at
same_standing w a b x y = ap (standing_at a) (x ∙ y)

-- a line is played from where the job stood, as its state was taken
pub played_from : (bounds : List Key) (source : Option (List ℕ)) (a b : Standing) (number : ℕ) (old mid new : Logged)
    (stands : Where) → a ≡ b → mid ≡ old → PlaysOne bounds source a number mid new stands
    → PlaysOne bounds source b number old new stands
played_from bounds source a b number old mid new stands here same plays =
    subst (λ (s : Standing). PlaysOne bounds source s number old new stands) here
    (subst (λ (l : Logged). PlaysOne bounds source a number l new stands) same plays)

some_step : (o : Option (Step Text)) → is_some o ≡ true → (what : Step Text) × (o ≡ Some what)
some_step (Some what) is = (what, refl)
some_step None is = absurd (cc (is))

-- a line that says a step says some one
pub says_some : (source : Option (List ℕ)) (number : ℕ) → SaysStep source number
    → (what : Step Text) × Says source number (Some what)
says_some None number says = (step.Deliver [], tt)
says_some (Some text) number says = some_step (step_at text number) says

-- a line of a known text that says a step is one
pub says_one : (source : Option (List ℕ)) (number : ℕ) (line : List ℕ) (A : Type 0) → HasLine source number line
    → step_by Run (data_said number line) ≡ None → SaysStep source number → is_some source ≡ true → A
says_one None number line A has none says known = absurd (cc (known))
says_one (Some text) number line A has none says known =
    let at_line : step_at text number ≡ step_by Run (data_said number line) =
    ap (option_and_then (λ (l : List ℕ). step_by Run (data_said number l))) has in
    let no : is_some (step_at text number) ≡ false = ap is_some (at_line ∙ none) in
    let both : true ≡ false = sym says ∙ no in absurd (cc (both))

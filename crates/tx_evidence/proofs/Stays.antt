-- What a reply tells stays so as the history grows.
use Rattle.std.proofs.Common.{inl, inr, ℕ, List, Option}
use Rattle.serde_json.specs.Data.{Items}
use Rattle.tx_types.specs.declared.key.Key.{Key}
use Rattle.tx_types.specs.declared.mutation.Fate.{Fate}
use Rattle.tx_types.specs.declared.mutation.Fate.TheVariants as fate
use Rattle.tx_plan.specs.declared.answer.Answer.{Answer}
use Rattle.tx_plan.specs.declared.answer.Answer.TheVariants as answer
use Rattle.tx_cells.specs.declared.copies.KeyVersions.{KeyVersions}
use Rattle.tx_core.specs.declared.event.Event.TheVariants as event
use Rattle.tx_core.specs.Histories.{History, Begins}
use Rattle.tx_core.proofs.seats.Beginnings.{begins_more}
use Rattle.tx_core.proofs.seats.Stays.{among_on}
use Rattle.tx_client.specs.declared.resolved.Status.{Status}
use Rattle.tx_client.specs.declared.resolved.Status.TheVariants as status
use Rattle.tx_steps.specs.declared.call.Call.TheVariants as call
use Rattle.tx_steps.specs.declared.step.Step.{Step}
use Rattle.tx_steps.specs.declared.step.Step.TheVariants as step
use Rattle.tx_steps.specs.Steps.{Text}
use Rattle.tx_reply.specs.declared.reply.ScriptReply.{ScriptReply}
use Rattle.tx_reply.specs.declared.reply.ScriptReply.TheVariants as reply
use Rattle.tx_evidence.specs.Tells.{Entered, WasDrawn, WasFound, WasSettled, TellsAnswer, TellsVersions, TellsBy, LineTells}
use Rattle.tx_evidence.proofs.Results.{answered_on, all_scanned_on}

module _ (bounds : List Key) (entered : Entered) (l h : History) (begins : Begins l h) where
  pub drawn_on : (t : ℕ) → WasDrawn l t → WasDrawn h t
  drawn_on t x = (x.0, among_on l h begins (event.Drawn x.0 t) x.1)

  settled_on : (end : Fate) → WasSettled l end → WasSettled h end
  settled_on end x = (x.0, x.1, answered_on l h begins _ answer.Resolved x.2)

  pub found_on : (found : Status) → WasFound l found → WasFound h found
  found_on (status.Committed c) x = settled_on (fate.Committed c) x
  found_on status.Aborted x = settled_on fate.Aborted x
  found_on (status.Pushed m) x = (x.0, x.1, x.2, answered_on l h begins _ _ x.3)
  found_on (status.Waiting why) x = tt

  answer_on : (what : Step Text) (a : Answer) → TellsAnswer bounds entered l what a
      → TellsAnswer bounds entered h what a
  answer_on (step.Send name (call.Get key) delivery) a (inl own) = inl own
  answer_on (step.Send name (call.Get key) delivery) a (inr x) = inr (x.0, x.1, answered_on l h begins _ a x.2)
  answer_on (step.Send name (call.Scan from to limit) delivery) (answer.Rows rows) x =
      (x.0, x.1, x.2, all_scanned_on l h begins x.0 x.1 x.3)
  answer_on (step.Read key at) a x = answered_on l h begins _ a x
  answer_on _ a x = (x.0, answered_on l h begins x.0 a x.1)

  versions_on : (what : Step Text) (copy : KeyVersions) → TellsVersions bounds entered l what copy
      → TellsVersions bounds entered h what copy
  versions_on (step.Versions key) copy x = (x.0, begins_more x.0 l h x.1 begins, x.2)
  versions_on _ copy x = absurd x

  pub tells_on : (what : Step Text) (said : ScriptReply) → TellsBy bounds entered l what said
      → TellsBy bounds entered h what said
  tells_on what (reply.Regions n) x = absurd x
  tells_on what (reply.Start t) x = (drawn_on t x.0, among_on l h begins (event.Began t) x.1)
  tells_on what (reply.Drawn t) x = drawn_on t x
  tells_on what (reply.Last t) x = drawn_on t x
  tells_on what (reply.Ended o) x = (x.0, among_on l h begins (event.Answered x.0 o) x.1)
  tells_on what (reply.Answered a) x = answer_on what a x
  tells_on what (reply.Status found) x = found_on found x
  tells_on what (reply.Versions copy) x = versions_on what copy x
  tells_on what _ x = tt

  -- and so does what is written for a line
  pub line_on : (said : Option (Step Text)) (words : Items) → LineTells bounds entered l said words
      → LineTells bounds entered h said words
  line_on said words (inl x) = inl x
  line_on said words (inr (inl x)) = inr (inl x)
  line_on said words (inr (inr x)) = inr (inr (x.0, x.1, x.2, x.3, tells_on x.0 x.1 x.4))

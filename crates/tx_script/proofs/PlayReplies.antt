-- Each reply of a play tells of its events.
use Rattle.std.proofs.Common.{◌==◌, ◌&&◌, inl, inr, ℕ, ◌+◌, Bool, List, [], ◌∷◌, length, Option, Some, None, is_some, Result, Ok, Err, refl, sym, subst}
use Rattle.serde_json.specs.Data.{Data}
use Rattle.tx_types.specs.declared.fault.Cause.{Cause}
use Rattle.tx_types.specs.declared.key.Key.{Key}
use Rattle.tx_types.specs.declared.limits.TheConstants.{MAX_LIVE_SESSIONS}
use Rattle.tx_core.specs.Worlds.{IsWorldRun}
use Rattle.tx_core.proofs.runs.AllRuns.{shadow_runs}
use Rattle.tx_core.proofs.runs.Truths.{all_true}
use Rattle.tx_reply.specs.declared.reply.ScriptReply.{ScriptReply}
use Rattle.tx_reply.specs.declared.reply.ScriptReply.TheVariants.{Regions}
use Rattle.tx_reply.specs.Replies.{reply_words}
use Rattle.tx_steps.specs.declared.program.Program.TheVariants.{Simulate}
use Rattle.tx_steps.specs.declared.step.Step.{Step}
use Rattle.tx_steps.specs.Steps.{Text}
use Rattle.tx_steps.specs.Lines.{data_said, step_in, bounds_in}
use Rattle.tx_engine.specs.Semantics.{EngineState, opening, Transition, goes}
use Rattle.tx_evidence.specs.Tells.{Entered, nothing_entered, entered_by, LineTells}
use Rattle.tx_script.specs.Play.{step_turn, said_turn, line_turn, Played, Plays, step_of, entered_after, AllTell, IsPlay}
use Rattle.tx_script.proofs.OnePlay.{plays_begin, one_play}
use Rattle.tx_script.proofs.BufferOwners.{AllOwn, own_more, own_none}
use Rattle.tx_evidence.proofs.Stays.{line_on}
use Rattle.tx_script.proofs.TurnResults as turns
use Rattle.tx_script.proofs.TurnResults.{leads_tell}
use Rattle.tx_script.proofs.TurnReplies.{Replies, turn_tells}

module _ (bounds : List Key) where
  -- a line's reply tells of what has then happened, and so each session has what was entered
  abbrev LineReplies : Entered → Option (Step Text) → EngineState → ScriptReply → Type 0
  LineReplies entered said next reply = LineTells bounds entered next.network.history said (reply_words reply)
      × AllOwn (entered_after said entered) next.names next.slots

  module _ (entered : Entered) (engine : EngineState) (own : AllOwn entered engine.names engine.slots)
      (refused : List Bool) where
    own_after : (said : Option (Step Text)) → AllOwn (entered_after said entered) engine.names engine.slots
    own_after None = own
    own_after (Some what) = own_more entered (entered_by what entered) engine.names engine.slots (λ q k o e. inr e) own

    -- a step's turn is that of a line
    lined : (what : Step Text) (t : Transition) → turns.AllTell bounds (Replies bounds entered what) t
        → turns.AllTell bounds (LineReplies entered (Some what)) t
    lined what t x = turns.all_tell_more bounds (Replies bounds entered what) (LineReplies entered (Some what))
        (λ next said r. (inr (inr (what, said, refl, refl, r.0)), r.1)) t x

    step_tells : (o : Option (Step Text))
        → turns.AllTell bounds (LineReplies entered o) (step_turn bounds refused o engine)
    step_tells None = tt
    step_tells (Some what) = lined what _ (turn_tells bounds entered engine own what refused)

    said_tells : (number : ℕ) (r : Result Data Cause)
        → turns.AllTell bounds (LineReplies entered (step_of r)) (said_turn bounds refused number r engine)
    said_tells number (Err c) = tt
    said_tells number (Ok d) = turns.either bounds (LineReplies entered (step_in Simulate d)) ((number == 1)
        && is_some (bounds_in d)) (goes engine (Regions (length bounds + 1)) refused)
        (step_turn bounds refused (step_in Simulate d) engine)
        (inr (inl refl), own_after (step_in Simulate d)) (step_tells (step_in Simulate d))

  pub plays_tell : (lines : List (List ℕ)) (entered : Entered) (engine : EngineState)
      → AllOwn entered engine.names engine.slots → (number : ℕ) (refused : List Bool) (p : Played)
      → Plays bounds engine number refused lines p → AllTell bounds entered p.history number lines p.replies
  plays_tell [] entered engine own number refused p plays =
      subst (λ (q : Played). AllTell bounds entered q.history number [] q.replies) (sym plays) tt
  plays_tell (line ∷ lines) entered engine own number refused p plays =
      leads_tell bounds (LineReplies entered (step_of (data_said (number + 1) line))) _ _
      (λ next said left r x. subst (λ (q : Played). AllTell bounds entered q.history number (line ∷ lines) q.replies)
      (sym x.2) (
        refl,
        line_on bounds entered next.network.history x.0.history
            (plays_begin bounds lines next (number + 1) left x.0 x.1)
            (step_of (data_said (number + 1) line)) (reply_words said) r.0,
        plays_tell lines (entered_after (step_of (data_said (number + 1) line)) entered) next r.1 (number
            + 1) left x.0 x.1,
      ))
      (λ c is. subst (λ (q : Played). AllTell bounds entered q.history number (line ∷ lines) q.replies) (sym is)
      (refl, inl (c, refl), tt))
      (line_turn bounds refused (number + 1) line engine)
      (said_tells entered engine own refused (number + 1) (data_said (number + 1) line)) plays

  pub is_play : (refused : List Bool) (lines : List (List ℕ)) (p : Played)
      → Plays bounds (opening MAX_LIVE_SESSIONS) 0 refused lines p → IsWorldRun bounds p.history
      → IsPlay bounds refused lines p
  is_play refused lines p plays run = record {
    plays = plays;
    only = λ q also. one_play bounds lines (opening MAX_LIVE_SESSIONS) 0 refused p q run plays also;
    run = run;
    one_step = shadow_runs bounds p.history run;
    answers = all_true bounds p.history run;
    tells =
        plays_tell lines nothing_entered (opening MAX_LIVE_SESSIONS)
        (own_none nothing_entered (opening MAX_LIVE_SESSIONS).slots) 0 refused p plays;
  }

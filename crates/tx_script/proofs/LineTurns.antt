-- What a line leads to, by what it says.
use Rattle.std.proofs.Common.{◌≡◌, ◌≤◌, ℕ, ◌+◌, Bool, true, false, cond, List, [], ◌++◌, length, nat_lt, is_some, Result, Ok, Err, ok_or, refl, sym, ap, subst, ◌∙◌}
use Rattle.std.proofs.lemmas.Bool.{ltb-false}
use Rattle.serde_json.specs.Data.{Data}
use Rattle.tx_types.specs.declared.fault.Cause.{Cause}
use Rattle.tx_types.specs.declared.fault.Cause.TheVariants as cause
use Rattle.tx_types.specs.declared.key.Key.{Key}
use Rattle.tx_types.specs.declared.limits.TheConstants.{MAX_LINES}
use Rattle.tx_reply.specs.declared.reply.ScriptReply.{ScriptReply}
use Rattle.tx_reply.specs.declared.reply.ScriptReply.TheVariants.{Regions}
use Rattle.tx_text.specs.Lines.{max_line, max_lines}
use Rattle.tx_text.specs.Parts.{json_of}
use Rattle.tx_steps.specs.Lines.{data_said, bounds_in}
use Rattle.tx_engine.specs.Semantics.{EngineState, Transition, goes, stops}
use Rattle.tx_engine.specs.Plays.{Leads}
use Rattle.tx_engine.specs.Slots.{Held, engine_state, Goes, TurnedBy}
use Rattle.tx_engine.proofs.SlotCounts.{rested}
use Rattle.tx_script.specs.Play.{value_turn}

module _ (bounds : List Key) where
  -- the engine was not asked
  pub stops_so : (e : Held) (turn : List Bool → EngineState → Transition) (c : Cause)
      → ((later : List Bool) → turn later (engine_state e) ≡ stops c)
      → Goes bounds e e (TurnedBy bounds turn (Err c) e e)
  stops_so e turn c stop = rested bounds e e refl refl refl refl refl _ (refl, stop)

  pub says_so : (e : Held) (turn : List Bool → EngineState → Transition) (reply : ScriptReply)
      → ((later : List Bool) → turn later (engine_state e) ≡ goes (engine_state e) reply later)
      → Goes bounds e e (TurnedBy bounds turn (Ok reply) e e)
  says_so e turn reply goes_on = rested bounds e e refl refl refl refl refl _ (
    [],
    λ later. subst (Leads bounds (λ n said left. (n ≡ engine_state e) × (said ≡ reply)
        × (left ≡ later)) (λ c. ⊥)) (sym (goes_on later)) (refl, refl, refl),
  )

  turns_as : (old new : Held) (t u : List Bool → EngineState → Transition)
      → ((refused : List Bool) → u refused (engine_state old) ≡ t refused (engine_state old))
      → (r : Result ScriptReply Cause) → TurnedBy bounds t r old new → TurnedBy bounds u r old new
  turns_as old new t u same (Ok reply) go = (
    go.0,
    λ later. subst (Leads bounds (λ n said left. (n ≡ engine_state new)
        × (said ≡ reply) × (left ≡ later)) (λ c. ⊥)) (sym (same (go.0 ++ later))) (go.1 later),
  )
  turns_as old new t u same (Err c) stop = (stop.0, λ later. same later ∙ stop.1 later)

  -- what a turn makes, another makes that is the same
  pub goes_as : (old new : Held) (t u : List Bool → EngineState → Transition) (r : Result ScriptReply Cause)
      → ((refused : List Bool) → u refused (engine_state old) ≡ t refused (engine_state old))
      → Goes bounds old new (TurnedBy bounds t r old new) → Goes bounds old new (TurnedBy bounds u r old new)
  goes_as old new t u r same g = record {
    made = g.made;
    counts = g.counts;
    size = g.size;
    seated = g.seated;
    grows = g.grows;
    exact = λ le. turns_as old new t u same r (g.exact le);
    traced = g.traced;
  }

by_tests : (number : ℕ) (long late : Bool) (r : Result Data Cause) (d : Data) → nat_lt max_lines number ≡ late
    → cond long (Err cause.Long) (cond late (Err cause.Lines) r) ≡ Ok d → number ≤ MAX_LINES
by_tests number true late r d is says = absurd (cc (says))
by_tests number false true r d is says = absurd (cc (says))
by_tests number false false r d is says = ltb-false max_lines number is

-- a line that says something is not past the last
pub early : (number : ℕ) (line : List ℕ) (d : Data) → data_said number line ≡ Ok d → number ≤ MAX_LINES
early number line d is = by_tests number (nat_lt max_line (length line)) (nat_lt max_lines number)
    (ok_or (json_of line) cause.Json) d refl is

-- line 1 says the regions
pub regions_turn : (bounds : List Key) (later : List Bool) (number : ℕ) (d : Data) (e : Held) (n : ℕ) → number ≡ 1
    → is_some (bounds_in d) ≡ true → n ≡ length bounds + 1
    → value_turn bounds later number d (engine_state e) ≡ goes (engine_state e) (Regions n) later
regions_turn bounds later number d e n one says count =
    rw (one, says) (ap (λ m. goes (engine_state e) (Regions m) later) (sym count))

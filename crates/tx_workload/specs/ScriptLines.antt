-- Which lines of a script are a session's, which are seeds, and in which order they are kept.
use Rattle.std.specs.Prelude.{◌≡◌, ℕ, List, [], ◌∷◌, ◌++◌, map, fold, filter, Bool, false, not, if◌then◌else◌, bytes_eq}
use Rattle.std.specs.Prelude.{Option, Some, None, is_some, option_and_then, Result, Ok, Err, IfSome}
use Rattle.std.specs.List.{list_any, enumerate_from}
use Rattle.std.specs.Option.{option_map_or}
use Rattle.serde_json.specs.Data.{Data}
use Rattle.tx_types.specs.declared.fault.Cause.{Cause}
use Rattle.tx_types.specs.declared.key.Key.{Key}
use Rattle.tx_text.specs.Lines.{lines_of}
use Rattle.tx_steps.specs.declared.program.Program.TheVariants.{Run}
use Rattle.tx_steps.specs.declared.step.Step.{Step}
use Rattle.tx_steps.specs.declared.step.Step.TheVariants.{Begin, Act, Send, Transfer}
use Rattle.tx_steps.specs.Steps.{Text}
use Rattle.tx_steps.specs.Lines.{data_said, step_in}
use Rattle.tx_evidence.specs.Lines.{bounds_of}
use Rattle.tx_workload.specs.Faults.{opens}

-- ---- whose a line is

-- the name of the session that a step is of; none of a seed
abbrev pub name_in : Step Text → Option Text
name_in (Begin name) = Some name
name_in (Act name what) = Some name
name_in (Send name what d) = Some name
name_in (Transfer name what) = Some name
name_in _ = None

-- the step that a run is to do for what the line of this number says; none where line 1 says the
-- keys between the regions
abbrev pub step_for : ℕ → Result Data Cause → Option (Step Text)
step_for number (Ok d) = if opens number d then None else step_in Run d
step_for number (Err cause) = None

-- the step of the line of this number
abbrev pub step_of : ℕ → List ℕ → Option (Step Text)
step_of number line = step_for number (data_said number line)

-- the name of the session that the line of this number is of
abbrev pub session_of : ℕ → List ℕ → Option Text
session_of number line = option_and_then name_in (step_of number line)

-- whether the line of this number says a step, of no session
abbrev pub is_seed : ℕ → List ℕ → Bool
is_seed number line = option_map_or (λ step. not (is_some (name_in step))) (step_of number line) false

-- ---- the lines of a text

-- each line with its number, from 1 on
abbrev pub numbered : List (List ℕ) → List (ℕ × List ℕ)
numbered lines = enumerate_from 1 lines

-- whether a session is that of this name
abbrev pub is_named : Text → Option Text → Bool
is_named name session = option_map_or (bytes_eq name) session false

-- the numbers of the lines of the session of this name, in their order
abbrev pub lines_of_session : Text → List (List ℕ) → List ℕ
lines_of_session name lines = map (λ l. l.0) (filter (λ l. is_named name (session_of l.0 l.1)) (numbered lines))

-- these names, and behind them that of a session which is not among them
abbrev pub with_name : List Text → Option Text → List Text
with_name names None = names
with_name names (Some name) = if list_any (bytes_eq name) names then names else names ++ name ∷ []

-- the names of the sessions of these lines, each once, in the order of their first lines
abbrev pub session_names : List (List ℕ) → List Text
session_names lines = fold (λ names l. with_name names (session_of l.0 l.1)) [] (numbered lines)

-- the numbers of the lines of each session, in the order of their first lines
abbrev pub sessions_of : List (List ℕ) → List (List ℕ)
sessions_of lines = map (λ name. lines_of_session name lines) (session_names lines)

-- the numbers of the seeds
abbrev pub seeds_of : List (List ℕ) → List ℕ
seeds_of lines = map (λ l. l.0) (filter (λ l. is_seed l.0 l.1) (numbered lines))

-- the number of line 1, where it says the keys between the regions
abbrev pub opening_of : List Key → List ℕ
opening_of [] = []
opening_of (k ∷ ks) = 1 ∷ []

-- the numbers of the lines that are answered before any session: of line 1, where it says the keys
-- between the regions, and of the seeds
abbrev pub firsts_of : List (List ℕ) → List ℕ
firsts_of lines = opening_of (bounds_of lines) ++ seeds_of lines

-- ---- what is kept of a text

-- The sessions have just the lines of their names, and each name that a line says is a session's;
-- the seeds are just the lines that are no session's and say a step; the keys between the regions
-- are those that line 1 says.
pub record KeepsLines (text : List ℕ) (kept : List (List ℕ)) (others : List ℕ) (between : List Key) : Type 0 where
  pub sessions : kept ≡ sessions_of (lines_of text)
  pub seeds : others ≡ seeds_of (lines_of text)
  pub bounds : between ≡ bounds_of (lines_of text)

-- this, where the text is known
abbrev pub KeepsText : Option (List ℕ) → List (List ℕ) → List ℕ → List Key → Type 0
KeepsText source kept others between = IfSome source (λ text. KeepsLines text kept others between)

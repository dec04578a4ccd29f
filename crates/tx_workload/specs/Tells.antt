-- What stands behind the answer of each line of a run: what its line says, and what has happened.
use Rattle.std.specs.Prelude.{◌≡◌, ◌<◌, ℕ, ◌+◌, List, [], ◌∷◌, All, length, slice_get, Bool, true, false, Option, Some, None, is_some, unwrap_or, IfSome, Result, Ok, Err}
use Rattle.std.specs.List.{AllPairs}
use Rattle.tx_types.specs.declared.fault.Cause.{Cause}
use Rattle.tx_types.specs.declared.key.Key.{Key}
use Rattle.tx_core.specs.Histories.{History}
use Rattle.tx_journal.specs.Known.{Known, Seen}
use Rattle.tx_transaction.specs.Buffers.{Entries}
use Rattle.tx_transaction.specs.Sessions.{begun}
use Rattle.tx_client.specs.Calls.{Seated, BeganAt}
use Rattle.tx_text.specs.Lines.{lines_of}
use Rattle.tx_steps.specs.declared.step.Step.{Step}
use Rattle.tx_steps.specs.declared.step.Step.TheVariants as step
use Rattle.tx_transfer.specs.Seeds.{WasSeeded}
use Rattle.tx_steps.specs.Steps.{Text}
use Rattle.tx_reply.specs.declared.reply.ScriptReply.{ScriptReply}
use Rattle.tx_reply.specs.declared.reply.ScriptReply.TheVariants as reply
use Rattle.tx_evidence.specs.Buffers.{AllBy}
use Rattle.tx_evidence.specs.Lines.{bounds_of}
use Rattle.tx_evidence.specs.Tells.{Entered, Enters, TellsBy}
use Rattle.tx_workload.specs.declared.reply.LineAnswer.{LineAnswer}
use Rattle.tx_workload.specs.declared.reply.LineAnswer.TheVariants.{Plain, Ended}
use Rattle.tx_workload.specs.declared.reply.LineReply.{LineReply}
use Rattle.tx_workload.specs.ScriptLines.{name_in, session_names}
use Rattle.tx_workload.specs.Readers.{HasSession}
use Rattle.tx_workload.specs.Steps.{Says, step_at}

-- ---- what a line is answered

-- Some line of the text before the one of this number entered it under this name. Where the text is
-- not known, nothing is said.
abbrev pub EnteredBefore : Option (List ℕ) → ℕ → Entered
EnteredBefore None line name key o = Unit {0}
EnteredBefore (Some text) line name key o = (number : ℕ) × (number < line) × (what : Step Text)
    × (step_at text number ≡ Some what) × Enters what name key o

-- whether a reply says only why a step was not done
abbrev pub is_refusal : ScriptReply → Bool
is_refusal reply.OracleSpent = true
is_refusal reply.OutOfMemory = true
is_refusal reply.KeyLength = true
is_refusal reply.ValueLength = true
is_refusal reply.TooManyKeys = true
is_refusal reply.AlreadyExists = true
is_refusal _ = false

-- a seed is told that it was done, and then it was written, or why it was not
abbrev pub TellsSeed : History → Step Text → ScriptReply → Type 0
TellsSeed h (step.Seed key value) reply.Fine = WasSeeded h key value
TellsSeed h (step.Seed key value) it = is_refusal it ≡ true
TellsSeed h _ it = Unit {0}

-- What is answered where a line says this. Of a fault of the script nothing is said. A step's reply
-- tells of what has happened, or of what was entered under its name, a seed's that it was written,
-- and so does an outcome. A line that says no step is told how many regions there are.
abbrev pub AnswerTells : List Key → Entered → History → Option (Step Text) → LineAnswer → Type 0
AnswerTells bounds entered h said (Plain (Err cause)) = Unit {0}
AnswerTells bounds entered h (Some what) (Plain (Ok plain)) = TellsBy bounds entered h what plain.reply
    × TellsSeed h what plain.reply
AnswerTells bounds entered h (Some what) (Ended start o keys) = TellsBy bounds entered h what (reply.Ended o)
AnswerTells bounds entered h None (Plain (Ok plain)) = plain.reply ≡ reply.Regions (length bounds + 1)
AnswerTells bounds entered h None (Ended start o keys) = ⊥

-- The answer of a line tells of what has happened, by what the line says, or of what lines before
-- it entered.
abbrev pub TellsLine : Option (List ℕ) → List Key → History → LineReply → Type 0
TellsLine source bounds h s = (said : Option (Step Text)) × Says source s.number said
    × AnswerTells bounds (EnteredBefore source s.number) h said s.answer

-- The answers of a run tell of what all its sessions have seen; its regions are those that line 1
-- says, where the text is known.
pub record AllTell (source : Option (List ℕ)) (seen : Seen) (replies : List LineReply) : Type 0 where
  pub tells : All (TellsLine source seen.bounds seen.events) replies
  pub regions : IfSome source (λ text. seen.bounds ≡ bounds_of (lines_of text))

-- ---- of the jobs that play it, for the clauses of tx_run

-- line 1 says no step where it says the keys between the regions
abbrev pub OpensWith : Option (List ℕ) → List Key → Type 0
OpensWith source [] = Unit {0}
OpensWith source (k ∷ ks) = Says source 1 None

-- the name of the session of this number, in the order of their first lines
abbrev pub session_name : Option (List ℕ) → ℕ → Text
session_name None job = []
session_name (Some text) job = unwrap_or (slice_get (session_names (lines_of text)) job) []

-- what a session of this number entered, by lines of its name before this one
abbrev pub EnteredBy : Option (List ℕ) → ℕ → ℕ → Key → Option (List ℕ) → Type 0
EnteredBy source job line key o = EnteredBefore source line (session_name source job) key o

-- whichever of these lines comes next, lines before it entered what a session has
abbrev pub AreEntered : Option (List ℕ) → ℕ → List ℕ → Entries → Type 0
AreEntered source job left es = AllBy (λ key o. All (λ n. EnteredBy source job n key o) left) es

-- these lines lie behind this one, where the text is known
abbrev pub ComeLater : Option (List ℕ) → ℕ → List ℕ → Type 0
ComeLater source number left = IfSome source (λ text. All (λ n. number < n) left)

-- these lines are of the session of this number, and their numbers rise, where the text is known
pub record AreOf (source : Option (List ℕ)) (job : ℕ) (lines : List ℕ) : Type 0 where
  pub named : All (λ n. HasSession source n (session_name source job)) lines
  pub rise : IfSome source (λ text. AllPairs (λ m n. m < n) lines)

-- the lines that a job has left are its session's own, and so is what its session has entered
pub record Owns (source : Option (List ℕ)) (job : ℕ) (left : List ℕ) (buffer : Entries) : Type 0 where
  pub lines : AreOf source job left
  pub entered : AreEntered source job left buffer

-- each of these sessions has lines of its own alone
abbrev pub AreOwn : Option (List ℕ) → List (List ℕ) → Type 0
AreOwn source sessions =
    (k : ℕ) (numbers : List ℕ) → slice_get sessions k ≡ Some numbers → AreOf source k numbers

-- this line is of the session of this number, and says this step
pub record SaysOwn (source : Option (List ℕ)) (job number : ℕ) (what : Step Text) : Type 0 where
  pub says : Says source number (Some what)
  pub named : HasSession source number (session_name source job)

-- what a step is told, where it is told something, tells of what has happened
abbrev pub SaidTells : List Key → Entered → History → Step Text → Result ScriptReply Cause → Type 0
SaidTells bounds entered h what (Ok said) = TellsBy bounds entered h what said × TellsSeed h what said
SaidTells bounds entered h what (Err cause) = Unit {0}

-- this line says a step of a session
abbrev pub SaysOfSession : Option (List ℕ) → ℕ → Type 0
SaysOfSession source number = (what : Step Text) × Says source number (Some what) × (is_some (name_in what) ≡ true)

-- a session that has just begun, and whose seat drew its start
abbrev pub IsBegun : List Key → Seated → Type 0
IsBegun bounds s = (s.state ≡ begun s.state.start) × (old : Known) × BeganAt bounds old s.state.start s.seat

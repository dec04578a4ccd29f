-- What is said of a run of a text by how its lines were played, and by nothing else.
use Rattle.std.specs.Prelude.{◌≡◌, ◌<◌, ◌+◌, ◌++◌, ℕ, Bool, List, All, length, slice_get, Option, Some, Ok}
use Rattle.std.specs.List.{AllPairs, flat_map}
use Rattle.std.specs.Option.{option_to_list}
use Rattle.tx_types.specs.declared.key.Key.{Key}
use Rattle.tx_core.specs.Histories.{History, Begins}
use Rattle.tx_text.specs.Lines.{lines_of}
use Rattle.tx_evidence.specs.Lines.{bounds_of}
use Rattle.tx_ops.specs.declared.stage.SessionStage.{SessionStage}
use Rattle.tx_reply.specs.declared.reply.ScriptReply.TheVariants as reply
use Rattle.tx_workload.specs.declared.reply.LineAnswer.{LineAnswer}
use Rattle.tx_workload.specs.declared.reply.LineAnswer.TheVariants.{Plain}
use Rattle.tx_workload.specs.declared.reply.LineReply.{LineReply}
use Rattle.tx_workload.specs.Answers.{Answers, numbers_of}
use Rattle.tx_workload.specs.ScriptLines.{firsts_of, sessions_of}
use Rattle.tx_run.specs.Jobs.{IsOpened, IsSubsequence}
use Rattle.tx_run.specs.Played.{SessionPlays}

-- A session that was played: the number of its seat, its answers, whether a fault of the script
-- ended it, how far it is said to be, with the number of its last line, and what its seat knew at
-- last.
pub record SessionRun : Type 0 where
  pub seat : ℕ
  pub replies : List LineReply
  pub faulted : Bool
  pub stage : Option (ℕ × SessionStage)
  pub last : History

-- The session that has these lines was played. Which of them are answered is said beside that: in
-- order and once, up to a fault.
pub record SessionRuns (bounds : List Key) (text : List ℕ) (h : History) (lines : List ℕ) (s : SessionRun) : Type 0
  where
    pub plays : SessionPlays bounds (Some text) s.seat s.replies s.stage (Some s.last)
    pub answers : Answers lines s.faulted s.replies
    pub knew : Begins s.last h

-- each session of the text was
abbrev pub AllRun : List Key → List ℕ → History → List SessionRun → Type 0
AllRun bounds text h sessions = (length sessions ≡ length (sessions_of (lines_of text)))
    × ((k : ℕ) (lines : List ℕ) (s : SessionRun) → slice_get (sessions_of (lines_of text)) k ≡ Some lines
    → slice_get sessions k ≡ Some s → SessionRuns bounds text h lines s)

-- line 1, where it says the keys between the regions, is told how many regions there are
abbrev pub TellsRegions : List Key → LineAnswer → Type 0
TellsRegions bounds (Plain (Ok plain)) = plain.reply ≡ reply.Regions (length bounds + 1)
TellsRegions bounds answer = ⊥

-- A run of a text was played: line 1 is told how many regions there are, the seeds were played by
-- one seat, and each session by a seat of its own. What each seat knew at last begins this history.
pub record RunPlays (text : List ℕ) (bounds : List Key) (h : History) (replies : List LineReply)
    (stages : List (ℕ × SessionStage)) : Type 0 where
  pub regions : bounds ≡ bounds_of (lines_of text)
  pub before : List LineReply
  pub firsts : numbers_of before ≡ firsts_of (lines_of text)
  pub opened : IsOpened bounds (Some text) h before
  pub opens : All (λ s. TellsRegions bounds s.answer) opened.first
  pub sessions : List SessionRun
  pub each : AllRun bounds text h sessions
  pub apart : AllPairs (λ a b. b.seat < a.seat) sessions
  pub all : replies ≡ before ++ flat_map (λ s. s.replies) sessions
  pub far : IsSubsequence stages (flat_map (λ s. option_to_list s.stage) sessions)

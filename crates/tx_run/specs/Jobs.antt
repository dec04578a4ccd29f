-- The jobs of a run, and their seats. But for `ComesOfText`, only this crate's own clauses cite it.
use Rattle.std.specs.Prelude.{◌≡◌, ◌⊎◌, ℕ, ◌+◌, ◌*◌, ◌<◌, ◌≤◌, ◌++◌, [], ◌∷◌, List, All, Bool, true, false, length}
use Rattle.std.specs.Prelude.{Option, Some, None, IfSome, is_some, slice_get}
use Rattle.std.specs.Option.{option_to_list}
use Rattle.std.specs.List.{AllPairs, flat_map}
use Rattle.tx_core.specs.Histories.{History, Begins, drawer}
use Rattle.tx_ops.specs.declared.stage.SessionStage.{SessionStage}
use Rattle.tx_journal.specs.Known.{Known}
use Rattle.tx_types.specs.declared.key.Key.{Key}
use Rattle.tx_transfer.specs.declared.progress.TransferProgress.{TransferProgress}
use Rattle.tx_transfer.specs.declared.progress.TransferProgress.TheVariants as progress
use Rattle.tx_transfer.specs.TransferSteps.{Moving, Steps}
use Rattle.tx_run.specs.Played.{Where, at, away, free, fresh, is_away, is_moving, moving, PlaysOut, SessionPlays}
use Rattle.tx_text.specs.Lines.{lines_of}
use Rattle.tx_workload.specs.declared.reply.LineAnswer.{LineAnswer}
use Rattle.tx_workload.specs.declared.reply.LineAnswer.TheVariants.{Plain, Ended}
use Rattle.tx_workload.specs.declared.reply.LineReply.{LineReply}
use Rattle.tx_workload.specs.Logs.{Logged, TellsBy}
use Rattle.tx_workload.specs.Answers.{Answers, EndsSo, IsReply, numbers_of}
use Rattle.tx_workload.specs.PlayedSeeds.{PlaysSeeds}
use Rattle.tx_workload.specs.ScriptLines.{firsts_of, opening_of, sessions_of}

-- a job at work: its number, its log, the number of the line of a transfer on its way, those of the
-- lines that are left in the order of the script, where it stands, and whether a
-- fault of the script ended it
pub record Working : Type 0 where
  pub number : ℕ
  pub log : Logged
  pub going : Option ℕ
  pub left : List ℕ
  pub stands : Where
  pub faulted : Bool

-- what a job came to: its number, its log, whether a fault of the script ended it, how far its
-- session was, with the number of its last line, and what its seat knew at last
pub record Output : Type 0 where
  pub number : ℕ
  pub log : Logged
  pub faulted : Bool
  pub stage : Option (ℕ × SessionStage)
  pub last : Option History

-- the numbers of a job's lines: those that were answered, that of the transfer, and those left
abbrev pub job_lines : Working → List ℕ
job_lines j = numbers_of j.log.replies ++ (option_to_list j.going ++ j.left)

-- A fault leaves no line and no transfer; where no answer was lost, it is the last one and the only
-- fault.
pub record IsSound (j : Working) : Type 0 where
  pub over : j.faulted ≡ true → (j.left ≡ []) × (j.going ≡ None)
  pub ends : j.log.lost ≡ false → EndsSo j.faulted j.log.replies

-- It stays the same job, of the same seat, and what was lost stays lost, as a fault does. Where
-- nothing is lost, its lines are those that it had, but for those behind a fault.
pub record JobGoesOn (old new : Working) : Type 0 where
  pub number : new.number ≡ old.number
  pub seat : new.log.seat ≡ old.log.seat
  pub kept : new.log.lost ≡ false → old.log.lost ≡ false
  pub faulted : old.faulted ≡ true → new.faulted ≡ true
  pub lines : new.log.lost ≡ false → (behind : List ℕ)
      × (job_lines old ≡ job_lines new ++ behind) × (new.faulted ≡ false → behind ≡ [])

-- a job before it took the line of this number, with nothing on its way
abbrev pub with_line : ℕ → Working → Working
with_line number j = record j { going = None; left = number ∷ j.left; stands = away }

-- it may answer a line: no transfer is on its way, and no fault ended it
abbrev pub MayAnswer : Working → Type 0
MayAnswer j = (j.going ≡ None) × (j.faulted ≡ false)

-- the transfer that is on its way makes steps, which come to this; where none is, nothing is done
abbrev pub AdvancesSo : List Key → Working → TransferProgress → Working → Type 0
AdvancesSo bounds old p new = ((is_moving old.stands ≡ false) × (p ≡ progress.More) × (new ≡ old))
    ⊎ ((m n : Moving) × (old.stands ≡ moving m) × Steps bounds m p n × (n.number ≡ m.number)
    × (new ≡ record old { stands = moving n }))

-- What a job promises of its output: its seat stays, what was lost stays lost, as a fault does, and
-- where nothing is lost, its lines are answered up to a fault.
pub record Promises (job : Working) (output : Output) : Type 0 where
  pub seat : output.log.seat ≡ job.log.seat
  pub kept : output.log.lost ≡ false → job.log.lost ≡ false
  pub faulted : job.faulted ≡ true → output.faulted ≡ true
  pub answers : output.log.lost ≡ false → Answers (job_lines job) output.faulted output.log.replies

-- Where the text is known, a job's output has answers of a play from where the job stands.
pub record WillPlay (bounds : List Key) (source : Option (List ℕ)) (job : Working) (output : Output) : Type 0 where
  pub plays : is_some source ≡ true → is_away job.stands ≡ false → output.log.lost ≡ false
      → PlaysOut bounds source job.stands job.log output.log output.stage output.last

-- the seat that drew the start of an outcome that a line is told is not below this one
abbrev pub IsAbove : History → ℕ → LineAnswer → Type 0
IsAbove h n (Ended start o keys) = (q : ℕ) × (drawer h start ≡ Some q) × (n ≤ q)
IsAbove h n (Plain plain) = Unit {0}

-- each result is of a lower seat than those before it
abbrev pub AreFalling : List Output → Type 0
AreFalling outputs = AllPairs (λ a b. b.log.seat < a.log.seat) outputs

-- its seat is free and knows nothing, and no line is answered
abbrev pub IsFresh : Working → Type 0
IsFresh job = (job.stands ≡ at (free (fresh job.log.seat))) × (job.log.replies ≡ [])

-- the k-th job has the number k, and its seat is the (2k + 1)-th from the last; it is fresh
abbrev pub HaveOwnSeats : ℕ → List Working → Type 0
HaveOwnSeats last jobs = (k : ℕ) (job : Working) → slice_get jobs k ≡ Some job
    → (job.number ≡ k) × (job.log.seat + 2 * k ≡ last) × IsFresh job

-- the seats from one on, which know nothing
abbrev pub AreFrom : ℕ → List Known → Type 0
AreFrom first seats = (k : ℕ) (s : Known) → slice_get seats k ≡ Some s → s ≡ fresh (first + k)

-- a job was learnt of: no answer of it was lost, this history begins with what the job was told and
-- with what its seat knew at last, and there stands what its lines are told
pub record IsLearnt (h : History) (output : Output) : Type 0 where
  pub kept : output.log.lost ≡ false
  pub tells : TellsBy output.log.told output.log.seat output.log.replies
  pub knows : Begins output.log.told h
  pub knew : IfSome output.last (λ told. Begins told h)

-- one more job was learnt of, and its answers were added to those before
pub record Joins (old : History) (before : List LineReply) (output : Output)
    (new : History) (after : List LineReply) : Type 0 where
  pub learnt : IsLearnt new output
  pub grew : Begins old new
  pub all : after ≡ before ++ output.log.replies

-- these jobs were learnt of, and their answers stand behind those that were there before any
pub record AreJoined (before : List LineReply) (h : History) (replies : List LineReply)
    (jobs : List Output) : Type 0 where
  pub learnt : All (IsLearnt h) jobs
  pub all : replies ≡ before ++ flat_map (λ output. output.log.replies) jobs

-- The answers before any session are that of line 1, where it says the keys between the regions,
-- and those of the seeds, which were played one after another by a seat that knew nothing before;
-- what it then knew begins this history.
pub record IsOpened (bounds : List Key) (source : Option (List ℕ)) (h : History) (replies : List LineReply) : Type 0
  where
    pub first : List LineReply
    pub opening : numbers_of first ≡ opening_of bounds
    pub seeds : List LineReply
    pub all : replies ≡ first ++ seeds
    pub seat : ℕ
    pub last : Known
    pub plays : PlaysSeeds bounds source (fresh seat) seeds last
    pub knew : Begins last.events h

-- the answers of these jobs stand behind those that were there before any session, which are of the
-- lines of these numbers, in this order; none of those is a fault or tells an outcome
abbrev pub AreGathered : List Key → Option (List ℕ) → List ℕ → History → List LineReply
    → List Output → Type 0
AreGathered bounds source firsts h replies jobs = (before : List LineReply) × (numbers_of before ≡ firsts)
    × All (λ s. IsReply s.answer) before × AreJoined before h replies jobs × IsOpened bounds source h before

-- the k-th session's lines were answered up to a fault, which is its last answer, unless one of its
-- answers was lost
abbrev pub AreAnswered : List (List ℕ) → List Output → Type 0
AreAnswered lines outputs = (length outputs ≡ length lines) × ((k : ℕ) (numbers : List ℕ) (output : Output)
    → slice_get lines k ≡ Some numbers → slice_get outputs k ≡ Some output
    → output.log.lost ≡ false → Answers numbers output.faulted output.log.replies)

-- each session that lost no answer was played, by its own lines, where the text is known
abbrev pub ArePlayed : List Key → Option (List ℕ) → List Output → Type 0
ArePlayed bounds source outputs = (k : ℕ) (output : Output) → slice_get outputs k ≡ Some output
    → is_some source ≡ true → output.log.lost ≡ false
    → SessionPlays bounds source output.log.seat output.log.replies output.stage output.last

-- how far the sessions of these jobs were, of which that is told, in the order of the jobs
abbrev pub stages_in : List Output → List (ℕ × SessionStage)
stages_in outputs = flat_map (λ output. option_to_list output.stage) outputs

-- the first list has some of the elements of the second, in their order
abbrev pub IsSubsequence : {X : Type 0} → List X → List X → Type 0
IsSubsequence [] ys = Unit {0}
IsSubsequence (x ∷ xs) [] = ⊥
IsSubsequence (x ∷ xs) (y ∷ ys) = ((x ≡ y) × IsSubsequence xs ys) ⊎ IsSubsequence (x ∷ xs) ys

-- What a run came to that has lines of these numbers before any session, and whose sessions have
-- these: the answers of those, and of its sessions, and no other. Each session had seen a beginning
-- of what is seen in the end, and none lost an answer: each line of a session is answered, in order
-- and once, but those behind a fault. Each was played, by a seat of its own. What is told of how
-- far sessions were is so of some of them, in their order; others are left out, for want of memory.
abbrev pub ComesOf : List Key → Option (List ℕ) → List ℕ → List (List ℕ) → History
    → List LineReply → List (ℕ × SessionStage) → Type 0
ComesOf bounds source firsts lines h replies stages = (sessions : List Output)
    × AreGathered bounds source firsts h replies sessions × AreAnswered lines sessions × AreFalling sessions
    × ArePlayed bounds source sessions × IsSubsequence stages (stages_in sessions)

-- this, of the lines of a text: each session has those that the text says are its own, and before
-- any come line 1, where it says the keys between the regions, and the seeds; of some lines, where
-- the text is not known
abbrev pub ComesOfText : Option (List ℕ) → List Key → History → List LineReply → List (ℕ × SessionStage) → Type 0
ComesOfText None bounds h replies stages =
    (firsts : List ℕ) × (lines : List (List ℕ)) × ComesOf bounds None firsts lines h replies stages
ComesOfText (Some text) bounds h replies stages =
    ComesOf bounds (Some text) (firsts_of (lines_of text)) (sessions_of (lines_of text)) h replies stages

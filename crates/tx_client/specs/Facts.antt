-- What holds of a session's state in what its seat has seen.
use Rattle.std.specs.Prelude.{◌≡◌, ◌≢◌, ◌⊎◌, ℕ, zero, suc, true, false, List, [], ◌∷◌, Option, Some, None, Ok, Err}
use Rattle.tx_types.specs.declared.key.Key.{Key}
use Rattle.tx_types.specs.declared.lock.LockInfo.{LockInfo}
use Rattle.tx_types.specs.declared.mutation.Fate.{Fate}
use Rattle.tx_plan.specs.declared.body.Body.{Body}
use Rattle.tx_plan.specs.declared.answer.Answer.{Answer}
use Rattle.tx_plan.specs.declared.answer.Answer.TheVariants.{KeyIsLocked}
use Rattle.tx_machine.specs.Keys.{IsDistinct}
use Rattle.tx_core.specs.declared.event.Declaration.{Declaration}
use Rattle.tx_core.specs.declared.event.Taken.{Taken}
use Rattle.tx_core.specs.declared.event.Event.TheVariants.{Took}
use Rattle.tx_core.specs.Histories.{History, drawer, began, declared, answered, Among}
use Rattle.tx_core.specs.Decisions.{accepted, AllAccepted, HasTwoPhaseLock}
use Rattle.tx_core.specs.Allowed.{AllowsRead, DrewAfterAll}
use Rattle.tx_core.specs.Worlds.{MayAnswer, IsWorldRun}
use Rattle.tx_core.specs.Laws.{HadAsyncLock}
use Rattle.tx_journal.specs.Known.{Known}
use Rattle.tx_transaction.specs.declared.state.Terms.{Terms}
use Rattle.tx_transaction.specs.Returns.{Response}
use Rattle.tx_transaction.specs.declared.state.Phase.{Phase}
use Rattle.tx_transaction.specs.declared.state.Phase.TheVariants as phase
use Rattle.tx_transaction.specs.declared.state.Due.{Due}
use Rattle.tx_transaction.specs.Buffers.{Entries, changes_of}
use Rattle.tx_transaction.specs.Sessions.{SessionState, declaration, prewrite_of, commit_of, rollback_of, check_of, outcome_of}

-- a request was answered so
pub record WasAnswered (h : History) (b : Body) (a : Answer) : Type 0 where
  pub by : Taken
  pub among : Among h (Took by)
  pub asked : by.body ≡ b
  pub told : by.answer ≡ a

-- an answer said that this lock stands in the way (E1)
abbrev pub WasMet : History → LockInfo → Type 0
WasMet h info = (b : Body) × WasAnswered h b (KeyIsLocked info)

-- what came of a request: an answer was given
abbrev pub RespondsSo : History → Body → Response → Type 0
RespondsSo h b (Err why) = Unit {0}
RespondsSo h b (Ok a) = WasAnswered h b a

-- what stands declared: nothing before declare, and nothing of an empty buffer
abbrev pub standing : ℕ → ℕ → Entries → Option Terms → Option Declaration
standing start placed es None = None
standing start placed es (Some terms) = declaration start placed es terms

-- a key is accepted, and some key of its transaction in two phases
pub record HasTwoPhaseKey (h : History) (t : ℕ) (k : Key) : Type 0 where
  pub accepted : accepted h t k ≢ None
  pub two_phase : HasTwoPhaseLock h t

-- a key that is marked accepted with a minimum had an async lock with that minimum; with 0, a key
-- of its transaction has a two-phase lock
abbrev pub Mark : History → ℕ → Key → Option ℕ → Type 0
Mark h t k None = Unit {0}
Mark h t k (Some zero) = HasTwoPhaseKey h t k
Mark h t k (Some (suc m)) = HadAsyncLock h t k (suc m)

abbrev pub Marks : History → ℕ → Entries → Type 0
Marks h t [] = Unit {0}
Marks h t (e ∷ es) = Mark h t e.0 e.1.progress.accepted × Marks h t es

-- a commit at c may decide
pub record IsReady (h : History) (t c : ℕ) : Type 0 where
  pub stands : declared h t ≢ None
  pub all : AllAccepted h t
  pub two_phase : HasTwoPhaseLock h t
  pub drew : DrewAfterAll h t c

-- What ties a session's state to what its seat, number i, has seen: its seat drew its start, at
-- which it began, and has not answered; its buffer is what it declared, each key once; its reads
-- may pass by those that they name; what it met stood in the way; and what it knows of its keys, of
-- its drawn timestamp and of its fate is so.
pub record IsSession (h : History) (i : ℕ) (s : SessionState) : Type 0 where
  pub drew_start : drawer h s.start ≡ Some i
  pub begun : began h s.start ≡ true
  pub unanswered : answered h s.start ≡ false
  pub stands : declared h s.start ≡ standing s.start s.placed s.buffer s.declared
  pub distinct : IsDistinct (changes_of s.buffer)
  pub marks : Marks h s.start s.buffer
  pub passes : AllowsRead h s.start s.bypass
  pub met : (info : LockInfo) → s.met ≡ Some info → WasMet h info
  pub ready : (c : ℕ) → s.drawn ≡ Some c → IsReady h s.start c
  pub settled : (end : Fate) → s.decision ≡ Some end → MayAnswer h s.start (outcome_of end)

-- a request is one that the phase sends for its place
abbrev pub IsFor : SessionState → Phase → Due → Type 0
IsFor s phase.Prewrite due = (terms : Terms) × (n : ℕ) × (due ≡ prewrite_of s terms n)
IsFor s phase.Commit due = (c : ℕ) × (n : ℕ) × (due ≡ commit_of s c n)
IsFor s phase.Abort due = ((n : ℕ) × (due ≡ rollback_of s n)) ⊎ ((n : ℕ) × (due ≡ check_of s n))

-- what a session's type keeps: its seat has seen a world run, in which this holds of its state
abbrev pub IsSeated : List Key → Known → SessionState → Type 0
IsSeated bounds k s = IsWorldRun bounds k.events × IsSession k.events k.seat s

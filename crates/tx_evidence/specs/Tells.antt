-- What a reply tells: an event of what has happened, by what its step asked. What the events answer
-- is true of the machine (`AllTrue`), and so is what the reply says.
use Rattle.std.specs.Prelude.{◌≡◌, ◌⊎◌, ℕ, ◌+◌, List, [], ◌∷◌, ◌++◌, length, Option, Some, None}
use Rattle.serde_json.specs.Data.{Items}
use Rattle.tx_types.specs.declared.fault.Cause.{Cause}
use Rattle.tx_types.specs.declared.key.Key.{Key}
use Rattle.tx_types.specs.declared.value.Value.{Value}
use Rattle.tx_types.specs.declared.lock.LockInfo.{LockInfo}
use Rattle.tx_types.specs.declared.mutation.KeyValue.{KeyValue}
use Rattle.tx_types.specs.declared.mutation.Fate.{Fate}
use Rattle.tx_types.specs.declared.mutation.Fate.TheVariants as fate
use Rattle.tx_plan.specs.declared.body.Body.{Body}
use Rattle.tx_plan.specs.declared.body.Body.TheVariants as body
use Rattle.tx_plan.specs.declared.body.Scan.{Scan}
use Rattle.tx_plan.specs.declared.body.ResolveLock.{ResolveLock}
use Rattle.tx_plan.specs.declared.body.CheckTxnStatus.{CheckTxnStatus}
use Rattle.tx_plan.specs.declared.answer.Answer.{Answer}
use Rattle.tx_plan.specs.declared.answer.Answer.TheVariants as answer
use Rattle.tx_cells.specs.declared.copies.KeyVersions.{KeyVersions}
use Rattle.tx_cells.specs.Copies.{Copies}
use Rattle.tx_core.specs.declared.event.Event.TheVariants as event
use Rattle.tx_core.specs.Histories.{History, left, Among, Begins}
use Rattle.tx_core.specs.Worlds.{route}
use Rattle.tx_client.specs.declared.resolved.Status.{Status}
use Rattle.tx_client.specs.declared.resolved.Status.TheVariants as status
use Rattle.tx_client.specs.Facts.{WasAnswered}
use Rattle.tx_steps.specs.declared.call.Call.TheVariants as call
use Rattle.tx_steps.specs.declared.op.Op.TheVariants as op
use Rattle.tx_steps.specs.declared.step.Step.{Step}
use Rattle.tx_steps.specs.declared.step.Step.TheVariants as step
use Rattle.tx_steps.specs.Steps.{Text}
use Rattle.tx_text.specs.Faults.{fault_words}
use Rattle.tx_reply.specs.Replies.{reply_words}
use Rattle.tx_reply.specs.declared.reply.ScriptReply.{ScriptReply}
use Rattle.tx_reply.specs.declared.reply.ScriptReply.TheVariants as reply

-- ---- what sessions enter

-- what was entered under which name for a key: a value, or none
abbrev pub Entered : Type 1
Entered = Text → Key → Option Value → Type 0

-- nothing was
abbrev pub nothing_entered : Entered
nothing_entered name k o = ⊥

-- a put and an insert enter a value for their key, a delete enters none
abbrev pub Enters : Step Text → Entered
Enters (step.Act name (op.Put key value)) n k o = (name ≡ n) × (key ≡ k) × (o ≡ Some value)
Enters (step.Act name (op.Insert key value)) n k o = (name ≡ n) × (key ≡ k) × (o ≡ Some value)
Enters (step.Act name (op.Delete key)) n k o = (name ≡ n) × (key ≡ k) × (o ≡ None)
Enters _ n k o = ⊥

-- a step entered it, or it was entered before
abbrev pub entered_by : Step Text → Entered → Entered
entered_by what entered n k o = Enters what n k o ⊎ entered n k o

-- ---- what was answered

-- a read of the key at some timestamp was answered so
abbrev pub WasRead : History → Key → Answer → Type 0
WasRead h key a = (at : ℕ) × (bypass : List ℕ) × WasAnswered h (body.Get (record {
  key = key;
  at = at;
  bypass = bypass;
})) a

-- one list of rows behind another
abbrev pub joined : List (List KeyValue) → List KeyValue
joined [] = []
joined (rows ∷ parts) = rows ++ joined parts

-- scans at the timestamp were answered by these lists of rows, each by one
abbrev pub AllScanned : History → ℕ → List (List KeyValue) → Type 0
AllScanned h at [] = Unit {0}
AllScanned h at (rows ∷ parts) = ((b : Scan) × (b.at ≡ at) × WasAnswered h (body.Scan b) (answer.Rows rows))
    × AllScanned h at parts

-- the rows are those of regions, one region's behind another's, all scanned at one timestamp
abbrev pub WereScanned : History → List KeyValue → Type 0
WereScanned h rows = (at : ℕ) × (parts : List (List KeyValue)) × (rows ≡ joined parts) × AllScanned h at parts

-- some request was answered so
abbrev pub WasGiven : History → Answer → Type 0
WasGiven h a = (b : Body) × WasAnswered h b a

-- A fate was answered to a resolver, which gave a lock that fate; a minimum is that of a lock which
-- a check of a transaction showed. Of waiting nothing is said.
abbrev pub WasSettled : History → Fate → Type 0
WasSettled h end = (b : ResolveLock) × (b.fate ≡ end) × WasAnswered h (body.ResolveLock b) answer.Resolved

abbrev pub WasFound : History → Status → Type 0
WasFound h (status.Committed c) = WasSettled h (fate.Committed c)
WasFound h status.Aborted = WasSettled h fate.Aborted
WasFound h (status.Pushed m) = (b : CheckTxnStatus) × (info : LockInfo) × (info.min ≡ m)
    × WasAnswered h (body.CheckTxnStatus b) (answer.Locked info)
WasFound h (status.Waiting why) = Unit {0}

-- a seat drew the number
abbrev pub WasDrawn : History → ℕ → Type 0
WasDrawn h t = (seat : ℕ) × Among h (event.Drawn seat t)

-- ---- what a reply tells

-- what a session of this name has in its own buffer of a key
abbrev pub IsOwn : Entered → Text → Key → Answer → Type 0
IsOwn entered name key (answer.Found v) = entered name key (Some v)
IsOwn entered name key answer.Nothing = entered name key None
IsOwn entered name key _ = ⊥

module _ (bounds : List Key) (entered : Entered) (h : History) where
  -- A get is answered by what was entered under its name, or by a region; rows by each region that
  -- has some; a read of no session by a region, at its timestamp. Each other answer was given to
  -- some request, which `AllTrue` says more of.
  abbrev pub TellsAnswer : Step Text → Answer → Type 0
  TellsAnswer (step.Send name (call.Get key) delivery) a = IsOwn entered name key a ⊎ WasRead h key a
  TellsAnswer (step.Send name (call.Scan from to limit) delivery) (answer.Rows rows) = WereScanned h rows
  TellsAnswer (step.Read key at) a = WasAnswered h (body.Get (record { key = key; at = at; bypass = [] })) a
  TellsAnswer _ a = WasGiven h a

  -- what is shown of a key is what some first events left there
  abbrev pub TellsVersions : Step Text → KeyVersions → Type 0
  TellsVersions (step.Versions key) copy = (first : History) × Begins first h
      × Copies ((left first (route bounds key)).cells key) copy
  TellsVersions _ copy = ⊥

  -- What a step's reply tells; no step is told how many regions there are. Of sums of a collection,
  -- and of replies that say only that a step was done, or why it was not, nothing is said.
  abbrev pub TellsBy : Step Text → ScriptReply → Type 0
  TellsBy what (reply.Regions n) = ⊥
  TellsBy what (reply.Start t) = WasDrawn h t × Among h (event.Began t)
  TellsBy what (reply.Drawn t) = WasDrawn h t
  TellsBy what (reply.Last t) = WasDrawn h t
  TellsBy what (reply.Ended o) = (t : ℕ) × Among h (event.Answered t o)
  TellsBy what (reply.Answered a) = TellsAnswer what a
  TellsBy what (reply.Status found) = WasFound h found
  TellsBy what (reply.Versions copy) = TellsVersions what copy
  TellsBy what _ = Unit {0}

  -- What is written for a line is a fault, or how many regions there are, or the reply of its step,
  -- which tells of what has happened.
  abbrev pub LineTells : Option (Step Text) → Items → Type 0
  LineTells said words = ((cause : Cause) × (words ≡ fault_words cause))
      ⊎ ((words ≡ reply_words (reply.Regions (length bounds + 1)))
      ⊎ ((what : Step Text) × (it : ScriptReply) × (said ≡ Some what) × (words ≡ reply_words it)
      × TellsBy what it))

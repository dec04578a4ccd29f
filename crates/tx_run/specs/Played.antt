-- How the session of a job is played: the states that it has between its lines, and what leads from
-- one to the next. `Turns` is the only place that says what a line of a run does.
use Rattle.std.specs.Prelude.{◌≡◌, ◌⊎◌, ℕ, Bool, true, false, ◌<◌, List, [], ◌∷◌, ◌++◌, Option, Some, None, Ok, Err}
use Rattle.tx_types.specs.Names.{is_name}
use Rattle.tx_types.specs.declared.key.Key.{Key}
use Rattle.tx_types.specs.declared.fault.Cause.TheVariants.{Name, Order}
use Rattle.tx_core.specs.declared.event.Event.TheVariants.{Answered}
use Rattle.tx_core.specs.Histories.{History, Begins}
use Rattle.tx_journal.specs.Known.{Known, known}
use Rattle.tx_transaction.specs.Buffers.{Entries}
use Rattle.tx_transaction.specs.Sessions.{finish_of}
use Rattle.tx_client.specs.Calls.{Seated, HasHeard, Records}
use Rattle.tx_steps.specs.declared.op.Op.TheVariants as op
use Rattle.tx_steps.specs.declared.step.Step.{Step}
use Rattle.tx_steps.specs.declared.step.Step.TheVariants as step
use Rattle.tx_steps.specs.declared.transfer.Transfer.{Transfer}
use Rattle.tx_steps.specs.Steps.{Text}
use Rattle.tx_reply.specs.declared.reply.ScriptReply.{ScriptReply}
use Rattle.tx_reply.specs.declared.reply.ScriptReply.TheVariants as reply
use Rattle.tx_ops.specs.Calls.{Said, call_walk}
use Rattle.tx_ops.specs.Stages.{stage_of}
use Rattle.tx_ops.specs.declared.stage.SessionStage.{SessionStage}
use Rattle.tx_transfer.specs.Acts.{Acts}
use Rattle.tx_transfer.specs.Sends.{SendsOver}
use Rattle.tx_transfer.specs.declared.progress.TransferProgress.{TransferProgress}
use Rattle.tx_transfer.specs.declared.plain_reply.PlainReply.{PlainReply}
use Rattle.tx_transfer.specs.TransferSteps.{Moving}
use Rattle.tx_transfer.specs.Replies.{said_of}
use Rattle.tx_transfer.specs.Steps.{Begun, Left}
use Rattle.tx_workload.specs.declared.reply.LineAnswer.{LineAnswer}
use Rattle.tx_workload.specs.declared.reply.LineAnswer.TheVariants.{Plain, Ended}
use Rattle.tx_workload.specs.declared.reply.LineReply.{LineReply}
use Rattle.tx_workload.specs.Logs.{EndsOutOfOrder, KeepsAnswer, Logged, answer_to}
use Rattle.tx_workload.specs.Steps.{Says}
use Rattle.tx_run.specs.Transfers.{Ends, Finishes, HearsMore, Transfers}

-- A step leaves its session live: neither `finish` nor `stop` does, whatever it is told.
abbrev pub stays : Step Text → Bool
stays (step.Act name op.Finish) = false
stays (step.Act name op.Stop) = false
stays _ = true

module _ (bounds : List Key) where
  -- What a live session makes of a step, but of one that ends it: what tx_ops says of its acts and
  -- of its calls, over a store, which loses nothing. A seat of its own resolves.
  abbrev pub Makes : Step Text → Seated → Said → Seated → Type 0
  Makes (step.Act name what) old said new = (resolver after : Known) × Acts bounds what old resolver said new after
  Makes (step.Send name what delivery) old said new =
      SendsOver bounds old.seat (call_walk bounds old.state what) (new.state, said) new.seat
  Makes (step.Begin name) old said new = (said ≡ Err Name) × (new ≡ old)
  Makes _ old said new = (said ≡ Err Order) × (new ≡ old)

  -- it makes that of a step which leaves it live
  abbrev pub MakesLive : Step Text → Seated → Said → Seated → Type 0
  MakesLive what old said new = (stays what ≡ true) × Makes what old said new

  -- an answer of the line of this number is that of the step which it says, made of some state of a
  -- live session, which stays live; what the session's seat had seen then begins what has happened
  pub record WasMade (source : Option (List ℕ)) (h : History) (number : ℕ) (said : Said) : Type 0 where
    pub what : Step Text
    pub says : Says source number (Some what)
    pub old : Seated
    pub new : Seated
    pub makes : MakesLive what old said new
    pub knows : Begins new.seat.events h

-- the line of this number says that a session of a name begins
abbrev pub SaysBegin : Option (List ℕ) → ℕ → Type 0
SaysBegin source number = (name : Text) × (is_name name ≡ true) × Says source number (Some (step.Begin name))

-- the line of this number says that its session finishes
abbrev pub SaysFinish : Option (List ℕ) → ℕ → Type 0
SaysFinish source number = (name : Text) × Says source number (Some (step.Act name op.Finish))

-- the line of this number says that its session stops
abbrev pub SaysStop : Option (List ℕ) → ℕ → Type 0
SaysStop source number = (name : Text) × Says source number (Some (step.Act name op.Stop))

-- the line of this number says this transfer
abbrev pub SaysTransfer : Option (List ℕ) → ℕ → Transfer Text → Type 0
SaysTransfer source number what = (name : Text) × Says source number (Some (step.Transfer name what))

-- where a session stands: its seat is free, or a transaction of it is open
pub data Standing : Type 0 where
  free : (seat : Known) → Standing
  live : (session : Seated) → Standing

-- where a job stands: its session stands so; or this transfer is on its way; or its state is taken
-- while it acts
pub data Where : Type 0 where
  at : (standing : Standing) → Where
  moving : (transfer : Moving) → Where
  away : Where

abbrev pub is_moving : Where → Bool
is_moving (at s) = false
is_moving (moving m) = true
is_moving away = false

abbrev pub is_away : Where → Bool
is_away (at s) = false
is_away (moving m) = false
is_away away = true

-- a step begins a transaction, or a transfer, where none is open: it has a name
abbrev pub begins : Step Text → Bool
begins (step.Begin name) = is_name name
begins (step.Transfer name what) = is_name name
begins _ = false

-- what its live session has entered
abbrev pub buffer_at : Where → Entries
buffer_at (at (free k)) = []
buffer_at (at (live s)) = s.state.buffer
buffer_at (moving m) = []
buffer_at away = []

-- a seat of this number that knows nothing, and has 2^32 ticks
abbrev pub fresh : ℕ → Known
fresh seat = known seat 4294967296 []

-- what its seat knows there
abbrev pub known_at : Standing → Known
known_at (free k) = k
known_at (live s) = s.seat

-- How far a session is said to be with which the play of these answers ends: an open transaction is
-- so far, and the line of this number is its last and was out of order. Nothing may be said.
abbrev pub IsStageOf : Standing → List LineReply → Option (ℕ × SessionStage) → Type 0
IsStageOf last replies None = Unit {0}
IsStageOf (free k) replies (Some told) = ⊥
IsStageOf (live s) replies (Some told) = EndsOutOfOrder told.0 replies × (told.1 ≡ stage_of s.state)

module _ (bounds : List Key) where
  -- its seat heard of others, and made no event
  abbrev pub HeardSo : Standing → Standing → Type 0
  HeardSo (free k) (free l) = (told : History) × HasHeard bounds k told l
  HeardSo (live s) (live t) = HearsMore bounds s t
  HeardSo _ _ = ⊥

  -- it did, or it is where it was
  abbrev pub Hears : Standing → Standing → Type 0
  Hears from to = (to ≡ from) ⊎ HeardSo from to

  -- what a line that begins is told: ticks are spent, or memory for the transaction is refused
  abbrev pub NotBegun : Known → ScriptReply → Known → Type 0
  NotBegun k said l = ((said ≡ reply.OracleSpent) × (k.ticks < 1) × (l ≡ k))
      ⊎ ((said ≡ reply.OutOfMemory) × (s t : Seated) × Begun bounds k s × HearsMore bounds s t × Left bounds t l)

  -- What the step of a line leads to from where the session stands, and the answer of the line.
  abbrev pub Turns : Step Text → Standing → LineAnswer → Standing → Type 0
  Turns (step.Begin name) (free k) (Plain (Ok p)) (live s) = (is_name name ≡ true)
      × (p.reply ≡ reply.Start s.state.start) × Begun bounds k s
  Turns (step.Begin name) (free k) (Plain (Ok p)) (free l) = (is_name name ≡ true) × NotBegun k p.reply l
  Turns (step.Act name op.Finish) (live s) (Ended start o None) (free l) = (start ≡ s.state.start)
      × (finish_of s.state ≡ Some o) × Records bounds s.seat (Answered start o) l
  Turns (step.Act name op.Finish) (live s) (Plain (Err cause)) (free l) = (cause ≡ Order)
      × (finish_of s.state ≡ None) × Left bounds s l
  Turns (step.Act name op.Stop) (live s) (Plain (Ok p)) (free l) = (p.reply ≡ reply.Fine) × Left bounds s l
  Turns (step.Transfer name what) (free k) answer (free l) = Transfers bounds what k answer l
      ⊎ ((answer ≡ Plain (Err Name)) × (begins (step.Transfer name what) ≡ false) × (l ≡ k))
  Turns what (live s) (Plain answer) (live t) = MakesLive bounds what s (said_of answer) t
  Turns what (free k) (Plain (Err cause)) (free l) = (cause ≡ Name) × (begins what ≡ false) × (l ≡ k)
  Turns what from answer to = ⊥

  -- a line for which memory was refused before its step was known: it changes nothing
  abbrev pub IsUnread : Standing → LineAnswer → Standing → Type 0
  IsUnread from (Plain (Ok p)) to = (p.reply ≡ reply.OutOfMemory) × (to ≡ from)
  IsUnread from answer to = ⊥

  -- A line is played: its answer is that of the step which it says, made where the session stood.
  -- Before that and after it its seat may hear of others.
  pub record LinePlays (source : Option (List ℕ)) (from : Standing) (s : LineReply) (to : Standing) : Type 0 where
    pub what : Step Text
    pub says : Says source s.number (Some what)
    pub here : Standing
    pub hears : Hears from here
    pub there : Standing
    pub turns : Turns what here s.answer there ⊎ IsUnread here s.answer there
    pub heard : Hears there to

  -- the lines of a session are played one after another, each from where the one before it led
  abbrev pub Plays : Option (List ℕ) → Standing → List LineReply → Standing → Type 0
  Plays source from [] to = to ≡ from
  Plays source from (s ∷ more) to = (next : Standing) × LinePlays source from s next × Plays source next more to

  -- a transaction is left as it is, and a line is told a refusal
  pub record StopsSo (s : Seated) (number : ℕ) (plain : PlainReply) (old new : Logged) (stands : Where) : Type 0 where
    pub seat : Known
    pub there : stands ≡ at (free seat)
    pub left : Left bounds s seat
    pub kept : KeepsAnswer old number (Plain (Ok plain)) new

  -- one more line is answered, and it is played from here to where the job then stands
  pub record PlaysOne (source : Option (List ℕ)) (from : Standing) (number : ℕ) (old new : Logged) (stands : Where)
      : Type 0 where
    pub answer : LineAnswer
    pub to : Standing
    pub there : stands ≡ at to
    pub kept : KeepsAnswer old number answer new
    pub plays : LinePlays source from (answer_to number answer) to

  -- From this place these answers are what a play comes to, which leads there: of a session that
  -- stands, the play of its lines; of a transfer on its way, the first is its line's, as it is
  -- played to its end, and then those of the lines behind it.
  abbrev pub PlayedFrom : Option (List ℕ) → Where → List LineReply → Standing → Type 0
  PlayedFrom source (at s) replies last = Plays source s replies last
  PlayedFrom source (moving m) (s ∷ more) last = (seat : Known) × (s.number ≡ m.number)
      × Finishes bounds m s.answer seat × Plays source (free seat) more last
  PlayedFrom source place replies last = ⊥

  -- no answer was lost, and whatever a play comes to from where a job now stands, it comes to from
  -- where it stood, with the answers that it has gained before those
  pub record LeadsTo (source : Option (List ℕ)) (from : Where) (old new : Logged) (to : Where) : Type 0 where
    pub kept : old.lost ≡ false
    pub more : List LineReply
    pub all : new.replies ≡ old.replies ++ more
    pub leads : (rest : List LineReply) (last : Standing) → PlayedFrom source to rest last
        → PlayedFrom source from (more ++ rest) last

  -- this, unless an answer was lost
  pub record Leads (source : Option (List ℕ)) (from : Where) (old new : Logged) (to : Where) : Type 0 where
    pub stands : is_away to ≡ false
    pub leads : new.lost ≡ false → LeadsTo source from old new to

  -- a line is played so, or what it begins leads on
  abbrev pub IsPlayed : Option (List ℕ) → Standing → ℕ → Logged → Logged → Where → Type 0
  IsPlayed source from number old new stands = PlaysOne source from number old new stands
      ⊎ Leads source (at from) old new stands

  -- a transfer that was on its way goes on no more: its line is answered, and its seat is free
  pub record EndsTransfer (m : Moving) (p : TransferProgress) (old new : Logged) (stands : Where) : Type 0 where
    pub answer : LineAnswer
    pub seat : Known
    pub there : stands ≡ at (free seat)
    pub kept : KeepsAnswer old m.number answer new
    pub ends : Ends bounds m p answer seat

  -- what a log gained are the answers of a play from here, which led to where its session was so
  -- far and its seat knew this
  pub record PlaysOut (source : Option (List ℕ)) (from : Where) (old new : Logged) (stage : Option (ℕ × SessionStage))
      (known : Option History) : Type 0 where
    pub more : List LineReply
    pub all : new.replies ≡ old.replies ++ more
    pub last : Standing
    pub plays : PlayedFrom source from more last
    pub far : IsStageOf last new.replies stage
    pub knew : known ≡ Some (known_at last).events

  -- The lines of a session were played, one after another, from a seat of this number that knew
  -- nothing and had 2^32 ticks; its replies are what that play says, it was so far at last, and
  -- this is what its seat then knew.
  pub record SessionPlays (source : Option (List ℕ)) (seat : ℕ) (replies : List LineReply)
      (stage : Option (ℕ × SessionStage)) (known : Option History) : Type 0 where
    pub last : Standing
    pub plays : Plays source (free (fresh seat)) replies last
    pub far : IsStageOf last replies stage
    pub knew : known ≡ Some (known_at last).events

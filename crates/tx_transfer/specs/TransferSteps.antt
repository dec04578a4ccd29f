-- What a transfer does, one request after another. Its next request is determined by what came of
-- those before.
use Rattle.std.specs.Prelude.{◌≡◌, ◌⊎◌, ◌<◌, ◌≤◌, ◌+◌, ◌^◌, ◌-◌, ◌&&◌, ◌||◌, ℕ, Bool, true, false, decimal, is_some, min, nat_lt, List, [], ◌∷◌, Option, Some, None, Result, Ok, Err}
use Rattle.tx_types.specs.declared.key.Key.{Key}
use Rattle.tx_types.specs.declared.fault.Fault.{Fault}
use Rattle.tx_types.specs.declared.fault.Fault.TheVariants as fault
use Rattle.tx_plan.specs.declared.answer.Answer.{Answer}
use Rattle.tx_plan.specs.declared.answer.Answer.TheVariants as answer
use Rattle.tx_journal.specs.Known.{Known}
use Rattle.tx_transaction.specs.declared.state.Miss.{Miss}
use Rattle.tx_transaction.specs.declared.state.Phase.TheVariants as phase
use Rattle.tx_transaction.specs.declared.state.Terms.{Terms}
use Rattle.tx_transaction.specs.Next.{due}
use Rattle.tx_transaction.specs.Sessions.{SessionState, can_abort, can_commit, can_draw, is_declared}
use Rattle.tx_client.specs.declared.resolved.Status.{Status}
use Rattle.tx_client.specs.Calls.{Seated}
use Rattle.tx_client.specs.Walks.{Walk, due_walk, get_walk}
use Rattle.tx_steps.specs.Steps.{Text}
use Rattle.tx_steps.specs.declared.transfer.Transfer.{Transfer}
use Rattle.tx_transfer.specs.declared.changes.TheConstants.{TTL}
use Rattle.tx_transfer.specs.declared.progress.TheConstants.{TRIES}
use Rattle.tx_transfer.specs.declared.progress.TransferPhase.{TransferPhase}
use Rattle.tx_transfer.specs.declared.progress.TransferPhase.TheVariants as step
use Rattle.tx_transfer.specs.declared.progress.TransferProgress.{TransferProgress}
use Rattle.tx_transfer.specs.declared.progress.TransferProgress.TheVariants as progress
use Rattle.tx_transfer.specs.Balances.{after_transfer, balance_of}
use Rattle.tx_transfer.specs.Resolutions.{ResolvesMet}
use Rattle.tx_transfer.specs.Sends.{SendsOver}
use Rattle.tx_transfer.specs.Steps.{Came, DeclaresOr, DrawsOr, Enters, Then}

-- a transfer on its way: the number of its line, what that moves, its session, what it does next,
-- the balance of the first key once it is read, how often a lock in its way was to be resolved, and
-- how often its commit was not answered as one
pub record Moving : Type 0 where
  pub number : ℕ
  pub what : Transfer Text
  pub session : Seated
  pub next : TransferPhase
  pub found : ℕ
  pub resolved : ℕ
  pub late : ℕ

-- one of which nothing is read yet
abbrev pub starting : ℕ → Transfer Text → Seated → Moving
starting number what s = record {
  number = number;
  what = what;
  session = s;
  next = step.ReadFrom;
  found = 0;
  resolved = 0;
  late = 0;
}

-- whether the first key is read next
abbrev pub reads_first : TransferPhase → Bool
reads_first step.ReadFrom = true
reads_first step.ReadTo = false
reads_first step.Prewrite = false
reads_first step.Commit = false
reads_first step.Abort = false

-- the key that is read next
abbrev pub key_read : Bool → Transfer Text → Key
key_read true what = what.from
key_read false what = what.to

-- a commit may be asked, or a timestamp be drawn for one
abbrev pub is_ready : SessionState → Bool
is_ready s = can_commit s || can_draw s

-- how its transaction is declared
abbrev pub terms_of : Transfer Text → Terms
terms_of what = record { mode = what.mode; ttl = TTL; max_commit = None }

-- it goes on with its next request, or with this one
abbrev pub GoesOn : Moving → TransferProgress → Moving → Type 0
GoesOn m p n = (p ≡ progress.More) × (n ≡ m)

abbrev pub TurnsTo : TransferPhase → Moving → TransferProgress → Moving → Type 0
TurnsTo next m p n = (p ≡ progress.More) × (n ≡ record m { next = next })

-- it is over
abbrev pub IsOver : Moving → TransferProgress → Moving → Type 0
IsOver m p n = (p ≡ progress.Over) × (n ≡ m)

-- memory is refused
abbrev pub IsShort : Moving → TransferProgress → Moving → Type 0
IsShort m p n = (p ≡ progress.OutOfMemory) × (n ≡ m)

-- a lock that stands in its way is resolved next, 16 times at most; memory for that may be refused
abbrev pub MeetsLock : Type 0 → Moving → TransferProgress → Moving → Type 0
MeetsLock Else m p n = ((TRIES ≤ m.resolved) × Else)
    ⊎ (((m.resolved < TRIES) × (p ≡ progress.More) × (n ≡ record m { resolved = m.resolved + 1 }))
    ⊎ IsShort m p n)

-- what refusals of its writes make of it
abbrev pub came_to : Came → TransferProgress
came_to (Ok u) = progress.More
came_to (Err fault.OracleSpent) = progress.Spent
came_to (Err e) = progress.OutOfMemory

abbrev pub next_by : Came → TransferPhase → TransferPhase
next_by (Ok u) next = step.Prewrite
next_by (Err e) next = next

-- and what resolving a lock does
abbrev pub resolved_by : Result (Option Status) Fault → TransferProgress
resolved_by (Ok found) = progress.More
resolved_by (Err e) = progress.OutOfMemory

-- one more commit was not answered as one, as far as 32 bits count
abbrev pub later : Moving → Moving
later m = record m { late = min (m.late + 1) (2 ^ 32 - 1) }

-- it is taken back then
abbrev pub gives_up : Moving → Bool
gives_up m = nat_lt TRIES m.late && can_abort m.session.state

-- the commit came too late: it is asked again, and after 16 times taken back where it may be
abbrev pub IsLate : Bool → Moving → TransferProgress → Moving → Type 0
IsLate true m p n = TurnsTo step.Abort m p n
IsLate false m p n = GoesOn m p n

abbrev pub ComesLate : Moving → TransferProgress → Moving → Type 0
ComesLate m p n = IsLate (gives_up (later m)) (later m) p n

abbrev pub GoesOnIf : Bool → Moving → TransferProgress → Moving → Type 0
GoesOnIf true m p n = GoesOn m p n
GoesOnIf false m p n = IsOver m p n

-- what a commit is answered makes of it: it goes on as long as another is due
abbrev pub AfterCommit : Answer → Moving → TransferProgress → Moving → Type 0
AfterCommit (answer.Committed at) m p n = GoesOnIf (is_some (due m.session.state phase.Commit)) m p n
AfterCommit (answer.BelowSafePoint safe) m p n = IsOver m p n
AfterCommit _ m p n = ComesLate m p n

abbrev pub CommitComes : Result (Option Answer) Miss → Moving → TransferProgress → Moving → Type 0
CommitComes (Ok (Some a)) m p n = AfterCommit a m p n
CommitComes _ m p n = IsOver m p n

-- what a prewrite is answered makes of it
abbrev pub AfterPrewrite : Answer → Moving → TransferProgress → Moving → Type 0
AfterPrewrite (answer.Prewritten least) m p n = GoesOn m p n
AfterPrewrite (answer.AlreadyCommitted at) m p n = GoesOn m p n
AfterPrewrite (answer.KeyIsLocked lock) m p n = MeetsLock (TurnsTo step.Abort m p n) m p n
AfterPrewrite (answer.BelowSafePoint safe) m p n = IsOver m p n
AfterPrewrite _ m p n = TurnsTo step.Abort m p n

abbrev pub PrewriteComes : Result (Option Answer) Miss → Moving → TransferProgress → Moving → Type 0
PrewriteComes (Ok (Some a)) m p n = AfterPrewrite a m p n
PrewriteComes (Ok None) m p n = TurnsTo step.Abort m p n
PrewriteComes (Err why) m p n = IsOver m p n

abbrev pub AfterAbort : Answer → Moving → TransferProgress → Moving → Type 0
AfterAbort (answer.BelowSafePoint safe) m p n = IsOver m p n
AfterAbort _ m p n = GoesOn m p n

abbrev pub AbortComes : Result (Option Answer) Miss → Moving → TransferProgress → Moving → Type 0
AbortComes (Ok (Some a)) m p n = AfterAbort a m p n
AbortComes _ m p n = IsOver m p n

module _ (bounds : List Key) where
  -- its session sends just this, which comes to this
  abbrev pub Asks : {R : Type 0} → Moving → (SessionState → Walk (SessionState × R)) → R → Moving → Type 0
  Asks m walk came n = (n ≡ record m { session = n.session })
      × SendsOver bounds m.session.seat (walk m.session.state) (n.session.state, came) n.session.seat

  -- ---- its reads

  -- both balances are put, and then declared
  abbrev pub PutsBoth : Transfer Text → ℕ × ℕ → Seated → Came → Seated → Type 0
  PutsBoth what left = Then (Enters what.from (decimal left.0))
      (Then (Enters what.to (decimal left.1)) (DeclaresOr bounds (terms_of what)))

  -- what is left of both balances is put and declared, once; where nothing can be left, it is over
  abbrev pub Writes : Option (ℕ × ℕ) → Moving → TransferProgress → Moving → Type 0
  Writes None m p n = IsOver m p n
  Writes (Some left) m p n = ((is_declared m.session.state ≡ true) × IsOver m p n)
      ⊎ ((came : Came) × PutsBoth m.what left m.session came n.session × (p ≡ came_to came)
      × (n ≡ record m { session = n.session; next = next_by came m.next }))

  -- a balance was found: of the first key, or then of the second
  abbrev pub Finds : Bool → ℕ → Moving → TransferProgress → Moving → Type 0
  Finds true balance m p n = (p ≡ progress.More) × (n ≡ record m { next = step.ReadTo; found = balance })
  Finds false balance m p n = Writes (after_transfer m.found balance m.what.amount) m p n

  -- what a read is answered makes of it
  abbrev pub AfterRead : Answer → Moving → TransferProgress → Moving → Type 0
  AfterRead (answer.Found value) m p n = Finds (reads_first m.next) (balance_of value) m p n
  AfterRead answer.Nothing m p n = Finds (reads_first m.next) 0 m p n
  AfterRead (answer.KeyIsLocked lock) m p n = MeetsLock (IsOver m p n) m p n
  AfterRead _ m p n = IsOver m p n

  abbrev pub ReadComes : Result Answer Miss → Moving → TransferProgress → Moving → Type 0
  ReadComes (Ok a) m p n = AfterRead a m p n
  ReadComes (Err why) m p n = IsShort m p n

  -- it reads the balance of the key that is read next
  abbrev pub Reads : Moving → TransferProgress → Moving → Type 0
  Reads m p n = (o : Moving) × (came : Result Answer Miss)
      × Asks m (λ s. get_walk s (key_read (reads_first m.next) m.what)) came o × ReadComes came o p n

  -- ---- its commit

  -- what commits is sent where it may be, and else it is taken back
  abbrev pub CommitsNext : Bool → Moving → TransferProgress → Moving → Type 0
  CommitsNext false m p n = TurnsTo step.Abort m p n
  CommitsNext true m p n = (o : Moving) × (came : Result (Option Answer) Miss)
      × Asks m (λ s. due_walk s phase.Commit (due s phase.Commit)) came o × CommitComes came o p n

  -- the timestamp is drawn where it may be; ticks may be spent
  abbrev pub DrawsNext : Moving → Came → Moving → Type 0
  DrawsNext m came n = (n ≡ record m { session = n.session }) × DrawsOr bounds m.session came n.session

  abbrev pub Commits : Moving → TransferProgress → Moving → Type 0
  Commits m p n = ((e : Fault) × DrawsNext m (Err e) n × (p ≡ progress.Spent))
      ⊎ ((o : Moving) × DrawsNext m (Ok tt) o × CommitsNext (can_commit o.session.state) o p n)

  -- ---- its prewrites

  abbrev pub PrewritesIf : Bool → Moving → TransferProgress → Moving → Type 0
  PrewritesIf false m p n = IsOver m p n
  PrewritesIf true m p n = (o : Moving) × (came : Result (Option Answer) Miss)
      × Asks m (λ s. due_walk s phase.Prewrite (due s phase.Prewrite)) came o × PrewriteComes came o p n

  -- once all is locked, it commits
  abbrev pub Prewrites : Bool → Moving → TransferProgress → Moving → Type 0
  Prewrites true m p n = Commits (record m { next = step.Commit }) p n
  Prewrites false m p n = PrewritesIf (is_declared m.session.state) m p n

  -- ---- what takes it back

  abbrev pub CommitsIfReady : Bool → Moving → TransferProgress → Moving → Type 0
  CommitsIfReady true m p n = Commits (record m { next = step.Commit }) p n
  CommitsIfReady false m p n = IsOver m p n

  -- where it may no more be taken back, it commits, or is over
  abbrev pub Aborts : Bool → Moving → TransferProgress → Moving → Type 0
  Aborts true m p n = (o : Moving) × (came : Result (Option Answer) Miss)
      × Asks m (λ s. due_walk s phase.Abort (due s phase.Abort)) came o × AbortComes came o p n
  Aborts false m p n = CommitsIfReady (is_ready m.session.state) m p n

  -- ---- all of it

  -- the lock that its session met is resolved, or memory is refused and all stays
  abbrev pub ResolvesOr : Result (Option Status) Fault → Seated → Seated → Type 0
  ResolvesOr (Ok found) old new = (resolver : Known) × (after : Known)
      × ResolvesMet bounds old resolver old.state.met None found new after
  ResolvesOr (Err e) old new = new ≡ old

  abbrev pub Resolves : Moving → TransferProgress → Moving → Type 0
  Resolves m p n = (came : Result (Option Status) Fault) × (p ≡ resolved_by came)
      × (n ≡ record m { session = n.session }) × ResolvesOr came m.session n.session

  -- what it does next
  abbrev pub DoesNext : TransferPhase → Moving → TransferProgress → Moving → Type 0
  DoesNext step.ReadFrom m p n = Reads m p n
  DoesNext step.ReadTo m p n = Reads m p n
  DoesNext step.Prewrite m p n = Prewrites (is_ready m.session.state) m p n
  DoesNext step.Commit m p n = Commits m p n
  DoesNext step.Abort m p n = Aborts (can_abort m.session.state) m p n

  -- one request
  abbrev pub Requests : Moving → TransferProgress → Moving → Type 0
  Requests m p n = Resolves m p n ⊎ DoesNext m.next m p n

  -- requests, each of which goes on
  abbrev pub Goes : Moving → List Moving → Moving → Type 0
  Goes m [] n = n ≡ m
  Goes m (o ∷ more) n = Requests m progress.More o × Goes o more n

  -- some, and one more that may be the last
  abbrev pub Steps : Moving → TransferProgress → Moving → Type 0
  Steps m p n = (path : List Moving) × (o : Moving) × Goes m path o
      × (Requests o p n ⊎ ((p ≡ progress.More) × (n ≡ o)))

-- What each request of a transfer keeps of its session, all of them do.
use Rattle.std.proofs.Common.{◌≡◌, inl, inr, ℕ, List, [], ◌∷◌, true, false, Bool, Option, Some, None, Result, Ok, Err, refl, sym, ap, subst, ◌∙◌}
use Rattle.tx_types.specs.declared.fault.Fault.{Fault}
use Rattle.tx_types.specs.declared.key.Key.{Key}
use Rattle.tx_plan.specs.declared.answer.Answer.{Answer}
use Rattle.tx_plan.specs.declared.answer.Answer.TheVariants as answer
use Rattle.tx_transaction.specs.declared.state.Due.{Due}
use Rattle.tx_transaction.specs.declared.state.Miss.{Miss}
use Rattle.tx_transaction.specs.declared.state.Phase.{Phase}
use Rattle.tx_transaction.specs.declared.state.Phase.TheVariants as phase
use Rattle.tx_transaction.specs.Next.{due}
use Rattle.tx_transaction.specs.Sessions.{SessionState}
use Rattle.tx_client.specs.declared.resolved.Status.{Status}
use Rattle.tx_client.specs.Calls.{Seated}
use Rattle.tx_client.specs.Walks.{Walk, due_walk, get_walk}
use Rattle.tx_steps.specs.Steps.{Text}
use Rattle.tx_steps.specs.declared.transfer.Transfer.{Transfer}
use Rattle.tx_transfer.specs.declared.progress.TransferPhase.{TransferPhase}
use Rattle.tx_transfer.specs.declared.progress.TransferPhase.TheVariants as step
use Rattle.tx_transfer.specs.declared.progress.TransferProgress.{TransferProgress}
use Rattle.tx_transfer.specs.declared.progress.TransferProgress.TheVariants as progress
use Rattle.tx_transfer.specs.Sends.{SendsOver}
use Rattle.tx_transfer.specs.Steps.{Came, DrawsOr}
use Rattle.tx_transfer.specs.TransferSteps.{AbortComes, Aborts, AfterAbort, AfterCommit, AfterPrewrite, AfterRead, Asks}
use Rattle.tx_transfer.specs.TransferSteps.{CommitComes, Commits, CommitsIfReady, CommitsNext, DoesNext, DrawsNext, Finds}
use Rattle.tx_transfer.specs.TransferSteps.{Goes, GoesOnIf, IsLate, IsOver, MeetsLock, Moving, PrewriteComes, Prewrites}
use Rattle.tx_transfer.specs.TransferSteps.{PrewritesIf, PutsBoth, ReadComes, Requests, ResolvesOr, Steps, TurnsTo, Writes}
use Rattle.tx_transfer.specs.TransferSteps.{key_read, later, reads_first}

-- what holds of a session before and after each act of a transfer of this
pub record IsKept (bounds : List Key) (what : Transfer Text) (P : Seated → Seated → Type 0) : Type 0 where
  pub itself : (s : Seated) → P s s
  pub more : (r s t : Seated) → P r s → P s t → P r t
  pub got : (s t : Seated) (key : Key) (came : Result Answer Miss)
      → SendsOver bounds s.seat (get_walk s.state key) (t.state, came) t.seat → P s t
  pub sent : (s t : Seated) (x : Phase) (due : Option Due) (came : Result (Option Answer) Miss)
      → SendsOver bounds s.seat (due_walk s.state x due) (t.state, came) t.seat → P s t
  pub wrote : (s t : Seated) (left : ℕ × ℕ) (came : Came) → PutsBoth bounds what left s came t → P s t
  pub drew : (s t : Seated) (came : Came) → DrawsOr bounds s came t → P s t
  pub resolved : (s t : Seated) (came : Result (Option Status) Fault) → ResolvesOr bounds came s t → P s t

module _ (bounds : List Key) (what : Transfer Text) (P : Seated → Seated → Type 0) (kept : IsKept bounds what P) where
  -- it moves what it moved, and this holds
  abbrev Keeps : Moving → Moving → Type 0
  Keeps m n = m.what ≡ what → (n.what ≡ what) × P m.session n.session

  then : (m o n : Moving) → Keeps m o → Keeps o n → Keeps m n
  then m o n first next of =
      let a = first of in
      let b = next a.0 in
      (b.0, kept.more m.session o.session n.session a.1 b.1)

  moved : (m n k : Moving) → n ≡ k → k.what ≡ m.what → k.session ≡ m.session → Keeps m n
  moved m n k is same session of = (
    ap (λ (x : Moving). x.what) is ∙ same ∙ of,
    subst (λ (s : Seated). P m.session s) (sym (ap (λ (x : Moving). x.session) is ∙ session)) (kept.itself m.session),
  )

  stays : (m n : Moving) → n ≡ m → Keeps m n
  stays m n is = moved m n m is refl refl

  asked : {R : Type 0} (m o : Moving) (walk : SessionState → Walk (SessionState × R)) (came : R)
      → (SendsOver bounds m.session.seat (walk m.session.state) (o.session.state, came) o.session.seat
      → P m.session o.session) → Asks bounds m walk came o → Keeps m o
  asked m o walk came holds asks of = (ap (λ (x : Moving). x.what) asks.0 ∙ of, holds asks.1)

  -- ---- what comes of an answer

  turn_keeps : (next : TransferPhase) (m n : Moving) (p : TransferProgress) → TurnsTo next m p n → Keeps m n
  turn_keeps next m n p (more, is) = moved m n (record m { next = next }) is refl refl

  lock_keeps : (Else : Type 0) (m n : Moving) (p : TransferProgress) → (Else → Keeps m n) → MeetsLock Else m p n
      → Keeps m n
  lock_keeps Else m n p keeps (inl (many, else)) = keeps else
  lock_keeps Else m n p keeps (inr (inl (few, more, is))) = moved m n _ is refl refl
  lock_keeps Else m n p keeps (inr (inr (short, is))) = stays m n is

  prewrite_keeps : (m n : Moving) (p : TransferProgress) (a : Answer) → AfterPrewrite a m p n → Keeps m n
  prewrite_keeps m n p (answer.Prewritten least) (more, is) = stays m n is
  prewrite_keeps m n p (answer.AlreadyCommitted at) (more, is) = stays m n is
  prewrite_keeps m n p (answer.KeyIsLocked lock) met =
      lock_keeps (TurnsTo step.Abort m p n) m n p (turn_keeps step.Abort m n p) met
  prewrite_keeps m n p (answer.BelowSafePoint safe) (over, is) = stays m n is
  prewrite_keeps m n p _ turns = turn_keeps step.Abort m n p turns

  prewrites_keep : (m n : Moving) (p : TransferProgress) (came : Result (Option Answer) Miss)
      → PrewriteComes came m p n → Keeps m n
  prewrites_keep m n p (Ok (Some a)) after = prewrite_keeps m n p a after
  prewrites_keep m n p (Ok None) turns = turn_keeps step.Abort m n p turns
  prewrites_keep m n p (Err why) (over, is) = stays m n is

  late_keeps : (m n : Moving) (p : TransferProgress) (up : Bool) → IsLate up m p n → Keeps m n
  late_keeps m n p true turns = turn_keeps step.Abort m n p turns
  late_keeps m n p false (more, is) = stays m n is

  going_keeps : (m n : Moving) (p : TransferProgress) (on : Bool) → GoesOnIf on m p n → Keeps m n
  going_keeps m n p true (more, is) = stays m n is
  going_keeps m n p false (over, is) = stays m n is

  commit_keeps : (m n : Moving) (p : TransferProgress) (a : Answer) → AfterCommit a m p n → Keeps m n
  commit_keeps m n p (answer.Committed at) goes = going_keeps m n p _ goes
  commit_keeps m n p (answer.BelowSafePoint safe) (over, is) = stays m n is
  commit_keeps m n p _ late = late_keeps (later m) n p _ late

  commits_keep : (m n : Moving) (p : TransferProgress) (came : Result (Option Answer) Miss) → CommitComes came m p n
      → Keeps m n
  commits_keep m n p (Ok (Some a)) after = commit_keeps m n p a after
  commits_keep m n p (Ok None) (over, is) = stays m n is
  commits_keep m n p (Err why) (over, is) = stays m n is

  abort_keeps : (m n : Moving) (p : TransferProgress) (a : Answer) → AfterAbort a m p n → Keeps m n
  abort_keeps m n p (answer.BelowSafePoint safe) (over, is) = stays m n is
  abort_keeps m n p _ (more, is) = stays m n is

  aborts_keep : (m n : Moving) (p : TransferProgress) (came : Result (Option Answer) Miss) → AbortComes came m p n
      → Keeps m n
  aborts_keep m n p (Ok (Some a)) after = abort_keeps m n p a after
  aborts_keep m n p (Ok None) (over, is) = stays m n is
  aborts_keep m n p (Err why) (over, is) = stays m n is

  -- ---- its reads

  writes_keep : (m n : Moving) (p : TransferProgress) (left : Option (ℕ × ℕ)) → Writes bounds left m p n → Keeps m n
  writes_keep m n p None (over, is) = stays m n is
  writes_keep m n p (Some left) (inl (already, over)) = stays m n over.1
  writes_keep m n p (Some left) (inr (came, puts, by, is)) = λ of. (
    ap (λ (x : Moving). x.what) is ∙ of,
    kept.wrote m.session n.session left came
        (subst (λ (t : Transfer Text). PutsBoth bounds t left m.session came n.session) of puts),
  )

  finds_keep : (m n : Moving) (p : TransferProgress) (first : Bool) (balance : ℕ) → Finds bounds first balance m p n
      → Keeps m n
  finds_keep m n p true balance (more, is) = moved m n _ is refl refl
  finds_keep m n p false balance writes = writes_keep m n p _ writes

  read_keeps : (m n : Moving) (p : TransferProgress) (a : Answer) → AfterRead bounds a m p n → Keeps m n
  read_keeps m n p (answer.Found value) finds = finds_keep m n p _ _ finds
  read_keeps m n p answer.Nothing finds = finds_keep m n p _ _ finds
  read_keeps m n p (answer.KeyIsLocked lock) met =
      lock_keeps (IsOver m p n) m n p (λ over. stays m n over.1) met
  read_keeps m n p _ (over, is) = stays m n is

  comes_keep : (m n : Moving) (p : TransferProgress) (came : Result Answer Miss) → ReadComes bounds came m p n
      → Keeps m n
  comes_keep m n p (Ok a) after = read_keeps m n p a after
  comes_keep m n p (Err why) (short, is) = stays m n is

  reads_keep : (m o n : Moving) (p : TransferProgress) (came : Result Answer Miss)
      → Asks bounds m (λ s. get_walk s (key_read (reads_first m.next) m.what)) came o → ReadComes bounds came o p n
      → Keeps m n
  reads_keep m o n p came asks comes = then m o n
      (asked m o (λ s. get_walk s (key_read (reads_first m.next) m.what)) came
      (kept.got m.session o.session (key_read (reads_first m.next) m.what) came) asks) (comes_keep o n p came comes)

  -- ---- its phases

  phase_keeps : (x : Phase) (m o : Moving) (came : Result (Option Answer) Miss)
      → Asks bounds m (λ s. due_walk s x (due s x)) came o → Keeps m o
  phase_keeps x m o came asks = asked m o (λ s. due_walk s x (due s x)) came
      (kept.sent m.session o.session x (due m.session.state x) came) asks

  next_keeps : (m n : Moving) (p : TransferProgress) (may : Bool) → CommitsNext bounds may m p n → Keeps m n
  next_keeps m n p false turns = turn_keeps step.Abort m n p turns
  next_keeps m n p true (o, came, asks, comes) =
      then m o n (phase_keeps phase.Commit m o came asks) (commits_keep o n p came comes)

  draw_keeps : (m o : Moving) (came : Came) → DrawsNext bounds m came o → Keeps m o
  draw_keeps m o came (is, draws) of =
      (ap (λ (x : Moving). x.what) is ∙ of, kept.drew m.session o.session came draws)

  commits_so_keep : (m n : Moving) (p : TransferProgress) → Commits bounds m p n → Keeps m n
  commits_so_keep m n p (inl (e, draws, spent)) = draw_keeps m n (Err e) draws
  commits_so_keep m n p (inr (o, draws, next)) = then m o n (draw_keeps m o (Ok tt) draws) (next_keeps o n p _ next)

  prewrites_if_keep : (m n : Moving) (p : TransferProgress) (may : Bool) → PrewritesIf bounds may m p n → Keeps m n
  prewrites_if_keep m n p false (over, is) = stays m n is
  prewrites_if_keep m n p true (o, came, asks, comes) =
      then m o n (phase_keeps phase.Prewrite m o came asks) (prewrites_keep o n p came comes)

  prewrites_so_keep : (m n : Moving) (p : TransferProgress) (ready : Bool) → Prewrites bounds ready m p n → Keeps m n
  prewrites_so_keep m n p true commits = commits_so_keep (record m { next = step.Commit }) n p commits
  prewrites_so_keep m n p false prewrites = prewrites_if_keep m n p _ prewrites

  if_ready_keeps : (m n : Moving) (p : TransferProgress) (ready : Bool) → CommitsIfReady bounds ready m p n
      → Keeps m n
  if_ready_keeps m n p true commits = commits_so_keep (record m { next = step.Commit }) n p commits
  if_ready_keeps m n p false (over, is) = stays m n is

  aborts_so_keep : (m n : Moving) (p : TransferProgress) (may : Bool) → Aborts bounds may m p n → Keeps m n
  aborts_so_keep m n p true (o, came, asks, comes) =
      then m o n (phase_keeps phase.Abort m o came asks) (aborts_keep o n p came comes)
  aborts_so_keep m n p false commits = if_ready_keeps m n p _ commits

  -- ---- one request, and all of them

  does_keep : (m n : Moving) (p : TransferProgress) (next : TransferPhase) → DoesNext bounds next m p n → Keeps m n
  does_keep m n p step.ReadFrom (o, came, asks, comes) = reads_keep m o n p came asks comes
  does_keep m n p step.ReadTo (o, came, asks, comes) = reads_keep m o n p came asks comes
  does_keep m n p step.Prewrite prewrites = prewrites_so_keep m n p _ prewrites
  does_keep m n p step.Commit commits = commits_so_keep m n p commits
  does_keep m n p step.Abort aborts = aborts_so_keep m n p _ aborts

  request_keeps : (m n : Moving) (p : TransferProgress) → Requests bounds m p n → Keeps m n
  request_keeps m n p (inl (came, by, is, so)) =
      λ of. (ap (λ (x : Moving). x.what) is ∙ of, kept.resolved m.session n.session came so)
  request_keeps m n p (inr does) = does_keep m n p m.next does

  path_keeps : (m n : Moving) (path : List Moving) → Goes bounds m path n → Keeps m n
  path_keeps m n [] is = stays m n is
  path_keeps m n (o ∷ more) (first, rest) =
      then m o n (request_keeps m o progress.More first) (path_keeps o n more rest)

  pub steps_keep : (m n : Moving) (p : TransferProgress) → Steps bounds m p n → m.what ≡ what
      → (n.what ≡ what) × P m.session n.session
  steps_keep m n p (path, o, goes, inl one) = then m o n (path_keeps m o path goes) (request_keeps o n p one)
  steps_keep m n p (path, o, goes, inr (more, is)) = then m o n (path_keeps m o path goes) (stays o n is)

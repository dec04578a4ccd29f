-- A transfer goes from request to request.
use Rattle.std.proofs.Common.{◌≡◌, ◌≢◌, inl, inr, ℕ, List, [], ◌∷◌, ◌++◌, true, false, Bool, Option, Some, None, Result, Ok, Err, refl, sym, ap, subst, ◌∙◌}
use Rattle.std.specs.Prelude.{IfOk, OnErr}
use Rattle.tx_types.specs.declared.fault.Fault.{Fault}
use Rattle.tx_journal.specs.Known.{Known}
use Rattle.tx_client.specs.declared.resolved.Status.{Status}
use Rattle.tx_transfer.specs.Resolutions.{ResolvesMet}
use Rattle.tx_types.specs.declared.key.Key.{Key}
use Rattle.tx_types.specs.declared.lock.LockInfo.{LockInfo}
use Rattle.tx_types.specs.declared.value.Value.{Value}
use Rattle.tx_plan.specs.declared.answer.Answer.{Answer}
use Rattle.tx_plan.specs.declared.answer.Answer.TheVariants as answer
use Rattle.tx_transaction.specs.declared.state.Miss.{Miss}
use Rattle.tx_transaction.specs.Sessions.{SessionState}
use Rattle.tx_client.specs.Calls.{Seated}
use Rattle.tx_client.specs.Walks.{Walk}
use Rattle.tx_transfer.specs.declared.progress.TransferProgress.{TransferProgress}
use Rattle.tx_transfer.specs.declared.progress.TransferProgress.TheVariants as progress
use Rattle.tx_transfer.specs.declared.progress.TransferPhase.{TransferPhase}
use Rattle.tx_transfer.specs.declared.progress.TransferPhase.TheVariants as step
use Rattle.tx_transfer.specs.Sends.{SendsOver}
use Rattle.tx_transfer.specs.TransferSteps.{AbortComes, Aborts, AfterAbort, AfterCommit, AfterPrewrite, AfterRead, Asks}
use Rattle.tx_transfer.specs.TransferSteps.{ComesLate, CommitComes, Commits, CommitsIfReady, CommitsNext, DoesNext, Finds}
use Rattle.tx_transfer.specs.TransferSteps.{Goes, GoesOn, GoesOnIf, IsLate, IsOver, MeetsLock, Moving, PrewriteComes}
use Rattle.tx_transfer.specs.TransferSteps.{Prewrites, PrewritesIf, ReadComes, Requests, Resolves, ResolvesOr, Steps, TurnsTo, Writes, later, resolved_by}

-- its session sent this
pub asks_inside : {R : Type 0} (bounds : List Key) (m now : Moving) (s : Seated)
    (walk : SessionState → Walk (SessionState × R)) (came : R) → m ≡ now
    → SendsOver bounds m.session.seat (walk m.session.state) (s.state, came) s.seat
    → Asks bounds now walk came (record m { session = s })
asks_inside bounds m now s walk came is sent =
    subst (λ (n : Moving). Asks bounds n walk came (record m { session = s })) is (refl, sent)

-- ---- it stays that of its line

number_kept : (m n : Moving) → n ≡ m → n.number ≡ m.number
number_kept m n is = ap (λ (k : Moving). k.number) is

kept_lock : (Else : Type 0) (m n : Moving) (p : TransferProgress) → (Else → n.number ≡ m.number)
    → MeetsLock Else m p n → n.number ≡ m.number
kept_lock Else m n p keeps (inl (many, else)) = keeps else
kept_lock Else m n p keeps (inr (inl (few, more, is))) = ap (λ (k : Moving). k.number) is
kept_lock Else m n p keeps (inr (inr (short, is))) = number_kept m n is

kept_turn : (next : TransferPhase) (m n : Moving) (p : TransferProgress) → TurnsTo next m p n → n.number ≡ m.number
kept_turn next m n p (more, is) = ap (λ (k : Moving). k.number) is

kept_prewrite : (m n : Moving) (p : TransferProgress) (a : Answer) → AfterPrewrite a m p n → n.number ≡ m.number
kept_prewrite m n p (answer.Prewritten least) (more, is) = number_kept m n is
kept_prewrite m n p (answer.AlreadyCommitted at) (more, is) = number_kept m n is
kept_prewrite m n p (answer.KeyIsLocked lock) met =
    kept_lock (TurnsTo step.Abort m p n) m n p (kept_turn step.Abort m n p) met
kept_prewrite m n p (answer.BelowSafePoint safe) (over, is) = number_kept m n is
kept_prewrite m n p _ turns = kept_turn step.Abort m n p turns

kept_prewrites : (m n : Moving) (p : TransferProgress) (came : Result (Option Answer) Miss) → PrewriteComes came m p n
    → n.number ≡ m.number
kept_prewrites m n p (Ok (Some a)) after = kept_prewrite m n p a after
kept_prewrites m n p (Ok None) turns = kept_turn step.Abort m n p turns
kept_prewrites m n p (Err why) (over, is) = number_kept m n is

kept_late : (m n : Moving) (p : TransferProgress) (up : Bool) → IsLate up m p n → n.number ≡ m.number
kept_late m n p true turns = kept_turn step.Abort m n p turns
kept_late m n p false (more, is) = number_kept m n is

kept_going : (m n : Moving) (p : TransferProgress) (on : Bool) → GoesOnIf on m p n → n.number ≡ m.number
kept_going m n p true (more, is) = number_kept m n is
kept_going m n p false (over, is) = number_kept m n is

kept_commit : (m n : Moving) (p : TransferProgress) (a : Answer) → AfterCommit a m p n → n.number ≡ m.number
kept_commit m n p (answer.Committed at) goes = kept_going m n p _ goes
kept_commit m n p (answer.BelowSafePoint safe) (over, is) = number_kept m n is
kept_commit m n p _ late = kept_late (later m) n p _ late

kept_commits : (m n : Moving) (p : TransferProgress) (came : Result (Option Answer) Miss) → CommitComes came m p n
    → n.number ≡ m.number
kept_commits m n p (Ok (Some a)) after = kept_commit m n p a after
kept_commits m n p (Ok None) (over, is) = number_kept m n is
kept_commits m n p (Err why) (over, is) = number_kept m n is

kept_abort : (m n : Moving) (p : TransferProgress) (a : Answer) → AfterAbort a m p n → n.number ≡ m.number
kept_abort m n p (answer.BelowSafePoint safe) (over, is) = number_kept m n is
kept_abort m n p _ (more, is) = number_kept m n is

kept_aborts : (m n : Moving) (p : TransferProgress) (came : Result (Option Answer) Miss) → AbortComes came m p n
    → n.number ≡ m.number
kept_aborts m n p (Ok (Some a)) after = kept_abort m n p a after
kept_aborts m n p (Ok None) (over, is) = number_kept m n is
kept_aborts m n p (Err why) (over, is) = number_kept m n is

module _ (bounds : List Key) where
  kept_writes : (m n : Moving) (p : TransferProgress) (left : Option (ℕ × ℕ)) → Writes bounds left m p n
      → n.number ≡ m.number
  kept_writes m n p None (over, is) = number_kept m n is
  kept_writes m n p (Some left) (inl (already, over)) = number_kept m n over.1
  kept_writes m n p (Some left) (inr (came, puts, by, is)) = ap (λ (k : Moving). k.number) is

  kept_finds : (m n : Moving) (p : TransferProgress) (first : Bool) (balance : ℕ) → Finds bounds first balance m p n
      → n.number ≡ m.number
  kept_finds m n p true balance (more, is) = ap (λ (k : Moving). k.number) is
  kept_finds m n p false balance writes = kept_writes m n p _ writes

  kept_read : (m n : Moving) (p : TransferProgress) (a : Answer) → AfterRead bounds a m p n → n.number ≡ m.number
  kept_read m n p (answer.Found value) finds = kept_finds m n p _ _ finds
  kept_read m n p answer.Nothing finds = kept_finds m n p _ _ finds
  kept_read m n p (answer.KeyIsLocked lock) met =
      kept_lock (IsOver m p n) m n p (λ over. number_kept m n over.1) met
  kept_read m n p _ (over, is) = number_kept m n is

  kept_comes : (m n : Moving) (p : TransferProgress) (came : Result Answer Miss) → ReadComes bounds came m p n
      → n.number ≡ m.number
  kept_comes m n p (Ok a) after = kept_read m n p a after
  kept_comes m n p (Err why) (short, is) = number_kept m n is

  kept_next : (m n : Moving) (p : TransferProgress) (may : Bool) → CommitsNext bounds may m p n → n.number ≡ m.number
  kept_next m n p false turns = kept_turn step.Abort m n p turns
  kept_next m n p true (o, came, asks, comes) = kept_commits o n p came comes ∙ ap (λ (k : Moving). k.number) asks.0

  kept_commits_so : (m n : Moving) (p : TransferProgress) → Commits bounds m p n → n.number ≡ m.number
  kept_commits_so m n p (inl (e, draws, spent)) = ap (λ (k : Moving). k.number) draws.0
  kept_commits_so m n p (inr (o, draws, next)) = kept_next o n p _ next ∙ ap (λ (k : Moving). k.number) draws.0

  kept_prewrites_if : (m n : Moving) (p : TransferProgress) (may : Bool) → PrewritesIf bounds may m p n
      → n.number ≡ m.number
  kept_prewrites_if m n p false (over, is) = number_kept m n is
  kept_prewrites_if m n p true (o, came, asks, comes) =
      kept_prewrites o n p came comes ∙ ap (λ (k : Moving). k.number) asks.0

  kept_prewrites_so : (m n : Moving) (p : TransferProgress) (ready : Bool) → Prewrites bounds ready m p n
      → n.number ≡ m.number
  kept_prewrites_so m n p true commits = kept_commits_so _ n p commits
  kept_prewrites_so m n p false prewrites = kept_prewrites_if m n p _ prewrites

  kept_if_ready : (m n : Moving) (p : TransferProgress) (ready : Bool) → CommitsIfReady bounds ready m p n
      → n.number ≡ m.number
  kept_if_ready m n p true commits = kept_commits_so _ n p commits
  kept_if_ready m n p false (over, is) = number_kept m n is

  kept_aborts_so : (m n : Moving) (p : TransferProgress) (may : Bool) → Aborts bounds may m p n → n.number ≡ m.number
  kept_aborts_so m n p true (o, came, asks, comes) =
      kept_aborts o n p came comes ∙ ap (λ (k : Moving). k.number) asks.0
  kept_aborts_so m n p false commits = kept_if_ready m n p _ commits

  kept_does : (m n : Moving) (p : TransferProgress) (next : TransferPhase) → DoesNext bounds next m p n
      → n.number ≡ m.number
  kept_does m n p step.ReadFrom (o, came, asks, comes) =
      kept_comes o n p came comes ∙ ap (λ (k : Moving). k.number) asks.0
  kept_does m n p step.ReadTo (o, came, asks, comes) =
      kept_comes o n p came comes ∙ ap (λ (k : Moving). k.number) asks.0
  kept_does m n p step.Prewrite prewrites = kept_prewrites_so m n p _ prewrites
  kept_does m n p step.Commit commits = kept_commits_so m n p commits
  kept_does m n p step.Abort aborts = kept_aborts_so m n p _ aborts

  kept_request : (m n : Moving) (p : TransferProgress) → Requests bounds m p n → n.number ≡ m.number
  kept_request m n p (inl (came, by, is, so)) = ap (λ (k : Moving). k.number) is
  kept_request m n p (inr does) = kept_does m n p m.next does

  kept_path : (m n : Moving) (path : List Moving) → Goes bounds m path n → n.number ≡ m.number
  kept_path m n [] is = number_kept m n is
  kept_path m n (o ∷ more) (first, rest) = kept_path o n more rest ∙ kept_request m o progress.More first

  pub steps_number : (m n : Moving) (p : TransferProgress) → Steps bounds m p n → n.number ≡ m.number
  steps_number m n p (path, o, goes, inl one) = kept_request o n p one ∙ kept_path m o path goes
  steps_number m n p (path, o, goes, inr (more, is)) = number_kept o n is ∙ kept_path m o path goes

module _ (bounds : List Key) where
  goes_on : (m o n : Moving) (path more : List Moving) → Goes bounds m path o → Goes bounds o more n
      → Goes bounds m (path ++ more) n
  goes_on m o n [] more is then = subst (λ (x : Moving). Goes bounds x more n) is then
  goes_on m o n (x ∷ path) more (first, rest) then = (first, goes_on x o n path more rest then)

  -- steps that go on, and then more
  pub steps_more : (m o n : Moving) (p : TransferProgress) → Steps bounds m progress.More o → Steps bounds o p n
      → Steps bounds m p n
  steps_more m o n p (path, last, goes, inl one) (more, then, on, ends) =
      (path ++ o ∷ more, then, goes_on m last then path (o ∷ more) goes (one, on), ends)
  steps_more m o n p (path, last, goes, inr (is, same)) (more, then, on, ends) = (
    path ++ more,
    then,
    goes_on m last then path more goes (subst (λ (x : Moving). Goes bounds x more then) same on),
    ends,
  )

  pub steps_none : (m : Moving) → Steps bounds m progress.More m
  steps_none m = ([], m, refl, inr (refl, refl))

  pub steps_one : (m n : Moving) (p : TransferProgress) → Requests bounds m p n → Steps bounds m p n
  steps_one m n p one = ([], m, refl, inl one)

  -- ---- answers of no kind that is named

  pub read_otherwise : (m : Moving) (a : Answer) → ((v : Value) → a ≡ answer.Found v → ⊥) → (a ≡ answer.Nothing → ⊥)
      → ((lock : LockInfo) → a ≡ answer.KeyIsLocked lock → ⊥) → AfterRead bounds a m progress.Over m
  read_otherwise m (answer.Found v) found nothing locked = absurd (found v refl)
  read_otherwise m answer.Nothing found nothing locked = absurd (nothing refl)
  read_otherwise m (answer.KeyIsLocked lock) found nothing locked = absurd (locked lock refl)
  read_otherwise m _ found nothing locked = (refl, refl)

pub prewrite_otherwise : (m n : Moving) (p : TransferProgress) (a : Answer)
    → ((least : ℕ) → a ≡ answer.Prewritten least → ⊥) → ((at : ℕ) → a ≡ answer.AlreadyCommitted at → ⊥)
    → ((lock : LockInfo) → a ≡ answer.KeyIsLocked lock → ⊥) → ((safe : ℕ) → a ≡ answer.BelowSafePoint safe → ⊥)
    → TurnsTo step.Abort m p n → AfterPrewrite a m p n
prewrite_otherwise m n p (answer.Prewritten least) written already locked below turns = absurd (written least refl)
prewrite_otherwise m n p (answer.AlreadyCommitted at) written already locked below turns = absurd (already at refl)
prewrite_otherwise m n p (answer.KeyIsLocked lock) written already locked below turns = absurd (locked lock refl)
prewrite_otherwise m n p (answer.BelowSafePoint safe) written already locked below turns = absurd (below safe refl)
prewrite_otherwise m n p _ written already locked below turns = turns

pub commit_otherwise : (m n : Moving) (p : TransferProgress) (a : Answer)
    → ((at : ℕ) → a ≡ answer.Committed at → ⊥) → ((safe : ℕ) → a ≡ answer.BelowSafePoint safe → ⊥)
    → ComesLate m p n → AfterCommit a m p n
commit_otherwise m n p (answer.Committed at) committed below late = absurd (committed at refl)
commit_otherwise m n p (answer.BelowSafePoint safe) committed below late = absurd (below safe refl)
commit_otherwise m n p _ committed below late = late

pub abort_otherwise : (m n : Moving) (p : TransferProgress) (a : Answer)
    → ((safe : ℕ) → a ≡ answer.BelowSafePoint safe → ⊥) → GoesOn m p n → AfterAbort a m p n
abort_otherwise m n p (answer.BelowSafePoint safe) below goes = absurd (below safe refl)
abort_otherwise m n p _ below goes = goes

-- it resolved a lock, or memory was refused
pub resolves_or : (bounds : List Key) (came : Result (Option Status) Fault) (old new : Seated) (resolver after : Known)
    → IfOk came (λ found. ResolvesMet bounds old resolver old.state.met None found new after) → OnErr came (new ≡ old)
    → ResolvesOr bounds came old new
resolves_or bounds (Ok found) old new resolver after ok same = (resolver, after, ok)
resolves_or bounds (Err e) old new resolver after ok same = same

pub resolves_inside : (bounds : List Key) (m now : Moving) (s : Seated) (p : TransferProgress)
    (came : Result (Option Status) Fault) → m ≡ now → p ≡ resolved_by came → ResolvesOr bounds came m.session s
    → Resolves bounds now p (record m { session = s })
resolves_inside bounds m now s p came is by so =
    subst (λ (n : Moving). Resolves bounds n p (record m { session = s })) is (came, by, refl, so)

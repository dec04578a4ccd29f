-- The premise of the theorem, each time but for one condition: what is left of `IsLegal` for the
-- events that the condition is on.
use Rattle.std.specs.Prelude.{◌≡◌, ◌≢◌, ℕ, ◌<◌, ◌≤◌, true, false, List, [], Some, None, Contains}
use Rattle.tx_types.specs.declared.key.Key.{Key}
use Rattle.tx_types.specs.declared.lock.LockInfo.{LockInfo}
use Rattle.tx_types.specs.declared.mutation.Mutation.{Mutation}
use Rattle.tx_types.specs.declared.mutation.Mode.{Mode}
use Rattle.tx_types.specs.declared.mutation.Fate.TheVariants.{Committed}
use Rattle.tx_plan.specs.declared.body.Body.{Body}
use Rattle.tx_plan.specs.declared.body.Body.TheVariants as body
use Rattle.tx_plan.specs.Answers.{Answers}
use Rattle.tx_machine.specs.Keys.{mutation_at, IsDistinct}
use Rattle.tx_machine.specs.Machine.{Done}
use Rattle.tx_core.specs.declared.event.Declaration.{Declaration}
use Rattle.tx_core.specs.declared.event.Outcome.TheVariants as outcome
use Rattle.tx_core.specs.declared.event.Taken.{Taken}
use Rattle.tx_core.specs.declared.event.Event.{Event}
use Rattle.tx_core.specs.declared.event.Event.TheVariants.{Drawn, Began, Declared, Answered, Took}
use Rattle.tx_core.specs.Histories.{History, last, drawer, began, declared, set_at, is_first, left}
use Rattle.tx_core.specs.Decisions.{decided, Acceptance, accepted, AllAccepted, HasTwoPhaseLock}
use Rattle.tx_core.specs.Allowed.{AllowsBatchRollback, AllowsCheckTxnStatus}
use Rattle.tx_core.specs.Worlds.{Holds, MayAnswer}
use Rattle.tx_core.specs.Laws.{WasToldOf}
use Rattle.tx_core.specs.Legal.{IsLegalPrewrite, IsLegalDecision, IsLegalRequest}

-- ---- reads

-- a read passes by committed transactions, at whatever timestamp
abbrev pub PassesCommitted : History → Body → Type 0
PassesCommitted h (body.Get q) = (t : ℕ) → Contains q.bypass t → (c : ℕ) × (decided h t ≡ Done (Committed c))
PassesCommitted h q = ⊥

-- it passes by transactions a lock of which was told of, with whatever minimum
abbrev pub PassesShown : History → Body → Type 0
PassesShown h (body.Get q) = (t : ℕ) → Contains q.bypass t
    → (info : LockInfo) × WasToldOf h info × (info.start ≡ t)
PassesShown h q = ⊥

-- it passes by transactions by a lock that no answer told of
abbrev pub PassesUntold : History → Body → Type 0
PassesUntold h (body.Get q) = (t : ℕ) → Contains q.bypass t
    → (info : LockInfo) × (info.start ≡ t) × (q.at < info.min)
PassesUntold h q = ⊥

-- it passes by a transaction, since a lock was told of with a minimum above it, whosoever it is
abbrev pub PassesByOthers : History → Body → Type 0
PassesByOthers h (body.Get q) = (t : ℕ) → Contains q.bypass t → (info : LockInfo) × WasToldOf h info
    × (q.at < info.min)
PassesByOthers h q = ⊥

-- ---- prewrites

-- a prewrite of a transaction that declared nothing
abbrev pub PrewritesUndeclared : History → Body → Type 0
PrewritesUndeclared h (body.Prewrite q) = declared h q.start ≡ None
PrewritesUndeclared h q = ⊥

-- it is of a key that was not declared
abbrev pub PrewritesOutside : History → Body → Type 0
PrewritesOutside h (body.Prewrite q) = (k : Key) × IsLegalPrewrite h record q { key = k }
PrewritesOutside h q = ⊥

-- it does another thing to its key than was declared
abbrev pub PrewritesOther : History → Body → Type 0
PrewritesOther h (body.Prewrite q) = (m : Mutation) × IsLegalPrewrite h record q { mutation = m }
PrewritesOther h q = ⊥

-- it has another mode
abbrev pub PrewritesOtherwise : History → Body → Type 0
PrewritesOtherwise h (body.Prewrite q) = (m : Mode) × IsLegalPrewrite h record q { mode = m }
PrewritesOtherwise h q = ⊥

-- ---- commits

-- each key of the transaction was accepted before c was drawn
abbrev pub IsAfterAll : History → ℕ → ℕ → Type 0
IsAfterAll h t c = (k : Key) (by : Acceptance) → mutation_at (set_at h t) k ≢ None → accepted h t k ≡ Some by
    → by.at < c

-- the commit that decides is of another key than the primary
abbrev pub CommitsAnyKey : History → Body → Type 0
CommitsAnyKey h (body.Commit q) = (k : Key) × IsLegalDecision h record q { key = k }
CommitsAnyKey h q = ⊥

-- it comes before every key is accepted
abbrev pub CommitsEarly : History → Body → Type 0
CommitsEarly h (body.Commit q) = (is_first (set_at h q.start) q.key ≡ true) × HasTwoPhaseLock h q.start
    × (drawer h q.commit ≢ None) × IsAfterAll h q.start q.commit
CommitsEarly h q = ⊥

-- no key is two-phase
abbrev pub CommitsAsync : History → Body → Type 0
CommitsAsync h (body.Commit q) = (is_first (set_at h q.start) q.key ≡ true) × AllAccepted h q.start
    × (drawer h q.commit ≢ None) × IsAfterAll h q.start q.commit
CommitsAsync h q = ⊥

-- its timestamp was drawn before a key was accepted
abbrev pub CommitsBefore : History → Body → Type 0
CommitsBefore h (body.Commit q) = (is_first (set_at h q.start) q.key ≡ true) × AllAccepted h q.start
    × HasTwoPhaseLock h q.start × (drawer h q.commit ≢ None)
CommitsBefore h q = ⊥

-- nobody drew its timestamp
abbrev pub CommitsUndrawn : History → Body → Type 0
CommitsUndrawn h (body.Commit q) = (is_first (set_at h q.start) q.key ≡ true) × AllAccepted h q.start
    × HasTwoPhaseLock h q.start × IsAfterAll h q.start q.commit
CommitsUndrawn h q = ⊥

-- a commit of a committed transaction is at another timestamp
abbrev pub SettlesAnywhere : History → Body → Type 0
SettlesAnywhere h (body.Commit q) = (c : ℕ) × (decided h q.start ≡ Done (Committed c))
SettlesAnywhere h q = ⊥

-- ---- rollbacks and checks

-- a rollback of a transaction that declared nothing
abbrev pub RollsBackUndeclared : History → Body → Type 0
RollsBackUndeclared h (body.BatchRollback q) = declared h q.start ≡ None
RollsBackUndeclared h q = ⊥

-- of another key than the primary
abbrev pub RollsBackAnyKey : History → Body → Type 0
RollsBackAnyKey h (body.BatchRollback q) = (k : Key) × AllowsBatchRollback h record q { key = k }
RollsBackAnyKey h q = ⊥

-- of the primary of an async transaction
abbrev pub RollsBackAsync : History → Body → Type 0
RollsBackAsync h (body.BatchRollback q) = (of : Declaration) × (declared h q.start ≡ Some of)
    × (is_first of.changes q.key ≡ true)
RollsBackAsync h q = ⊥

-- a status is asked of another key than the primary
abbrev pub ChecksAnyKey : History → Body → Type 0
ChecksAnyKey h (body.CheckTxnStatus q) = (k : Key) × AllowsCheckTxnStatus h record q { key = k }
ChecksAnyKey h q = ⊥

-- it is forced, though no key is two-phase
abbrev pub ChecksForced : History → Body → Type 0
ChecksForced h (body.CheckTxnStatus q) = is_first (set_at h q.start) q.key ≡ true
ChecksForced h q = ⊥

-- secondary locks are checked of a transaction that declared nothing
abbrev pub ChecksUndeclared : History → Body → Type 0
ChecksUndeclared h (body.CheckSecondaryLocks q) = declared h q.start ≡ None
ChecksUndeclared h q = ⊥

-- on a key that is none of the transaction's
abbrev pub ChecksOutside : History → Body → Type 0
ChecksOutside h (body.CheckSecondaryLocks q) = (k : Key) × (mutation_at (set_at h q.start) k ≢ None)
ChecksOutside h q = ⊥

-- a lock is resolved by a fate, whatever is decided of its transaction
abbrev pub ResolvesBlindly : History → Body → Type 0
ResolvesBlindly h (body.ResolveLock q) = Unit {0}
ResolvesBlindly h q = ⊥

-- ---- where requests go, and what was loaded

-- another region takes a request than the one that has its key
pub record IsMisrouted (bounds : List Key) (h : History) (x : Taken) : Type 0 where
  pub legal : IsLegalRequest h x.body
  pub loaded : x.loaded ≤ last h
  pub answers : Answers (left h x.region) x.loaded (last h) x.body x.answer

abbrev pub Misroutes : List Key → History → Event → Type 0
Misroutes bounds h (Took x) = IsMisrouted bounds h x
Misroutes bounds h e = ⊥

-- a number was loaded that is above the last one
pub record IsAhead (bounds : List Key) (h : History) (x : Taken) : Type 0 where
  pub legal : IsLegalRequest h x.body
  pub holds : Holds bounds x.region x.body
  pub answers : Answers (left h x.region) x.loaded (last h) x.body x.answer

abbrev pub LoadsAhead : List Key → History → Event → Type 0
LoadsAhead bounds h (Took x) = IsAhead bounds h x
LoadsAhead bounds h e = ⊥

-- ---- sessions

-- a number is drawn that is not above the last one
abbrev pub DrawsAny : List Key → History → Event → Type 0
DrawsAny bounds h (Drawn seat n) = Unit {0}
DrawsAny bounds h e = ⊥

-- a transaction begins at a number that was not drawn
abbrev pub BeginsUndrawn : List Key → History → Event → Type 0
BeginsUndrawn bounds h (Began t) = began h t ≡ false
BeginsUndrawn bounds h e = ⊥

-- it begins again
abbrev pub BeginsAgain : List Key → History → Event → Type 0
BeginsAgain bounds h (Began t) = drawer h t ≢ None
BeginsAgain bounds h e = ⊥

-- it declares before it began
abbrev pub DeclaresUnbegun : List Key → History → Event → Type 0
DeclaresUnbegun bounds h (Declared d) = (declared h d.start ≡ None) × (d.changes ≢ []) × IsDistinct d.changes
DeclaresUnbegun bounds h e = ⊥

-- it declares again
abbrev pub DeclaresAgain : List Key → History → Event → Type 0
DeclaresAgain bounds h (Declared d) = (began h d.start ≡ true) × (d.changes ≢ []) × IsDistinct d.changes
DeclaresAgain bounds h e = ⊥

-- it declares no key
abbrev pub DeclaresNothing : List Key → History → Event → Type 0
DeclaresNothing bounds h (Declared d) = (began h d.start ≡ true) × (declared h d.start ≡ None)
    × IsDistinct d.changes
DeclaresNothing bounds h e = ⊥

-- it declares a key twice
abbrev pub DeclaresTwice : List Key → History → Event → Type 0
DeclaresTwice bounds h (Declared d) = (began h d.start ≡ true) × (declared h d.start ≡ None) × (d.changes ≢ [])
DeclaresTwice bounds h e = ⊥

-- its session answers before it began
abbrev pub AnswersUnbegun : List Key → History → Event → Type 0
AnswersUnbegun bounds h (Answered t o) = MayAnswer h t o
AnswersUnbegun bounds h e = ⊥

-- its session answers that it is committed, aborted or read-only, and does not know
abbrev pub AnswersCommitted : List Key → History → Event → Type 0
AnswersCommitted bounds h (Answered t (outcome.Committed c)) = began h t ≡ true
AnswersCommitted bounds h e = ⊥

abbrev pub AnswersAborted : List Key → History → Event → Type 0
AnswersAborted bounds h (Answered t outcome.Aborted) = began h t ≡ true
AnswersAborted bounds h e = ⊥

abbrev pub AnswersReadOnly : List Key → History → Event → Type 0
AnswersReadOnly bounds h (Answered t outcome.ReadOnly) = began h t ≡ true
AnswersReadOnly bounds h e = ⊥

-- What a history says, as one value, and what holds of it at every moment of every world run.
use Rattle.std.proofs.Common.{◌≡◌, ◌≢◌, ℕ, ◌+◌, ◌<◌, ◌≤◌, ◌⊎◌, inl, inr, Bool, true, false, List, [], ◌∷◌, Option, Some, None, refl, sym, ap, subst, ◌∙◌, arith}
use Rattle.tx_types.specs.declared.key.Key.{Key}
use Rattle.tx_types.specs.declared.value.Value.{Value}
use Rattle.tx_types.specs.declared.mutation.Change.{Change}
use Rattle.tx_types.specs.declared.mutation.Mutation.{Mutation}
use Rattle.tx_types.specs.declared.mutation.Mutation.TheVariants.{Put, Insert}
use Rattle.tx_types.specs.declared.mutation.Mode.TheVariants.{TwoPhase, Async}
use Rattle.tx_types.specs.declared.mutation.Fate.TheVariants.{Committed, Aborted}
use Rattle.tx_types.specs.Keys.{IsVisible}
use Rattle.tx_types.specs.Kinds.{as_locked}
use Rattle.std.specs.Prelude.{option_map}
use Rattle.tx_machine.specs.Keys.{mutation_at}
use Rattle.tx_machine.specs.Machine.{State, Open, Done, Reading, IsRead}
use Rattle.tx_plan.specs.Cells.{Lock, CommitRecord, CommitOf, Writes, Cells}
use Rattle.tx_plan.specs.Own.{OwnLock, OwnCommit, OwnRollback}
use Rattle.std.proofs.lemmas.Bool.{cases_Bool}
use Rattle.tx_core.specs.declared.event.Declaration.{Declaration}
use Rattle.tx_core.specs.Histories.{set_of, is_first}
use Rattle.tx_core.specs.Decisions.{Acceptance}
use Rattle.tx_core.proofs.Basics.{some_same, some_of, is_some, none_is, key_true}

-- The last number drawn, who drew a number, which transactions began, declared and are decided, the
-- acceptances, the reads that were answered, the greatest minimum that a transaction's lock on its
-- primary has had, and what stands on each key: the greatest timestamp read, the safe point and the
-- last collection of its region, and its cells.
pub record View : Type 0 where
  pub last : ℕ
  pub drawer : ℕ → Option ℕ
  pub began : ℕ → Bool
  pub declared : ℕ → Option Declaration
  pub decided : ℕ → State
  pub accepted : ℕ → Key → Option Acceptance
  pub reads : List Reading
  pub shown : ℕ → ℕ
  pub floor : Key → ℕ
  pub safe : Key → ℕ
  pub collected : Key → ℕ
  pub cells : Key → Cells

-- ---- the words of the facts

-- what a write set does to a key, as locks and commit records have it: an insert puts
abbrev pub does_at : List Change → Key → Option Mutation
does_at set k = option_map as_locked (mutation_at set k)

-- the transaction is declared to do m to k, as locks and records have it
abbrev pub Does : (ℕ → Option Declaration) → ℕ → Key → Mutation → Type 0
Does declared t k m = does_at (set_of (declared t)) k ≡ Some m

-- it is declared to insert v there
abbrev pub Inserts : (ℕ → Option Declaration) → ℕ → Key → Value → Type 0
Inserts declared t k v = mutation_at (set_of (declared t)) k ≡ Some (Insert v)

-- k is its primary
abbrev pub IsPrimary : (ℕ → Option Declaration) → ℕ → Key → Type 0
IsPrimary declared t k = is_first (set_of (declared t)) k ≡ true

abbrev pub IsCommitted : (ℕ → State) → ℕ → ℕ → Type 0
IsCommitted decided t c = decided t ≡ Done (Committed c)

abbrev pub IsAborted : (ℕ → State) → ℕ → Type 0
IsAborted decided t = decided t ≡ Done Aborted

-- each key of t is accepted
abbrev pub Accepts : (ℕ → Option Declaration) → (ℕ → Key → Option Acceptance) → ℕ → Type 0
Accepts declared accepted t = (k : Key) → mutation_at (set_of (declared t)) k ≢ None → accepted t k ≢ None

-- some key of t is accepted two-phase
pub record FellBack (accepted : ℕ → Key → Option Acceptance) (t : ℕ) : Type 0 where
  pub key : Key
  pub by : Acceptance
  pub stands : accepted t key ≡ Some by
  pub two_phase : by.lock.mode ≡ TwoPhase

-- what a commit of an accepted transaction reaches at least: the minimum of an async acceptance,
-- else a number above the last one then
abbrev pub bound : Acceptance → ℕ
bound by = elim by.lock.mode [ TwoPhase ↦ by.at + 1 | Async ↦ by.lock.min ]

-- a commit record of u stands at d
pub record Written (cells : Cells) (u d : ℕ) : Type 0 where
  pub rec : CommitRecord
  pub stands : cells.write d ≡ Some (CommitOf rec)
  pub own : rec.start ≡ u

-- a lock of t stands
pub record Held (cells : Cells) (t : ℕ) : Type 0 where
  pub lock : Lock
  pub stands : cells.lock ≡ Some lock
  pub own : lock.start ≡ t

-- a later commit that is seen, at most at the safe point
pub record Later (decided : ℕ → State) (declared : ℕ → Option Declaration) (k : Key) (d safe : ℕ) : Type 0 where
  pub start : ℕ
  pub at : ℕ
  pub mutation : Mutation
  pub committed : IsCommitted decided start at
  pub does : Does declared start k mutation
  pub visible : IsVisible mutation
  pub above : d < at
  pub upto : at ≤ safe

-- a commit whose record was collected: it was no put, or a later one is seen at the safe point
pub record Gone (decided : ℕ → State) (declared : ℕ → Option Declaration) (k : Key) (d safe : ℕ) (m : Mutation) :
    Type 0 where
  pub below : d < safe
  pub way : ((v : Value) → m ≡ Put v → ⊥) ⊎ Later decided declared k d safe

-- ---- the invariants, in groups: a change of what one does not speak of hands it on whole

-- A number that was drawn is at most the last one. Who began was drawn, who declared began, who is
-- decided declared.
pub record Clock (last : ℕ) (drawer : ℕ → Option ℕ) (began : ℕ → Bool) (declared : ℕ → Option Declaration) (decided : ℕ
    → State) : Type 0 where
  pub drawn : (t : ℕ) → drawer t ≢ None → t ≤ last
  pub begun : (t : ℕ) → began t ≡ true → drawer t ≢ None
  pub declares : (t : ℕ) → declared t ≢ None → began t ≡ true
  pub decides : (t : ℕ) → decided t ≢ Open → declared t ≢ None

-- A read is at most at the last number, and at most at the greatest timestamp that its region knows
-- of. A region collects at most up to its safe point.
pub record Marks (last : ℕ) (reads : List Reading) (floor safe collected : Key → ℕ) : Type 0 where
  pub upto : (k : Key) (r : ℕ) → IsRead reads k r → r ≤ last
  pub known : (k : Key) (r : ℕ) → IsRead reads k r → r ≤ floor k
  pub low : (k : Key) → collected k ≤ safe k

-- An accepted lock does what was declared. Its minimum lies above the start, and its bound is at
-- least that and at most one above the last number then. Where its transaction was declared
-- two-phase, it is so too.
pub record IsAccepted (last : ℕ) (declared : ℕ → Option Declaration) (t : ℕ) (k : Key) (by : Acceptance) : Type 0 where
  pub does : Does declared t k by.lock.mutation
  pub above : t < by.lock.min
  pub bounded : by.lock.min ≤ bound by
  pub upto : bound by ≤ by.at + 1
  pub at : by.at ≤ last
  pub mode : (d : Declaration) → declared t ≡ Some d → d.mode ≡ TwoPhase → by.lock.mode ≡ TwoPhase

-- A lock that stands was accepted, and does what was declared. It has the mode of its acceptance,
-- and the minimum too, but on the primary, where it has the greatest that was shown.
pub record IsLock (declared : ℕ → Option Declaration) (accepted : ℕ → Key → Option Acceptance) (shown : ℕ
    → ℕ) (k : Key) (lock : Lock) : Type 0 where
  pub accepts : accepted lock.start k ≢ None
  pub does : Does declared lock.start k lock.mutation
  pub mode : (by : Acceptance) → accepted lock.start k ≡ Some by → lock.mode ≡ by.lock.mode
  pub min : is_first (set_of (declared lock.start)) k ≡ false → (by : Acceptance) → accepted lock.start k ≡ Some by
      → lock.min ≡ by.lock.min
  pub shows : IsPrimary declared lock.start k → lock.min ≡ shown lock.start

-- each put that is committed at most at r is followed by a later change at most at r: a read there
-- would see no value
abbrev pub HasNoValue : (ℕ → Option Declaration) → (ℕ → State) → Key → ℕ → Type 0
HasNoValue declared decided k r = (u d : ℕ) (v : Value) → IsCommitted decided u d → Does declared u k (Put v) → d ≤ r
    → Later decided declared k d r

-- Another's commit on the key lies at or below the start of the lock, no commit record of its own
-- transaction stands beside it, and its region collects at most up to its start. Of what it inserts
-- there is no value at its start.
pub record IsAlone (declared : ℕ → Option Declaration) (decided : ℕ
    → State) (k : Key) (collected : ℕ) (write : Writes) (lock : Lock) : Type 0 where
  pub above : (u d : ℕ) (m : Mutation) → IsCommitted decided u d → Does declared u k m → u ≢ lock.start → d ≤ lock.start
  pub unwritten : (c : ℕ) (rec : CommitRecord) → write c ≡ Some (CommitOf rec) → rec.start ≢ lock.start
  pub fresh : collected ≤ lock.start
  pub unseen : (v : Value) → Inserts declared lock.start k v → HasNoValue declared decided k lock.start

-- A commit record's transaction is committed there, and does what it says. Where its rollback
-- stands, a transaction is aborted. Where a put or delete below the collection stands, no later one
-- up to the collection is committed.
pub record Records (declared : ℕ → Option Declaration) (decided : ℕ
    → State) (k : Key) (collected : ℕ) (write : Writes) : Type 0 where
  pub committed : (c : ℕ) (rec : CommitRecord) → write c ≡ Some (CommitOf rec) → IsCommitted decided rec.start c
  pub does : (c : ℕ) (rec : CommitRecord) → write c ≡ Some (CommitOf rec) → Does declared rec.start k rec.mutation
  pub rolled : (t : ℕ) → OwnRollback write t → IsAborted decided t
  pub newest : (q : ℕ) (rec : CommitRecord) → write q ≡ Some (CommitOf rec) → IsVisible rec.mutation → q < collected
      → (u d : ℕ) (m : Mutation) → IsCommitted decided u d → Does declared u k m → IsVisible m → q < d → d ≤ collected
      → ⊥

-- What is committed stands as a record or is locked still, or it was collected. What was
-- accepted of an open transaction is locked; of an aborted one it is locked, or rolled back, or
-- below the collection.
pub record Kept (declared : ℕ → Option Declaration) (decided : ℕ → State) (accepted : ℕ → Key
    → Option Acceptance) (k : Key) (collected : ℕ) (cells : Cells) : Type 0 where
  pub complete : (u d : ℕ) (m : Mutation) → IsCommitted decided u d → Does declared u k m
      → Written cells u d ⊎ Held cells u ⊎ Gone decided declared k d collected m
  pub held : (t : ℕ) → accepted t k ≢ None → decided t ≡ Open → Held cells t
  pub cleared : (t : ℕ) → accepted t k ≢ None → IsAborted decided t
      → Held cells t ⊎ OwnRollback cells.write t ⊎ (t < collected)

-- what stands on a key
pub record OnCells (declared : ℕ → Option Declaration) (decided : ℕ → State) (accepted : ℕ → Key
    → Option Acceptance) (shown : ℕ → ℕ) (k : Key) (collected : ℕ) (cells : Cells) : Type 0 where
  pub lock : (lock : Lock) → cells.lock ≡ Some lock → IsLock declared accepted shown k lock
  pub alone : (lock : Lock) → cells.lock ≡ Some lock → IsAlone declared decided k collected cells.write lock
  pub records : Records declared decided k collected cells.write
  pub kept : Kept declared decided accepted k collected cells

-- A commit lies above its start and at most one above the last number. Each key of its transaction
-- was accepted, and it lies at or above each bound, and each minimum that was shown.
pub record IsCommit (last : ℕ) (declared : ℕ → Option Declaration) (accepted : ℕ → Key → Option Acceptance) (shown : ℕ
    → ℕ) (t c : ℕ) : Type 0 where
  pub range : (t < c) × (c ≤ last + 1)
  pub accepts : Accepts declared accepted t
  pub bounds : (k : Key) (by : Acceptance) → accepted t k ≡ Some by → bound by ≤ c
  pub shows : shown t ≤ c

-- Nothing is shown before the primary is accepted; then its minimum is, and no other as long as
-- each acceptance is async.
pub record ShownOf (declared : ℕ → Option Declaration) (accepted : ℕ → Key → Option Acceptance) (shown : ℕ → ℕ) :
    Type 0 where
  pub undeclared : (t : ℕ) → declared t ≡ None → shown t ≡ 0
  pub none : (t : ℕ) (k : Key) → IsPrimary declared t k → accepted t k ≡ None → shown t ≡ 0
  pub first : (t : ℕ) (k : Key) (by : Acceptance) → IsPrimary declared t k → accepted t k ≡ Some by
      → (FellBack accepted t → ⊥) → shown t ≡ by.lock.min

-- a number lies below what a transaction may commit at: below the bound of one of its keys, or
-- below a minimum that was shown
abbrev pub LiesBelow : (ℕ → Key → Option Acceptance) → (ℕ → ℕ) → ℕ → ℕ → Type 0
LiesBelow accepted shown t r = ((k : Key) × (by : Acceptance) × (accepted t k ≡ Some by) × (r < bound by))
    ⊎ (r < shown t)

pub record Inv (w : View) : Type 0 where
  pub clock : Clock w.last w.drawer w.began w.declared w.decided
  pub marks : Marks w.last w.reads w.floor w.safe w.collected
  pub acceptances : (t : ℕ) (k : Key) (by : Acceptance) → w.accepted t k ≡ Some by → IsAccepted w.last w.declared t k by
  pub keys : (k : Key) → OnCells w.declared w.decided w.accepted w.shown k (w.collected k) (w.cells k)
  pub commits : (t c : ℕ) → IsCommitted w.decided t c → IsCommit w.last w.declared w.accepted w.shown t c
  -- a read of what an open transaction changes lies below what it may commit at
  pub unread : (t : ℕ) (k : Key) (by : Acceptance) → w.accepted t k ≡ Some by → w.decided t ≡ Open → (m : Mutation)
      → Does w.declared t k m → IsVisible m → (r : ℕ) → IsRead w.reads k r → LiesBelow w.accepted w.shown t r
  -- the check of what an accepted insert puts was a read at its start
  pub checks : (t : ℕ) (k : Key) (by : Acceptance) → w.accepted t k ≡ Some by → (v : Value)
      → Inserts w.declared t k v → IsRead w.reads k t
  pub shown : ShownOf w.declared w.accepted w.shown

-- ---- small consequences

-- a transaction has one primary
pub one_first : (declared : ℕ → Option Declaration) (t : ℕ) (j k : Key) → IsPrimary declared t j
    → IsPrimary declared t k → j ≡ k
one_first declared t j k = go (set_of (declared t))
  where
    go : (set : List Change) → is_first set j ≡ true → is_first set k ≡ true → j ≡ k
    go [] e f = absurd (cc (e))
    go (c ∷ cs) e f = sym (key_true c.key j e) ∙ key_true c.key k f

-- the primary is one of its keys
pub first_within : (declared : ℕ → Option Declaration) (t : ℕ) (k : Key) → IsPrimary declared t k
    → (m : Mutation) × Does declared t k m
first_within declared t k = go (set_of (declared t))
  where
    go : (set : List Change) → is_first set k ≡ true → (m : Mutation) × (does_at set k ≡ Some m)
    go [] e = absurd (cc (e))
    go (c ∷ cs) e = (as_locked c.mutation, rw e refl)

-- whose primary a key is has declared
pub first_declared : (o : Option Declaration) (k : Key) → is_first (set_of o) k ≡ true
    → (d : Declaration) × (o ≡ Some d)
first_declared None k e = absurd (cc (e))
first_declared (Some d) k e = (d, refl)

-- who does something is declared
pub does_declared : (declared : ℕ → Option Declaration) (t : ℕ) (k : Key) (m : Mutation) → Does declared t k m
    → declared t ≢ None
does_declared declared t k m e none = cc (subst (λ o. does_at (set_of o) k ≡ Some m) none e)

-- and its key is one of the set
pub does_within : (declared : ℕ → Option Declaration) (t : ℕ) (k : Key) (m : Mutation) → Does declared t k m
    → mutation_at (set_of (declared t)) k ≢ None
does_within declared t k m e none =
    (let fact : does_at (set_of (declared t)) k ≡ None = ap (option_map as_locked) none in cc (e, fact))

-- one key, one mutation
pub one_does : (declared : ℕ → Option Declaration) (t u : ℕ) (k : Key) (m n : Mutation) → t ≡ u → Does declared t k m
    → Does declared u k n → m ≡ n
one_does declared t u k m n same e f = some_same m n (sym e ∙ ap (λ x. does_at (set_of (declared x)) k) same ∙ f)

-- what is declared is done
pub declared_does : (declared : ℕ → Option Declaration) (t : ℕ) (k : Key) (m : Mutation)
    → mutation_at (set_of (declared t)) k ≡ Some m → Does declared t k (as_locked m)
declared_does declared t k m e = ap (option_map as_locked) e

-- a bound of one mode
pub bound_two_phase : (by : Acceptance) → by.lock.mode ≡ TwoPhase → bound by ≡ by.at + 1
bound_two_phase by e = rw e refl

pub bound_async : (by : Acceptance) → by.lock.mode ≡ Async → bound by ≡ by.lock.min
bound_async by e = rw e refl

-- no later facts are lost
pub later_by : (decided after : ℕ → State) (declared next : ℕ → Option Declaration) (k : Key) (d safe : ℕ)
    → ((q at : ℕ) → IsCommitted decided q at → IsCommitted after q at)
    → ((q : ℕ) (n : Mutation) → Does declared q k n → Does next q k n) → Later decided declared k d safe
    → Later after next k d safe
later_by decided after declared next k d safe f g x =
    record {
      start = x.start;
      at = x.at;
      mutation = x.mutation;
      committed = f x.start x.at x.committed;
      does =
          g x.start x.mutation x.does;
      visible = x.visible;
      above = x.above;
      upto = x.upto;
    }

pub gone_by : (decided after : ℕ → State) (declared next : ℕ
    → Option Declaration) (k : Key) (d safe upto : ℕ) (m : Mutation)
    → ((q at : ℕ) → IsCommitted decided q at → IsCommitted after q at)
    → ((q : ℕ) (n : Mutation) → Does declared q k n → Does next q k n) → safe ≤ upto → Gone decided declared k d safe m
    → Gone after next k d upto m
gone_by decided after declared next k d safe upto m f g more gone =
    record {
      below = omega (arith, gone.below, more);
      way = elim gone.way [
        | inl x ↦ inl x
        | inr x ↦ inr (record {
          start = x.start;
          at = x.at;
          mutation = x.mutation;
          committed =
              f x.start x.at x.committed;
          does = g x.start x.mutation x.does;
          visible = x.visible;
          above = x.above;
          upto =
              omega (arith, x.upto, more);
        })
      ];
    }

-- a lock of a committed transaction has a minimum at or below the commit
pub lock_ends : (w : View) (k : Key) (lock : Lock) (c : ℕ) → Inv w → (w.cells k).lock ≡ Some lock
    → IsCommitted w.decided lock.start c → lock.min ≤ c
lock_ends w k lock c i stands end =
    elim (cases_Bool (is_first (set_of (w.declared lock.start)) k)) [
      | inl f ↦ omega (arith, ((i.keys k).lock lock stands).shows f, (i.commits lock.start c end).shows)
      | inr f ↦ (let of = some_of (w.accepted lock.start k) ((i.keys k).lock lock stands).accepts in
          omega (
            arith,
            ((i.keys k).lock lock stands).min f of.0 of.1,
            (i.acceptances lock.start k of.0 of.1).bounded,
            (i.commits lock.start c end).bounds k of.0 of.1,
          ))
    ]

-- where nothing of a transaction stands that started at the collection or above, it
-- was never accepted
pub never_accepted : (w : View) (k : Key) (t : ℕ) → Inv w → w.collected k ≤ t
    → ((lock : Lock) → OwnLock (w.cells k).lock t lock → ⊥) → ((c : ℕ) → OwnCommit (w.cells k).write t c → ⊥)
    → (OwnRollback (w.cells k).write t → ⊥) → w.accepted t k ≡ None
never_accepted w k t i fresh unlocked uncommitted unrolled =
    none_is (w.accepted t k) (λ by e. go by e (w.decided t) refl)
  where
    go : (by : Acceptance) → w.accepted t k ≡ Some by → (s : State) → w.decided t ≡ s → ⊥
    go by e Open o = (let held = (i.keys k).kept.held t (is_some (w.accepted t k) by e) o in
        unlocked held.lock (record { stands = held.stands; own = held.own }))
    go by e (Done (Committed c)) end =
        elim ((i.keys k).kept.complete t c by.lock.mutation end (i.acceptances t k by e).does) [
          | inl x ↦ uncommitted c (record { rec = x.rec; stands = x.stands; own = x.own })
          | inr rest ↦ elim rest [
            | inl x ↦ unlocked x.lock (record { stands = x.stands; own = x.own })
            | inr gone ↦ omega (arith, gone.below, fresh, (i.commits t c end).range.0)
          ]
        ]
    go by e (Done Aborted) end =
        elim ((i.keys k).kept.cleared t (is_some (w.accepted t k) by e) end) [
          | inl x ↦ unlocked x.lock (record { stands = x.stands; own = x.own })
          | inr rest ↦ elim rest [ inl x ↦ unrolled x | inr low ↦ omega (arith, low, fresh) ]
        ]

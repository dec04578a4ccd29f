-- What nothing explains.
use Rattle.std.proofs.Common.{◌≡◌, ◌≢◌, ℕ, ◌<◌, ◌≤◌, ◌++◌, ◌⊎◌, inl, inr, List, [], ◌∷◌, Option, Some, None, Contains, refl, sym, ap, subst, ◌∙◌, arith}
use Rattle.std.proofs.lemmas.List.Elements.{Contains-append_right, Contains-append_cases}
use Rattle.tx_types.specs.declared.key.Key.{Key}
use Rattle.tx_types.specs.declared.value.Value.{Value}
use Rattle.tx_types.specs.declared.mutation.Change.{Change}
use Rattle.tx_types.specs.declared.mutation.Mutation.{Mutation}
use Rattle.tx_types.specs.declared.mutation.Mutation.TheVariants.{Put}
use Rattle.tx_types.specs.declared.mutation.Fate.{Fate}
use Rattle.tx_types.specs.declared.mutation.Fate.TheVariants.{Committed}
use Rattle.tx_types.specs.Keys.{IsVisible}
use Rattle.tx_machine.specs.Keys.{mutation_at}
use Rattle.tx_machine.specs.declared.step.Step.{Step}
use Rattle.tx_machine.specs.declared.step.Step.TheVariants as step
use Rattle.tx_machine.specs.Machine.{Row, Open, Done, Table, Commits, NoneBetween, Sees, MayCommit, Admits, changes_in, table_of, IsRun}
use Rattle.tx_core.specs.declared.event.Taken.{Taken}
use Rattle.tx_core.specs.declared.event.Event.{Event}
use Rattle.tx_core.specs.declared.event.Event.TheVariants.{Took}
use Rattle.tx_core.specs.Histories.{History, set_at}
use Rattle.tx_core.specs.Decisions.{decided}
use Rattle.tx_core.specs.EventSteps.{IsStepOf, LocksInsert, Explains}
use Rattle.tx_core.specs.Truth.{HasEnded, IsTrue}
use Rattle.tx_core.proofs.Basics.{some_same}
use Rattle.tx_needed.specs.Needed.{IsExplained}
use Rattle.tx_needed.proofs.Machine.{HasSet, kept_set, kept_read, kept_end, was_declared}
use Rattle.tx_needed.proofs.Steps.{Stands, stands_in, in_stands, set_stands, commit_stands, stood}

-- ---- what is told is not what is decided

-- how a row says that its transaction has ended
abbrev pub fate_of : Option Row → Option Fate
fate_of None = None
fate_of (Some row) = elim row.state [ Open ↦ None | Done end ↦ Some end ]

-- a transaction ends once
ends_once : (table : Table) (t : ℕ) (one other : Fate) → HasEnded table t one → HasEnded table t other → one ≡ other
ends_once table t one other (cs, is) (ds, it) =
    some_same one other (◌∙◌ {A = Option Fate} (sym (ap fate_of is)) (ap fate_of it))

-- the last event tells of another end than the one that is decided
pub tells_other : (h : History) (e : Event) (t : ℕ) (one other : Fate) → decided (e ∷ h) t ≡ Done one
    → ((table : Table) → IsTrue table e → HasEnded table t other) → one ≢ other → IsExplained (e ∷ h) → ⊥
tells_other h e t one other is tells differ (steps, explains, run, ends) =
    differ (ends_once (table_of steps) t one other (ends t one is) (tells (table_of steps) explains.5))

-- the last event tells that the transaction is open, though it has ended
pub tells_open : (h : History) (e : Event) (t : ℕ) (one : Fate) → decided (e ∷ h) t ≡ Done one
    → ((table : Table) → IsTrue table e → table.row t ≡ Some record { changes = None; state = Open })
    → IsExplained (e ∷ h) → ⊥
tells_open h e t one is tells (steps, explains, run, ends) =
    let ended = ap fate_of (ends t one is).1 in
    let told = ap fate_of (tells (table_of steps) explains.5) in
    cc (ended, told)

-- ---- a step is refused

-- A step of the last event is refused: by each table that a run of steps leaves which has all that
-- stand before the event, and beside them some of its own.
pub refuses : (h : History) (e : Event) (s : Step) → IsStepOf h e s
    → ((steps : List Step) → ((y : Step) → Stands h y → Contains steps y)
    → ((y : Step) → Contains steps y → IsStepOf h e y ⊎ Stands h y) → IsRun steps → Admits (table_of steps) s → ⊥)
    → IsExplained (e ∷ h) → ⊥
refuses h e s is refused (steps, explains, run, ends) =
    let own = explains.0 in
    let earlier = explains.1 in
    let it = stood own earlier s (subst IsRun explains.2 run) ((explains.4 s).1 is) in
    refused (it.before ++ earlier)
    (λ y stands. Contains-append_right it.before earlier y (stands_in h earlier y explains.3 stands))
    (λ y has. elim (Contains-append_cases it.before earlier y has) [
      | inl now ↦ inl ((explains.4 y).0 (it.within y now))
      | inr old ↦ inr (in_stands h earlier y explains.3 old)
    ]) it.run it.admits

-- ---- a read misses a put

-- a transaction with a set, that ended so
pub committed : (table : Table) (t c : ℕ) (set : List Change) (k : Key) (m : Mutation) → HasSet table t set
    → HasEnded table t (Committed c) → mutation_at set k ≡ Some m → Commits table.row k t c m
committed table t c set k m has (changes, ended) does = record {
  set = set;
  row_is = ended ∙ ap (λ (cs : Option (List Change)). Some (ended_row cs)) (sym (ap changes_in ended) ∙ has);
  does = does;
}
  where
    ended_row : Option (List Change) → Row
    ended_row cs = record { changes = cs; state = Done (Committed c) }

-- a set with a key is not empty
some_set : (set : List Change) (k : Key) (m : Mutation) → mutation_at set k ≡ Some m → set ≢ []
some_set [] k m does none = absurd (cc (does))
some_set (c ∷ cs) k m does none = (cc (none))

-- what the transaction declared in a history is a set of the table
pub has_set : (h : History) (steps : List Step) (t : ℕ) (k : Key) (m : Mutation) → Explains steps h → IsRun steps
    → mutation_at (set_at h t) k ≡ Some m → HasSet (table_of steps) t (set_at h t)
has_set h steps t k m explains run does =
    kept_set steps t (set_at h t) run
    (stands_in h steps (step.Declare t (set_at h t)) explains (set_stands h t (some_set (set_at h t) k m does)))

-- where nothing visible stands between its commit and the read
misses : (h : History) (e : Event) (t c r : ℕ) (k : Key) (v : Value) → decided (e ∷ h) t ≡ Done (Committed c)
    → mutation_at (set_at (e ∷ h) t) k ≡ Some (Put v) → c ≤ r
    → ((table : Table) → IsTrue table e → Sees table.row k r None)
    → ((steps : List Step) → Explains steps (e ∷ h) → HasEnded (table_of steps) t (Committed c)
    → NoneBetween (table_of steps).row k c r) → IsExplained (e ∷ h) → ⊥
misses h e t c r k v is does upto sees newest (steps, explains, run, ends) =
    sees (table_of steps) explains.5 (Put v) v record {
      start = t;
      at = c;
      commits = committed (table_of steps) t c (set_at (e ∷ h) t) k (Put v)
          (has_set (e ∷ h) steps t k (Put v) explains run does) (ends t (Committed c) is) does;
      upto = upto;
      newest = newest steps explains (ends t (Committed c) is);
    } refl

-- the last event finds nothing where a value is committed at the read's timestamp
pub misses_put : (h : History) (e : Event) (t c : ℕ) (k : Key) (v : Value) → decided (e ∷ h) t ≡ Done (Committed c)
    → mutation_at (set_at (e ∷ h) t) k ≡ Some (Put v) → ((table : Table) → IsTrue table e → Sees table.row k c None)
    → IsExplained (e ∷ h) → ⊥
misses_put h e t c k v is does sees =
    misses h e t c c k v is does (omega arith) sees
    (λ steps explains end u d m commits seen low high. omega (arith, low, high))

-- an insert's lock is put at the start of its transaction, where another one committed a value
pub checks_no_insert : (h : History) (x : Taken) (u t : ℕ) (k : Key) (v : Value) → LocksInsert h (Took x) t k
    → decided h u ≡ Done (Committed t) → mutation_at (set_at h u) k ≡ Some (Put v) → IsExplained (Took x ∷ h) → ⊥
checks_no_insert h x u t k v locks is does =
    refuses h (Took x) (step.Read k t None) (inr (locks, refl)) (λ steps has within run may.
    may.1 (Put v) v record {
      start = u;
      at = t;
      commits = committed (table_of steps) u t (set_at h u) k (Put v)
          (kept_set steps u (set_at h u) run
          (has (step.Declare u (set_at h u)) (set_stands h u (some_set (set_at h u) k (Put v) does))))
          (kept_end steps u t run (has (step.Commit u t) (commit_stands h u t is))) does;
      upto = omega arith;
      newest = λ s d m commits seen low high. omega (arith, low, high);
    } refl)

-- it finds nothing above the commit, and no other transaction declared anything
pub misses_newest : (h : History) (e : Event) (t c r : ℕ) (k : Key) (v : Value) → decided (e ∷ h) t ≡ Done (Committed c)
    → mutation_at (set_at (e ∷ h) t) k ≡ Some (Put v) → c ≤ r
    → ((u : ℕ) (set : List Change) → Stands (e ∷ h) (step.Declare u set) → u ≡ t)
    → ((table : Table) → IsTrue table e → Sees table.row k r None) → IsExplained (e ∷ h) → ⊥
misses_newest h e t c r k v is does upto alone sees =
    misses h e t c r k v is does upto sees (λ steps explains end u d m commits seen low high.
    (let same = alone u commits.set (in_stands (e ∷ h) steps (step.Declare u commits.set) explains
    (was_declared steps u commits.set (ap changes_in commits.row_is))) in
    let at = ends_once (table_of steps) t (Committed c) (Committed d) end
    (subst (λ q. HasEnded (table_of steps) q (Committed d)) same (Some commits.set, commits.row_is)) in
    omega (arith, ap number at, low)))
  where
    number : Fate → ℕ
    number (Committed n) = n
    number end = 0

-- ---- a commit is refused

-- The last event commits a transaction, and the table refuses that which has all that the steps
-- before it leave.
refuses_commit : (h : History) (x : Taken) (t c : ℕ) (k : Key) (m : Mutation) → decided h t ≡ Open
    → decided (Took x ∷ h) t ≡ Done (Committed c) → mutation_at (set_at h t) k ≡ Some m
    → ((steps : List Step) → ((y : Step) → Stands h y → Contains steps y) → IsRun steps
    → (may : MayCommit (table_of steps) t c) → mutation_at may.set k ≡ Some m → ⊥) → IsExplained (Took x ∷ h) → ⊥
refuses_commit h x t c k m before now does refused =
    refuses h (Took x) (step.Commit t c) record { before = before; now = now } (λ steps has within run may.
    (let set = kept_set steps t (set_at h t) run
    (has (step.Declare t (set_at h t)) (set_stands h t (some_set (set_at h t) k m does))) in
    let same = some_same (set_at h t) may.set (sym set ∙ ap changes_in may.opened) in
    refused steps has run may (subst (λ cs. mutation_at cs k ≡ Some m) same does)))

-- at or below a read of a key that the transaction changes
pub commits_under_read : (h : History) (x : Taken) (t c : ℕ) (k : Key) (m : Mutation) (r : ℕ) (found : Option Value)
    → decided h t ≡ Open → decided (Took x ∷ h) t ≡ Done (Committed c) → mutation_at (set_at h t) k ≡ Some m
    → IsVisible m → c ≤ r → Stands h (step.Read k r found) → IsExplained (Took x ∷ h) → ⊥
commits_under_read h x t c k m r found before now does seen low reads =
    refuses_commit h x t c k m before now does (λ steps has run may here.
    omega (
      arith,
      low,
      may.unread k m r here seen
          (kept_read steps k r found (has (step.Read k r found) reads)),
    ))

-- over another one, which changes the same key
pub commits_overlapping : (h : History) (x : Taken) (t c u d : ℕ) (k : Key) (m n : Mutation) → decided h t ≡ Open
    → decided (Took x ∷ h) t ≡ Done (Committed c) → decided h u ≡ Done (Committed d)
    → mutation_at (set_at h t) k ≡ Some m → mutation_at (set_at h u) k ≡ Some n → t < d → u < c
    → IsExplained (Took x ∷ h) → ⊥
commits_overlapping h x t c u d k m n before now ended does did below above =
    refuses_commit h x t c k m before now does (λ steps has run may here.
    may.apart k m n u d here
    (committed (table_of steps) u d (set_at h u) k n
    (kept_set steps u (set_at h u) run
    (has (step.Declare u (set_at h u)) (set_stands h u (some_set (set_at h u) k n did))))
    (kept_end steps u d run (has (step.Commit u d) (commit_stands h u d ended))) did) (below, above))

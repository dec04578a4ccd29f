-- What every run of the machine says: what has ended stays so, no two overlapping transactions
-- commit one key, and what a read has seen is what it would see at any later moment.
use Rattle.std.proofs.Common.{◌≡◌, ◌≢◌, ℕ, ◌<◌, ◌≤◌, ◌==◌, ◌++◌, ◌⊎◌, inl, inr, List, [], ◌∷◌, Option, Some, None, refl, sym, ap, subst, ◌∙◌, arith}
use Rattle.std.proofs.lemmas.Bool.{eq-eqb}
use Rattle.tx_types.specs.declared.key.Key.{Key}
use Rattle.tx_types.specs.declared.value.Value.{Value}
use Rattle.tx_types.specs.declared.mutation.Change.{Change}
use Rattle.tx_types.specs.declared.mutation.Mutation.{Mutation}
use Rattle.tx_types.specs.declared.mutation.Mutation.TheVariants as mutation
use Rattle.tx_types.specs.declared.mutation.Fate.{Fate}
use Rattle.tx_types.specs.declared.mutation.Fate.TheVariants.{Committed, Aborted}
use Rattle.tx_machine.specs.declared.step.Step.{Step}
use Rattle.tx_machine.specs.declared.step.Step.TheVariants as step
use Rattle.tx_types.specs.Keys.{value_in, IsVisible, put_by}
use Rattle.tx_machine.specs.Keys.{mutation_at}
use Rattle.tx_machine.specs.declared.step.ScanRead.{ScanRead}
use Rattle.tx_machine.specs.Machine.{State, Open, Done, Row, Rows, Table, Commits, Newest, Sees, SeesRows, IsRead, Overlap, MayCommit, Admits, with_row, changes_in, after, table_of, IsRun}
use Rattle.tx_machine.proofs.Basics.{nat_test, key_same, some_same, cond_true, cond_false}

-- the transaction that started at t has ended so
abbrev pub Ended : Rows → ℕ → Fate → Type 0
Ended rows t end = (changes : Option (List Change)) × (rows t ≡ Some record { changes = changes; state = Done end })

-- a row that is open has not ended
pub open_not_ended : (o : Option Row) (a b : Option (List Change)) (end : Fate)
    → o ≡ Some record { changes = a; state = Done end } → o ≡ Some record { changes = b; state = Open } → ⊥
open_not_ended o a b end x y =
    let ended : Row = record { changes = a; state = Done end } in
    let going : Row = record { changes = b; state = Open } in
    let same : ended ≡ going = some_same ended going (sym x ∙ y) in
    cc (ap (λ (r : Row). r.state) same)

-- ---- a change of one row

module _ (table : Table) (t : ℕ) (changes : Option (List Change)) (state : State) where
  abbrev new : Rows
  new = (with_row table t changes state).row

  pub here : (q : ℕ) → t ≡ q → new q ≡ Some record { changes = changes; state = state }
  here q e = cond_true (t == q) (Some record { changes = changes; state = state }) (table.row q) (eq-eqb t q e)

  module _ (going : (set : Option (List Change)) (end : Fate)
      → table.row t ≡ Some record { changes = set; state = Done end } → ⊥) where
    ended_kept : (q : ℕ) (end : Fate) → Ended table.row q end → Ended new q end
    ended_kept q end (set, e) =
        elim (nat_test t q) [
          | inl x ↦ absurd (going set end (ap table.row x.1 ∙ e))
          | inr x ↦ (set, cond_false (t == q) (Some record { changes = changes; state = state }) (table.row q) x.0 ∙ e)
        ]

    kept : (k : Key) (u d : ℕ) (n : Mutation) → Commits table.row k u d n → Commits new k u d n
    kept k u d n c =
        elim (nat_test t u) [
          | inl x ↦ absurd (going (Some c.set) (Committed d) (ap table.row x.1 ∙ c.row_is))
          | inr x ↦ record {
            set = c.set;
            row_is =
                cond_false (t == u) (Some record { changes = changes; state = state }) (table.row u) x.0 ∙ c.row_is;
            does
                = c.does;
          }
        ]

  -- a commit that stands after it stood before, or is that of the row
  pub came : (k : Key) (u d : ℕ) (n : Mutation) → Commits new k u d n
      → Commits table.row k u d n
      ⊎ ((t ≡ u) × ((set : List Change) × (changes ≡ Some set) × (mutation_at set k ≡ Some n))
      × (state ≡ Done (Committed d)))
  came k u d n c =
      elim (nat_test t u) [
        | inl x ↦ (let same : record { changes = changes; state = state }
            ≡ record { changes = Some c.set; state = Done (Committed d) } =
            some_same _ _ (sym (here u x.1) ∙ c.row_is) in
            inr (x.1, (c.set, ap (λ (r : Row). r.changes) same, c.does), ap (λ (r : Row). r.state) same))
        | inr x ↦ inl (record {
          set = c.set;
          row_is =
              sym (cond_false (t == u) (Some record { changes = changes; state = state }) (table.row u) x.0)
              ∙ c.row_is;
          does = c.does;
        })
      ]

-- ---- a step

-- a commit that comes with a step is one that the machine may make then
abbrev pub New : Table → Key → ℕ → ℕ → Mutation → Type 0
New table k u d n = (may : MayCommit table u d) × (mutation_at may.set k ≡ Some n)

pub stands_kept : (table : Table) (s : Step) → Admits table s → (k : Key) (u d : ℕ) (n : Mutation)
    → Commits table.row k u d n → Commits (after table s).row k u d n
stands_kept table (step.Draw m) a k u d n c = record { set = c.set; row_is = c.row_is; does = c.does }
stands_kept table (step.Begin t) a k u d n c = kept table t None Open (λ set end e. cc (e, a.1)) k u d n c
stands_kept table (step.Declare t set) a k u d n c =
    kept table t (Some set) Open (λ was end e. open_not_ended (table.row t) was None end e a.0) k u d n c
stands_kept table (step.Commit t x) a k u d n c =
    kept table t (changes_in (table.row t)) (Done (Committed x))
    (λ set end e. open_not_ended (table.row t) set (Some a.set) end e a.opened) k u d n c
stands_kept table (step.Abort t) a k u d n c =
    kept table t (changes_in (table.row t)) (Done Aborted) (λ set end e. open_not_ended (table.row t) set a.0 end e a.1)
    k u d n c
stands_kept table (step.Read j r found) a k u d n c = record { set = c.set; row_is = c.row_is; does = c.does }
stands_kept table (step.Scan scan) a k u d n c = record { set = c.set; row_is = c.row_is; does = c.does }
stands_kept table (step.Answer t end) a k u d n c = record { set = c.set; row_is = c.row_is; does = c.does }

pub stands_new : (table : Table) (s : Step) → Admits table s → (k : Key) (u d : ℕ) (n : Mutation)
    → Commits (after table s).row k u d n → Commits table.row k u d n ⊎ ((s ≡ step.Commit u d) × New table k u d n)
stands_new table (step.Draw m) a k u d n c = inl (record { set = c.set; row_is = c.row_is; does = c.does })
stands_new table (step.Begin t) a k u d n c =
    elim (came table t None Open k u d n c) [ inl x ↦ inl x | inr x ↦ absurd (cc (x.2)) ]
stands_new table (step.Declare t set) a k u d n c =
    elim (came table t (Some set) Open k u d n c) [ inl x ↦ inl x | inr x ↦ absurd (cc (x.2)) ]
stands_new table (step.Commit t x) a k u d n c =
    elim (came table t (changes_in (table.row t)) (Done (Committed x)) k u d n c) [
      | inl y ↦ inl y
      | inr y ↦ inr (
          let at : x ≡ d = cc (y.2) in
          let set : Some a.set ≡ Some y.1.0 = sym (ap changes_in a.opened) ∙ y.1.1 in
          let does : mutation_at a.set k ≡ Some n = ap (λ s. mutation_at s k) (some_same a.set y.1.0 set) ∙ y.1.2 in
          subst (λ q. (step.Commit t x ≡ step.Commit q d)
          × New table k q d n) y.0
          (subst (λ q. (step.Commit t x ≡ step.Commit t q) × New table k t q n) at (refl, (a, does)))
          )
    ]
stands_new table (step.Abort t) a k u d n c =
    elim (came table t (changes_in (table.row t)) (Done Aborted) k u d n c) [
      | inl x ↦ inl x
      | inr x ↦ absurd (cc (x.2))
    ]
stands_new table (step.Read j r found) a k u d n c = inl (record { set = c.set; row_is = c.row_is; does = c.does })
stands_new table (step.Scan scan) a k u d n c = inl (record { set = c.set; row_is = c.row_is; does = c.does })
stands_new table (step.Answer t end) a k u d n c = inl (record { set = c.set; row_is = c.row_is; does = c.does })

ended_next : (table : Table) (s : Step) → Admits table s → (q : ℕ) (end : Fate) → Ended table.row q end
    → Ended (after table s).row q end
ended_next table (step.Draw m) a q end e = e
ended_next table (step.Begin t) a q end e = ended_kept table t None Open (λ set f x. cc (x, a.1)) q end e
ended_next table (step.Declare t set) a q end e =
    ended_kept table t (Some set) Open (λ was f x. open_not_ended (table.row t) was None f x a.0) q end e
ended_next table (step.Commit t x) a q end e =
    ended_kept table t (changes_in (table.row t)) (Done (Committed x))
    (λ set f y. open_not_ended (table.row t) set (Some a.set) f y a.opened) q end e
ended_next table (step.Abort t) a q end e =
    ended_kept table t (changes_in (table.row t)) (Done Aborted)
    (λ set f x. open_not_ended (table.row t) set a.0 f x a.1) q end e
ended_next table (step.Read j r found) a q end e = e
ended_next table (step.Scan scan) a q end e = e
ended_next table (step.Answer t f) a q end e = e

pub read_next : (table : Table) (s : Step) → (k : Key) (r : ℕ) → IsRead table.reads k r
    → IsRead (after table s).reads k r
read_next table (step.Draw m) k r x = x
read_next table (step.Begin t) k r x = x
read_next table (step.Declare t set) k r x = x
read_next table (step.Commit t c) k r x = inr x
read_next table (step.Abort t) k r x = x
read_next table (step.Read j q found) k r x = inr x
read_next table (step.Scan scan) k r x = inr x
read_next table (step.Answer t f) k r x = x

-- ---- what a read has seen

-- what leaves a value is seen
pub put_visible : (m : Mutation) (v : Value) → put_by m ≡ Some v → IsVisible m
put_visible (mutation.Put w) v e = tt
put_visible (mutation.Insert w) v e = tt
put_visible mutation.Delete v e = tt
put_visible mutation.Lock v e = cc e

-- what puts or deletes k and is committed at most at r once the step is made was so before
abbrev pub AddsNone : Table → Step → Key → ℕ → Type 0
AddsNone table s k r = (u d : ℕ) (n : Mutation) → Commits (after table s).row k u d n → IsVisible n → d ≤ r
    → Commits table.row k u d n

-- a step commits nothing below a read of what it puts or deletes
pub above_read : (table : Table) (s : Step) → Admits table s → (k : Key) (r : ℕ) → IsRead table.reads k r
    → AddsNone table s k r
above_read table s a k r read u d n c v le =
    elim (stands_new table s a k u d n c) [
      | inl x ↦ x
      | inr x ↦ absurd (omega (arith, le, x.1.0.unread k n r x.1.1 v read))
    ]

pub newest_next : (table : Table) (s : Step) → Admits table s → (k : Key) (r : ℕ) → AddsNone table s k r
    → (m : Mutation)
    → Newest table.row k r m → Newest (after table s).row k r m
newest_next table s a k r none m w =
    record {
      start = w.start;
      at = w.at;
      commits = stands_kept table s a k w.start w.at m w.commits;
      upto = w.upto;
      newest = λ u c n is visible low high. w.newest u c n (none u c n is visible high) visible
          low high;
    }

newest_before : (table : Table) (s : Step) → Admits table s → (k : Key) (r : ℕ) → AddsNone table s k r
    → (m : Mutation) → IsVisible m → Newest (after table s).row k r m → Newest table.row k r m
newest_before table s a k r none m seen w =
    record {
      start = w.start;
      at = w.at;
      commits = none w.start w.at m w.commits seen w.upto;
      upto = w.upto;
      newest = λ u c n is visible low high. w.newest u c n (stands_kept table s a k u c n is) visible low high;
    }

pub sees_next : (table : Table) (s : Step) → Admits table s → (k : Key) (r : ℕ) → AddsNone table s k r
    → (found : Option Value) → Sees table.row k r found → Sees (after table s).row k r found
sees_next table s a k r none (Some v) (m, w, puts) = (m, newest_next table s a k r none m w, puts)
sees_next table s a k r none None w =
    λ m v x puts. w m v (newest_before table s a k r none m (put_visible m v puts) x) puts

-- ---- runs

pub ended_stays : (more steps : List Step) → IsRun (more ++ steps) → (t : ℕ) (end : Fate)
    → Ended (table_of steps).row t end → Ended (table_of (more ++ steps)).row t end
ended_stays [] steps run t end e = e
ended_stays (s ∷ more) steps run t end e =
    ended_next (table_of (more ++ steps)) s run.1 t end (ended_stays more steps run.0 t end e)

pub commits_apart : (steps : List Step) → IsRun steps → (k : Key) (t c u d : ℕ) (m n : Mutation)
    → Commits (table_of steps).row k t c m → Commits (table_of steps).row k u d n → t ≢ u → Overlap t c u d → ⊥
commits_apart [] run k t c u d m n x y other overlap = cc (x.row_is)
commits_apart (s ∷ steps) run k t c u d m n x y other overlap =
    elim (stands_new (table_of steps) s run.1 k t c m x) [
      | inl old ↦ elim (stands_new (table_of steps) s run.1 k u d n y) [
        | inl was ↦ commits_apart steps run.0 k t c u d m n old was other overlap
        | inr now ↦ now.1.0.apart k n m t c now.1.1 old (overlap.1, overlap.0)
      ]
      | inr new ↦ elim (stands_new (table_of steps) s run.1 k u d n y) [
        | inl was ↦ new.1.0.apart k m n u d new.1.1 was overlap
        | inr now ↦ other (one t c u d (sym new.0 ∙ now.0))
      ]
    ]
  where
    start_of : Step → ℕ
    start_of (step.Commit t c) = t
    start_of _ = 0

    one : (t c u d : ℕ) → step.Commit t c ≡ step.Commit u d → t ≡ u
    one t c u d e = ap start_of e

-- each commit lies above its start
pub commits_above : (steps : List Step) → IsRun steps → (k : Key) (t c : ℕ) (m : Mutation)
    → Commits (table_of steps).row k t c m → t < c
commits_above [] run k t c m x = cc (x.row_is)
commits_above (s ∷ steps) run k t c m x = elim (stands_new (table_of steps) s run.1 k t c m x) [
  | inl old ↦ commits_above steps run.0 k t c m old
  | inr new ↦ new.1.0.above
]

-- what was read and seen at one moment is seen at any later one
stays_seen : (more steps : List Step) (k : Key) (r : ℕ) (found : Option Value) → IsRun (more ++ steps)
    → IsRead (table_of steps).reads k r → Sees (table_of steps).row k r found
    → IsRead (table_of (more ++ steps)).reads k r × Sees (table_of (more ++ steps)).row k r found
stays_seen [] steps k r found run read sees = (read, sees)
stays_seen (s ∷ more) steps k r found run read sees =
    let before = stays_seen more steps k r found run.0 read sees in (
      read_next (table_of (more ++ steps)) s k r before.0,
      sees_next (table_of (more ++ steps)) s run.1 k r
          (above_read (table_of (more ++ steps)) s run.1 k r before.0) found before.1,
    )

-- a run begins with runs
run_of : (more steps : List Step) → IsRun (more ++ steps) → IsRun steps
run_of [] steps run = run
run_of (s ∷ more) steps run = run_of more steps run.0

-- a read, and a scan, that stand in a run see at any later moment what they saw
pub reads_stay : (more steps : List Step) (k : Key) (r : ℕ) (found : Option Value)
    → IsRun (more ++ step.Read k r found ∷ steps) → Sees (table_of (more ++ step.Read k r found ∷ steps)).row k r found
reads_stay more steps k r found run =
    (stays_seen more (step.Read k r found
    ∷ steps) k r found run (inl (key_same k, refl)) (run_of more (step.Read k r found ∷ steps) run).1.1).1

pub scans_stay : (more steps : List Step) (s : ScanRead) → IsRun (more ++ step.Scan s ∷ steps)
    → SeesRows (table_of (more ++ step.Scan s ∷ steps)).row s
scans_stay more steps s run =
    let was : SeesRows (table_of steps).row s = (run_of more (step.Scan s ∷ steps) run).1.1 in
    record {
      rising = was.rising;
      within = was.within;
      upto = was.upto;
      each = λ k inside. (stays_seen more (step.Scan s
          ∷ steps) k s.at (value_in s.rows k) run (inl (inside, refl)) (was.each k inside)).1;
    }

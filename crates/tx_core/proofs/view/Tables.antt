-- The machine's table shows what a view says: what a commit asks of the table holds, and a read of
-- the cells gives what the table sees.
use Rattle.std.proofs.Common.{◌≡◌, ◌≢◌, ℕ, ◌≤◌, inl, inr, Bool, true, cond, List, Option, Some, None, IsTrue, refl, sym, ap, subst, ◌∙◌, arith}
use Rattle.tx_types.specs.declared.key.Key.{Key}
use Rattle.tx_types.specs.declared.value.Value.{Value}
use Rattle.tx_types.specs.declared.mutation.Change.{Change}
use Rattle.tx_types.specs.declared.mutation.Mutation.{Mutation}
use Rattle.tx_types.specs.declared.mutation.Mutation.TheVariants as mutation
use Rattle.tx_types.specs.declared.mutation.Fate.{Fate}
use Rattle.tx_types.specs.declared.mutation.Fate.TheVariants.{Committed}
use Rattle.tx_types.specs.Keys.{IsVisible, put_by}
use Rattle.tx_types.specs.Kinds.{as_locked}
use Rattle.std.specs.Prelude.{option_map}
use Rattle.tx_machine.specs.Keys.{mutation_at}
use Rattle.tx_machine.specs.Machine.{State, Open, Done, IsRead}
use Rattle.tx_plan.specs.Cells.{Lock, CommitRecord, CommitOf, info_of}
use Rattle.tx_core.specs.declared.event.Declaration.{Declaration}
use Rattle.tx_core.specs.Histories.{set_of}
use Rattle.tx_core.proofs.Basics.{nat_test, chosen, some_same, some_of}
use Rattle.tx_core.proofs.view.View.{View, Inv, Does, HasNoValue, IsCommitted, Written, Held, does_declared, does_within, declared_does, one_does, lock_ends}
use Rattle.tx_machine.specs.declared.step.Step.{Step}
use Rattle.tx_machine.specs.Machine.{Row, Table, Commits, Newest, NoneBetween, Sees, MayCommit, table_of, IsRun}
use Rattle.tx_plan.specs.Reads.{NoneWritten, Finds, Reads}
use Rattle.tx_core.specs.Truth.{HasEnded, IsOpen, IsToldLock}
use Rattle.tx_core.proofs.changes.Reads.{Unblocked}
use Rattle.tx_core.proofs.changes.Commits.{CanDecide}

-- the write set of a declaration
abbrev pub changes_of : Option Declaration → Option (List Change)
changes_of None = None
changes_of (Some d) = Some d.changes

-- the row of a transaction: none before it began
abbrev pub row_of : View → ℕ → Option Row
row_of w t = cond (w.began t) (Some record { changes = changes_of (w.declared t); state = w.decided t }) None

-- the table shows the rows, the last number, each number drawn, and no reads but those of the view
pub record Shows (table : Table) (w : View) : Type 0 where
  pub row : (t : ℕ) → table.row t ≡ row_of w t
  pub last : table.last ≡ w.last
  pub drawn : (t : ℕ) → w.drawer t ≢ None → table.drawn t ≡ true
  pub reads : (k : Key) (r : ℕ) → IsRead table.reads k r → IsRead w.reads k r

-- the invariants, what the table shows, and the run
pub record Sound (steps : List Step) (w : View) : Type 0 where
  pub inv : Inv w
  pub shows : Shows (table_of steps) w
  pub run : IsRun steps

-- the row of a declared transaction
pub row_declared : (w : View) (t : ℕ) (d : Declaration) → Inv w → w.declared t ≡ Some d
    → row_of w t ≡ Some record { changes = Some d.changes; state = w.decided t }
row_declared w t d i e = rw (i.clock.declares t (λ none. (cc (none, e))), e) refl

-- what stands in the table is so in the view
pub row_parts : (w : View) (t : ℕ) (set : List Change) (s : State)
    → row_of w t ≡ Some record { changes = Some set; state = s } → (w.decided t ≡ s) × (set_of (w.declared t) ≡ set)
row_parts w t set s e =
    elim (chosen (w.began t) (Some record { changes = changes_of (w.declared t); state = w.decided t }) None
    (Some record { changes = Some set; state = s }) e) [
      | inl x ↦ (let same =
          some_same record { changes = changes_of (w.declared t); state = w.decided t } record {
            changes =
                Some set;
            state = s;
          } x.1 in
          (ap (λ (r : Row). r.state) same, by_changes (w.declared t) (ap (λ (r : Row). r.changes) same)))
      | inr x ↦ absurd (cc (x.1))
    ]
  where
    by_changes : (o : Option Declaration) → changes_of o ≡ Some set → set_of o ≡ set
    by_changes None e = absurd (cc)
    by_changes (Some d) e = some_same d.changes set e

-- ---- mutations as locks have them

-- what is done so was declared as some mutation
of_does : (o : Option Mutation) (m : Mutation) → option_map as_locked o ≡ Some m
    → (n : Mutation) × (o ≡ Some n) × (as_locked n ≡ m)
of_does None m e = absurd (cc (e))
of_does (Some n) m e = (n, refl, some_same (as_locked n) m e)

locked_put : (m : Mutation) → put_by (as_locked m) ≡ put_by m
locked_put (mutation.Put v) = refl
locked_put (mutation.Insert v) = refl
locked_put mutation.Delete = refl
locked_put mutation.Lock = refl

put_locked : (m : Mutation) (v : Value) → put_by m ≡ Some v → as_locked m ≡ mutation.Put v
put_locked (mutation.Put w) v e = ap mutation.Put (some_same w v e)
put_locked (mutation.Insert w) v e = ap mutation.Put (some_same w v e)
put_locked mutation.Delete v e = absurd (cc (e))
put_locked mutation.Lock v e = absurd (cc (e))

visible_locked : (m : Mutation) → IsVisible m → IsVisible (as_locked m)
visible_locked (mutation.Put v) h = h
visible_locked (mutation.Insert v) h = h
visible_locked mutation.Delete h = h
visible_locked mutation.Lock h = h

locked_visible : (m : Mutation) → IsVisible (as_locked m) → IsVisible m
locked_visible (mutation.Put v) h = h
locked_visible (mutation.Insert v) h = h
locked_visible mutation.Delete h = h
locked_visible mutation.Lock h = h

-- ---- the commits of the table are those of the view, and the other way round

pub commits_is : (table : Table) (w : View) (k : Key) (u c : ℕ) (m : Mutation) → Shows table w
    → Commits table.row k u c m → IsCommitted w.decided u c × Does w.declared u k (as_locked m)
commits_is table w k u c m s h =
    let parts = row_parts w u h.set (Done (Committed c)) (sym (s.row u) ∙ h.row_is) in
    (parts.0, declared_does w.declared u k m (ap (λ set. mutation_at set k) parts.1 ∙ h.does))

-- a commit of the view, as its transaction declared it
pub record HasCommitted (table : Table) (k : Key) (u c : ℕ) (m : Mutation) : Type 0 where
  pub declared : Mutation
  pub commits : Commits table.row k u c declared
  pub does : as_locked declared ≡ m

pub is_commits : (table : Table) (w : View) (k : Key) (u c : ℕ) (m : Mutation) → Inv w → Shows table w
    → IsCommitted w.decided u c → Does w.declared u k m → HasCommitted table k u c m
is_commits table w k u c m i s end does =
    let of = some_of (w.declared u) (i.clock.decides u (λ o. (cc (o, end)))) in
    let n = of_does (mutation_at (set_of (w.declared u)) k) m does in
    record {
      declared = n.0;
      commits = record {
        set = of.0.changes;
        row_is = s.row u ∙ row_declared w u of.0 i of.1
            ∙ ap (λ x. Some record { changes = Some of.0.changes; state = x }) end;
        does = sym (ap (λ o. mutation_at (set_of o) k) of.1) ∙ n.1;
      };
      does = n.2;
    }

is_seen : (table : Table) (k : Key) (u c : ℕ) (m : Mutation) (x : HasCommitted table k u c m) → IsVisible m
    → IsVisible x.declared
is_seen table k u c m x v = locked_visible x.declared (subst IsVisible (sym x.does) v)

-- where the view says that there is no value, a read of the table sees none
sees_no_value : (table : Table) (w : View) (k : Key) (r : ℕ) → Inv w → Shows table w
    → HasNoValue w.declared w.decided k r → Sees table.row k r None
sees_no_value table w k r i s none m v new puts =
    let of = commits_is table w k new.start new.at m s new.commits in
    let later = none new.start new.at v of.0 (subst (Does w.declared new.start k) (put_locked m v puts) of.1)
    new.upto in
    let x = is_commits table w k later.start later.at later.mutation i s later.committed later.does in
    new.newest later.start later.at x.declared x.commits
    (is_seen table k later.start later.at later.mutation x later.visible) later.above later.upto

-- who is decided has ended so in the machine
pub has_ended : (table : Table) (w : View) (t : ℕ) (e : Fate) → Inv w → Shows table w → w.decided t ≡ Done e
    → HasEnded table t e
has_ended table w t e i s end =
    let of = some_of (w.declared t) (i.clock.decides t (λ o. (cc (o, end)))) in (
      Some of.0.changes,
      s.row t ∙ row_declared w t of.0 i of.1
          ∙ ap (λ x. Some record { changes = Some of.0.changes; state = x }) end,
    )

-- and who has ended so in the machine is decided so
pub ended_decided : (table : Table) (w : View) (t : ℕ) (e : Fate) → Shows table w → HasEnded table t e
    → w.decided t ≡ Done e
ended_decided table w t e s ended =
    elim (chosen (w.began t) (Some record { changes = changes_of (w.declared t); state = w.decided t }) None
    (Some record { changes = ended.0; state = Done e }) (sym (s.row t) ∙ ended.1)) [
      | inl x ↦ ap (λ (r : Row). r.state)
          (some_same record { changes = changes_of (w.declared t); state = w.decided t } record {
            changes =
                ended.0;
            state = Done e;
          } x.1)
      | inr x ↦ absurd (cc (x.1))
    ]

-- who is declared and not decided is open in the machine
pub still_open : (table : Table) (w : View) (t : ℕ) (d : Declaration) → Inv w → Shows table w → w.declared t ≡ Some d
    → w.decided t ≡ Open → IsOpen table t
still_open table w t d i s e undecided = (
  Some d.changes,
  s.row t ∙ row_declared w t d i e
      ∙ ap (λ x. Some record { changes = Some d.changes; state = x }) undecided,
)

-- what is told of a lock that stands is so in the machine
pub stands_told : (table : Table) (w : View) (k : Key) (lock : Lock) → Inv w → Shows table w
    → (w.cells k).lock ≡ Some lock → IsToldLock table (info_of k lock)
stands_told table w k lock i s stands =
    let does : Does w.declared lock.start k lock.mutation = ((i.keys k).lock lock stands).does in
    let of = some_of (w.declared lock.start) (does_declared w.declared lock.start k lock.mutation does) in
    record {
      set = of.0.changes;
      state = w.decided lock.start;
      row_is = s.row lock.start ∙ row_declared w lock.start of.0 i of.1;
      within = subst (λ o. mutation_at (set_of o) k ≢ None) of.1
          (does_within w.declared lock.start k lock.mutation does);
      above = λ c end. lock_ends w k lock c i stands end;
    }

-- the machine may commit what the view may decide
pub may_commit : (table : Table) (w : View) (t c : ℕ) → Inv w → Shows table w → CanDecide w t c → MayCommit table t c
may_commit table w t c i s may =
    let of = some_of (w.declared t) may.declared in
    let declares : (k : Key) (m : Mutation) → mutation_at of.0.changes k ≡ Some m
    → mutation_at (set_of (w.declared t)) k ≡ Some m = λ k m e. ap (λ x. mutation_at (set_of x) k) of.1 ∙ e in
    let does_to : (k : Key) (m : Mutation) → mutation_at of.0.changes k ≡ Some m → Does w.declared t k (as_locked m) =
    λ k m e. declared_does w.declared t k m (declares k m e) in
    record {
      set = of.0.changes;
      opened = s.row t ∙ row_declared w t of.0 i of.1
          ∙ ap (λ x. Some record { changes = Some of.0.changes; state = x }) may.opened;
      above = may.above;
      upto = omega (arith, may.upto, s.last);
      unread = λ k m r e v read.
          let does = does_to k m e in
          let by = some_of (w.accepted t k) (may.accepts k (does_within w.declared t k (as_locked m) does)) in
          elim (i.unread t k by.0 by.1 may.opened (as_locked m) does (visible_locked m v) r (s.reads k r read))
          [ inl x ↦ omega (arith, x.3, may.bounds x.0 x.1 x.2) | inr x ↦ omega (arith, x, may.shown) ];
      fresh = λ k v e.
          let does = does_to k (mutation.Insert v) e in
          let own = (i.keys k).kept.held t (may.accepts k (does_within w.declared t k (mutation.Put v) does))
          may.opened in
          let unseen = ((i.keys k).alone own.lock own.stands).unseen v
          (ap (λ q. mutation_at (set_of (w.declared q)) k) own.own ∙ declares k (mutation.Insert v) e) in
          sees_no_value table w k t i s (subst (HasNoValue w.declared w.decided k) own.own unseen);
      apart = λ k m n u d e commits overlap.
          let own = (i.keys k).kept.held t (may.accepts k (does_within w.declared t k (as_locked m) (does_to k m e)))
          may.opened in
          let of_u = commits_is table w k u d n s commits in
          elim (nat_test u own.lock.start) [
            | inl x ↦ (cc (may.opened, own.own, x.1, of_u.0))
            | inr x ↦ omega (
              arith,
              ((i.keys k).alone own.lock own.stands).above u d (as_locked n) of_u.0 of_u.1 x.1,
              own.own,
              overlap.0,
            )
          ];
    }

-- what the cells give a read is what the machine's table sees, where no lock stops the read and the
-- collection does not lie above it
module _ (table : Table) (w : View) (covers : Key
    → Bool) (r : ℕ) (i : Inv w) (s : Shows table w) (free : Unblocked w covers r) (k : Key) (inside :
    IsTrue (covers k)) (fresh : w.collected k ≤ r) where
  -- a lock that still stands hides no commit that the read should see
  unhidden : (u c : ℕ) (m : Mutation) → IsCommitted w.decided u c → Does w.declared u k m → IsVisible m → c ≤ r
      → Held (w.cells k) u → ⊥
  unhidden u c m end does v upto x =
      let same : m ≡ x.lock.mutation =
      one_does w.declared u x.lock.start k m x.lock.mutation (sym x.own) does
      ((i.keys k).lock x.lock x.stands).does in
      let own : IsCommitted w.decided x.lock.start c = ap w.decided x.own ∙ end in
      elim (free k x.lock inside x.stands (subst IsVisible same v)) [
        | inl below ↦ omega (arith, below, lock_ends w k x.lock c i x.stands own, upto)
        | inr pass ↦ elim pass [
          | inl gone ↦ (cc (gone, own))
          | inr rest ↦ elim rest [
            | inl done ↦ (let at : done.0 ≡ c = cc (done.1, own) in omega (arith, done.2, at, upto))
            | inr low ↦ elim low [
              | inl y ↦ omega (arith, y.3, (i.commits x.lock.start c own).bounds y.0 y.1 y.2, upto)
              | inr y ↦ omega (arith, y, (i.commits x.lock.start c own).shows, upto)
            ]
          ]
        ]
      ]

  -- a record does what its transaction was declared to do
  record_does : (u c : ℕ) (m : Mutation) → Does w.declared u k m → (x : Written (w.cells k) u c) → x.rec.mutation ≡ m
  record_does u c m does x =
      one_does w.declared x.rec.start u k x.rec.mutation m x.own ((i.keys k).records.does c x.rec x.stands) does

  none_between : (at : ℕ) (rec : CommitRecord) → (w.cells k).write at ≡ Some (CommitOf rec) → IsVisible rec.mutation
      → NoneWritten (w.cells k).write at r → NoneBetween table.row k at r
  none_between at rec stands seen none u c m commits v above upto =
      let of = commits_is table w k u c m s commits in
      elim ((i.keys k).kept.complete u c (as_locked m) of.0 of.1) [
        | inl x ↦ none c x.rec x.stands
            (subst IsVisible (sym (record_does u c (as_locked m) of.1 x)) (visible_locked m v)) above upto
        | inr rest ↦ elim rest [
          | inl x ↦ unhidden u c (as_locked m) of.0 of.1 (visible_locked m v) upto x
          | inr gone ↦ (i.keys k).records.newest at rec stands seen (omega (arith, gone.below, above)) u c (as_locked m)
              of.0 of.1 (visible_locked m v) above (omega (arith, gone.below))
        ]
      ]

  sees_put : (v : Value) → Finds (w.cells k).write r v → (m : Mutation) × Newest table.row k r m × (put_by m ≡ Some v)
  sees_put v h =
      let x = is_commits table w k h.rec.start h.at (mutation.Put v) i s
      ((i.keys k).records.committed h.at h.rec h.stands) ((i.keys k).records.does h.at h.rec h.stands
      ∙ ap (λ m. Some m) h.puts) in (
        x.declared,
        record {
          start = h.rec.start;
          at = h.at;
          commits = x.commits;
          upto = h.upto;
          newest =
              none_between h.at h.rec h.stands (subst IsVisible (sym h.puts) tt) h.newest;
        },
        sym (locked_put x.declared) ∙ ap put_by x.does,
      )

  -- the newest put that the machine knows stands on the key
  sees_none : ((v : Value) → Finds (w.cells k).write r v → ⊥) → (m : Mutation) (v : Value) → Newest table.row k r m
      → put_by m ≡ Some v → ⊥
  sees_none h m v new puts =
      let of = commits_is table w k new.start new.at m s new.commits in
      let does : Does w.declared new.start k (mutation.Put v) =
      subst (Does w.declared new.start k) (put_locked m v puts) of.1 in
      elim ((i.keys k).kept.complete new.start new.at (mutation.Put v) of.0 does) [
        | inl x ↦ h v record {
          at = new.at;
          rec = x.rec;
          stands = x.stands;
          puts = record_does new.start new.at (mutation.Put v) does x;
          upto = new.upto;
          newest = λ c rec e seen low high. (let y =
              is_commits table w k rec.start c rec.mutation i s ((i.keys k).records.committed c rec e)
              ((i.keys k).records.does c rec e) in
              new.newest rec.start c y.declared y.commits (is_seen table k rec.start c rec.mutation y seen) low high);
        }
        | inr rest ↦ elim rest [
          | inl x ↦ unhidden new.start new.at (mutation.Put v) of.0 does tt new.upto x
          | inr gone ↦ elim gone.way [
            | inl other ↦ other v refl
            | inr later ↦ (let y =
                is_commits table w k later.start later.at later.mutation i s later.committed later.does in
                new.newest later.start later.at y.declared y.commits
                (is_seen table k later.start later.at later.mutation y later.visible) later.above
                (omega (arith, later.upto, fresh)))
          ]
        ]
      ]

  -- a read of the key gives what the machine sees
  pub sees : (found : Option Value) → Reads (w.cells k).write r found → Sees table.row k r found
  sees (Some v) h = sees_put v h
  sees None h = sees_none h

-- What is told of a refused step is so in the machine's table, and refuses it.
use Rattle.std.proofs.Common.{◌≡◌, ◌≢◌, ℕ, ◌+◌, ◌<◌, ◌≤◌, inl, inr, Bool, true, false, List, [], length, Option, Some, None, refl, sym, ap, subst, ◌∙◌, arith, is_some, IfSome, IfNone, Result, Ok, Err, IfOk}
use Rattle.std.proofs.lemmas.Bool.{cases_order}
use Rattle.std.specs.List.{Contains}
use Rattle.std.specs.declared.ops.Bound.TheVariants.{Included}
use Rattle.std.specs.Ordering.{nat_cmp}
use Rattle.std.specs.BTreeMap as tree
use Rattle.tx_types.specs.declared.key.Key.{Key}
use Rattle.tx_types.specs.declared.value.Value.{Value}
use Rattle.tx_types.specs.declared.fault.Fault.{Fault}
use Rattle.tx_types.specs.declared.mutation.KeyValue.{KeyValue}
use Rattle.tx_types.specs.declared.mutation.Change.{Change}
use Rattle.tx_types.specs.declared.mutation.Mutation.{Mutation}
use Rattle.tx_types.specs.declared.mutation.Mutation.TheVariants as mutation
use Rattle.tx_types.specs.declared.mutation.Fate.{Fate}
use Rattle.tx_types.specs.Keys.{IsVisible, IsInsert, put_by}
use Rattle.tx_machine.specs.declared.commit.Block.{Block}
use Rattle.tx_machine.specs.declared.commit.Block.TheVariants as block
use Rattle.tx_machine.specs.declared.machine.TxnStage.{TxnStage}
use Rattle.tx_machine.specs.declared.machine.TxnStage.TheVariants as stage
use Rattle.tx_machine.specs.declared.reads.Reads.{Reads}
use Rattle.tx_machine.specs.declared.reason.SeenValue.{SeenValue}
use Rattle.tx_machine.specs.declared.reason.SeenValue.TheVariants.{Nothing, Deleted, Left}
use Rattle.tx_machine.specs.declared.reason.Standing.{Standing}
use Rattle.tx_machine.specs.declared.reason.Standing.TheVariants.{Undrawn, Drawn, Begun, Declared, Ended}
use Rattle.tx_machine.specs.declared.versions.Version.{Version}
use Rattle.tx_machine.specs.declared.versions.Writer.{Writer}
use Rattle.tx_machine.specs.Keys.{mutation_at}
use Rattle.tx_machine.specs.Machine.{State, Open, Done, Row, Table, Commits, Sees, Overlap, IsRead, MayCommit}
use Rattle.tx_machine.specs.Shown.{Index, versions_of, SeenOf, Shows}
use Rattle.tx_machine.specs.Versions.{Versions, Fates, Listed, NewestIn, SeenIn}
use Rattle.tx_machine.specs.Representation.{row_of, version_of, IsKept, TellsTable, ListedOn, Blocks}
use Rattle.tx_machine.specs.Why.{SeesOther, IsMisplaced, LeftBy, IsSeen, value_of, Stands, standing_of, IsToDo, IsRefused, StandsTwice, IsOfSet, IsWhy}
use Rattle.tx_machine.specs.declared.machine.Machine.{Machine}
use Rattle.tx_machine.specs.declared.reason.Why.{Why}
use Rattle.tx_machine.specs.declared.reason.Why.TheVariants as why
use Rattle.tx_machine.specs.declared.step.ScanRead.{ScanRead}
use Rattle.tx_machine.specs.declared.step.Step.TheVariants.{Draw, Begin, Declare, Commit, Abort, Read, Scan, Answer}
use Rattle.tx_machine.specs.Scans.{Differs}
use Rattle.tx_types.specs.Keys.{value_in}
use Rattle.tx_machine.proofs.Basics.{some_same}
use Rattle.tx_machine.proofs.Distinct.{contained, twice_not_distinct}
use Rattle.tx_machine.proofs.CommitSteps.{on_commit, commit_on, not_blocked}
use Rattle.tx_machine.proofs.Differences.{not_misplaced, shown_placed}
use Rattle.tx_machine.proofs.ReadSteps.{shows_sees, sees_shows, sees_rows_shown}

-- ---- what a read sees

pub put_visible : (m : Mutation) (v : Value) → put_by m ≡ Some v → IsVisible m
put_visible (mutation.Put w) v e = tt
put_visible (mutation.Insert w) v e = tt
put_visible mutation.Delete v e = tt
put_visible mutation.Lock v e = absurd (cc e)

same_version : (o : Option Version) (u w : ℕ) (m n : Mutation) → o ≡ Some record { start = u; mutation = m }
    → o ≡ Some record { start = w; mutation = n } → m ≡ n
same_version o u w m n d e =
    let same : ◌≡◌ {A = Version} record { start = u; mutation = m } record { start = w; mutation = n } =
    some_same _ _ (sym d ∙ e) in
    ap (λ (v : Version). v.mutation) same

module _ (versions : Versions) (fates : Fates) (r : ℕ) where
  -- the newest commit that reads see is one
  one_newest : (m n : Mutation) → NewestIn versions fates r m → IsVisible m → NewestIn versions fates r n → IsVisible n
      → m ≡ n
  one_newest m n x seen y other = elim (cases_order x.at y.at) [
    | inl e ↦ same_version (tree.get nat_cmp versions y.at) x.start y.start m n
        (subst (λ (c : ℕ). tree.get nat_cmp versions c
        ≡ Some record { start = x.start; mutation = m }) e x.listed.version) y.listed.version
    | inr o ↦ elim o [
      | inl lt ↦ absurd (x.newest y.start y.at n y.listed other lt y.upto)
      | inr gt ↦ absurd (y.newest x.start x.at m x.listed seen gt x.upto)
    ]
  ]

  newest_of : (by : Writer) (m : Mutation) → LeftBy (Listed versions fates) r by m → NewestIn versions fates r m
  newest_of by m x = record {
    start = by.start;
    at = by.commit;
    listed = x.commits;
    upto = x.upto;
    newest =
        λ u c n y seen low high. x.newest u c n y seen low high;
  }

  left_by : (m : Mutation) (x : NewestIn versions fates r m) → IsVisible m → (v : Option Value) → put_by m ≡ v
      → SeenIn versions fates r v
  left_by m x seen (Some v) e = (m, x, e)
  left_by m x seen None e = λ n v y puts. cc (e, puts, one_newest m n x seen y (put_visible n v puts))

  -- what the newest commit leaves is what is seen
  pub seen_left : (by : Writer) (m : Mutation) → LeftBy (Listed versions fates) r by m
      → SeenIn versions fates r (put_by m)
  seen_left by m x = left_by m (newest_of by m x) x.visible (put_by m) refl

  pub seen_nothing : IsSeen (Listed versions fates) r Nothing → SeenIn versions fates r None
  seen_nothing none = λ m v y puts. none y.start y.at m y.listed (put_visible m v puts) y.upto

  seen_value : (s : SeenValue) → IsSeen (Listed versions fates) r s → SeenIn versions fates r (value_of s)
  seen_value Nothing x = seen_nothing x
  seen_value (Deleted by) (m, x, e) = left_by m (newest_of by m x) x.visible None e
  seen_value (Left v by) (m, x, e) = left_by m (newest_of by m x) x.visible (Some v) e

  one_seen : (a b : Option Value) → SeenIn versions fates r a → SeenIn versions fates r b → a ≡ b
  one_seen None None x y = refl
  one_seen None (Some w) x (n, y, puts) = absurd (x n w y puts)
  one_seen (Some v) None (m, x, puts) y = absurd (y m v x puts)
  one_seen (Some v) (Some w) (m, x, puts) (n, y, other) =
      cc (puts, other, one_newest m n x (put_visible m v puts) y (put_visible n w other))

-- commits that are the same leave the same
module _ (A B : ℕ → ℕ → Mutation → Type 0) (to : (u c : ℕ) (m : Mutation) → A u c m
    → B u c m) (back : (u c : ℕ) (m : Mutation) → B u c m → A u c m) where
  left_same : (r : ℕ) (by : Writer) (m : Mutation) → LeftBy A r by m → LeftBy B r by m
  left_same r by m x = record {
    commits = to by.start by.commit m x.commits;
    visible = x.visible;
    upto = x.upto;
    newest
        = λ u c n y. x.newest u c n (back u c n y);
  }

  pub seen_same : (r : ℕ) (s : SeenValue) → IsSeen A r s → IsSeen B r s
  seen_same r Nothing x = λ u c m y. x u c m (back u c m y)
  seen_same r (Deleted by) (m, x, e) = (m, left_same r by m x, e)
  seen_same r (Left v by) (m, x, e) = (m, left_same r by m x, e)

module _ (fates : Fates) (r : ℕ) where
  on_value : (o : Option Versions) (s : SeenValue) → IsSeen (ListedOn o fates) r s → SeenOf o fates r (value_of s)
  on_value None Nothing x = refl
  on_value None (Deleted by) (m, x, e) = absurd x.commits
  on_value None (Left v by) (m, x, e) = absurd x.commits
  on_value (Some versions) s x = seen_value versions fates r s x

  one_on : (o : Option Versions) (a b : Option Value) → SeenOf o fates r a → SeenOf o fates r b → a ≡ b
  one_on None a b x y = x ∙ sym y
  one_on (Some versions) a b x y = one_seen versions fates r a b x y

-- what is seen of the versions of a key, as they are looked up
pub seen_at : (fates : Fates) (r : ℕ) (o : Option Versions) (versions : Versions) (s : SeenValue) → o ≡ Some versions
    → IsSeen (Listed versions fates) r s → IsSeen (ListedOn o fates) r s
seen_at fates r o versions s e x = subst (λ (q : Option Versions). IsSeen (ListedOn q fates) r s) (sym e) x

pub seen_none : (fates : Fates) (r : ℕ) (o : Option Versions) → o ≡ None → IsSeen (ListedOn o fates) r Nothing
seen_none fates r o e =
    subst (λ (q : Option Versions). IsSeen (ListedOn q fates) r Nothing) (sym e) (λ u c m x seen upto. x)

-- ---- write sets

row_same : (a b : List Change) (o : Option Row) → o ≡ Some record { changes = Some a; state = Open }
    → o ≡ Some record { changes = Some b; state = Open } → a ≡ b
row_same a b o d e =
    let same : ◌≡◌ {A = Row} record { changes = Some a; state = Open } record { changes = Some b; state = Open } =
    some_same _ _ (sym d ∙ e) in
    some_same _ _ (ap (λ (r : Row). r.changes) same)

-- what an open transaction is to do is in each of its sets
pub does_in : (table : Table) (t : ℕ) (k : Key) (m : Mutation) (set : List Change) → IsToDo table t k m
    → table.row t ≡ Some record { changes = Some set; state = Open } → mutation_at set k ≡ Some m
does_in table t k m set w e =
    ap (λ (xs : List Change). mutation_at xs k) (row_same set w.set (table.row t) e w.opened) ∙ w.does

is_insert : (m : Mutation) → IsInsert m → (v : Value) × (m ≡ mutation.Insert v)
is_insert (mutation.Put v) h = absurd h
is_insert (mutation.Insert v) h = (v, refl)
is_insert mutation.Delete h = absurd h
is_insert mutation.Lock h = absurd h

module _ (last : ℕ) (stages : ℕ → Option TxnStage) (fates : Fates) (index : Index) (reads : Reads) (table : Table)
    (tells : TellsTable last stages (tree.get nat_cmp fates) (version_of index) (IsKept index reads) table) where
  abbrev Here : Key → ℕ → ℕ → Mutation → Type 0
  Here k u c m = ListedOn (versions_of index k) fates u c m

  -- ---- reads

  -- what the versions of a key leave is what the table's commits leave
  pub seen_table : (k : Key) (r : ℕ) (s : SeenValue) → IsSeen (ListedOn (versions_of index k) fates) r s
      → IsSeen (Commits table.row k) r s
  seen_table k r s x = seen_same (Here k) (Commits table.row k) (on_commit last stages fates index reads table tells k)
      (commit_on last stages fates index reads table tells k) r s x

  pub shows_value : (k : Key) (r : ℕ) (s : SeenValue) → IsSeen (ListedOn (versions_of index k) fates) r s
      → Shows index fates k r (value_of s)
  shows_value k r s x = on_value fates r (versions_of index k) s x

  -- the table sees nothing else
  pub sees_one : (k : Key) (r : ℕ) (s : SeenValue) (found : Option Value) → IsSeen (Commits table.row k) r s
      → Sees table.row k r found → value_of s ≡ found
  sees_one k r s found x y =
      one_on fates r (versions_of index k) (value_of s) found
      (on_value fates r (versions_of index k) s
      (seen_same (Commits table.row k) (Here k) (commit_on last stages fates index reads table tells k)
      (on_commit last stages fates index reads table tells k) r s x))
      (sees_shows last stages fates index reads table tells k r found y)

  -- what is seen is what the step says
  pub sees_value : (k : Key) (r : ℕ) (s : SeenValue) (found : Option Value)
      → IsSeen (ListedOn (versions_of index k) fates) r s → value_of s ≡ found → Sees table.row k r found
  sees_value k r s found x e =
      shows_sees last stages fates index reads table tells k r found
      (subst (λ (o : Option Value). Shows index fates k r o) e (shows_value k r s x))

  pub shows_one : (k : Key) (r : ℕ) (s : SeenValue) (found : Option Value)
      → IsSeen (ListedOn (versions_of index k) fates) r s → value_of s ≡ found → Shows index fates k r found
  shows_one k r s found x e = subst (λ (o : Option Value). Shows index fates k r o) e (shows_value k r s x)

  -- ---- how far a transaction has come

  stands_so : (t : ℕ) (o : Option TxnStage) (f : Option Fate) → table.drawn t ≡ is_some o → table.row t ≡ row_of o f
      → Stands table t (standing_of o f)
  stands_so t None f d e = d
  stands_so t (Some stage.Drawn) f d e = (d, e)
  stands_so t (Some stage.Begun) None d e = e
  stands_so t (Some (stage.Declared set)) None d e = (set, e)
  stands_so t (Some stage.Begun) (Some fate) d e = (None, e)
  stands_so t (Some (stage.Declared set)) (Some fate) d e = (Some set, e)

  pub stands : (t : ℕ) → Stands table t (standing_of (stages t) (tree.get nat_cmp fates t))
  stands t = stands_so t (stages t) (tree.get nat_cmp fates t) (tells.drawn t) (tells.row t)

  pub stands_is : (t : ℕ) (is wanted : Standing) → is ≡ standing_of (stages t) (tree.get nat_cmp fates t) → is ≡ wanted
      → Stands table t wanted
  stands_is t is wanted e f = subst (λ (s : Standing). Stands table t s) (sym e ∙ f) (stands t)

  pub stands_at : (t : ℕ) (is : Standing) → is ≡ standing_of (stages t) (tree.get nat_cmp fates t) → Stands table t is
  stands_at t is e = subst (λ (s : Standing). Stands table t s) (sym e) (stands t)

  -- ---- commits

  module _ (t : ℕ) (set : List Change) (declared : stages t
      ≡ Some (stage.Declared set)) (going : tree.get nat_cmp fates t ≡ None) where
    pub opened : table.row t ≡ Some record { changes = Some set; state = Open }
    opened = tells.row t ∙ (ap (λ (o : Option TxnStage). row_of o (tree.get nat_cmp fates t)) declared
        ∙ ap (row_of (Some (stage.Declared set))) going)

    pub writes : (change : Change) → Contains set change → IsToDo table t change.key change.mutation
    writes change among =
        record { set = set; opened = opened; does = contained set change (tells.distinct t set Open opened) among }

    pub conflicts : (c : ℕ) (change : Change) (by : Writer) → Contains set change
        → Blocks index fates reads t c change (block.Conflict by)
        → (m : Mutation) × (n : Mutation) × IsToDo table t change.key m
        × Commits table.row change.key by.start by.commit n × Overlap t c by.start by.commit
    conflicts c change by among x = (
      change.mutation,
      x.0,
      writes change among,
      on_commit last stages fates index reads table tells change.key by.start by.commit x.0 x.1,
      x.2,
    )

    pub is_read : (c r : ℕ) (change : Change) → Contains set change → Blocks index fates reads t c change (block.Read r)
        → (m : Mutation) × IsToDo table t change.key m × IsVisible m × IsRead table.reads change.key r
    is_read c r change among x = (
      change.mutation,
      writes change among,
      x.0,
      tells.reads.made change.key r x.2,
    )

    pub inserts : (change : Change) → Contains set change → IsInsert change.mutation
        → (v : Value) × IsToDo table t change.key (mutation.Insert v)
    inserts change among h =
        let is = is_insert change.mutation h in
        (is.0, subst (λ (m : Mutation). IsToDo table t change.key m) is.1 (writes change among))

  -- ---- the reasons

  row_drawn : (t : ℕ) (r : Row) (o : Option TxnStage) → table.drawn t ≡ is_some o
      → table.row t ≡ row_of o (tree.get nat_cmp fates t) → table.row t ≡ Some r → table.drawn t ≡ true
  row_drawn t r None d e some = absurd (cc (sym e ∙ some))
  row_drawn t r (Some x) d e some = d

  abbrev by_state : State → Option (List Change) → Standing
  by_state Open None = Begun
  by_state Open (Some set) = Declared
  by_state (Done fate) changes = Ended fate

  abbrev standing_by : Bool → Option Row → Standing
  standing_by false row = Undrawn
  standing_by true None = Drawn
  standing_by true (Some row) = by_state row.state row.changes

  by_maps : (o : Option TxnStage) (f : Option Fate) → standing_by (is_some o) (row_of o f) ≡ standing_of o f
  by_maps None f = refl
  by_maps (Some stage.Drawn) f = refl
  by_maps (Some stage.Begun) None = refl
  by_maps (Some (stage.Declared set)) None = refl
  by_maps (Some stage.Begun) (Some fate) = refl
  by_maps (Some (stage.Declared set)) (Some fate) = refl

  by_table : (t : ℕ) (drawn : Bool) (row : Option Row) → table.drawn t ≡ drawn → table.row t ≡ row
      → standing_by drawn row ≡ standing_of (stages t) (tree.get nat_cmp fates t)
  by_table t drawn row d e =
      ap (λ (b : Bool). standing_by b row) (sym d ∙ tells.drawn t)
      ∙ ap (standing_by (is_some (stages t))) (sym e ∙ tells.row t) ∙ by_maps (stages t) (tree.get nat_cmp fates t)

  is_drawn : (t : ℕ) (r : Row) → table.row t ≡ Some r → table.drawn t ≡ true
  is_drawn t r e = row_drawn t r (stages t) (tells.drawn t) (tells.row t) e

  -- a transaction stands in one way
  only : (t : ℕ) (wanted : Standing) → Stands table t wanted
      → wanted ≡ standing_of (stages t) (tree.get nat_cmp fates t)
  only t Undrawn h = by_table t false (table.row t) h refl
  only t Drawn h = by_table t true None h.0 h.1
  only t Begun h = by_table t true (Some record { changes = None; state = Open }) (is_drawn t _ h) h
  only t Declared (set, h) = by_table t true (Some record { changes = Some set; state = Open }) (is_drawn t _ h) h
  only t (Ended fate) (changes, h) =
      by_table t true (Some record { changes = changes; state = Done fate }) (is_drawn t _ h) h

  module _ (t : ℕ) (is : Standing) (here : is ≡ standing_of (stages t) (tree.get nat_cmp fates t)) where
    other : (wanted : Standing) → is ≢ wanted → Stands table t wanted → ⊥
    other wanted differs h = differs (here ∙ sym (only t wanted h))

    pub begins_not : is ≢ Drawn → IsRefused table (Begin t) (why.State t is)
    begins_not differs = ((refl, (stands_at t is here, differs)), λ a. other Drawn differs a)

    pub declares_not : (set : List Change) → is ≢ Begun → IsRefused table (Declare t set) (why.State t is)
    declares_not set differs = ((refl, (stands_at t is here, differs)), λ a. other Begun differs a.0)

    pub commits_not : (c : ℕ) → is ≢ Declared → IsRefused table (Commit t c) (why.State t is)
    commits_not c differs = ((refl, (stands_at t is here, differs)), λ a. other Declared differs (a.set, a.opened))

    pub answers_not : (fate : Fate) → is ≢ Ended fate → IsRefused table (Answer t fate) (why.State t is)
    answers_not fate differs = ((refl, (stands_at t is here, differs)), λ a. other (Ended fate) differs a)

    aborted : (changes : Option (List Change)) → is ≢ Begun → is ≢ Declared
        → table.row t ≡ Some record { changes = changes; state = Open } → ⊥
    aborted None begun declared e = other Begun begun e
    aborted (Some set) begun declared e = other Declared declared (set, e)

    pub aborts_not : is ≢ Begun → is ≢ Declared → IsRefused table (Abort t) (why.State t is)
    aborts_not begun declared = ((refl, stands_at t is here, begun, declared), λ a. aborted a.0 begun declared a.1)

  pub draws_not : (n : ℕ) → n ≤ last → IsRefused table (Draw n) (why.Last n last)
  draws_not n le = let l = tells.last_is in ((refl, l, le), λ a. let h : table.last < n = a in omega (arith, l, h, le))

  pub reads_late : (k : Key) (r : ℕ) (found : Option Value) → last < r
      → IsRefused table (Read k r found) (why.Last r last)
  reads_late k r found lt = let l = tells.last_is in
      ((refl, l, lt), λ a. let h : r ≤ table.last = a.0 in omega (arith, l, h, lt))

  pub scans_late : (s : ScanRead) → last < s.at → IsRefused table (Scan s) (why.Last s.at last)
  scans_late s lt = let l = tells.last_is in
      ((refl, l, lt), λ a. let h : s.at ≤ table.last = a.0 in omega (arith, l, h, lt))

  pub commits_late : (t c : ℕ) → last + 1 < c → IsRefused table (Commit t c) (why.Last c last)
  commits_late t c lt = let l = tells.last_is in ((refl, l, lt), λ a. let h = a.upto in omega (arith, l, h, lt))

  pub commits_early : (t c : ℕ) → c ≤ t → IsRefused table (Commit t c) (why.Early t c)
  commits_early t c le = ((refl, refl, le), λ a. let h = a.above in omega (arith, h, le))

  pub declares_none : (t : ℕ) (set : List Change) → set ≡ [] → IsRefused table (Declare t set) (why.Empty t)
  declares_none t set none = ((refl, none), λ a. a.1 none)

  pub reads_other : (k : Key) (r : ℕ) (found : Option Value) (s : SeenValue)
      → IsSeen (ListedOn (versions_of index k) fates) r s → value_of s ≢ found
      → IsRefused table (Read k r found) (why.Read k r found s)
  reads_other k r found s x differs = (
    (refl, refl, refl, record { sees = seen_table k r s x; other = differs }),
    λ a. differs (sees_one k r s found (seen_table k r s x) a.1),
  )

  pub scans_other : (s : ScanRead) (k : Key) (seen : SeenValue) → Differs index fates s k
      → IsSeen (ListedOn (versions_of index k) fates) s.at seen
      → IsRefused table (Scan s) (why.Read k s.at (value_in s.rows k) seen)
  scans_other s k seen (covers, differs) x =
      let other : value_of seen ≢ value_in s.rows k = λ e. differs (shows_one k s.at seen (value_in s.rows k) x e) in (
        (refl, refl, covers, record { sees = seen_table k s.at seen x; other = other }),
        λ a. differs (sees_shows last stages fates index reads table tells k s.at (value_in s.rows k)
            (a.1.each k covers)),
      )

  pub counts_over : (s : ScanRead) (n : ℕ) → n ≡ length s.rows → s.limit < n
      → IsRefused table (Scan s) (why.Count n s.limit)
  counts_over s n e lt = ((e, refl, lt), λ a. let h = a.1.upto in omega (arith, e, h, lt))

  pub declares_twice : (t : ℕ) (set : List Change) (k : Key) → StandsTwice set k
      → IsRefused table (Declare t set) (why.Twice t k)
  declares_twice t set k twice = ((refl, twice), λ a. twice_not_distinct set k twice a.2)

  pub scans_order : (s : ScanRead) (k : Key) → IsMisplaced (Included s.from) s.to s.rows k
      → IsRefused table (Scan s) (why.Order k)
  scans_order s k m = (
    m,
    λ a. not_misplaced (Included s.from) s.to s.rows k m
        (shown_placed index fates s (sees_rows_shown last stages fates index reads table tells s a.1)),
  )

-- ---- why a machine does not make a step

module _ (machine : Machine) where
  abbrev Stood : ℕ → Standing
  Stood t = standing_of (tree.get nat_cmp machine.stages t) (tree.get nat_cmp machine.fates t)

  module _ (t : ℕ) (is : Standing) (here : is ≡ Stood t) where
    pub why_begins : (o : Option Why) → IfSome o (λ w. (w ≡ why.State t is) × (is ≢ Drawn)) → IfNone o (is ≡ Drawn)
        → IsWhy machine (Begin t) o
    why_begins None some none = λ table tells.
        stands_is machine.last (tree.get nat_cmp machine.stages) machine.fates machine.index machine.reads table tells t
        is Drawn here none
    why_begins (Some w) some none = λ table tells.
        subst (λ (r : Why). IsRefused table (Begin t) r) (sym some.0)
        (begins_not machine.last (tree.get nat_cmp machine.stages) machine.fates machine.index machine.reads table tells
        t is here some.1)

    pub why_answers : (fate : Fate) (o : Option Why) → IfSome o (λ w. (w ≡ why.State t is) × (is ≢ Ended fate))
        → IfNone o (is ≡ Ended fate) → IsWhy machine (Answer t fate) o
    why_answers fate None some none = λ table tells.
        stands_is machine.last (tree.get nat_cmp machine.stages) machine.fates machine.index machine.reads table tells t
        is (Ended fate) here none
    why_answers fate (Some w) some none = λ table tells.
        subst (λ (r : Why). IsRefused table (Answer t fate) r) (sym some.0)
        (answers_not machine.last (tree.get nat_cmp machine.stages) machine.fates machine.index machine.reads table
        tells t is here fate some.1)

    pub why_declares_state : (set : List Change) (w : Why) → (w ≡ why.State t is) × (is ≢ Begun)
        → IsWhy machine (Declare t set) (Some w)
    why_declares_state set w some = λ table tells.
        subst (λ (r : Why). IsRefused table (Declare t set) r) (sym some.0)
        (declares_not machine.last (tree.get nat_cmp machine.stages) machine.fates machine.index machine.reads table
        tells t is here set some.1)

    pub why_declares_set : (set : List Change) → is ≡ Begun → (o : Option Why) → IsOfSet t set o
        → IsWhy machine (Declare t set) o
    why_declares_set set begun None h = λ table tells. (
      stands_is machine.last (tree.get nat_cmp machine.stages) machine.fates machine.index machine.reads table tells
          t is Begun here begun,
      h.0,
      h.1,
    )
    why_declares_set set begun (Some (why.Empty start)) h = λ table tells.
        subst (λ (q : ℕ). IsRefused table (Declare t set) (why.Empty q)) (sym h.0)
        (declares_none machine.last (tree.get nat_cmp machine.stages) machine.fates machine.index machine.reads table
        tells t set h.1)
    why_declares_set set begun (Some (why.Twice start key)) h = λ table tells.
        subst (λ (q : ℕ). IsRefused table (Declare t set) (why.Twice q key)) (sym h.0)
        (declares_twice machine.last (tree.get nat_cmp machine.stages) machine.fates machine.index machine.reads table
        tells t set key h.1)
    why_declares_set set begun (Some _) h = absurd h

  pub declares_ok : (t : ℕ) (is : Standing) → is ≡ Stood t → (set xs : List Change) → xs ≡ set → is ≡ Begun
      → (r : Result (Option Why) Fault)
      → IfOk r (λ o. IsOfSet t xs o) → IfOk r (λ o. IsWhy machine (Declare t set) o)
  declares_ok t is here set xs same begun (Ok o) h =
      why_declares_set t is here set begun o (subst (λ (ys : List Change). IsOfSet t ys o) same h)
  declares_ok t is here set xs same begun (Err e) h = tt

  pub why_reads : (k : Key) (r : ℕ) (found claims : Option Value) (s : SeenValue) (w : Why)
      → IsSeen (ListedOn (versions_of machine.index k) machine.fates) r s → value_of s ≢ found
      → claims ≡ found → w ≡ why.Read k r claims s → IsWhy machine (Read k r found) (Some w)
  why_reads k r found claims s w x differs e is = λ table tells.
      subst (λ (q : Why). IsRefused table (Read k r found) q) (sym (is ∙ ap (λ (o : Option Value). why.Read k r o s) e))
      (reads_other machine.last (tree.get nat_cmp machine.stages) machine.fates machine.index machine.reads table tells
      k r found s x differs)

  pub why_scans : (s : ScanRead) (k : Key) (claims : Option Value) (seen : SeenValue) (w : Why)
      → Differs machine.index machine.fates s k
      → IsSeen (ListedOn (versions_of machine.index k) machine.fates) s.at seen → claims ≡ value_in s.rows k
      → w ≡ why.Read k s.at claims seen → IsWhy machine (Scan s) (Some w)
  why_scans s k claims seen w differs x e is = λ table tells.
      subst (λ (q : Why). IsRefused table (Scan s) q) (sym (is ∙ ap (λ (o : Option Value). why.Read k s.at o seen) e))
      (scans_other machine.last (tree.get nat_cmp machine.stages) machine.fates machine.index machine.reads table tells
      s k seen differs x)

  pub scans_ok : (s : ScanRead) (k : Key) (claims : Option Value) (seen : SeenValue) (xs : List KeyValue)
      → Differs machine.index machine.fates s k
      → IsSeen (ListedOn (versions_of machine.index k) machine.fates) s.at seen → claims ≡ value_in xs k → xs ≡ s.rows
      → (r : Result Why Fault)
      → IfOk r (λ w. w ≡ why.Read k s.at claims seen) → IfOk r (λ w. IsWhy machine (Scan s) (Some w))
  scans_ok s k claims seen xs differs x e same (Ok w) is =
      why_scans s k claims seen w differs x (e ∙ ap (λ (ys : List KeyValue). value_in ys k) same) is
  scans_ok s k claims seen xs differs x e same (Err f) is = tt

  pub why_order : (s : ScanRead) (k : Key) (w : Why) → IsMisplaced (Included s.from) s.to s.rows k → w ≡ why.Order k
      → IsWhy machine (Scan s) (Some w)
  why_order s k w m is = λ table tells.
      subst (λ (q : Why). IsRefused table (Scan s) q) (sym is)
      (scans_order machine.last (tree.get nat_cmp machine.stages) machine.fates machine.index machine.reads table
      tells s k m)

  module _ (t c : ℕ) (set : List Change) (declared : tree.get nat_cmp machine.stages t
      ≡ Some (stage.Declared set)) (going : tree.get nat_cmp machine.fates t ≡ None)
      (change : Change) (among : Contains set change) (b : Block) (blocks :
      Blocks machine.index machine.fates machine.reads t c change b) (k : Key) (key : k ≡ change.key) where
    never_commits : (table : Table)
        → TellsTable machine.last (tree.get nat_cmp machine.stages) (tree.get nat_cmp machine.fates)
        (version_of machine.index) (IsKept machine.index machine.reads) table → MayCommit table t c → ⊥
    never_commits table tells may =
        not_blocked machine.last (tree.get nat_cmp machine.stages) machine.fates machine.index machine.reads table tells
        t c set declared going change b among blocks may

    pub why_conflicts : (by : Writer) → b ≡ block.Conflict by → IsWhy machine (Commit t c) (Some (why.Conflict k by t))
    why_conflicts by is = λ table tells.
        subst (λ (q : Key). IsRefused table (Commit t c) (why.Conflict q by t)) (sym key) (
          (
            refl,
            conflicts machine.last (tree.get nat_cmp machine.stages) machine.fates machine.index machine.reads
                table tells t set declared going c change by among
                (subst (λ (x : Block). Blocks machine.index machine.fates machine.reads t c change x) is blocks),
          ),
          never_commits table tells,
        )

    pub why_unread : (r : ℕ) → b ≡ block.Read r → IsWhy machine (Commit t c) (Some (why.Unread k r c))
    why_unread r is = λ table tells.
        let x = subst (λ (x : Block). Blocks machine.index machine.fates machine.reads t c change x) is blocks in
        subst (λ (q : Key). IsRefused table (Commit t c) (why.Unread q r c)) (sym key) (
          (
            refl,
            x.1,
            is_read machine.last (tree.get nat_cmp machine.stages) machine.fates machine.index machine.reads
                table tells t set declared going c r change among x,
          ),
          never_commits table tells,
        )

    pub why_exists : (s : SeenValue) → IsSeen (ListedOn (versions_of machine.index k) machine.fates) t s
        → b ≡ block.Exists → IsWhy machine (Commit t c) (Some (why.Exists k t s))
    why_exists s seen is = λ table tells.
        let x = subst (λ (x : Block). Blocks machine.index machine.fates machine.reads t c change x) is blocks in
        let here : IsSeen (ListedOn (versions_of machine.index change.key) machine.fates) t s =
        subst (λ (q : Key). IsSeen (ListedOn (versions_of machine.index q) machine.fates) t s) key seen in
        let inserted = inserts machine.last (tree.get nat_cmp machine.stages) machine.fates machine.index machine.reads
        table tells t set declared going change among x.0 in
        let other : SeesOther table change.key t None s = record {
          sees = seen_table machine.last (tree.get nat_cmp machine.stages) machine.fates machine.index machine.reads
              table tells change.key t s here;
          other = λ e. x.1 (shows_one machine.last (tree.get nat_cmp machine.stages) machine.fates machine.index
              machine.reads table tells change.key t s None here e);
        } in
        subst (λ (q : Key). IsRefused table (Commit t c) (why.Exists q t s)) (sym key)
        ((refl, (inserted.0, inserted.1, other)), never_commits table tells)

-- A commit: what is free is what the table allows, and what is listed is what the table then says.
use Rattle.std.proofs.Common.{zero, suc, ◌≡◌, ◌≢◌, ℕ, ◌+◌, ◌<◌, ◌≤◌, ◌==◌, ◌⊎◌, inl, inr, true, false, cond, List, [], ◌∷◌, take, Option, Some, None, refl, sym, ap, subst, ◌∙◌, arith, is_some}
use Rattle.std.proofs.Common.{Bor}
use Rattle.std.specs.Option.{option_copied}
use Rattle.std.specs.List.{Contains}
use Rattle.std.proofs.lemmas.Bool.{cases_lt}
use Rattle.std.specs.Ordering.{nat_cmp, is_eq}
use Rattle.std.specs.BTreeMap as tree
use Rattle.tx_types.specs.declared.key.Key.{Key}
use Rattle.tx_types.specs.declared.value.Value.{Value}
use Rattle.tx_types.specs.declared.mutation.Change.{Change}
use Rattle.tx_types.specs.declared.mutation.Mutation.{Mutation}
use Rattle.tx_types.specs.declared.mutation.Mutation.TheVariants.{Insert}
use Rattle.tx_types.specs.declared.mutation.Mutation.TheVariants as mutation
use Rattle.tx_types.specs.declared.mutation.Fate.{Fate}
use Rattle.tx_types.specs.declared.mutation.Fate.TheVariants.{Committed}
use Rattle.tx_machine.specs.declared.versions.Version.{Version}
use Rattle.tx_machine.specs.declared.machine.TxnStage.{TxnStage}
use Rattle.tx_machine.specs.declared.machine.TxnStage.TheVariants.{Declared}
use Rattle.tx_machine.specs.declared.reads.Reads.{Reads}
use Rattle.tx_machine.specs.declared.commit.Block.{Block}
use Rattle.tx_machine.specs.declared.commit.Block.TheVariants as block
use Rattle.tx_machine.specs.declared.step.Step.TheVariants.{Commit}
use Rattle.tx_machine.specs.Keys.{mutation_at, is_insert, inserted, IsDistinct}
use Rattle.tx_types.specs.Keys.{IsInsert}
use Rattle.tx_machine.specs.Machine.{State, Open, Done, Rows, Table, Commits, Sees, Overlap, MayCommit, after, with_row, with_read, changes_in}
use Rattle.tx_machine.specs.Versions.{Versions, Fates, Listed}
use Rattle.tx_machine.specs.Noted.{Grows}
use Rattle.tx_machine.specs.Shown.{Index, versions_of, SeenOf}
use Rattle.tx_machine.specs.Representation.{row_of, version_in, version_of, put_version, puts, ListsCommits, KeepsReads, TellsTable, ListedOn, IsKept, InOrder, IsFree, Blocks}
use Rattle.tx_machine.proofs.Basics.{nat_test, key_test, cond_true, cond_false, some_same, nat_same}
use Rattle.tx_machine.proofs.Distinct.{contained}
use Rattle.tx_machine.proofs.Steps.{keeps_more, at, row_done, row_ended, state_in, some_changes, rows, row_here, row_other, one_row}

-- ---- the versions of a write set

-- what a write set puts is its mutation of the key, and else what was
pub puts_is : (t c : ℕ) (set : List Change) (f : Key → ℕ → Option Version) (k : Key) (q : ℕ) → IsDistinct set
    → ((mutation_at set k ≡ None) × (puts t c set f k q ≡ f k q))
    ⊎ ((m : Mutation) × (mutation_at set k ≡ Some m)
    × (puts t c set f k q ≡ cond (c == q) (Some record { start = t; mutation = m }) (f k q)))
puts_is t c [] f k q ds = inl (refl, refl)
puts_is t c (x ∷ xs) f k q ds = elim (puts_is t c xs (put_version t c x f) k q ds.1) [
  | inl h ↦ elim (key_test x.key k) [
    | inl e ↦ inr (x.mutation, cond_true _ _ _ e.0, h.1 ∙ cond_true _ _ _ e.0)
    | inr e ↦ inl (cond_false _ _ _ e.0 ∙ h.0, h.1 ∙ cond_false _ _ _ e.0)
  ]
  | inr h ↦ elim (key_test x.key k) [
    | inl e ↦ absurd (cc (sym (ds.0) ∙ (ap (mutation_at xs) e.1 ∙ h.1)))
    | inr e ↦ inr (
      h.0,
      cond_false _ _ _ e.0 ∙ h.1,
      h.2
          ∙ ap (λ (o : Option Version). cond (c == q) (Some record { start = t; mutation = h.0 }) o)
          (cond_false _ _ _ e.0),
    )
  ]
]

pub mutation_front : (xs : List Change) (n : ℕ) (k : Key) (m : Mutation) → mutation_at (take n xs) k ≡ Some m
    → mutation_at xs k ≡ Some m
mutation_front xs zero k m e = absurd (cc e)
mutation_front [] (suc n) k m e = absurd (cc e)
mutation_front (x ∷ xs) (suc n) k m e = elim (key_test x.key k) [
  | inl h ↦ cond_true _ _ _ h.0 ∙ (sym (cond_true _ _ _ h.0) ∙ e)
  | inr h ↦ cond_false _ _ _ h.0 ∙ mutation_front xs n k m (sym (cond_false _ _ _ h.0) ∙ e)
]

pub no_fate : (o : Option (Bor Fate)) (x : Option Fate) → false ≡ is_some o → option_copied o ≡ x → x ≡ None
no_fate None x e f = sym f
no_fate (Some y) x e f = absurd (cc e)

-- what an insert puts
inserts : (m : Mutation) → IsInsert m → (v : Value) × (m ≡ Insert v)
inserts (mutation.Put v) h = absurd h
inserts (mutation.Insert v) h = (v, refl)
inserts mutation.Delete h = absurd h
inserts mutation.Lock h = absurd h

-- a key that a write set inserts
inserted_is : (o : Option Mutation) → is_insert o ≡ true → (v : Value) × (o ≡ Some (Insert v))
inserted_is None e = absurd (cc e)
inserted_is (Some (mutation.Put v)) e = absurd (cc e)
inserted_is (Some (mutation.Insert v)) e = (v, refl)
inserted_is (Some mutation.Delete) e = absurd (cc e)
inserted_is (Some mutation.Lock) e = absurd (cc e)

done_same : (c d : ℕ) → Done (Committed c) ≡ Done (Committed d) → c ≡ d
done_same c d e = cc

module _ (last : ℕ) (stages : ℕ → Option TxnStage) (fates : Fates) (index : Index) (reads : Reads) (table : Table)
    (tells : TellsTable last stages (tree.get nat_cmp fates) (version_of index) (IsKept index reads) table) where
  -- ---- what is listed is what is committed

  pub commit_listed : (k : Key) (u d : ℕ) (m : Mutation) → Commits table.row k u d m
      → (version_of index k d ≡ Some record { start = u; mutation = m })
      × (tree.get nat_cmp fates u ≡ Some (Committed d))
  commit_listed k u d m x = (
    tells.commits.listed k u d m x,
    (row_done (stages u) (tree.get nat_cmp fates u) x.set (Committed d) (sym (tells.row u) ∙ x.row_is)).1,
  )

  pub listed_commit : (k : Key) (u d : ℕ) (m : Mutation)
      → version_of index k d ≡ Some record { start = u; mutation = m } → tree.get nat_cmp fates u ≡ Some (Committed d)
      → Commits table.row k u d m
  listed_commit k u d m e f =
      let h = tells.commits.declared k d record { start = u; mutation = m } e in
      let is_done : h.1 ≡ Done (Committed d) =
      row_ended (stages u) (Committed d) (Some h.0) h.1 (sym (tells.row u ∙ ap (row_of (stages u)) f) ∙ h.2) in
      record {
        set = h.0;
        row_is = h.2 ∙ ap (λ (s : State). Some record { changes = Some h.0; state = s }) is_done;
        does = h.3;
      }

  on_listed : (o : Option Versions) (u d : ℕ) (m : Mutation) → ListedOn o fates u d m
      → (version_in o d ≡ Some record { start = u; mutation = m }) × (tree.get nat_cmp fates u ≡ Some (Committed d))
  on_listed None u d m x = absurd x
  on_listed (Some versions) u d m x = (x.version, x.committed)

  listed_on : (o : Option Versions) (u d : ℕ) (m : Mutation) → version_in o d ≡ Some record { start = u; mutation = m }
      → tree.get nat_cmp fates u ≡ Some (Committed d) → ListedOn o fates u d m
  listed_on None u d m e f = absurd (cc e)
  listed_on (Some versions) u d m e f = record { version = e; committed = f }

  pub on_commit : (k : Key) (u d : ℕ) (m : Mutation) → ListedOn (versions_of index k) fates u d m
      → Commits table.row k u d m
  on_commit k u d m x = let h = on_listed (versions_of index k) u d m x in listed_commit k u d m h.0 h.1

  pub commit_on : (k : Key) (u d : ℕ) (m : Mutation) → Commits table.row k u d m
      → ListedOn (versions_of index k) fates u d m
  commit_on k u d m x = let h = commit_listed k u d m x in listed_on (versions_of index k) u d m h.0 h.1

  of_versions : (k : Key) (versions : Versions) (u d : ℕ) (m : Mutation) → versions_of index k ≡ Some versions
      → Listed versions fates u d m → Commits table.row k u d m
  of_versions k versions u d m e x =
      listed_commit k u d m (ap (λ (o : Option Versions). version_in o d) e ∙ x.version) x.committed

  committed_same : (u c d : ℕ) → tree.get nat_cmp fates u ≡ Some (Committed c)
      → tree.get nat_cmp fates u ≡ Some (Committed d) → c ≡ d
  committed_same u c d e f = cc (e, f)

  later_starts : (k : Key) (u c v d : ℕ) (m n : Mutation) → Commits table.row k u c m → Commits table.row k v d n
      → c < d → c ≤ v
  later_starts k u c v d m n x y lt = elim (cases_lt v c) [
    | inr ge ↦ ge
    | inl below ↦ elim (nat_test u v) [
      | inl same ↦ absurd (let e : c ≡ d =
          committed_same v c d (subst (λ (w : ℕ). tree.get nat_cmp fates w
          ≡ Some (Committed c)) same.1 (commit_listed k u c m x).1) (commit_listed k v d n y).1 in omega arith)
      | inr other ↦ absurd (tells.commits.apart k u c v d m n x y other.1 (
        let h : u < c =
            tells.commits.above k u c m x in omega arith,
        below,
      ))
    ]
  ]

  -- the commits of each key are in order
  pub in_order : InOrder index fates
  in_order k versions e = record {
    above = λ u c m x. tells.commits.above k u c m (of_versions k versions u c m e x);
    later = λ u c v d m n x y lt. later_starts k u c v d m n (of_versions k versions u c m e x)
        (of_versions k versions v d n e y) lt;
  }

  -- ---- where a read of a key shows no value, the table sees none, and the other way round

  none_by : (k : Key) (r : ℕ) (o : Option Versions) → versions_of index k ≡ o → SeenOf o fates r None
      → Sees table.row k r None
  none_by k r None e x =
      λ m v y puts. subst (λ (o : Option Versions). ListedOn o fates y.start y.at m) e
      (commit_on k y.start y.at m y.commits)
  none_by k r (Some versions) e x = λ m v y puts.
      x m v record {
        start = y.start;
        at = y.at;
        listed = subst (λ (o : Option Versions). ListedOn o fates y.start y.at m) e
            (commit_on k y.start y.at m y.commits);
        upto = y.upto;
        newest = λ u c n z seen low high. y.newest u c n (of_versions k versions u c n e z) seen low high;
      } puts

  shown_by : (k : Key) (r : ℕ) (o : Option Versions) → versions_of index k ≡ o → Sees table.row k r None
      → SeenOf o fates r None
  shown_by k r None e x = refl
  shown_by k r (Some versions) e x = λ m v y puts.
      x m v record {
        start = y.start;
        at = y.at;
        commits = of_versions k versions y.start y.at m e y.listed;
        upto = y.upto;
        newest = λ u c n z seen low high. y.newest u c n
            (subst (λ (o : Option Versions). ListedOn o fates u c n) e (commit_on k u c n z)) seen low high;
      } puts

  -- ---- what is free may be committed

  module _ (t c : ℕ) (set : List Change) (stage : stages t ≡ Some (Declared set)) where
    pub open_row : tree.get nat_cmp fates t ≡ None → table.row t ≡ Some record { changes = Some set; state = Open }
    open_row none = tells.row t
        ∙ (ap (λ (s : Option TxnStage). row_of s (tree.get nat_cmp fates t)) stage
        ∙ ap (row_of (Some (Declared set))) none)

    pub may_commit : tree.get nat_cmp fates t ≡ None → t < c → c ≤ last + 1
        → ((k : Key) (m : Mutation) → mutation_at set k ≡ Some m
        → IsFree index fates reads t c record { key = k; mutation = m })
        → MayCommit table t c
    may_commit none above upto free = record {
      set = set;
      opened = open_row none;
      above = above;
      upto = let e : table.last ≡ last = tells.last_is in omega arith;
      unread = λ k m r e seen x. let kept = tells.reads.kept k r x in
          let below : kept.0 < c = (free k m e).unread seen kept.0 kept.2 in let h : r ≤ kept.0 = kept.1 in omega arith;
      fresh = λ k v e. none_by k t (versions_of index k) refl ((free k (Insert v) e).fresh tt);
      apart = λ k m n u d e x o. (free k m e).apart u d n (commit_on k u d n x) o;
    }

    same_set : (xs : List Change) → tree.get nat_cmp fates t ≡ None
        → table.row t ≡ Some record { changes = Some xs; state = Open } → set ≡ xs
    same_set xs none e = some_same _ _ (some_same _ _ (ap some_changes (sym (open_row none) ∙ e)))

    blocked_by : (may : MayCommit table t c) (change : Change) (b : Block)
        → mutation_at may.set change.key ≡ Some change.mutation → Blocks index fates reads t c change b → ⊥
    blocked_by may change (block.Conflict by) does x =
        may.apart change.key change.mutation x.0 by.start by.commit does
        (on_commit change.key by.start by.commit x.0 x.1) x.2
    blocked_by may change block.Exists does x =
        (let inserted = inserts change.mutation x.0 in
        x.1 (shown_by change.key t (versions_of index change.key) refl
        (may.fresh change.key inserted.0 (does ∙ ap (λ m. Some m) inserted.1))))
    blocked_by may change (block.Read r) does x =
        let h : r < c = may.unread change.key change.mutation r does x.0 (tells.reads.made change.key r x.2) in
        let g : c ≤ r = x.1 in
        omega arith

    -- what is blocked may not
    pub not_blocked : tree.get nat_cmp fates t ≡ None → (change : Change) (b : Block) → Contains set change
        → Blocks index fates reads t c change b → MayCommit table t c → ⊥
    not_blocked none change b in_set blocked may =
        let e : set ≡ may.set = same_set may.set none may.opened in
        let does : mutation_at set change.key ≡ Some change.mutation =
        contained set change (tells.distinct t set Open (open_row none)) in_set in
        blocked_by may change b (ap (λ (xs : List Change). mutation_at xs change.key) (sym e) ∙ does) blocked

    -- ---- versions of a transaction that is not committed yet

    module _ (none : tree.get nat_cmp fates t ≡ None) (may : MayCommit table t c) where
      set_is : set ≡ may.set
      set_is = same_set may.set none may.opened

      apart_of : (k : Key) (m n : Mutation) (u d : ℕ) → mutation_at set k ≡ Some m → Commits table.row k u d n
          → Overlap t c u d → ⊥
      apart_of k m n u d e x o = may.apart k m n u d (ap (λ (xs : List Change). mutation_at xs k) (sym set_is) ∙ e) x o

      pub distinct_set : IsDistinct set
      distinct_set = tells.distinct t set Open (open_row none)

      module _ (part : List Change) (part_distinct : IsDistinct part) (front : (k : Key) (m : Mutation)
          → mutation_at part k ≡ Some m → mutation_at set k ≡ Some m)
          (new : Key → ℕ → Option Version) (put : (k : Key) (q : ℕ)
          → new k q ≡ puts t c part (version_of index) k q) where
        kept_or_own : (k : Key) (q : ℕ)
            → (new k q ≡ version_of index k q)
            ⊎ ((m : Mutation) × (c ≡ q) × (mutation_at set k ≡ Some m)
            × (new k q ≡ Some record { start = t; mutation = m }))
        kept_or_own k q = elim (puts_is t c part (version_of index) k q part_distinct) [
          | inl h ↦ inl (put k q ∙ h.1)
          | inr h ↦ elim (nat_test c q) [
            | inl e ↦ inr (h.0, e.1, front k h.0 h.1, put k q ∙ (h.2 ∙ cond_true _ _ _ e.0))
            | inr e ↦ inl (put k q ∙ (h.2 ∙ cond_false _ _ _ e.0))
          ]
        ]

        still_listed : (k : Key) (u d : ℕ) (m : Mutation) → Commits table.row k u d m
            → new k d ≡ Some record { start = u; mutation = m }
        still_listed k u d m x = elim (kept_or_own k d) [
          | inl e ↦ e ∙ tells.commits.listed k u d m x
          | inr e ↦ absurd (apart_of k e.0 m u d e.2 x (
            let h : t < c = may.above in let g : c ≡ d = e.1 in
                omega arith,
            let h : u < d = tells.commits.above k u d m x in let g : c ≡ d = e.1 in omega arith,
          ))
        ]

        still_declared : (k : Key) (d : ℕ) (v : Version) → new k d ≡ Some v
            → (xs : List Change) × (state : State)
            × (table.row v.start ≡ Some record { changes = Some xs; state = state })
            × (mutation_at xs k ≡ Some v.mutation)
        still_declared k d v e = elim (kept_or_own k d) [
          | inl h ↦ tells.commits.declared k d v (sym h ∙ e)
          | inr h ↦
              let same : record { start = t; mutation = h.0 } ≡ v = some_same _ _ (sym (h.3) ∙ e) in (
                set,
                Open,
                ap (λ (w : Version). table.row w.start) (sym same) ∙ open_row none,
                h.2
                    ∙ ap (λ (w : Version). Some w.mutation) same,
              )
        ]

        -- they stand for nothing
        pub lists_stale : ListsCommits table.row new
        lists_stale = record {
          listed = still_listed;
          declared = still_declared;
          above = tells.commits.above;
          apart =
              tells.commits.apart;
        }

        pub tells_stale : TellsTable last stages (tree.get nat_cmp fates) new (IsKept index reads) table
        tells_stale = record {
          last_is = tells.last_is;
          drawn = tells.drawn;
          range = tells.range;
          row = tells.row;
          ended = tells.ended;
          distinct = tells.distinct;
          commits = lists_stale;
          reads = tells.reads;
        }

      -- ---- once all are listed, the transaction may end

      module _ (new : Key → ℕ → Option Version) (put : (k : Key) (q : ℕ)
          → new k q ≡ puts t c set (version_of index) k q) where
        stale : ListsCommits table.row new
        stale = lists_stale set distinct_set (λ k m e. e) new put

        now : Rows
        now = rows last stages (tree.get nat_cmp fates) (version_of index) (IsKept index reads) table tells t (Some set)
            (Done (Committed c))

        now_here : (q : ℕ) → t ≡ q → now q ≡ Some record { changes = Some set; state = Done (Committed c) }
        unfolding now
        now_here q e = row_here last stages (tree.get nat_cmp fates) (version_of index)
            (IsKept index reads) table tells t
            (Some set) (Done (Committed c)) q e

        now_other : (q : ℕ) → (t == q) ≡ false → now q ≡ table.row q
        unfolding now
        now_other q e = row_other last stages (tree.get nat_cmp fates) (version_of index)
            (IsKept index reads) table tells t
            (Some set) (Done (Committed c)) q e

        -- who is committed now: those before, and this one
        own_or_old : (k : Key) (u d : ℕ) (m : Mutation) → Commits now k u d m
            → ((t ≡ u) × (c ≡ d) × (mutation_at set k ≡ Some m)) ⊎ (((t == u) ≡ false) × Commits table.row k u d m)
        own_or_old k u d m x = elim (nat_test t u) [
          | inl e ↦
              let row : Some record { changes = Some set; state = Done (Committed c) }
              ≡ Some record { changes = Some x.set; state = Done (Committed d) } =
              sym (now_here u e.1) ∙ x.row_is in
              let sets : set ≡ x.set = some_same _ _ (some_same _ _ (ap some_changes row)) in
              inl (
                e.1,
                done_same c d (some_same _ _ (ap state_in row)),
                ap (λ (xs : List Change). mutation_at xs k) sets ∙ x.does,
              )
          | inr e ↦ inr (e.0, record { set = x.set; row_is = sym (now_other u e.0) ∙ x.row_is; does = x.does })
        ]

        now_listed : (k : Key) (u d : ℕ) (m : Mutation) → Commits now k u d m
            → new k d ≡ Some record { start = u; mutation = m }
        now_listed k u d m x = elim (own_or_old k u d m x) [
          | inr old ↦ stale.listed k u d m old.1
          | inl own ↦ elim (puts_is t c set (version_of index) k d distinct_set) [
            | inl h ↦ absurd (cc (sym (h.0) ∙ own.2))
            | inr h ↦
                put k d
                ∙ (h.2 ∙ (cond_true _ _ _ (ap (λ (y : ℕ). c == y) (sym (own.1)) ∙ nat_same c)
                ∙ (ap (λ (y : Mutation). Some record { start = t; mutation = y }) (some_same _ _ (sym (h.1) ∙ own.2))
                ∙ ap (λ (y : ℕ). Some record { start = y; mutation = m }) own.0)))
          ]
        ]

        now_declared : (k : Key) (d : ℕ) (v : Version) → new k d ≡ Some v
            → (xs : List Change) × (state : State) × (now v.start ≡ Some record { changes = Some xs; state = state })
            × (mutation_at xs k ≡ Some v.mutation)
        now_declared k d v e =
            let h = stale.declared k d v e in
            elim (nat_test t v.start) [
              | inr x ↦ (h.0, h.1, now_other v.start x.0 ∙ h.2, h.3)
              | inl x ↦
                  let sets : set ≡ h.0 =
                  some_same _ _ (some_same _ _
                  (ap some_changes (sym (open_row none) ∙ (ap table.row x.1 ∙ h.2)))) in (
                    set,
                    Done (Committed c),
                    now_here v.start x.1,
                    ap (λ (xs : List Change). mutation_at xs k) sets
                        ∙ h.3,
                  )
            ]

        now_above : (k : Key) (u d : ℕ) (m : Mutation) → Commits now k u d m → u < d
        now_above k u d m x = elim (own_or_old k u d m x) [
          | inr old ↦ stale.above k u d m old.1
          | inl own ↦ let h : t < c = may.above in let a : t ≡ u = own.0 in let b : c ≡ d = own.1 in omega arith
        ]

        now_apart : (k : Key) (u e v d : ℕ) (m n : Mutation) → Commits now k u e m → Commits now k v d n → u ≢ v
            → Overlap u e v d → ⊥
        now_apart k u e v d m n x y other o = elim (own_or_old k u e m x) [
          | inr old ↦ elim (own_or_old k v d n y) [
            | inr old2 ↦ stale.apart k u e v d m n old.1 old2.1 other o
            | inl own ↦ apart_of k n m u e own.2 old.1 (let h : u < d = o.0 in let g : v < e = o.1 in
                let a : t ≡ v = own.0 in let b : c ≡ d = own.1 in (omega arith, omega arith))
          ]
          | inl own ↦ elim (own_or_old k v d n y) [
            | inl own2 ↦ other (sym (own.0) ∙ own2.0)
            | inr old2 ↦ apart_of k m n v d own.2 old2.1 (let h : u < d = o.0 in let g : v < e = o.1 in
                let a : t ≡ u = own.0 in let b : c ≡ e = own.1 in (omega arith, omega arith))
          ]
        ]

        now_lists : ListsCommits now new
        now_lists = record { listed = now_listed; declared = now_declared; above = now_above; apart = now_apart }

        module _ (new_fates : ℕ → Option Fate) (was : (q : ℕ)
            → new_fates q ≡ cond (is_eq (nat_cmp t q)) (Some (Committed c)) (tree.get nat_cmp fates q))
            (kept : Key → ℕ → Type 0) (grows : Grows (IsKept index reads) kept (inserted (Some set)) t) where
          now_ended : new_fates t ≡ Some (Committed c)
          now_ended = at new_fates (tree.get nat_cmp fates) t (Committed c) was t ∙ cond_true _ _ _ (nat_same t)

          now_keeps : KeepsReads (record { covers = inserted (Some set); at = t } ∷ table.reads) kept
          now_keeps = keeps_more table.reads (IsKept index reads) kept (inserted (Some set)) t tells.reads grows

          one : TellsTable last stages new_fates new kept
              (with_read (with_row table t (Some set) (Done (Committed c))) (inserted (Some set)) t)
          unfolding now
          one =
              one_row last stages (tree.get nat_cmp fates) (version_of index) (IsKept index reads) table tells t
              (Some set)
              (Done (Committed c)) stages new_fates new
              (ap (λ (s : Option TxnStage). row_of s (new_fates t)) stage ∙ ap (row_of (Some (Declared set))) now_ended)
              (λ q e. refl)
              (λ q e. at new_fates (tree.get nat_cmp fates) t (Committed c) was q ∙ cond_false _ _ _ e)
              refl
              (λ xs e. subst (λ (ys : List Change). IsDistinct ys) (some_same _ _ e) distinct_set)
              now_lists
              (record { covers = inserted (Some set); at = t } ∷ table.reads)
              kept
              now_keeps

          pub committed : TellsTable last stages new_fates new kept (after table (Commit t c))
          committed = subst (λ
              (cs : Option (List Change)). TellsTable last stages new_fates new kept
              (with_read (with_row table t cs (Done (Committed c))) (inserted cs) t))
              (sym (ap changes_in (open_row none))) one

-- Between a commit that leaves a value and a later insert of the key lies a delete.
use Rattle.std.proofs.Common.{◌≡◌, ◌≢◌, ℕ, ◌<◌, ◌≤◌, ◌⊎◌, inl, inr, List, [], ◌∷◌, Option, Some, None, refl, sym, ap, subst, ◌∙◌, arith}
use Rattle.std.proofs.lemmas.Bool.{cases_lt}
use Rattle.tx_types.specs.declared.key.Key.{Key}
use Rattle.tx_types.specs.declared.value.Value.{Value}
use Rattle.tx_types.specs.declared.mutation.Change.{Change}
use Rattle.tx_types.specs.declared.mutation.Mutation.{Mutation}
use Rattle.tx_types.specs.declared.mutation.Mutation.TheVariants as mutation
use Rattle.tx_types.specs.declared.mutation.Fate.TheVariants.{Committed}
use Rattle.tx_machine.specs.declared.step.Step.{Step}
use Rattle.tx_machine.specs.declared.step.Step.TheVariants as step
use Rattle.tx_types.specs.Keys.{IsVisible, put_by}
use Rattle.tx_machine.specs.Keys.{mutation_at, is_insert, inserted}
use Rattle.tx_machine.specs.Machine.{Done, Row, Rows, Table, Commits, Newest, Sees, IsRead, MayCommit, Admits, changes_in, after, table_of, IsRun}
use Rattle.tx_machine.proofs.Basics.{nat_test, some_same}
use Rattle.tx_machine.proofs.Snapshots.{AddsNone, above_read, came, here, stands_new, stands_kept, read_next, newest_next, sees_next, put_visible, commits_apart, commits_above}

-- ---- what one commit adds

abbrev commit_of : Step → ℕ
commit_of (step.Commit t c) = c
commit_of _ = 0

-- a commit adds nothing at or below its own start
none_at_start : (table : Table) (t c : ℕ) → MayCommit table t c → (k : Key) → AddsNone table (step.Commit t c) k t
none_at_start table t c may k u d n x seen le = elim (stands_new table (step.Commit t c) may k u d n x) [
  | inl old ↦ old
  | inr new ↦ let same : c ≡ d = ap commit_of new.0 in absurd (omega (arith, same, le, may.above))
]

-- once it is made, a read of what it inserts is kept, and sees no value
reads_insert : (table : Table) (t c : ℕ) → (may : MayCommit table t c) → (k : Key) (v : Value)
    → mutation_at may.set k ≡ Some (mutation.Insert v)
    → IsRead (after table (step.Commit t c)).reads k t × Sees (after table (step.Commit t c)).row k t None
reads_insert table t c may k v does = (
  inl (ap (λ (o : Option Row). inserted (changes_in o) k) may.opened ∙ ap is_insert does, refl),
  sees_next table (step.Commit t c) may k t (none_at_start table t c may k) None (may.fresh k v does),
)

-- what is read at the start of a committed insert sees no value, at any later moment
pub inserts_stay : (steps : List Step) → IsRun steps → (k : Key) (t c : ℕ) (v : Value)
    → Commits (table_of steps).row k t c (mutation.Insert v)
    → IsRead (table_of steps).reads k t × Sees (table_of steps).row k t None
inserts_stay [] run k t c v x = cc (x.row_is)
inserts_stay (s ∷ steps) run k t c v x = elim (stands_new (table_of steps) s run.1 k t c (mutation.Insert v) x) [
  | inl old ↦ let h = inserts_stay steps run.0 k t c v old in (
    read_next (table_of steps) s k t h.0,
    sees_next (table_of steps) s run.1 k t (above_read (table_of steps) s run.1 k t h.0) None h.1,
  )
  | inr new ↦ subst (λ (q : Step). IsRead (after (table_of steps) q).reads k t
      × Sees (after (table_of steps) q).row k t None) (sym new.0)
      (reads_insert (table_of steps) t c new.1.0 k v new.1.1)
]

-- ---- the newest change of a key

-- a commit that is the only new one of k, and puts or deletes it at most at r
record Adds (table : Table) (t c : ℕ) (k : Key) (r : ℕ) : Type 0 where
  pub mutation : Mutation
  pub visible : IsVisible mutation
  pub upto : c ≤ r
  pub commits : Commits (after table (step.Commit t c)).row k t c mutation
  pub alone : (u d : ℕ) (n : Mutation) → Commits (after table (step.Commit t c)).row k u d n
      → Commits table.row k u d n ⊎ (c ≡ d)

sees_test : (m : Mutation) → IsVisible m ⊎ (IsVisible m → ⊥)
sees_test (mutation.Put v) = inl tt
sees_test (mutation.Insert v) = inl tt
sees_test mutation.Delete = inl tt
sees_test mutation.Lock = inr (λ x. x)

module _ (table : Table) (t c : ℕ) (may : MayCommit table t c) (k : Key) (r : ℕ) where
  comes : (u d : ℕ) (n : Mutation) → Commits (after table (step.Commit t c)).row k u d n
      → Commits table.row k u d n ⊎ ((c ≡ d) × (mutation_at may.set k ≡ Some n))
  comes u d n x = elim (came table t (changes_in (table.row t)) (Done (Committed c)) k u d n x) [
    | inl old ↦ inl old
    | inr new ↦
        let set : Some may.set ≡ Some new.1.0 = sym (ap changes_in may.opened) ∙ new.1.1 in
        inr (cc (new.2), ap (λ s. mutation_at s k) (some_same may.set new.1.0 set) ∙ new.1.2)
  ]

  own : (m : Mutation) → mutation_at may.set k ≡ Some m → Commits (after table (step.Commit t c)).row k t c m
  own m does = record {
    set = may.set;
    row_is = here table t (changes_in (table.row t)) (Done (Committed c)) t refl
        ∙ ap (λ (cs : Option (List Change)). Some record { changes = cs; state = Done (Committed c) })
        (ap changes_in may.opened);
    does = does;
  }

  adds_by : (o : Option Mutation) → mutation_at may.set k ≡ o
      → AddsNone table (step.Commit t c) k r ⊎ Adds table t c k r
  adds_by None e = inl (λ u d n x seen le. elim (comes u d n x) [
    | inl old ↦ old
    | inr new ↦ absurd (cc (sym e ∙ new.1))
  ])
  adds_by (Some m) e = elim (sees_test m) [
    | inr hidden ↦ inl (λ u d n x seen le. elim (comes u d n x) [
      | inl old ↦ old
      | inr new ↦ absurd (hidden (subst IsVisible (some_same n m (sym new.1 ∙ e)) seen))
    ])
    | inl visible ↦ elim (cases_lt r c) [
      | inl above ↦ inl (λ u d n x seen le. elim (comes u d n x) [
        | inl old ↦ old
        | inr new ↦ absurd (omega (arith, above, le, new.0))
      ])
      | inr upto ↦ inr (record {
        mutation = m;
        visible = visible;
        upto = upto;
        commits = own m e;
        alone = λ u d n x. elim (comes u d n x) [ inl old ↦ inl old | inr new ↦ inr new.0 ];
      })
    ]
  ]

-- the newest put or delete of k at most at r, or there is none
abbrev pub MayBeNewest : Rows → Key → ℕ → Type 0
MayBeNewest rows k r = ((m : Mutation) × IsVisible m × Newest rows k r m)
    ⊎ ((u c : ℕ) (m : Mutation) → Commits rows k u c m → IsVisible m → c ≤ r → ⊥)

-- no step adds to it
newest_kept : (table : Table) (s : Step) → Admits table s → (k : Key) (r : ℕ) → AddsNone table s k r
    → MayBeNewest table.row k r → MayBeNewest (after table s).row k r
newest_kept table s a k r none (inl (m, seen, w)) = inl (m, seen, newest_next table s a k r none m w)
newest_kept table s a k r none (inr bare) = inr (λ u c m x seen le. bare u c m (none u c m x seen le) seen le)

newest_added : (table : Table) (t c : ℕ) (may : MayCommit table t c) (k : Key) (r : ℕ) → Adds table t c k r
    → MayBeNewest table.row k r → MayBeNewest (after table (step.Commit t c)).row k r
newest_added table t c may k r adds (inr bare) = inl (
  adds.mutation,
  adds.visible,
  record {
    start = t;
    at = c;
    commits = adds.commits;
    upto = adds.upto;
    newest = λ u d n x seen low high. elim (adds.alone u d n x) [
      | inl old ↦ bare u d n old seen high
      | inr same ↦ omega (arith, same, low)
    ];
  },
)
newest_added table t c may k r adds (inl (m, visible, w)) = elim (cases_lt w.at c) [
  | inl lt ↦ inl (
    adds.mutation,
    adds.visible,
    record {
      start = t;
      at = c;
      commits = adds.commits;
      upto = adds.upto;
      newest = λ u d n x seen low high. elim (adds.alone u d n x) [
        | inl old ↦ w.newest u d n old seen (omega (arith, lt, low)) high
        | inr same ↦ omega (arith, same, low)
      ];
    },
  )
  | inr ge ↦ inl (
    m,
    visible,
    record {
      start = w.start;
      at = w.at;
      commits = stands_kept table (step.Commit t c) may k w.start w.at m w.commits;
      upto = w.upto;
      newest = λ u d n x seen low high. elim (adds.alone u d n x) [
        | inl old ↦ w.newest u d n old seen low high
        | inr same ↦ omega (arith, same, low, ge)
      ];
    },
  )
]

-- a step that is no commit adds none
adds_none : (table : Table) (s : Step) → Admits table s → (k : Key) (r : ℕ)
    → ((u d : ℕ) → s ≡ step.Commit u d → ⊥) → AddsNone table s k r
adds_none table s a k r other u d n x seen le = elim (stands_new table s a k u d n x) [
  | inl old ↦ old
  | inr new ↦ absurd (other u d new.0)
]

newest_after : (table : Table) (s : Step) → Admits table s → (k : Key) (r : ℕ) → MayBeNewest table.row k r
    → MayBeNewest (after table s).row k r
newest_after table (step.Commit t c) a k r was = elim (adds_by table t c a k r (mutation_at a.set k) refl) [
  | inl none ↦ newest_kept table (step.Commit t c) a k r none was
  | inr adds ↦ newest_added table t c a k r adds was
]
newest_after table (step.Draw m) a k r was =
    newest_kept table (step.Draw m) a k r (adds_none table (step.Draw m) a k r (λ u d e. cc e)) was
newest_after table (step.Begin t) a k r was =
    newest_kept table (step.Begin t) a k r (adds_none table (step.Begin t) a k r (λ u d e. cc e)) was
newest_after table (step.Declare t set) a k r was =
    newest_kept table (step.Declare t set) a k r (adds_none table (step.Declare t set) a k r (λ u d e. cc e)) was
newest_after table (step.Abort t) a k r was =
    newest_kept table (step.Abort t) a k r (adds_none table (step.Abort t) a k r (λ u d e. cc e)) was
newest_after table (step.Read j q found) a k r was =
    newest_kept table (step.Read j q found) a k r (adds_none table (step.Read j q found) a k r (λ u d e. cc e)) was
newest_after table (step.Scan s) a k r was =
    newest_kept table (step.Scan s) a k r (adds_none table (step.Scan s) a k r (λ u d e. cc e)) was
newest_after table (step.Answer t f) a k r was =
    newest_kept table (step.Answer t f) a k r (adds_none table (step.Answer t f) a k r (λ u d e. cc e)) was

pub find_newest : (steps : List Step) → IsRun steps → (k : Key) (r : ℕ) → MayBeNewest (table_of steps).row k r
find_newest [] run k r = inr (λ u c m x seen le. cc (x.row_is))
find_newest (s ∷ steps) run k r = newest_after (table_of steps) s run.1 k r (find_newest steps run.0 k r)

-- ---- unique keys

-- a transaction is committed at one number, and does one thing to a key
pub commit_same : (rows : Rows) (k : Key) (t c d : ℕ) (m n : Mutation) → Commits rows k t c m → Commits rows k t d n
    → (c ≡ d) × (m ≡ n)
commit_same rows k t c d m n x y =
    let one : Row = record { changes = Some x.set; state = Done (Committed c) } in
    let two : Row = record { changes = Some y.set; state = Done (Committed d) } in
    let same : one ≡ two = some_same one two (sym x.row_is ∙ y.row_is) in
    let state : Done (Committed c) ≡ Done (Committed d) = ap (λ (r : Row). r.state) same in
    let set : x.set ≡ y.set = some_same x.set y.set (ap (λ (r : Row). r.changes) same) in
    (cc state, some_same m n (sym x.does ∙ (ap (λ s. mutation_at s k) set ∙ y.does)))

module _ (steps : List Step) (run : IsRun steps) (k : Key) where
  -- whoever commits k above the start of a committed transaction that changes it, and at most at
  -- its commit, is that transaction
  pub alone : (t c u d : ℕ) (m n : Mutation) → Commits (table_of steps).row k t c m
      → Commits (table_of steps).row k u d n → t < d → d ≤ c → t ≡ u
  alone t c u d m n x y low high = elim (nat_test t u) [
    | inl same ↦ same.1
    | inr other ↦ absurd (commits_apart steps run k t c u d m n x y other.1
        (low, (let h : u < d = commits_above steps run k u d n y in omega (arith, high))))
  ]

  -- two commits of a key at one number do the same
  pub one_at : (t c s e : ℕ) (m n : Mutation) → Commits (table_of steps).row k t c m
      → Commits (table_of steps).row k s e n
      → c ≡ e → m ≡ n
  one_at t c s e m n x y same =
      let h : t < c = commits_above steps run k t c m x in
      let who : t ≡ s = alone t c s e m n x y (omega (arith, same)) (omega (arith, same)) in
      (commit_same (table_of steps).row k t c e m n x
      (subst (λ (q : ℕ). Commits (table_of steps).row k q e n) (sym who) y)).1

  started_above : (t c u d : ℕ) (m n : Mutation) → Commits (table_of steps).row k t c m
      → Commits (table_of steps).row k u d n → c < d → c ≤ u
  started_above t c u d m n x y lt = elim (cases_lt u c) [
    | inr le ↦ le
    | inl below ↦
        let who : u ≡ t = alone u d t c n m y x below (omega (arith, lt)) in
        let same = (commit_same (table_of steps).row k u d c n m y
        (subst (λ (q : ℕ). Commits (table_of steps).row k q c m) (sym who) x)).0 in
        absurd (omega (arith, lt, same))
  ]

  -- a delete of k that was committed above c and at most at r
  abbrev Deleted : ℕ → ℕ → Type 0
  Deleted c r = (s e : ℕ) × Commits (table_of steps).row k s e mutation.Delete × (c < e) × (e ≤ r)

  deleted : (t c r : ℕ) (m : Mutation) (v : Value) → Commits (table_of steps).row k t c m → put_by m ≡ Some v → c ≤ r
      → Sees (table_of steps).row k r None → (n : Mutation) → IsVisible n → Newest (table_of steps).row k r n
      → Deleted c r
  deleted t c r m v x puts le sees (mutation.Put w) visible z = absurd (sees (mutation.Put w) w z refl)
  deleted t c r m v x puts le sees (mutation.Insert w) visible z = absurd (sees (mutation.Insert w) w z refl)
  deleted t c r m v x puts le sees mutation.Lock visible z = absurd visible
  deleted t c r m v x puts le sees mutation.Delete visible z = (z.start, z.at, z.commits, above, z.upto)
    where
      not_same : c ≡ z.at → ⊥
      not_same same = cc (sym puts ∙ ap put_by (one_at t c z.start z.at m mutation.Delete x z.commits same))

      above : c < z.at
      above = elim (cases_lt c z.at) [
        | inl lt ↦ lt
        | inr ge ↦ elim (nat_test c z.at) [
          | inl same ↦ absurd (not_same same.1)
          | inr other ↦ absurd (z.newest t c m x (put_visible m v puts) (below other.1 ge) le)
        ]
      ]
        where
          below : c ≢ z.at → z.at ≤ c → z.at < c
          below other ge = elim (cases_lt z.at c) [
            | inl lt ↦ lt
            | inr le ↦ absurd (other (omega (arith, ge, le)))
          ]

  pub unique : (t c u d : ℕ) (m : Mutation) (v w : Value) → Commits (table_of steps).row k t c m → put_by m ≡ Some v
      → Commits (table_of steps).row k u d (mutation.Insert w) → c < d → Deleted c u
  unique t c u d m v w x puts y lt =
      let le : c ≤ u = started_above t c u d m (mutation.Insert w) x y lt in
      let sees = (inserts_stay steps run k u d w y).1 in
      elim (find_newest steps run k u) [
        | inl z ↦ deleted t c u m v x puts le sees z.0 z.1 z.2
        | inr bare ↦ absurd (bare t c m x (put_visible m v puts) le)
      ]

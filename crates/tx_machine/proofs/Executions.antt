-- The transactions of a run, executed one after the other in the order of their commits.
use Rattle.std.proofs.Common.{◌≡◌, ◌≢◌, ℕ, ◌-◌, ◌<◌, ◌≤◌, ◌==◌, ◌⊎◌, ◌↔◌, inl, inr, false, List, [], ◌∷◌, Option, Some, None, refl, sym, ap, subst, ◌∙◌, arith}
use Rattle.std.proofs.lemmas.Bool.{cases_lt}
use Rattle.tx_types.specs.declared.key.Key.{Key}
use Rattle.tx_types.specs.declared.value.Value.{Value}
use Rattle.tx_types.specs.declared.mutation.Change.{Change}
use Rattle.tx_types.specs.declared.mutation.Mutation.{Mutation}
use Rattle.tx_types.specs.declared.mutation.Mutation.TheVariants as mutation
use Rattle.tx_types.specs.declared.mutation.Fate.{Fate}
use Rattle.tx_types.specs.declared.mutation.Fate.TheVariants.{Committed, Aborted}
use Rattle.tx_machine.specs.declared.step.Step.{Step}
use Rattle.tx_machine.specs.declared.step.Step.TheVariants as step
use Rattle.tx_types.specs.Keys.{IsVisible, put_by}
use Rattle.tx_machine.specs.Keys.{mutation_at}
use Rattle.tx_machine.specs.Machine.{State, Open, Done, Row, Rows, Table, Commits, Newest, Sees, IsRead, MayCommit, Admits, with_row, changes_in, after, table_of, IsRun}
use Rattle.tx_machine.specs.Serial.{IsIn, Txn, IsCommitted, held_by, held, IsByCommit, ReadsSame, IsSerial, LocksReads}
use Rattle.tx_machine.proofs.Basics.{nat_test, key_same, some_same, cond_false}
use Rattle.tx_machine.proofs.Snapshots.{here, open_not_ended, above_read, read_next, sees_next, put_visible, commits_above}
use Rattle.tx_machine.proofs.Inserts.{alone, one_at}
use Rattle.tx_machine.proofs.Serial.{sees_until}

-- ---- what was read is seen

read_sees : (steps : List Step) → IsRun steps → (k : Key) (r : ℕ) (found : Option Value)
    → IsIn steps (step.Read k r found) → IsRead (table_of steps).reads k r × Sees (table_of steps).row k r found
read_sees [] run k r found h = absurd h
read_sees (s ∷ steps) run k r found (inl e) =
    subst (λ (q : Step). IsRun (q ∷ steps) → IsRead (after (table_of steps) q).reads k r
    × Sees (after (table_of steps) q).row k r found) (sym e) (λ now. (inl (key_same k, refl), now.1.1)) run
read_sees (s ∷ steps) run k r found (inr h) =
    let was = read_sees steps run.0 k r found h in (
      read_next (table_of steps) s k r was.0,
      sees_next (table_of steps) s run.1 k r (above_read (table_of steps) s run.1 k r was.0) found was.1,
    )

-- ---- one thing is seen

module _ (rows : Rows) (k : Key) (one : (u c v d : ℕ) (m n : Mutation) → Commits rows k u c m → Commits rows k v d n
    → c ≡ d → m ≡ n) (b : ℕ) where
  newest_one : (m n : Mutation) → IsVisible m → IsVisible n → Newest rows k b m → Newest rows k b n → m ≡ n
  newest_one m n p q x y = elim (cases_lt x.at y.at) [
    | inl lt ↦ absurd (x.newest y.start y.at n y.commits q lt y.upto)
    | inr ge ↦ elim (cases_lt y.at x.at) [
      | inl lt ↦ absurd (y.newest x.start x.at m x.commits p lt x.upto)
      | inr le ↦ one x.start x.at y.start y.at m n x.commits y.commits (omega (arith, ge, le))
    ]
  ]

  sees_one : (f g : Option Value) → Sees rows k b f → Sees rows k b g → f ≡ g
  sees_one None None x y = refl
  sees_one (Some v) None (m, w, puts) y = absurd (y m v w puts)
  sees_one None (Some v) x (m, w, puts) = absurd (x m v w puts)
  sees_one (Some v) (Some u) (m, x, p) (n, y, q) =
      let same = newest_one m n (put_visible m v p) (put_visible n u q) x y in
      sym p ∙ (ap put_by same ∙ q)

  -- ---- what a key holds after some transactions is what is seen

  -- they are committed, and are those that put or delete the key at most at b
  record Are (xs : List Txn) : Type 0 where
    pub ordered : IsByCommit xs
    pub only : (y : Txn) → IsIn xs y → IsCommitted rows y
    pub upto : (y : Txn) (m : Mutation) → IsIn xs y → mutation_at y.set k ≡ Some m → IsVisible m → y.commit ≤ b
    pub all : (y : Txn) (m : Mutation) → IsCommitted rows y → mutation_at y.set k ≡ Some m → IsVisible m → y.commit ≤ b
        → IsIn xs y

  abbrev commit_txn : (u d : ℕ) (m : Mutation) → Commits rows k u d m → Txn
  commit_txn u d m x = record { start = u; commit = d; set = x.set }

  -- without one that leaves the key as it is
  are_rest : (x : Txn) (xs : List Txn) → Are (x ∷ xs)
      → ((m : Mutation) → mutation_at x.set k ≡ Some m → IsVisible m → ⊥) → Are xs
  are_rest x xs are other = record {
    ordered = are.ordered.1;
    only = λ y i. are.only y (inr i);
    upto = λ y m i e v. are.upto y m (inr i) e v;
    all = λ y m c e v le. elim (are.all y m c e v le) [
      | inl same ↦ absurd (other m (ap (λ (z : Txn). mutation_at z.set k) same ∙ e) v)
      | inr i ↦ i
    ];
  }

  -- the first is the newest
  are_first : (x : Txn) (xs : List Txn) → Are (x ∷ xs) → (m : Mutation) → mutation_at x.set k ≡ Some m → IsVisible m
      → Newest rows k b m
  are_first x xs are m e v = record {
    start = x.start;
    at = x.commit;
    commits = record { set = x.set; row_is = are.only x (inl refl); does = e };
    upto = are.upto x m (inl refl) e v;
    newest = λ u d n y seen low high. elim (are.all (commit_txn u d n y) n y.row_is y.does seen high) [
      | inl same ↦ let h : x.commit ≡ d = ap (λ (z : Txn). z.commit) same in omega (arith, h, low)
      | inr i ↦ let h = (are.ordered.0 (commit_txn u d n y) i).0 in omega (arith, h, low)
    ];
  }

  held_on : (x : Txn) (xs : List Txn) → Are (x ∷ xs) → (Are xs → Sees rows k b (held xs k)) → (o : Option Mutation)
      → mutation_at x.set k ≡ o → Sees rows k b (held_by o (held xs k))
  held_on x xs are rest None e = rest (are_rest x xs are (λ m f v. cc (sym e ∙ f)))
  held_on x xs are rest (Some mutation.Lock) e =
      rest (are_rest x xs are (λ m f v. subst IsVisible (some_same m mutation.Lock (sym f ∙ e)) v))
  held_on x xs are rest (Some (mutation.Put w)) e = (mutation.Put w, are_first x xs are (mutation.Put w) e tt, refl)
  held_on x xs are rest (Some (mutation.Insert w)) e =
      (mutation.Insert w, are_first x xs are (mutation.Insert w) e tt, refl)
  held_on x xs are rest (Some mutation.Delete) e = λ m v w puts.
      let first = are_first x xs are mutation.Delete e tt in
      cc (sym puts ∙ ap put_by (newest_one m mutation.Delete (put_visible m v puts) tt w first))

  held_seen : (xs : List Txn) → Are xs → Sees rows k b (held xs k)
  held_seen [] are = λ m v w puts.
      are.all (commit_txn w.start w.at m w.commits) m w.commits.row_is w.commits.does (put_visible m v puts) w.upto
  held_seen (x ∷ xs) are = held_on x xs are (λ a. held_seen xs a) (mutation_at x.set k) refl

-- ---- the transactions of a run

module _ (steps : List Step) (run : IsRun steps) (locks : LocksReads steps) where
  some_mutation : (o : Option Mutation) → o ≢ None → (m : Mutation) × (o ≡ Some m)
  some_mutation None h = absurd (h refl)
  some_mutation (Some m) h = (m, refl)

  -- those of a list are committed, and each other lies above them
  record Begins (xs : List Txn) : Type 0 where
    pub ordered : IsByCommit xs
    pub only : (y : Txn) → IsIn xs y → IsCommitted (table_of steps).row y
    pub rest : (y : Txn) → IsCommitted (table_of steps).row y
        → IsIn xs y ⊎ ((z : Txn) → IsIn xs z → z.commit ≤ y.commit)

  module _ (x : Txn) (xs : List Txn) (begins : Begins (x ∷ xs)) where
    row_of_first : IsCommitted (table_of steps).row x
    row_of_first = begins.only x (inl refl)

    own : (k : Key) (m : Mutation) → mutation_at x.set k ≡ Some m → Commits (table_of steps).row k x.start x.commit m
    own k m e = record { set = x.set; row_is = row_of_first; does = e }

    -- who changes a key of the first commits below it
    below : (k : Key) (m : Mutation) → mutation_at x.set k ≡ Some m → (y : Txn) (n : Mutation) → IsIn xs y
        → mutation_at y.set k ≡ Some n → y.commit < x.commit
    below k m e y n i f = elim (cases_lt y.commit x.commit) [
      | inl lt ↦ lt
      | inr ge ↦
          let h = begins.ordered.0 y i in
          let above : x.start < x.commit = commits_above steps run k x.start x.commit m (own k m e) in
          let theirs : Commits (table_of steps).row k y.start y.commit n =
          record { set = y.set; row_is = begins.only y (inr i); does = f } in
          absurd (h.1 (sym (alone steps run k x.start x.commit y.start y.commit m n (own k m e) theirs
          (omega (arith, ge, above)) h.0)))
    ]

    reads_first : (k : Key) (found : Option Value) → IsIn steps (step.Read k x.start found) → found ≡ held xs k
    reads_first k found i =
        let does = some_mutation (mutation_at x.set k) (locks x k found row_of_first i) in
        let mine = own k does.0 does.1 in
        let above : x.start < x.commit = commits_above steps run k x.start x.commit does.0 mine in
        let one = one_at steps run k in
        sees_one (table_of steps).row k one (x.commit - 1) found (held xs k)
        ((sees_until steps run k x.start x.commit (x.commit - 1) does.0 mine (omega (arith, above))
        (omega (arith, above)) found).0 (read_sees steps run k x.start found i).1)
        (held_seen (table_of steps).row k one (x.commit - 1) xs (record {
          ordered = begins.ordered.1;
          only = λ y j. begins.only y (inr j);
          upto = λ y n j e v. let lt = below k does.0 does.1 y n j e in omega (arith, lt);
          all = λ y n c e v le. elim (begins.rest y c) [
            | inl (inl same) ↦ let h : x.commit ≡ y.commit = ap (λ (z : Txn). z.commit) same in
                absurd (omega (arith, h, le, above))
            | inl (inr j) ↦ j
            | inr later ↦ let h = later x (inl refl) in absurd (omega (arith, h, le, above))
          ];
        }))

    begins_rest : Begins xs
    begins_rest = record {
      ordered = begins.ordered.1;
      only = λ y i. begins.only y (inr i);
      rest = λ y c. elim (begins.rest y c) [
        | inl (inl same) ↦ inr (λ z i. let h = (begins.ordered.0 z i).0 in
            let g : x.commit ≡ y.commit = ap (λ (w : Txn). w.commit) same in omega (arith, h, g))
        | inl (inr i) ↦ inl i
        | inr later ↦ inr (λ z i. later z (inr i))
      ];
    }

  reads_same : (xs : List Txn) → Begins xs → ReadsSame steps xs
  reads_same [] begins = tt
  reads_same (x ∷ xs) begins = (reads_first x xs begins, reads_same xs (begins_rest x xs begins))

-- ---- the list of them

-- a transaction more, in its place
place : (x : Txn) (ys : List Txn) → IsByCommit ys → ((y : Txn) → IsIn ys y → y.start ≢ x.start)
    → (zs : List Txn) × IsByCommit zs × ((z : Txn) → IsIn zs z ↔ ((x ≡ z) ⊎ IsIn ys z))
place x [] by other = (x ∷ [], (λ y i. absurd i, tt), λ z. (λ h. h, λ h. h))
place x (y ∷ ys) by other = elim (cases_lt x.commit y.commit) [
  | inr ge ↦ (
    x ∷ y ∷ ys,
    (
      λ z i. (
        elim i [
          | inl same ↦ let h : y.commit ≡ z.commit = ap (λ (w : Txn). w.commit) same in omega (arith, h, ge)
          | inr j ↦ let h = (by.0 z j).0 in omega (arith, h, ge)
        ],
        other z i,
      ),
      by,
    ),
    λ z. (λ h. h, λ h. h),
  )
  | inl lt ↦ behind lt (place x ys by.1 (λ z i. other z (inr i)))
]
  where
    behind : x.commit < y.commit
        → ((zs : List Txn) × IsByCommit zs × ((z : Txn) → IsIn zs z ↔ ((x ≡ z) ⊎ IsIn ys z)))
        → (zs : List Txn) × IsByCommit zs × ((z : Txn) → IsIn zs z ↔ ((x ≡ z) ⊎ IsIn (y ∷ ys) z))
    behind lt (zs, sorted, are) = (
      y ∷ zs,
      (
        λ z i. elim ((are z).0 i) [
          | inl same ↦ (
            (let h : x.commit ≡ z.commit = ap (λ (w : Txn). w.commit) same in omega (arith, h, lt)),
            λ e. other y (inl refl) (sym e ∙ sym (ap (λ (w : Txn). w.start) same)),
          )
          | inr j ↦ by.0 z j
        ],
        sorted,
      ),
      λ z. (
        λ i. elim i [
          | inl same ↦ inr (inl same)
          | inr j ↦ elim ((are z).0 j) [ inl same ↦ inl same | inr l ↦ inr (inr l) ]
        ],
        λ i. elim i [
          | inl same ↦ inr ((are z).1 (inl same))
          | inr (inl same) ↦ inl same
          | inr (inr l) ↦ inr ((are z).1 (inr l))
        ],
      ),
    )

-- a step leaves those that were committed, or adds one
abbrev Adds : Rows → Rows → Type 0
Adds old new = ((z : Txn) → IsCommitted new z ↔ IsCommitted old z)
    ⊎ ((x : Txn) × ((z : Txn) → IsCommitted new z ↔ ((x ≡ z) ⊎ IsCommitted old z))
    × ((z : Txn) → IsCommitted old z → z.start ≢ x.start))

module _ (table : Table) (t : ℕ) (changes : Option (List Change)) (state : State) where
  abbrev row_changed : Rows
  row_changed = (with_row table t changes state).row

  other_row : (q : ℕ) → (t == q) ≡ false → row_changed q ≡ table.row q
  other_row q e = cond_false (t == q) (Some record { changes = changes; state = state }) (table.row q) e

  same_rows : ((c : ℕ) → state ≡ Done (Committed c) → ⊥)
      → ((set : Option (List Change)) (f : Fate) → table.row t ≡ Some record { changes = set; state = Done f } → ⊥)
      → Adds table.row row_changed
  same_rows never was = inl (λ z. elim (nat_test t z.start) [
    | inl e ↦ (
      λ h. let same = some_same _ _ (sym (here table t changes state z.start e.1) ∙ h) in
          absurd (never z.commit (ap (λ (r : Row). r.state) same)),
      λ h. absurd (was (Some z.set) (Committed z.commit) (ap table.row e.1 ∙ h)),
    )
    | inr e ↦ (λ h. sym (other_row z.start e.0) ∙ h, λ h. other_row z.start e.0 ∙ h)
  ])

txn_is : (x z : Txn) → x.start ≡ z.start → x.commit ≡ z.commit → x.set ≡ z.set → x ≡ z
txn_is x z p q r = λ i. record { start = p i; commit = q i; set = r i }

module _ (table : Table) (t c : ℕ) (may : MayCommit table t c) where
  abbrev changes_then : Option (List Change)
  changes_then = changes_in (table.row t)

  abbrev rows_then : Rows
  rows_then = (with_row table t changes_then (Done (Committed c))).row

  abbrev mine : Txn
  mine = record { start = t; commit = c; set = may.set }

  not_before : (z : Txn) → IsCommitted table.row z → z.start ≢ t
  not_before z h e =
      open_not_ended (table.row t) (Some z.set) (Some may.set) (Committed z.commit) (ap table.row (sym e)
      ∙ h) may.opened

  comes : (z : Txn) → IsCommitted rows_then z → (mine ≡ z) ⊎ IsCommitted table.row z
  comes z h = elim (nat_test t z.start) [
    | inr e ↦ inr (sym (other_row table t changes_then (Done (Committed c)) z.start e.0) ∙ h)
    | inl e ↦
        let ended : Row = record { changes = changes_then; state = Done (Committed c) } in
        let theirs : Row = record { changes = Some z.set; state = Done (Committed z.commit) } in
        let same : ended ≡ theirs =
        some_same ended theirs (sym (here table t changes_then (Done (Committed c)) z.start e.1) ∙ h) in
        let state : Done (Committed c) ≡ Done (Committed z.commit) = ap (λ (r : Row). r.state) same in
        inl (txn_is mine z e.1 (cc state) (some_same may.set z.set (sym (ap changes_in may.opened)
        ∙ ap (λ (r : Row). r.changes) same)))
  ]

  stays : (z : Txn) → (mine ≡ z) ⊎ IsCommitted table.row z → IsCommitted rows_then z
  stays z (inl same) = subst (IsCommitted rows_then) same
      (here table t changes_then (Done (Committed c)) t refl
      ∙ ap (λ (cs : Option (List Change)). Some record { changes = cs; state = Done (Committed c) })
      (ap changes_in may.opened))
  stays z (inr h) = elim (nat_test t z.start) [
    | inl e ↦ absurd (not_before z h (sym e.1))
    | inr e ↦ other_row table t changes_then (Done (Committed c)) z.start e.0 ∙ h
  ]

adds : (table : Table) (s : Step) → Admits table s → Adds table.row (after table s).row
adds table (step.Draw m) a = inl (λ z. (λ h. h, λ h. h))
adds table (step.Begin t) a = same_rows table t None Open (λ c e. cc e) (λ set f e. cc (e, a.1))
adds table (step.Declare t set) a =
    same_rows table t (Some set) Open (λ c e. cc e) (λ was f e. open_not_ended (table.row t) was None f e a.0)
adds table (step.Commit t c) a =
    inr (mine table t c a, (λ z. (comes table t c a z, stays table t c a z)), not_before table t c a)
adds table (step.Abort t) a =
    same_rows table t (changes_in (table.row t)) (Done Aborted) (λ c e. cc e)
    (λ set f e. open_not_ended (table.row t) set a.0 f e a.1)
adds table (step.Read j r found) a = inl (λ z. (λ h. h, λ h. h))
adds table (step.Scan s) a = inl (λ z. (λ h. h, λ h. h))
adds table (step.Answer t f) a = inl (λ z. (λ h. h, λ h. h))

-- the committed transactions of a run, in order
abbrev Ordered : Rows → Type 0
Ordered rows = (order : List Txn) × IsByCommit order × ((x : Txn) → IsCommitted rows x ↔ IsIn order x)

one_more : (old new : Rows) → Ordered old → Adds old new → Ordered new
one_more old new (order, by, are) (inl same) = (
  order,
  by,
  λ z. (λ h. (are z).0 ((same z).0 h), λ i. (same z).1 ((are z).1 i)),
)
one_more old new (order, by, are) (inr (x, more, other)) =
    let placed = place x order by (λ y i. other y ((are y).1 i)) in (
      placed.0,
      placed.1,
      λ z. (
        λ h. (placed.2 z).1 (elim ((more z).0 h) [ inl same ↦ inl same | inr was ↦ inr ((are z).0 was) ]),
        λ i. (more z).1 (elim ((placed.2 z).0 i) [ inl same ↦ inl same | inr was ↦ inr ((are z).1 was) ]),
      ),
    )

find_order : (steps : List Step) → IsRun steps → Ordered (table_of steps).row
find_order [] run = ([], tt, λ x. (λ e. absurd (cc e), λ i. absurd i))
find_order (s ∷ steps) run =
    one_more (table_of steps).row (after (table_of steps) s).row (find_order steps run.0)
    (adds (table_of steps) s run.1)

pub serial : (steps : List Step) → IsRun steps → LocksReads steps → (order : List Txn) × IsSerial steps order
serial steps run locks =
    let found = find_order steps run in (
      found.0,
      record {
        committed = found.2;
        ordered = found.1;
        reads = reads_same steps run locks found.0 (record {
          ordered = found.1;
          only = λ y i. (found.2 y).1 i;
          rest = λ y c. inl ((found.2 y).0 c);
        });
      },
    )

-- Of the commits of a key at most at r one is the newest, and a read at r finds what it left.
use Rattle.std.proofs.Common.{◌≡◌, ◌≢◌, ◌⊎◌, ℕ, zero, suc, ◌<◌, ◌≤◌, inl, inr, List, Option, Some, None, refl, sym, ap, subst, ◌∙◌, arith}
use Rattle.tx_types.specs.declared.key.Key.{Key}
use Rattle.tx_types.specs.declared.value.Value.{Value}
use Rattle.tx_types.specs.declared.mutation.Change.{Change}
use Rattle.tx_types.specs.declared.mutation.Mutation.{Mutation}
use Rattle.tx_types.specs.declared.mutation.Mutation.TheVariants as mutation
use Rattle.tx_types.specs.declared.mutation.Fate.TheVariants.{Committed, Aborted}
use Rattle.tx_types.specs.Keys.{IsVisible, put_by}
use Rattle.tx_machine.specs.Keys.{mutation_at}
use Rattle.tx_machine.specs.Machine.{State, Open, Done, Row, Rows, Commits, Newest, Sees, Overlap}
use Rattle.tx_machine.proofs.Basics.{nat_test, some_same, cases_lt_of, none_is}
use Rattle.tx_laws.specs.Told.{LeftLater, FindsAtLeast}

-- ---- the commit of one row

-- a row is committed
record Made (o : Option Row) : Type 0 where
  pub set : List Change
  pub at : ℕ
  pub is : o ≡ Some record { changes = Some set; state = Done (Committed at) }

abbrev NotMade : Option Row → Type 0
NotMade o = (set : List Change) (c : ℕ) → o ≡ Some record { changes = Some set; state = Done (Committed c) } → ⊥

-- the parts of a committed row
set_is : (row : Row) (set : List Change) (c : ℕ)
    → Some row ≡ Some record { changes = Some set; state = Done (Committed c) } → row.changes ≡ Some set
set_is row set c e = ap (λ (r : Row). r.changes)
    (some_same row record { changes = Some set; state = Done (Committed c) } e)

state_is : (row : Row) (set : List Change) (c : ℕ)
    → Some row ≡ Some record { changes = Some set; state = Done (Committed c) } → row.state ≡ Done (Committed c)
state_is row set c e =
    ap (λ (r : Row). r.state) (some_same row record { changes = Some set; state = Done (Committed c) } e)

made : (o : Option Row) → Made o ⊎ NotMade o
made None = inr (λ set c e. cc (e))
made (Some row) = by row.changes row.state refl refl
  where
    by : (changes : Option (List Change)) (state : State) → row.changes ≡ changes → row.state ≡ state
        → Made (Some row) ⊎ NotMade (Some row)
    by (Some set) (Done (Committed c)) e f =
        inl record { set = set; at = c; is = λ i. Some record { changes = e i; state = f i } }
    by (Some set) (Done Aborted) e f = inr (λ other c is. (let g = state_is row other c is in cc (f, g)))
    by (Some set) Open e f = inr (λ other c is. (let g = state_is row other c is in cc (f, g)))
    by None state e f = inr (λ other c is. (let g = set_is row other c is in cc (e, g)))

-- reads see a change, or they do not
seen : (m : Mutation) → IsVisible m ⊎ (IsVisible m → ⊥)
seen (mutation.Put v) = inl tt
seen (mutation.Insert v) = inl tt
seen mutation.Delete = inl tt
seen mutation.Lock = inr (λ h. h)

number_in : State → ℕ
number_in (Done (Committed c)) = c
number_in _ = 0

-- what leaves a value is seen
put_seen : (m : Mutation) (v : Value) → put_by m ≡ Some v → IsVisible m
put_seen (mutation.Put w) v e = tt
put_seen (mutation.Insert w) v e = tt
put_seen mutation.Delete v e = tt
put_seen mutation.Lock v e = absurd (cc (e))

module _ (rows : Rows) (k : Key) where
  -- a transaction commits once, and does one thing to a key
  one_commit : (u c d : ℕ) (m n : Mutation) → Commits rows k u c m → Commits rows k u d n → (c ≡ d) × (m ≡ n)
  unfolding number_in
  one_commit u c d m n x y =
      let was : Row = record { changes = Some x.set; state = Done (Committed c) } in
      let is : Row = record { changes = Some y.set; state = Done (Committed d) } in
      let same : was ≡ is = some_same was is (sym x.row_is ∙ y.row_is) in
      let set : x.set ≡ y.set = some_same x.set y.set (ap (λ (r : Row). r.changes) same) in
      (ap (λ (r : Row). number_in r.state) same, some_same m n (sym x.does ∙ ap (λ s. mutation_at s k) set ∙ y.does))

  module _ (r : ℕ) where
    -- a transaction is committed at most at r and puts or deletes the key
    record Upto (u : ℕ) : Type 0 where
      pub at : ℕ
      pub does : Mutation
      pub commits : Commits rows k u at does
      pub visible : IsVisible does
      pub upto : at ≤ r

    abbrev NotUpto : ℕ → Type 0
    NotUpto u = (d : ℕ) (m : Mutation) → Commits rows k u d m → IsVisible m → d ≤ r → ⊥

    upto_or : (u : ℕ) → Upto u ⊎ NotUpto u
    upto_or u = elim (made (rows u)) [
      | inl x ↦ by x (mutation_at x.set k) refl
      | inr never ↦ inr (λ d m c v le. never c.set d c.row_is)
    ]
      where
        by : (x : Made (rows u)) (o : Option Mutation) → mutation_at x.set k ≡ o → Upto u ⊎ NotUpto u
        by x None e =
            inr (λ d m c v le.
            (let was : Row = record { changes = Some x.set; state = Done (Committed x.at) } in
            let is : Row = record { changes = Some c.set; state = Done (Committed d) } in
            let same : was ≡ is = some_same was is (sym x.is ∙ c.row_is) in
            let set : x.set ≡ c.set = some_same x.set c.set (ap (λ (r : Row). r.changes) same) in
            let none : Some m ≡ None = sym c.does ∙ ap (λ s. mutation_at s k) (sym set) ∙ e in
            cc (none)))
        by x (Some m) e =
            let here : Commits rows k u x.at m = record { set = x.set; row_is = x.is; does = e } in
            elim (seen m) [
              | inl v ↦ elim (cases_lt_of r x.at) [
                | inl above ↦ inr (λ d n c w le. (let same = one_commit u d x.at n m c here in
                    omega (arith, same.0, above, le)))
                | inr le ↦ inl record { at = x.at; does = m; commits = here; visible = v; upto = le }
              ]
              | inr not_seen ↦ inr (λ d n c w le. (let same = one_commit u d x.at n m c here in
                  not_seen (subst IsVisible same.1 w)))
            ]

    module _ (c : ℕ) where
      -- the newest of those that started below n, or one at c
      record Top (n : ℕ) : Type 0 where
        pub start : ℕ
        pub best : Upto start
        pub least : c ≤ best.at
        pub most : (u d : ℕ) (m : Mutation) → u < n → Commits rows k u d m → IsVisible m → d ≤ r → d ≤ best.at

      top_next : (n : ℕ) → Top n → Top (suc n)
      top_next n top = elim (upto_or n) [
        | inr never ↦ kept never
        | inl x ↦ elim (cases_lt_of top.best.at x.at) [ inl later ↦ taken x later | inr le ↦ passed x le ]
      ]
        where
          below : (u : ℕ) → u < suc n → n ≢ u → u < n
          below u lt other = omega (arith, lt, other)

          kept : NotUpto n → Top (suc n)
          kept never = record {
            start = top.start;
            best = top.best;
            least = top.least;
            most = λ u d m lt x v le. elim (nat_test n u) [
              | inl e ↦
                  absurd (never d m (subst (λ q. Commits rows k q d m) (sym e.1) x) v le)
              | inr e ↦ top.most u d m (below u lt e.1) x v le
            ];
          }

          taken : (x : Upto n) → top.best.at < x.at → Top (suc n)
          taken x later = record {
            start = n;
            best = x;
            least = omega (arith, top.least, later);
            most = λ u d m lt y v le. elim (nat_test n u) [
              | inl e ↦ (let same =
                  one_commit n d x.at m x.does (subst (λ q. Commits rows k q d m) (sym e.1) y) x.commits in
                  omega (arith, same.0))
              | inr e ↦ omega (arith, top.most u d m (below u lt e.1) y v le, later)
            ];
          }

          passed : (x : Upto n) → x.at ≤ top.best.at → Top (suc n)
          passed x low = record {
            start = top.start;
            best = top.best;
            least = top.least;
            most = λ u d m lt y v le. elim (nat_test n u) [
              | inl e ↦ (let same =
                  one_commit n d x.at m x.does (subst (λ q. Commits rows k q d m) (sym e.1) y) x.commits in
                  omega (arith, same.0, low))
              | inr e ↦ top.most u d m (below u lt e.1) y v le
            ];
          }

      top_of : (t : ℕ) (m : Mutation) → Commits rows k t c m → IsVisible m → c ≤ r → (n : ℕ) → Top n
      top_of t m x v le zero = record {
        start = t;
        best = record { at = c; does = m; commits = x; visible = v; upto = le };
        least = omega arith;
        most = λ u d n lt y w upto. absurd (omega (arith, lt));
      }
      top_of t m x v le (suc n) = top_next n (top_of t m x v le n)

-- ---- what a read finds

module _ (rows : Rows) (starts : (j : Key) (u d : ℕ) (m : Mutation) → Commits rows j u d m → u < d)
    (apart : (j : Key) (t c u d : ℕ) (m n : Mutation) → Commits rows j t c m → Commits rows j u d n → t ≢ u
    → Overlap t c u d → ⊥) where
  -- where a commit stands at most at r, one is the newest
  newest_of : (k : Key) (t c r : ℕ) (m : Mutation) → Commits rows k t c m → IsVisible m → c ≤ r
      → (n : Mutation) × IsVisible n × Newest rows k r n
  newest_of k t c r m x v le =
      let top = top_of rows k r c t m x v le r in (
        top.best.does,
        top.best.visible,
        record {
          start = top.start;
          at = top.best.at;
          commits = top.best.commits;
          upto = top.best.upto;
          newest = λ u d n y w above upto. (let low = starts k u d n y in
              omega (arith, above, top.most u d n (omega (arith, low, upto)) y w upto));
        },
      )

  -- the newest commit is the one at c, or lies above it
  found_of : (k : Key) (t c r : ℕ) (m : Mutation) → Commits rows k t c m → IsVisible m → c ≤ r → (n : Mutation)
      → IsVisible n → (w : Newest rows k r n) → (found : Option Value) → put_by n ≡ found
      → FindsAtLeast rows k c r m found
  found_of k t c r m x v le n seen_n w found left =
      elim (cases_lt_of c w.at) [
        | inl above ↦ inr record { does = n; visible = seen_n; newest = w; above = above; left = left }
        | inr low ↦ elim (cases_lt_of w.at c) [
          | inl below ↦ absurd (w.newest t c m x v below le)
          | inr high ↦ (let at : c ≡ w.at = omega (arith, low, high) in elim (nat_test t w.start) [
            | inl e ↦ (let same =
                one_commit rows k t c w.at m n x (subst (λ q. Commits rows k q w.at n) (sym e.1) w.commits) in
                inl (ap put_by same.1 ∙ left))
            | inr e ↦ absurd (let one = starts k t c m x in let other = starts k w.start w.at n w.commits in
                apart k t c w.start w.at m n x w.commits e.1 (omega (arith, one, at), omega (arith, other, at)))
          ])
        ]
      ]

  pub finds : (k : Key) (t c r : ℕ) (m : Mutation) → Commits rows k t c m → IsVisible m → c ≤ r → (found : Option Value)
      → Sees rows k r found → FindsAtLeast rows k c r m found
  finds k t c r m x v le (Some value) (n, w, puts) =
      found_of k t c r m x v le n (put_seen n value puts) w (Some value) puts
  finds k t c r m x v le None none =
      let top = newest_of k t c r m x v le in
      found_of k t c r m x v le top.0 top.1 top.2 None
      (none_is (put_by top.0) (λ value puts. none top.0 value top.2 puts))

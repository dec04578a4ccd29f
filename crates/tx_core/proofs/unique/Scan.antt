-- A scan has one answer: it meets one lock, or gives one list of rows.
use Rattle.std.proofs.Common.{◌≡◌, ◌⊎◌, inl, inr, ℕ, ◌<◌, ◌≤◌, Bool, false, List, [], ◌∷◌, length, Some, refl, sym, ap, subst, ◌∙◌, arith}
use Rattle.std.specs.Prelude.{◌&&◌, ◌||◌, nat_lt, bytes_eq, Contains, IsTrue}
use Rattle.std.proofs.lemmas.Bool.{cases_Bool, cases_lt, and_parts, and_from, or_left, or_right, lt-ltb, ltb-false}
use Rattle.tx_types.specs.declared.key.Key.{Key}
use Rattle.tx_types.specs.declared.mutation.KeyValue.{KeyValue}
use Rattle.tx_plan.specs.declared.body.Scan.{Scan}
use Rattle.tx_plan.specs.declared.answer.Answer.{Answer}
use Rattle.tx_plan.specs.declared.answer.Answer.TheVariants.{Rows, KeyIsLocked}
use Rattle.tx_types.specs.Keys.{key_lt, key_le, value_in, reaches}
use Rattle.tx_plan.specs.Cells.{Cells, info_of}
use Rattle.tx_plan.specs.Reads.{Walked, in_range, covered}
use Rattle.tx_plan.specs.cases.Scan.{GivesRows, MeetsLock, AnswersScan}
use Rattle.tx_plan.proofs.KeyOrder.{ordered, lt_le, le_itself, lt_other, same_key, key_same}
use Rattle.tx_core.proofs.Basics.{or_false, some_same}
use Rattle.tx_core.proofs.unique.Cases.{one_case, same, alike, one_lock, one_read}
use Rattle.tx_core.proofs.unique.KeyLists.{contains_none, contains_first, contains_next, contains_cases, fewer, InOrder, order_once, one_list, rising_in_order}

-- ---- rows by key

-- a row is what rows in order give its key
row_given : (rows : List KeyValue) → InOrder (λ (r : KeyValue). r.key) rows → (r : KeyValue) → Contains rows r
    → value_in rows r.key ≡ Some r.value
row_given [] h r c = absurd (contains_none r c)
row_given (y ∷ rows) h r c =
    elim (contains_cases y rows r c) [
      | inl e ↦ subst (λ (z : KeyValue). value_in (y ∷ rows) z.key ≡ Some z.value) e (rw (key_same y.key) refl)
      | inr later ↦ (rw (lt_other y.key r.key (h.0 r later)) (row_given rows h.1 r later))
    ]

-- what rows give a key is one of them
given_row : (rows : List KeyValue) (r : KeyValue) → value_in rows r.key ≡ Some r.value → Contains rows r
given_row [] r e = absurd (cc (e))
given_row (y ∷ rows) r e =
    elim (cases_Bool (bytes_eq y.key r.key)) [
      | inl here ↦ (let first : value_in (y ∷ rows) r.key ≡ Some y.value = rw here refl in
          let value : y.value ≡ r.value = some_same y.value r.value (sym first ∙ e) in
          subst (Contains (y ∷ rows)) (row_same y r (same_key y.key r.key here) value) (contains_first y rows))
      | inr other ↦ (let past : value_in (y ∷ rows) r.key ≡ value_in rows r.key = rw other refl in
          contains_next y rows r (given_row rows r (sym past ∙ e)))
    ]
  where
    row_same : (a b : KeyValue) → a.key ≡ b.key → a.value ≡ b.value → a ≡ b
    row_same a b k v = λ i. record { key = k i; value = v i }

-- a key at or below that of a row is reached
row_reaches : (rows : List KeyValue) (r : KeyValue) (k : Key) → Contains rows r → IsTrue (key_le k r.key)
    → IsTrue (reaches rows k)
row_reaches [] r k c le = absurd (contains_none r c)
row_reaches (y ∷ rows) r k c le =
    elim (contains_cases y rows r c) [
      | inl e ↦ or_left (key_le k y.key) (reaches rows k) (subst (λ (z : KeyValue). IsTrue (key_le k z.key)) (sym e) le)
      | inr later ↦ or_right (key_le k y.key) (reaches rows k) (row_reaches rows r k later le)
    ]

-- a key that no row reaches lies above each
rows_below : (rows : List KeyValue) (k : Key) → reaches rows k ≡ false → (r : KeyValue) → Contains rows r
    → IsTrue (key_lt r.key k)
rows_below rows k none r c =
    elim (ordered r.key k) [
      | inl lt ↦ lt
      | inr n ↦ absurd (let at : IsTrue (reaches rows k) = row_reaches rows r k c (upto n) in (cc (at, none)))
    ]
  where
    upto : (r.key ≡ k) ⊎ IsTrue (key_lt k r.key) → IsTrue (key_le k r.key)
    upto (inl e) = subst (λ q. IsTrue (key_le k q)) (sym e) (le_itself k)
    upto (inr lt) = lt_le k r.key lt

-- the key of each row of x is reached by y, or lies above all of y
all_reached : (x y : List KeyValue)
    → ((r : KeyValue) → Contains x r → IsTrue (reaches y r.key))
    ⊎ ((r : KeyValue) × Contains x r × (reaches y r.key ≡ false))
all_reached [] y = inl (λ r c. absurd (contains_none r c))
all_reached (z ∷ x) y =
    elim (cases_Bool (reaches y z.key)) [
      | inl here ↦ elim (all_reached x y) [
        | inl rest ↦ inl (λ r c. elim (contains_cases z x r c) [
          | inl e ↦
              subst (λ (w : KeyValue). IsTrue (reaches y w.key)) e here
          | inr later ↦ rest r later
        ])
        | inr past ↦ inr (past.0, contains_next z x past.0 past.1, past.2)
      ]
      | inr none ↦ inr (z, contains_first z x, none)
    ]

-- ---- two walks of one scan

module _ (cells : Key → Cells) (b : Scan) where
  -- what one walk has, another over that key has
  walked_row : (f g : Key → Bool) (x y : List KeyValue) → Walked cells b.at b.bypass f x
      → Walked cells b.at b.bypass g y → (r : KeyValue) → Contains x r → IsTrue (g r.key) → Contains y r
  walked_row f g x y p q r c there =
      let given = row_given x (rising_in_order (λ (r : KeyValue). r.key) x p.rising) r c in
      given_row y r (one_read (cells r.key).write b.at (value_in y r.key) (value_in x r.key) (q.read r.key there)
      (p.read r.key (p.inside r.key r.value given)) ∙ given)

  -- each row of a walk lies where it walked
  row_inside : (f : Key → Bool) (x : List KeyValue) → Walked cells b.at b.bypass f x → (r : KeyValue) → Contains x r
      → IsTrue (f r.key)
  row_inside f x p r c = p.inside r.key r.value (row_given x (rising_in_order (λ (r : KeyValue). r.key) x p.rising) r c)

  -- a walk is no longer than one that has its rows
  walk_fewer : (f : Key → Bool) (x y : List KeyValue) → Walked cells b.at b.bypass f x
      → ((r : KeyValue) → Contains x r → Contains y r) → length x ≤ length y
  walk_fewer f x y p all =
      fewer x y (order_once (λ (r : KeyValue). r.key) x (rising_in_order (λ (r : KeyValue). r.key) x p.rising)) all

  abbrev IsDone : List KeyValue → Type 0
  IsDone rows = Walked cells b.at b.bypass (covered b rows) rows

  row_in_range : (x : List KeyValue) → IsDone x → (r : KeyValue) → Contains x r → IsTrue (in_range b r.key)
  row_in_range x p r c =
      (and_parts (in_range b r.key) (nat_lt (length x) b.limit || reaches x r.key) (row_inside (covered b x) x p r c)).0

  -- ---- rows

  -- what one scan has, the other has, as far as it walked
  done_row : (x y : List KeyValue) → IsDone x → IsDone y → (r : KeyValue) → Contains x r
      → IsTrue (nat_lt (length y) b.limit || reaches y r.key) → Contains y r
  done_row x y p q r c far =
      walked_row (covered b x) (covered b y) x y p q r c
      (and_from (in_range b r.key) (nat_lt (length y) b.limit || reaches y r.key) (row_in_range x p r c) far)

  -- two scans are the same where one has all rows of the other
  same_rows : (x y : List KeyValue) → length y ≤ b.limit → IsDone x → IsDone y
      → ((r : KeyValue) → Contains x r → Contains y r) → x ≡ y
  same_rows x y upto p q all =
      one_list (λ (r : KeyValue). r.key) x y (rising_in_order (λ (r : KeyValue). r.key) x p.rising)
      (rising_in_order (λ (r : KeyValue). r.key) y q.rising) all (no_longer (cases_lt (length x) b.limit))
    where
      no_longer : (length x < b.limit) ⊎ (b.limit ≤ length x) → length y ≤ length x
      no_longer (inl lt) = walk_fewer (covered b y) y x q
          (λ r c. done_row y x q p r c
          (or_left (nat_lt (length x) b.limit) (reaches x r.key) (lt-ltb (length x) b.limit lt)))
      no_longer (inr full) = omega (arith, upto, full)

  -- one of two scans has all rows of the other: the one that walked farther
  one_rows : (x y : List KeyValue) → length x ≤ b.limit → length y ≤ b.limit → IsDone x → IsDone y → x ≡ y
  one_rows x y few upto p q =
      elim (all_reached x y) [
        | inl all ↦ same_rows x y upto p q
            (λ r c. done_row x y p q r c (or_right (nat_lt (length y) b.limit) (reaches y r.key) (all r c)))
        | inr past ↦ sym (same_rows y x few q p
            (λ r c. done_row y x q p r c
            (or_right (nat_lt (length x) b.limit) (reaches x r.key)
            (row_reaches x past.0 r.key past.1 (lt_le r.key past.0.key (rows_below y past.0.key past.2 r c))))))
      ]

  -- ---- locks

  -- a scan meets no lock before the one that ends it
  not_before : (a c : Answer) (x : MeetsLock cells b a) (y : MeetsLock cells b c) → IsTrue (key_lt x.key y.key) → ⊥
  not_before a c x y lt =
      y.before.free x.key x.lock
      (and_from (key_le b.from x.key) (key_lt x.key y.key)
      (and_parts (key_le b.from x.key) (key_lt x.key b.to) x.inside).0 lt) x.blocks

  -- so it meets one lock
  one_met : (a c : Answer) → MeetsLock cells b a → MeetsLock cells b c → a ≡ c
  one_met a c x y =
      elim (ordered x.key y.key) [
        | inl lt ↦ absurd (not_before a c x y lt)
        | inr n ↦ elim n [
          | inl e ↦ (let lock : x.lock ≡ y.lock =
              one_lock (cells y.key).lock x.lock y.lock (subst (λ k. (cells k).lock ≡ Some x.lock) e x.blocks.stands)
              y.blocks.stands in
              let told : info_of x.key x.lock ≡ info_of y.key y.lock =
              ap (λ k. info_of k x.lock) e ∙ ap (info_of y.key) lock in
              x.answer ∙ (ap KeyIsLocked told ∙ sym y.answer))
          | inr gt ↦ absurd (not_before c a y x gt)
        ]
      ]

  -- a scan that meets a lock gives no rows: it would walk over the lock, or have all its rows
  -- before it, and these are too few
  never_both : (a c : Answer) → MeetsLock cells b a → GivesRows cells b c → ⊥
  never_both a c x y = elim (cases_Bool (nat_lt (length y.rows) b.limit || reaches y.rows x.key)) [
    | inl over ↦
        walks_over over
    | inr short ↦
        ends_short (or_false (nat_lt (length y.rows) b.limit) (reaches y.rows x.key) short)
  ]
    where
      walks_over : IsTrue (nat_lt (length y.rows) b.limit || reaches y.rows x.key) → ⊥
      walks_over over = y.walked.free x.key x.lock
          (and_from (in_range b x.key) (nat_lt (length y.rows) b.limit || reaches y.rows x.key) x.inside over) x.blocks

      before : reaches y.rows x.key ≡ false → (r : KeyValue) → Contains y.rows r → Contains x.rows r
      before none r c =
          walked_row (covered b y.rows) (λ k. key_le b.from k && key_lt k x.key) y.rows x.rows y.walked x.before r c
          (and_from (key_le b.from r.key) (key_lt r.key x.key)
          (and_parts (key_le b.from r.key) (key_lt r.key b.to) (row_in_range y.rows y.walked r c)).0
          (rows_below y.rows x.key none r c))

      ends_short : (nat_lt (length y.rows) b.limit ≡ false) × (reaches y.rows x.key ≡ false) → ⊥
      ends_short none = omega (
        arith,
        x.below,
        ltb-false (length y.rows) b.limit none.0,
        walk_fewer (covered b y.rows) y.rows x.rows y.walked (before none.1),
      )

  one_walk : (a c : Answer) → MeetsLock cells b a ⊎ GivesRows cells b a → MeetsLock cells b c ⊎ GivesRows cells b c
      → a ≡ c
  one_walk a c (inl x) (inl y) = one_met a c x y
  one_walk a c (inl x) (inr y) = absurd (never_both a c x y)
  one_walk a c (inr x) (inl y) = absurd (never_both c a y x)
  one_walk a c (inr x) (inr y) =
      alike Rows x.rows y.rows a c (one_rows x.rows y.rows x.upto y.upto x.walked y.walked) x.answer y.answer

  pub one_scan : (safe loaded : ℕ) (a c : Answer) → AnswersScan cells safe loaded b a
      → AnswersScan cells safe loaded b c → a ≡ c
  one_scan safe loaded a c =
      one_case (same _ a c)
      (one_case (same _ a c)
      (one_walk a c))

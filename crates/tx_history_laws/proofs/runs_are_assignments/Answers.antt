-- What is seen is the version that was read, so commits rise along versions.
use Rattle.std.proofs.Common.{◌≡◌, ℕ, ◌+◌, ◌-◌, ◌<◌, ◌≤◌, ◌⊎◌, Contains, arith, inl, inr, zero, suc, refl, sym, ap, ◌∙◌, subst, Some, None}
use Rattle.std.proofs.lemmas.Bool.{cases_lt}
use Rattle.tx_types.specs.declared.key.Key.{Key}
use Rattle.tx_types.specs.declared.value.Value.{Value}
use Rattle.tx_types.specs.declared.mutation.Mutation.{Mutation}
use Rattle.tx_types.specs.declared.mutation.Mutation.TheVariants.{Put, Insert, Delete, Lock}
use Rattle.tx_types.specs.Keys.{IsVisible, put_by}
use Rattle.tx_machine.specs.Machine.{Rows, table_of, Commits, Sees, Newest}
use Rattle.tx_history.specs.declared.recorded.Read.{Read}
use Rattle.tx_history.specs.Histories.{History, HasVersion, IsAssignment}
use Rattle.tx_history_laws.specs.Runs.{IsOf, value_at}
use Rattle.tx_history_laws.proofs.runs_are_assignments.Goals as goal

-- a read at t of k is of version i: that is committed at or below t, and no version that is
-- committed above it is
record IsVersionAt (h : History) (commit : ℕ → ℕ) (k t i : ℕ) : Type 0 where
  upto : HasVersion h k i → commit (h.writer k i) ≤ t
  none : (j : ℕ) → HasVersion h k j → (HasVersion h k i → commit (h.writer k i) < commit (h.writer k j))
      → t < commit (h.writer k j)

-- what holds up to n and at n + 1
last_or : (P : ℕ → Type 0) (n i : ℕ) → i ≤ suc n → (i ≤ n → P i) → P (suc n) → P i
last_or P n i high below last = elim (cases_lt n i) [
  | inl above ↦ (let e : suc n ≡ i = omega (arith, high, above) in subst P e last)
  | inr le ↦ below le
]

-- of those at most at t a greatest, or there is none
best : (f : ℕ → ℕ) (t n : ℕ) → ((i : ℕ) → 1 ≤ i → i ≤ n → t < f i)
    ⊎ ((j : ℕ) × (1 ≤ j) × (j ≤ n) × (f j ≤ t) × ((i : ℕ) → 1 ≤ i → i ≤ n → f i ≤ t → f i ≤ f j))
best f t zero = inl (λ i low high. absurd (omega (arith, low, high)))
best f t (suc n) = elim (cases_lt t (f (suc n))) [
  | inl above ↦ elim (best f t n) [
    | inl all ↦ inl (λ i low high. last_or (λ q. t < f q) n i high (λ le. all i low le) above)
    | inr (j, low, high, upto, top) ↦ inr (
      j,
      low,
      omega (arith, high),
      upto,
      λ i a b le. last_or (λ q. f q ≤ t → f q ≤ f j) n i b (λ lt ok. top i a lt ok)
          (λ ok. absurd (omega (arith, above, ok))) le,
    )
  ]
  | inr within ↦ elim (best f t n) [
    | inl all ↦ inr (
      suc n,
      omega arith,
      omega arith,
      within,
      λ i a b le. last_or (λ q. f q ≤ t → f q ≤ f (suc n)) n i b
          (λ lt ok. absurd (let over = all i a lt in omega (arith, over, ok))) (λ ok. omega arith) le,
    )
    | inr (j, low, high, upto, top) ↦ elim (cases_lt (f j) (f (suc n))) [
      | inl less ↦ inr (
        suc n,
        omega arith,
        omega arith,
        within,
        λ i a b le. last_or (λ q. f q ≤ t → f q ≤ f (suc n)) n i b
            (λ lt ok. (let old = top i a lt ok in omega (arith, old, less))) (λ ok. omega arith) le,
      )
      | inr more ↦ inr (
        j,
        low,
        omega (arith, high),
        upto,
        λ i a b le. last_or (λ q. f q ≤ t → f q ≤ f j) n i b (λ lt ok. top i a lt ok) (λ ok. more) le,
      )
    ]
  ]
]

same_value : (v w : Value) → Some v ≡ Some w → v ≡ w
same_value v w e = grind (arith, e)

puts_are_visible : (m : Mutation) (v : Value) → put_by m ≡ Some v → IsVisible m
puts_are_visible (Put w) v e = tt
puts_are_visible (Insert w) v e = tt
puts_are_visible Delete v e = absurd (grind (arith, e))
puts_are_visible Lock v e = absurd (grind (arith, e))

module _ (h : History) (rows : Rows) (key : ℕ → Key) (value : ℕ → ℕ → Value) (start commit : ℕ → ℕ)
    (rises : (k u c : ℕ) (m : Mutation) → Commits rows (key k) u c m
    → u < c) (o : IsOf h rows key value start commit) where
  above : (k i : ℕ) → HasVersion h k i → start (h.writer k i) < commit (h.writer k i)
  above k i has = rises k _ _ _ (o.commits k i has)

  -- the newest commit is that of the version whose value it put
  found : (k t i : ℕ) → HasVersion h k i → (m : Mutation) → (new : Newest rows (key k) t m)
      → put_by m ≡ Some (value k i) → new.at ≡ commit (h.writer k i)
  found k t i has m new is =
      let (j, within, at, same) = o.only k new.start new.at m new.commits (puts_are_visible m (value k i) is) in
      let e : j ≡ i = o.own k j i within has (same_value _ _ (sym (ap put_by same) ∙ is)) in
      at ∙ ap (λ q. commit (h.writer k q)) e

  none_later : (k t i : ℕ) → HasVersion h k i → (m : Mutation) → (new : Newest rows (key k) t m)
      → put_by m ≡ Some (value k i) → (j : ℕ) → HasVersion h k j
      → commit (h.writer k i) < commit (h.writer k j) → t < commit (h.writer k j)
  none_later k t i has m new is j within lt =
      let at = found k t i has m new is in
      elim (cases_lt t (commit (h.writer k j))) [
        | inl above ↦ above
        | inr upto ↦ absurd (new.newest (start (h.writer k j)) (commit (h.writer k j)) (Put (value k j))
            (o.commits k j within) tt (omega (arith, at, lt)) upto)
      ]

  seen_some : (k t i : ℕ) → HasVersion h k i → Sees rows (key k) t (Some (value k i)) → IsVersionAt h commit k t i
  seen_some k t i has (m, new, is) =
      let at = found k t i has m new is in
      let upto = new.upto in
      record {
        upto = λ _. omega (arith, at, upto);
        none = λ j within less. none_later k t i has m new is j within (less has);
      }

  seen_none : (k t : ℕ) → Sees rows (key k) t None → (j : ℕ) → HasVersion h k j → t < commit (h.writer k j)
  seen_none k t none j within = elim (best (λ i. commit (h.writer k i)) t (h.count k)) [
    | inl all ↦ all j within.0 within.1
    | inr (i, low, high, upto, top) ↦ absurd (none (Put (value k i)) (value k i) record {
      start = start (h.writer k i);
      at = commit (h.writer k i);
      commits = o.commits k i (low, high);
      upto = upto;
      newest = λ u c m is visible lt le. (let (q, has, at, same) = o.only k u c m is visible in
          let over = top q has.0 has.1 (omega (arith, at, le)) in omega (arith, over, at, lt));
    } refl)
  ]

  version_at : (k t i : ℕ) → i ≤ h.count k → Sees rows (key k) t (value_at value k i) → IsVersionAt h commit k t i
  version_at k t zero within sees = record {
    upto = λ has. absurd (omega (arith, has.0));
    none = λ j has _. seen_none k t sees j has;
  }
  version_at k t (suc i) within sees = seen_some k t (suc i) (omega arith, within) sees

  step : (k i j : ℕ) → HasVersion h k i → HasVersion h k j → j ≡ i + 1 → commit (h.writer k i) ≤ start (h.writer k j)
  step k i j has more e =
      let P : ℕ → Type 0 = λ q. HasVersion h k q → commit (h.writer k i) ≤ start (h.writer k q) in
      subst P (sym e) (λ within. (version_at k (start (h.writer k (i + 1))) i has.1 (o.base k i within)).upto has) more

  later : (k i j n : ℕ) → HasVersion h k i → HasVersion h k j → j ≡ i + 1 + n
      → commit (h.writer k i) ≤ start (h.writer k j)
  later k i j zero has more e = step k i j has more (omega (arith, e))
  later k i j (suc n) has more e =
      let within : HasVersion h k (i + 1 + n) = (omega arith, omega (arith, more.1, e)) in
      let before = later k i (i + 1 + n) n has within refl in
      let own = above k (i + 1 + n) within in
      let next = step k (i + 1 + n) j within more (omega (arith, e)) in
      omega (arith, before, own, next)

  apart : (k i j : ℕ) → HasVersion h k i → HasVersion h k j → i < j → commit (h.writer k i) ≤ start (h.writer k j)
  apart k i j has more lt = later k i j (j - (i + 1)) has more (omega arith)

  newest : (r : Read) (j : ℕ) → Contains h.reads r → HasVersion h r.key j → r.version < j
      → start r.txn < commit (h.writer r.key j)
  newest r j is has lt =
      let at = version_at r.key (start r.txn) r.version (omega (arith, has.1, lt)) (o.reads r is) in
      at.none j has (λ old. (let le = apart r.key r.version j old has lt in
      let own = above r.key j has in omega (arith, le, own)))

of_rows : (h : History) (rows : Rows) (key : ℕ → Key) (value : ℕ → ℕ → Value) (start commit : ℕ → ℕ)
    → ((k u c : ℕ) (m : Mutation) → Commits rows (key k) u c m → u < c) → IsOf h rows key value start commit
    → IsAssignment h start commit
of_rows h rows key value start commit rises o = record {
  above = o.ends;
  after = o.after;
  apart = apart h rows key value start commit rises o;
  seen = λ r is has. (version_at h rows key value start commit rises o r.key (start r.txn) r.version has.1
      (o.reads r is)).upto has;
  newest = newest h rows key value start commit rises o;
}

pub returns : goal.returns
returns c h steps key value start commit run o =
    of_rows h (table_of steps).row key value start commit
    (λ k u d m is. c.runs_are_snapshots.ensures.above steps run (key k) u d m is) o

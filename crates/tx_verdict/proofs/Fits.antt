-- Timestamps of a history that is the recording's explain the recording.
use Rattle.std.proofs.Common.{◌≡◌, ◌⊎◌, ◌≢◌, ℕ, ◌+◌, ◌<◌, ◌≤◌, Bool, List, [], ◌∷◌, length, take, Contains, arith, inl, inr, refl, sym, ap, ◌∙◌, subst, zero, suc, IsTrue, eq-eqb}
use Rattle.std.proofs.lemmas.Bool.{cases_eq, cases_lt, cond-true, cond-false, ne_eqb, false≢true}
use Rattle.std.proofs.lemmas.List.{get_or_past, get_or-take, length-take}
use Rattle.tx_recording.specs.declared.recording.RecordedOutcome.TheVariants.{Ok}
use Rattle.tx_recording.specs.declared.recording.Act.TheVariants.{Append, Read}
use Rattle.tx_recording.specs.declared.recording.RecordedOp.{RecordedOp}
use Rattle.tx_recording.specs.declared.recording.Span.{Span}
use Rattle.tx_recording.specs.declared.recording.Orders.{Orders}
use Rattle.tx_recording.specs.declared.recording.RecordedTransaction.{RecordedTransaction}
use Rattle.tx_recording.specs.declared.recording.Recording.{Recording}
use Rattle.tx_recording.specs.Recordings.{txns_of, transaction_at, ops_of, list_of, no_op, no_transaction}
use Rattle.tx_recording.specs.Explanations.{after, op_at, PutsIn, Explanation, IsWriter, Sees, Explains, Precedes}
use Rattle.tx_recording.proofs.Puts.{ends}
use Rattle.tx_views.specs.declared.view.RecordedView.{RecordedView}
use Rattle.tx_views.specs.Views.{AreViews}
use Rattle.tx_clock.proofs.ClockOrder.{is_one}
use Rattle.tx_history.specs.Histories.{History, HasVersion, IsAssignment}
use Rattle.tx_verdict.specs.Fits.{IsFit, last_by, explanation_of}

-- the only version that t wrote is found
found : (writer : ℕ → ℕ) (n t i : ℕ) → 1 ≤ i → i ≤ n → writer i ≡ t
    → ((j : ℕ) → 1 ≤ j → j ≤ n → writer j ≡ t → j ≡ i) → last_by writer n t ≡ i
found writer zero t i low high is only = absurd (omega (arith, low, high))
found writer (suc n) t i low high is only = elim (cases_eq (writer (suc n)) t) [
  | inl same ↦ cond-true _ (suc n) (last_by writer n t) (eq-eqb _ _ same)
      ∙ only (suc n) (omega arith) (omega arith) same
  | inr other ↦ (
      let ne : i ≡ suc n → ⊥ = λ e. other (ap writer (sym e) ∙ is) in
      let le : i ≤ n = omega (arith, high, ne) in
      cond-false _ (suc n) (last_by writer n t) (ne_eqb _ _ other)
      ∙ found writer n t i low le is (λ j a b q. only j a (omega (arith, b)) q)
      )
]

same_act : (s : Span) → Append 0 ≡ Read s → ⊥
same_act s e = (cc)

-- a read is one of the operations
pub within : (r : Recording) (t p : ℕ) (s : Span) → (op_at r t p).act ≡ Read s → p < length (ops_of r t)
within r t p s is = elim (cases_lt p (length (ops_of r t))) [
  | inl lt ↦ lt
  | inr past ↦ absurd (same_act s (sym (ap (λ (o : RecordedOp). o.act) (get_or_past (ops_of r t) p no_op past)) ∙ is))
]

puts_in_more : (os : List RecordedOp) (n k v : ℕ) → PutsIn (take n os) k v → PutsIn os k v
puts_in_more os n k v (o, (i, lt, is), e, p) =
    let m = length-take n os in
    let a : i < n = omega (arith, lt, m) in
    let b : i < length os = omega (arith, lt, m) in
    (o, (i, b, sym (get_or-take n os i o a) ∙ is), e, p)

nothing_is_all : (xs : List ℕ) → xs ≡ 0 ∷ [] → length xs ≡ 0 → ⊥
nothing_is_all xs e none = (let n = ap length e in omega (arith, n, none))

module _ (r : Recording) (orders : Orders) (views : List RecordedView) (h : History) (live : ℕ → Bool)
    (text : ℕ → ℕ → List ℕ)
    (start commit : ℕ → ℕ) (v : AreViews r views) (fit : IsFit r views h live text)
    (a : IsAssignment h start commit) where
  abbrev x : Explanation
  x = explanation_of h live text start commit

  below : (t : ℕ) → IsTrue (live t) → t < h.txns
  below t is = elim (cases_lt t (txns_of r)) [
    | inl lt ↦ (let n = fit.txns in omega (arith, lt, n))
    | inr past ↦ absurd (
        let none = fit.fail t (ap (λ (q : RecordedTransaction). q.outcome)
        (get_or_past r.transactions.items t no_transaction past)) in
        false≢true (sym none ∙ is)
        )
  ]

  above : (t : ℕ) → IsTrue (live t) → start t < commit t
  above t is = a.above t (below t is)

  above_at : (k i : ℕ) → HasVersion h k i → start (h.writer k i) < commit (h.writer k i)
  above_at k i has = above (h.writer k i) (fit.writers k i has).0

  one : (k i j : ℕ) → HasVersion h k i → HasVersion h k j → h.writer k j ≡ h.writer k i → j ≡ i
  one k i j p q same = elim (cases_eq j i) [
    | inl is ↦ is
    | inr ne ↦ absurd (elim (cases_lt j i) [
      | inl lt ↦ (
          let le = a.apart k j i q p lt in
          let up = above_at k i p in
          let e = ap commit same in
          omega (arith, le, up, e)
          )
      | inr ge ↦ (
          let le = a.apart k i j p q (omega (arith, ge, ne)) in
          let up = above_at k i p in
          let e = ap start same in
          omega (arith, le, up, e)
          )
    ])
  ]

  is_found : (k i : ℕ) → HasVersion h k i → last_by (h.writer k) (h.count k) (h.writer k i) ≡ i
  is_found k i has = found (h.writer k) (h.count k) (h.writer k i) i has.0 has.1 refl
      (λ j low high same. one k i j has (low, high) same)

  not_above : (k i j at : ℕ) → HasVersion h k i → HasVersion h k j → commit (h.writer k j) ≤ at
      → ((q : ℕ) → HasVersion h k q → i < q → at < commit (h.writer k q))
      → commit (h.writer k j) ≤ commit (h.writer k i)
  not_above k i j at p q le later = elim (cases_lt i j) [
    | inl lt ↦ absurd (let gt = later j q lt in omega (arith, gt, le))
    | inr ge ↦ elim (cases_eq j i) [
      | inl same ↦ (let e = ap (λ z. commit (h.writer k z)) same in omega (arith, e))
      | inr ne ↦ (
          let before = a.apart k j i q p (omega (arith, ge, ne)) in
          let up = above_at k i p in
          omega (arith, before, up)
          )
    ]
  ]

  sees_none : (k at : ℕ) → ((j : ℕ) → HasVersion h k j → at < commit (h.writer k j)) → Sees r x k at (text k 0)
  sees_none k at later = inr (
    λ w writer. (let (j, has, is) = fit.placed w k writer.1.0 writer.0 writer.1.1 in
        let gt = later j has in
        let e = ap commit is in
        omega (arith, gt, e)),
    fit.none k,
  )

  sees_some : (k at i : ℕ) → HasVersion h k i → commit (h.writer k i) ≤ at
      → ((j : ℕ) → HasVersion h k j → i < j → at < commit (h.writer k j)) → Sees r x k at (text k i)
  sees_some k at i has upto later = inl (
    h.writer k i,
    (
      fit.writers k i has,
      upto,
      λ w writer le. (let (j, with_j, is) = fit.placed w k writer.1.0 writer.0 writer.1.1 in
          let e = ap commit is in
          let lower = not_above k i j at has with_j (omega (arith, e, le)) later in
          omega (arith, e, lower)),
    ),
    ap (text k) (sym (is_found k i has)),
  )

  sees : (k at i : ℕ) → i ≤ h.count k → (HasVersion h k i → commit (h.writer k i) ≤ at)
      → ((j : ℕ) → HasVersion h k j → i < j → at < commit (h.writer k j)) → Sees r x k at (text k i)
  sees k at zero high upto later = sees_none k at (λ j has. later j has has.0)
  sees k at (suc i) high upto later =
      let has : HasVersion h k (suc i) = (omega arith, high) in
      sees_some k at (suc i) has (upto has) later

  -- whoever wrote a version sees the one before it
  sees_base : (k i : ℕ) → HasVersion h k (i + 1) → Sees r x k (start (h.writer k (i + 1))) (text k i)
  sees_base k i has = sees k (start (h.writer k (i + 1))) i (let high = has.1 in omega (arith, high))
      (λ old. a.apart k i (i + 1) old has (omega arith))
      (λ j with_j lt. elim (cases_eq j (i + 1)) [
        | inl same ↦ (let up = above_at k (i + 1) has in
            let e = ap (λ z. commit (h.writer k z)) same in
            omega (arith, up, e))
        | inr ne ↦ (let before = a.apart k (i + 1) j has with_j (omega (arith, lt, ne)) in
            let up = above_at k (i + 1) has in
            let more = above_at k j with_j in
            omega (arith, before, up, more))
      ])

  leaves_at : (k t i : ℕ) → HasVersion h k i → h.writer k i ≡ t
      → (xs : List ℕ) × Sees r x k (start t) xs
      × (text k (last_by (h.writer k) (h.count k) t) ≡ after (ops_of r t) k xs)
  leaves_at k t zero has is = absurd (let low = has.0 in omega (arith, low))
  leaves_at k t (suc i) has is =
      let more : HasVersion h k (i + 1) = (omega arith, let high = has.1 in omega (arith, high)) in
      let at : h.writer k (i + 1) ≡ t = ap (h.writer k) (omega arith) ∙ is in
      let P : ℕ → Type 0 = λ q. (xs : List ℕ) × Sees r x k (start q) xs
      × (text k (last_by (h.writer k) (h.count k) q) ≡ after (ops_of r q) k xs) in
      subst P at (text k i, sees_base k i more, ap (text k) (is_found k (i + 1) more) ∙ fit.leaves k i more)

  leaves : (k t : ℕ) → IsWriter r x t k → (xs : List ℕ) × Sees r x k (start t) xs
      × (x.left t k ≡ after (ops_of r t) k xs)
  leaves k t writer =
      let (i, has, is) = fit.placed t k writer.1.0 writer.0 writer.1.1 in
      leaves_at k t i has is

  apart : (k t u : ℕ) → IsWriter r x t k → IsWriter r x u k → t ≢ u → (commit t ≤ start u) ⊎ (commit u ≤ start t)
  apart k t u p q ne =
      let (i, has, is) = fit.placed t k p.1.0 p.0 p.1.1 in
      let (j, with_j, at) = fit.placed u k q.1.0 q.0 q.1.1 in
      let ci = ap commit is in
      let si = ap start is in
      let cj = ap commit at in
      let sj = ap start at in
      elim (cases_lt i j) [
        | inl lt ↦ (let le = a.apart k i j has with_j lt in inl (omega (arith, le, ci, sj)))
        | inr ge ↦ elim (cases_eq i j) [
          | inl same ↦ absurd (ne (sym is ∙ ap (h.writer k) same ∙ at))
          | inr other ↦ (let le = a.apart k j i with_j has (omega (arith, ge, other)) in inr
              (omega (arith, le, cj, si)))
        ]
      ]

  -- what is seen of a view is what the reader saw
  sees_view : (w : RecordedView) → Contains views w → Sees r x w.key (start w.txn) (list_of r w.span)
  sees_view w is =
      let (i, high, in_reads, same) = fit.reads w is in
      subst (λ q. Sees r x w.key (start w.txn) q) (sym same)
      (sees w.key (start w.txn) i high (λ has. a.seen record { txn = w.txn; key = w.key; version = i } in_reads has)
      (λ j has lt. a.newest record { txn = w.txn; key = w.key; version = i } j in_reads has lt))

  -- who read values of its own put some
  sees_own : (t p k : ℕ) (list : List ℕ) → IsTrue (live t) → ((xs : List ℕ) → list ≡ after (take p (ops_of r t)) k xs)
      → (xs : List ℕ) × Sees r x k (start t) xs
  sees_own t p k list is own = elim (ends (take p (ops_of r t)) k) [
    | inl (v, (put, last)) ↦ (
        let (xs, sees_xs, left) = leaves k t (is, (v, puts_in_more (ops_of r t) p k v put)) in (xs, sees_xs)
        )
    | inr (nothing, same) ↦ absurd (nothing_is_all list (own (0 ∷ []) ∙ same (0 ∷ [])) (ap length (own [] ∙ same [])))
  ]

  reads : (t p : ℕ) (s : Span) → (transaction_at r t).outcome ≡ Ok → (op_at r t p).act ≡ Read s
      → (xs : List ℕ) × Sees r x (op_at r t p).key (start t) xs
      × (list_of r s ≡ after (take p (ops_of r t)) (op_at r t p).key xs)
  reads t p s ok is = elim (v.all t p (is_one r t ok) ok (within r t p s is) s is) [
    | inl own ↦ (
        let (xs, sees_xs) = sees_own t p (op_at r t p).key (list_of r s)
        (fit.ok t (is_one r t ok) ok) own in (xs, sees_xs, own xs)
        )
    | inr (w, in_views, of_t, of_key, same) ↦ (
        let P : ℕ → Type 0 = λ q. Sees r x q (start t) (list_of r w.span) in
        let Q : ℕ → Type 0 = λ q. Sees r x w.key (start q) (list_of r w.span) in
        (list_of r w.span, subst P of_key (subst Q of_t (sees_view w in_views)), same)
        )
  ]

  pub explains_so : ((t u : ℕ) → Precedes r orders t u → IsTrue (live t) → IsTrue (live u) → commit t ≤ start u)
      → Explains r orders (explanation_of h live text start commit)
  explains_so precedes = record {
    ok = fit.ok;
    fail = fit.fail;
    above = above;
    apart = apart;
    leaves = leaves;
    reads = reads;
    precedes = precedes;
  }

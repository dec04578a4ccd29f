-- What explains the whole explains what is left.
use Rattle.std.proofs.Common.{◌≡◌, ℕ, zero, suc, ◌+◌, ◌<◌, ◌≤◌, Bool, true, false, List, [], ◌∷◌, ◌++◌, inl, inr, refl, sym, ap, ◌∙◌, subst, take, slice_range, Contains, length, arith}
use Rattle.std.specs.Prelude.{cond, slice_index_or, ◌==◌}
use Rattle.std.specs.List.{filter}
use Rattle.std.proofs.lemmas.Bool.{cases_lt, false≢true}
use Rattle.std.proofs.lemmas.List.{get_or_past}
use Rattle.std.proofs.lemmas.List.Elements.{All-contains, All-contains_itself, All-filter, All-get_or, filter_passes}
use Rattle.tx_recording.specs.declared.recording.RecordedOutcome.TheVariants.{Ok}
use Rattle.tx_recording.specs.declared.recording.RecordedOp.{RecordedOp}
use Rattle.tx_recording.specs.declared.recording.Act.{Act}
use Rattle.tx_recording.specs.declared.recording.Act.TheVariants.{Append, Write, Read}
use Rattle.tx_recording.specs.declared.recording.Span.{Span}
use Rattle.tx_recording.specs.declared.recording.RecordedTransaction.{RecordedTransaction}
use Rattle.tx_recording.specs.declared.recording.Orders.{Orders}
use Rattle.tx_recording.specs.declared.recording.Recording.{Recording}
use Rattle.tx_recording.specs.Recordings.{txns_of, transaction_at, ops_of, list_of, no_transaction, no_op}
use Rattle.tx_recording.specs.Explanations.{act_on, after, Puts, PutsIn, IsPut, Explanation, Explains, IsWriter, Sees, op_at, IsSession, IsEarlier, Precedes}
use Rattle.tx_onward.specs.Left.{is_put, without, moved, IsLeft}

-- ---- operations without reads

abbrev puts_of : List RecordedOp → List RecordedOp
puts_of os = filter (λ o. is_put o.act) os

-- what puts a value is kept
put_kept : (a : Act) (v : ℕ) → Puts a v → is_put a ≡ true
put_kept (Append w) v h = refl
put_kept (Write w) v h = refl
put_kept (Read span) v h = absurd h

-- what is kept was there
kept_there : (os : List RecordedOp) (o : RecordedOp) → Contains (puts_of os) o → Contains os o
kept_there os o h = All-contains (Contains os) (puts_of os) o
    (All-filter (λ (q : RecordedOp). is_put q.act) (Contains os) os (All-contains_itself os)) h

-- what puts and was there is kept
there_kept : (os : List RecordedOp) (o : RecordedOp) → is_put o.act ≡ true → Contains os o → Contains (puts_of os) o
there_kept [] o puts h = h
there_kept (x ∷ os) o puts (zero, lt, is) =
    let first : is_put x.act ≡ true = ap (λ (q : RecordedOp). is_put q.act) is ∙ puts in
    subst (λ b. Contains (cond b (x ∷ puts_of os) (puts_of os)) o) (sym first) (zero, omega arith, is)
there_kept (x ∷ os) o puts (suc k, lt, is) = one (is_put x.act) (there_kept os o puts (k, omega (arith, lt), is))
  where
    one : (b : Bool) → Contains (puts_of os) o → Contains (cond b (x ∷ puts_of os) (puts_of os)) o
    one true (j, within, found) = (suc j, omega (arith, within), found)
    one false there = there

same_cond : (b : Bool) (xs : List ℕ) → cond b xs xs ≡ xs
same_cond true xs = refl
same_cond false xs = refl

-- one more
after_one : (os kept : List RecordedOp) (n : ℕ) (a : Act) (k : ℕ) (xs : List ℕ)
    → ((ys : List ℕ) → after kept k ys ≡ after os k ys)
    → after (cond (is_put a) (record { key = n; act = a } ∷ kept) kept) k xs
    ≡ after os k (cond (n == k) (act_on a xs) xs)
after_one os kept n (Append v) k xs rest = rest (cond (n == k) (xs ++ v ∷ []) xs)
after_one os kept n (Write v) k xs rest = rest (cond (n == k) (v ∷ []) xs)
after_one os kept n (Read span) k xs rest = rest xs ∙ ap (after os k) (sym (same_cond (n == k) xs))

-- they leave the same
puts_after : (os : List RecordedOp) (k : ℕ) (xs : List ℕ) → after (puts_of os) k xs ≡ after os k xs
puts_after [] k xs = refl
puts_after (o ∷ os) k xs = after_one os (puts_of os) o.key o.act k xs (puts_after os k)

-- none of them is a read
no_read : (os : List RecordedOp) (p : ℕ) (span : Span) → (slice_index_or (puts_of os) p no_op).act ≡ Read span → ⊥
no_read os p span e = elim (cases_lt p (length (puts_of os))) [
  | inl lt ↦ false≢true (sym (ap is_put e)
      ∙ All-get_or (λ (q : RecordedOp). is_put q.act ≡ true) (puts_of os) p no_op lt
      (filter_passes (λ (q : RecordedOp). is_put q.act) os))
  | inr le ↦ append_read (sym (ap (λ (q : RecordedOp). q.act) (get_or_past (puts_of os) p no_op le)) ∙ e)
]
  where
    append_read : Append 0 ≡ Read span → ⊥
    append_read same = (cc)

-- ---- with the reads where a transaction was not told of

without_after : (b : Bool) (os : List RecordedOp) (k : ℕ) (xs : List ℕ) → after (without b os) k xs ≡ after os k xs
without_after true os k xs = puts_after os k xs
without_after false os k xs = refl

without_put : (b : Bool) (os : List RecordedOp) (k v : ℕ) → PutsIn (without b os) k v → PutsIn os k v
without_put true os k v (o, there, key, puts) = (o, kept_there os o there, key, puts)
without_put false os k v h = h

put_without : (b : Bool) (os : List RecordedOp) (k v : ℕ) → PutsIn os k v → PutsIn (without b os) k v
put_without true os k v (o, there, key, puts) = (o, there_kept os o (put_kept o.act v puts) there, key, puts)
put_without false os k v h = h

-- where there is a read, all are there
all_there : (b : Bool) (os : List RecordedOp) (p : ℕ) (span : Span)
    → (slice_index_or (without b os) p no_op).act ≡ Read span → without b os ≡ os
all_there true os p span e = absurd (no_read os p span e)
all_there false os p span e = refl

module _ (r left : Recording) (told : ℕ → Bool) (l : IsLeft r told left) where
  -- what is the same of a transaction, also past the last
  same : {A : Type 0} (f : RecordedTransaction → A)
      → ((t : RecordedTransaction) (first upto : ℕ) → f (moved t first upto) ≡ f t) → (t : ℕ)
      → f (transaction_at left t) ≡ f (transaction_at r t)
  same f kept t = elim (cases_lt t (txns_of r)) [
    | inl lt ↦ ap f (l.transactions t lt)
        ∙ kept (transaction_at r t) (transaction_at left t).first (transaction_at left t).upto
    | inr le ↦ ap f (get_or_past left.transactions.items t no_transaction (subst (λ n. n ≤ t) (sym l.count) le))
        ∙ sym (ap f (get_or_past r.transactions.items t no_transaction le))
  ]

  same_outcome : (t : ℕ) → (transaction_at left t).outcome ≡ (transaction_at r t).outcome
  same_outcome t = same (λ q. q.outcome) (λ q first upto. refl) t

  nothing : (b : Bool) → [] ≡ without b []
  nothing true = refl
  nothing false = refl

  -- its operations, also past the last
  kept : (t : ℕ) → ops_of left t ≡ without (told t) (ops_of r t)
  kept t = elim (cases_lt t (txns_of r)) [
    | inl lt ↦ l.ops t lt
    | inr le ↦
        ap (λ (q : RecordedTransaction). slice_range left.ops.items q.first q.upto)
        (get_or_past left.transactions.items t no_transaction (subst (λ n. n ≤ t) (sym l.count) le))
        ∙ nothing (told t)
        ∙ ap (λ (q : RecordedTransaction). without (told t) (slice_range r.ops.items q.first q.upto))
        (sym (get_or_past r.transactions.items t no_transaction le))
  ]

  put : (t k v : ℕ) → IsPut left t k v → IsPut r t k v
  put t k v is = without_put (told t) (ops_of r t) k v (subst (λ (os : List RecordedOp). PutsIn os k v) (kept t) is)

  put_back : (t k v : ℕ) → IsPut r t k v → IsPut left t k v
  put_back t k v is =
      subst (λ (os : List RecordedOp). PutsIn os k v) (sym (kept t)) (put_without (told t) (ops_of r t) k v is)

  session : (t u : ℕ) → IsSession left t u → IsSession r t u
  session t u (p, lt, within, one, other, ok) = (
    p,
    lt,
    subst (λ n. u < n) l.count within,
    sym (same (λ q. q.process) (λ q first upto. refl) t) ∙ one,
    sym (same (λ q. q.process) (λ q first upto. refl) u) ∙ other,
    sym (same_outcome t) ∙ ok,
  )

  earlier : (t u : ℕ) → IsEarlier left t u → IsEarlier r t u
  earlier t u (e, b, lt, ended, began, ok) = (
    e,
    b,
    lt,
    sym (same (λ q. q.ended) (λ q first upto. refl) t) ∙ ended,
    sym (same (λ q. q.began) (λ q first upto. refl) u) ∙ began,
    sym (same_outcome t) ∙ ok,
  )

  precedes_so : (orders : Orders) (t u : ℕ) → Precedes left orders t u → Precedes r orders t u
  precedes_so orders t u (inl (asked, is)) = inl (asked, session t u is)
  precedes_so orders t u (inr (asked, is)) = inr (asked, earlier t u is)

  module _ (x : Explanation) where
    writer : (t k : ℕ) → IsWriter left x t k → IsWriter r x t k
    writer t k (live, (v, is)) = (live, (v, put t k v is))

    writer_back : (t k : ℕ) → IsWriter r x t k → IsWriter left x t k
    writer_back t k (live, (v, is)) = (live, (v, put_back t k v is))

    sees : (k at : ℕ) (xs : List ℕ) → Sees r x k at xs → Sees left x k at xs
    sees k at xs (inl (u, (is, upto, newest), left_there)) =
        inl (u, (writer_back u k is, upto, λ w also le. newest w (writer w k also) le), left_there)
    sees k at xs (inr (none, empty)) = inr (λ w also. none w (writer w k also), empty)

    -- a read that is left finds the same
    reads : (orders : Orders) → Explains r orders x → (t p : ℕ) (span : Span)
        → (transaction_at left t).outcome ≡ Ok → (op_at left t p).act ≡ Read span
        → (xs : List ℕ) × Sees left x (op_at left t p).key (x.start t) xs
        × (list_of left span ≡ after (take p (ops_of left t)) (op_at left t p).key xs)
    reads orders e t p span ok is =
        let all : ops_of left t ≡ ops_of r t = kept t ∙ all_there (told t) (ops_of r t) p span
        (subst (λ (os : List RecordedOp). (slice_index_or os p no_op).act ≡ Read span) (kept t) is) in
        let op : op_at left t p ≡ op_at r t p = ap (λ (os : List RecordedOp). slice_index_or os p no_op) all in
        let (xs, seen, there) = e.reads t p span (sym (same_outcome t) ∙ ok)
        (sym (ap (λ (o : RecordedOp). o.act) op) ∙ is) in (
          xs,
          subst (λ k. Sees left x k (x.start t) xs) (sym (ap (λ (o : RecordedOp). o.key) op))
              (sees (op_at r t p).key (x.start t) xs seen),
          ap (λ es. slice_range es span.first (span.first + span.count)) l.elements ∙ there
              ∙ ap (λ k. after (take p (ops_of r t)) k xs) (sym (ap (λ (o : RecordedOp). o.key) op))
              ∙ ap (λ (os : List RecordedOp). after (take p os) (op_at left t p).key xs) (sym all),
        )

    pub explains_left : (orders : Orders) → Explains r orders x → Explains left orders x
    explains_left orders e = record {
      ok = λ t lt is. e.ok t (subst (λ n. t < n) l.count lt) (sym (same_outcome t) ∙ is);
      fail = λ t is. e.fail t (sym (same_outcome t) ∙ is);
      above = e.above;
      apart = λ k t u one other differ. e.apart k t u (writer t k one) (writer u k other) differ;
      leaves = λ k t is.
          (let (xs, seen, there) = e.leaves k t (writer t k is) in (
            xs,
            sees k (x.start t) xs seen,
            there ∙ sym (without_after (told t) (ops_of r t) k xs)
                ∙ ap (λ (os : List RecordedOp). after os k xs) (sym (kept t)),
          ));
      reads = reads orders e;
      precedes = λ t u is one other. e.precedes t u (precedes_so orders t u is) one other;
    }

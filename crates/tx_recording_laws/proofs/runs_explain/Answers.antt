-- What the machine shows is what the newest writer left.
use Rattle.std.proofs.Common.{◌≡◌, ◌≢◌, ◌⊎◌, ℕ, ◌+◌, ◌-◌, ◌<◌, ◌≤◌, Bool, true, false, List, [], ◌∷◌, Option, Some, None, IsTrue, arith, inl, inr, zero, suc, refl, sym, ap, ◌∙◌, subst}
use Rattle.std.proofs.lemmas.Bool.{cases_lt, cases_Bool, cases_eq, false≢true}
use Rattle.std.proofs.lemmas.List.{get_or_past}
use Rattle.tx_types.specs.declared.key.Key.{Key}
use Rattle.tx_types.specs.declared.value.Value.{Value}
use Rattle.tx_types.specs.declared.mutation.Mutation.{Mutation}
use Rattle.tx_types.specs.declared.mutation.Mutation.TheVariants.{Put, Insert, Delete, Lock}
use Rattle.tx_types.specs.Keys.{IsVisible, put_by}
use Rattle.tx_machine.specs.Machine.{Rows, table_of, Commits, Sees as Shows, Newest, Overlap}
use Rattle.tx_recording.specs.declared.recording.Orders.{Orders}
use Rattle.tx_recording.specs.declared.recording.RecordedTransaction.{RecordedTransaction}
use Rattle.tx_recording.specs.declared.recording.Recording.{Recording}
use Rattle.tx_recording.specs.Recordings.{txns_of, transaction_at, no_transaction, ops_of}
use Rattle.tx_recording.specs.Explanations.{Explanation, IsPut, IsWriter, IsNewest, Sees, Explains}
use Rattle.tx_recording.proofs.Puts.{ends}
use Rattle.tx_recording_laws.specs.Runs.{IsRecordingOf, value_of}
use Rattle.tx_recording_laws.proofs.runs_explain.Goals as goal

same_value : (v w : Value) → Some v ≡ Some w → v ≡ w
same_value v w e = grind (arith, e)

puts_are_visible : (m : Mutation) (v : Value) → put_by m ≡ Some v → IsVisible m
puts_are_visible (Put w) v e = tt
puts_are_visible (Insert w) v e = tt
puts_are_visible Delete v e = absurd (grind (arith, e))
puts_are_visible Lock v e = absurd (grind (arith, e))

module _ (r : Recording) (orders : Orders) (x : Explanation) (rows : Rows) (key : ℕ → Key) (value : List ℕ → Value)
    (o : IsRecordingOf r orders x rows key value)
    (free : (k : Key) (t c u d : ℕ) (m n : Mutation) → Commits rows k t c m → Commits rows k u d n → t ≢ u
    → (Overlap t c u d → ⊥)) where
  -- whether t is a writer of k
  writes : (k t : ℕ) → IsWriter r x t k ⊎ (IsWriter r x t k → ⊥)
  writes k t = elim (cases_Bool (x.committed t)) [
    | inr open_still ↦ inr (λ w. false≢true (sym open_still ∙ w.0))
    | inl done ↦ elim (ends (ops_of r t) k) [
      | inl (v, (put, last)) ↦ inl (done, (v, put))
      | inr (none, same) ↦ inr (λ w. none w.1.0 w.1.1)
    ]
  ]

  below : (t : ℕ) → IsTrue (x.committed t) → t < txns_of r
  below t is = elim (cases_lt t (txns_of r)) [
    | inl lt ↦ lt
    | inr past ↦ absurd (false≢true (sym (o.fail t (ap (λ (q : RecordedTransaction). q.outcome)
        (get_or_past r.transactions.items t no_transaction past))) ∙ is))
  ]

  -- of the writers below n that commit at most at a moment, one commits last, or there is none
  abbrev Best : ℕ → ℕ → ℕ → Type 0
  Best k at n = ((w : ℕ) → w < n → IsWriter r x w k → at < x.commit w)
      ⊎ ((u : ℕ) × IsWriter r x u k × (x.commit u ≤ at)
      × ((w : ℕ) → w < n → IsWriter r x w k → x.commit w ≤ at → x.commit w ≤ x.commit u))

  more : (P : ℕ → Type 0) (n : ℕ) → ((w : ℕ) → w < n → P w) → P n → (w : ℕ) → w < suc n → P w
  more P n all last w lt = elim (cases_eq w n) [
    | inl same ↦ subst P (sym same) last
    | inr ne ↦ all w (omega (arith, lt, ne))
  ]

  best : (k at n : ℕ) → Best k at n
  best k at zero = inl (λ w lt writer. absurd (omega (arith, lt)))
  best k at (suc n) = elim (writes k n) [
    | inr other ↦ elim (best k at n) [
      | inl all ↦ inl (more (λ w. IsWriter r x w k → at < x.commit w) n all (λ w. absurd (other w)))
      | inr (u, writer, upto, top) ↦ inr (
        u,
        writer,
        upto,
        more (λ w. IsWriter r x w k → x.commit w ≤ at → x.commit w ≤ x.commit u) n top (λ w le. absurd (other w)),
      )
    ]
    | inl writer_n ↦ elim (cases_lt at (x.commit n)) [
      | inl above ↦ elim (best k at n) [
        | inl all ↦ inl (more (λ w. IsWriter r x w k → at < x.commit w) n all (λ w. above))
        | inr (u, writer, upto, top) ↦ inr (
          u,
          writer,
          upto,
          more (λ w. IsWriter r x w k → x.commit w ≤ at → x.commit w ≤ x.commit u) n top
              (λ w le. absurd (omega (arith, above, le))),
        )
      ]
      | inr within ↦ elim (best k at n) [
        | inl all ↦ inr (
          n,
          writer_n,
          within,
          more (λ w. IsWriter r x w k → x.commit w ≤ at → x.commit w ≤ x.commit n) n
              (λ w lt writer le. absurd (let over = all w lt writer in omega (arith, over, le))) (λ w le. omega arith),
        )
        | inr (u, writer, upto, top) ↦ elim (cases_lt (x.commit u) (x.commit n)) [
          | inl less ↦ inr (
            n,
            writer_n,
            within,
            more (λ w. IsWriter r x w k → x.commit w ≤ at → x.commit w ≤ x.commit n) n
                (λ w lt q le. (let old = top w lt q le in omega (arith, old, less))) (λ w le. omega arith),
          )
          | inr ge ↦ inr (
            u,
            writer,
            upto,
            more (λ w. IsWriter r x w k → x.commit w ≤ at → x.commit w ≤ x.commit u) n top (λ w le. ge),
          )
        ]
      ]
    ]
  ]

  -- nothing is shown: so all writers commit later
  none_seen : (k at : ℕ) → Shows rows (key k) at None → Sees r x k at []
  none_seen k at none = elim (best k at (txns_of r)) [
    | inl all ↦ inr (λ w writer. all w (below w writer.0) writer, refl)
    | inr (u, writer, upto, top) ↦ absurd (none (Put (value (x.left u k))) (value (x.left u k)) record {
      start = x.start u;
      at = x.commit u;
      commits = o.commits k u writer;
      upto = upto;
      newest = λ t c m is visible lt le. (let (w, writes_w, same, put) = o.only k t c m is visible in
          let over = top w (below w writes_w.0) writes_w (omega (arith, same, le)) in
          omega (arith, over, same, lt));
    } refl)
  ]

  -- a list is shown: the newest writer left it
  some_seen : (k at : ℕ) (xs : List ℕ) → Shows rows (key k) at (Some (value xs)) → Sees r x k at xs
  some_seen k at xs (m, new, is) =
      let (u, writer, same, put) = o.only k new.start new.at m new.commits (puts_are_visible m (value xs) is) in
      let text : x.left u k ≡ xs = o.own (x.left u k) xs (same_value _ _ (sym (ap put_by put) ∙ is)) in
      let upto = new.upto in
      inl (
        u,
        (
          writer,
          omega (arith, same, upto),
          λ w writes_w le. (elim (cases_lt (x.commit u) (x.commit w)) [
            | inr within ↦ within
            | inl above ↦ absurd (new.newest (x.start w) (x.commit w) (Put (value (x.left w k)))
                (o.commits k w writes_w) tt
                (omega (arith, same, above)) le)
          ]),
        ),
        sym text,
      )

  seen : (k at : ℕ) (xs : List ℕ) → Shows rows (key k) at (value_of value xs) → Sees r x k at xs
  seen k at [] shows = none_seen k at shows
  seen k at (v ∷ vs) shows = some_seen k at (v ∷ vs) shows

  apart : (k t u : ℕ) → IsWriter r x t k → IsWriter r x u k → t ≢ u → (x.commit t ≤ x.start u)
      ⊎ (x.commit u ≤ x.start t)
  apart k t u a b ne = elim (cases_lt (x.start u) (x.commit t)) [
    | inr le ↦ inl le
    | inl lt ↦ elim (cases_lt (x.start t) (x.commit u)) [
      | inr le ↦ inr le
      | inl also ↦ absurd (free (key k) (x.start t) (x.commit t) (x.start u) (x.commit u) (Put (value (x.left t k)))
          (Put (value (x.left u k))) (o.commits k t a) (o.commits k u b) (o.apart k t u a b ne) (also, lt))
    ]
  ]

  explains : Explains r orders x
  explains = record {
    ok = o.ok;
    fail = o.fail;
    above = o.ends;
    apart = apart;
    leaves = λ k t writer. (let (xs, shows, is) = o.leaves k t writer in (xs, seen k (x.start t) xs shows, is));
    reads = λ t p span ok act. (let (xs, shows, is) = o.reads t p span ok act in (xs, seen _ (x.start t) xs shows, is));
    precedes = o.precedes;
  }

pub returns : goal.returns
returns c r orders steps x key value run o =
    explains r orders x (table_of steps).row key value o
    (λ k t d u e m n a b ne. c.runs_are_snapshots.ensures.apart steps run k t d u e m n a b ne)

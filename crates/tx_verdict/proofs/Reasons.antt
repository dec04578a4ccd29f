-- What reads say of who put into a key holds under each explanation.
use Rattle.std.proofs.Common.{◌≡◌, ℕ, ◌+◌, ◌-◌, ◌<◌, ◌≤◌, List, [], length, take, get_or, Contains, arith, inl, inr, refl, sym, ap, ◌∙◌, subst, zero, suc, IsTrue, Option, Some, slice_index, slice_range, false}
use Rattle.std.proofs.lemmas.Bool.{cases_lt}
use Rattle.std.proofs.lemmas.List.{get_or_past, take_more, take_all}
use Rattle.std.proofs.lemmas.List.Elements.{Contains-get_or}
use Rattle.tx_recording.specs.declared.recording.RecordedOp.{RecordedOp}
use Rattle.tx_recording.specs.declared.recording.Orders.{Orders}
use Rattle.tx_recording.specs.declared.recording.RecordedTransaction.{RecordedTransaction}
use Rattle.tx_recording.specs.declared.recording.Recording.{Recording}
use Rattle.tx_recording.specs.Recordings.{txns_of, no_transaction, ops_of, list_of}
use Rattle.tx_recording.specs.Explanations.{after, PutsIn, Explanation, IsWriter, IsNewest, Sees, Explains}
use Rattle.tx_recording.proofs.Puts.{IsLast, after_contains}
use Rattle.tx_recording.proofs.Seen.{seen_last, seen_none, seen_put}
use Rattle.tx_views.specs.declared.owner.Owner.{Owner}
use Rattle.tx_views.specs.declared.effect.Effect.{Effect}
use Rattle.tx_views.specs.Owners.{AreOwners}
use Rattle.tx_views.specs.Views.{Saw, IsEffect}
use Rattle.tx_views.proofs.ValueOwners.{put_once}
use Rattle.tx_views.proofs.ReadViews.{appended}
use Rattle.tx_clock.proofs.ClockOrder.{is_one}
use Rattle.tx_verdict.specs.Reasons.{SawOf, HasCommitted, HasWritten, AddsFirst, IsFirst, IsNext, IsBased, IsBehind, HasMissed}
use Rattle.tx_verdict.specs.Forced.{StartsAt}
use Rattle.tx_verdict.proofs.Distinct.{IsOnce}
use Rattle.tx_verdict.proofs.Blocks.{base_of}
use Rattle.tx_verdict.proofs.Links.{no_gap}

one_of : (r : Recording) (t p : ℕ) → p < length (ops_of r t) → t < txns_of r
one_of r t p lt = elim (cases_lt t (txns_of r)) [
  | inl below ↦ below
  | inr past ↦ absurd (
      let e = ap (λ (q : RecordedTransaction). length (slice_range r.ops.items q.first q.upto))
      (get_or_past r.transactions.items t no_transaction past) in
      omega (arith, lt, e)
      )
]

-- each transaction puts each value once
pub once_each : (r : Recording) (table : List (Option Owner)) → AreOwners r table → (t : ℕ) → IsOnce (ops_of r t)
once_each r table owners t p q v a b put also =
    let in_all = owners.all t (one_of r t p a) in
    let e : Some record { txn = t; place = p } ≡ Some record { txn = t; place = q } =
    sym (in_all p v a put) ∙ in_all q v b also in
    let same : record { txn = t; place = p } ≡ record { txn = t; place = q } = grind (arith, e) in
    ap (λ (o : Owner). o.place) same

-- the first value of an effect is put
first_put : (os : List RecordedOp) (k y : ℕ) (f : Effect) → IsEffect os k f → f.clears ≡ false
    → 1 ≤ length f.values.items
    → get_or f.values.items 0 0 ≡ y → PutsIn os k y
first_put os k y f effect adds some first =
    let is : after os k [] ≡ f.values.items = effect [] ∙ appended f [] adds in
    let there : Contains (after os k []) (get_or f.values.items 0 0) =
    subst (λ q. Contains q (get_or f.values.items 0 0)) (sym is) (Contains-get_or f.values.items 0 0 some) in
    elim (after_contains os k [] (get_or f.values.items 0 0) there) [
      | inl (i, lt, at) ↦ absurd (omega (arith, lt))
      | inr put ↦ subst (λ q. PutsIn os k q) first put
    ]

pub last_at : (xs : List ℕ) (n : ℕ) → length xs ≡ n + 1 → IsLast xs (get_or xs n 0)
last_at xs n is = (take n xs, sym (take_all (n + 1) xs (omega (arith, is))) ∙ take_more xs n 0 (omega (arith, is)))

module _ (r : Recording) (table : List (Option Owner)) (owners : AreOwners r table) (orders : Orders) (x : Explanation)
    (e : Explains r orders x) where
  -- what was seen is what the key holds at the start
  pub saw_sees : (t k : ℕ) (xs : List ℕ) → Saw r t k xs → Sees r x k (x.start t) xs
  saw_sees t k xs (p, span, (ok, act), of_key, iff) =
      let (ys, sees, is) = e.reads t p span ok act in
      let P : ℕ → Type 0 = λ q. (zs : List ℕ) × Sees r x q (x.start t) zs
      × (list_of r span ≡ after (take p (ops_of r t)) q zs) in
      let (zs, at, same) = subst P of_key (ys, sees, is) in
      subst (λ q. Sees r x k (x.start t) q) ((iff zs).0 same) at

  pub newest_of : (t k u : ℕ) → SawOf r t k u → IsNewest r x k (x.start t) u
  newest_of t k u (xs, saw, some, (l, put)) =
      let n : length xs ≡ length xs - 1 + 1 = omega (arith, some) in
      let (w, newest, also, end) = seen_last r orders x e k (x.start t) xs (get_or xs (length xs - 1) 0)
      (saw_sees t k xs saw) (last_at xs (length xs - 1) n) in
      let same : w ≡ u = put_once r table owners w u k l (get_or xs (length xs - 1) 0) also put in
      subst (λ q. IsNewest r x k (x.start t) q) same newest

  pub none_of : (t k : ℕ) → Saw r t k [] → (w : ℕ) → IsWriter r x w k → x.start t < x.commit w
  none_of t k saw w writer = seen_none r orders x e k (x.start t) [] (saw_sees t k [] saw) refl w writer

  pub committed_of : (t : ℕ) → HasCommitted r t → IsTrue (x.committed t)
  committed_of t (inl ok) = e.ok t (is_one r t ok) ok
  committed_of t (inr (w, k, v, (xs, saw, there), (l, put))) =
      let (u, writer, also, before) = seen_put r orders x e k (x.start w) xs v (saw_sees w k xs saw) there in
      let same : u ≡ t = put_once r table owners u t k l v also put in
      subst (λ q. IsTrue (x.committed q)) same writer.0

  pub writer_of : (t k : ℕ) → HasWritten r t k → IsWriter r x t k
  writer_of t k (is, put) = (committed_of t is, put)

  -- whose first value stands at p saw what stands in front of it
  front : (t k : ℕ) (xs : List ℕ) (p u : ℕ) → Saw r t k xs → p < length xs
      → AddsFirst (ops_of r u) k (slice_index xs p)
      → Sees r x k (x.start u) (take p xs)
  front t k xs p u saw within (f, effect, adds, some, first) =
      base_of r orders x e (put_once r table owners) (once_each r table owners) k u (get_or xs p 0) f
      (first_put (ops_of r u) k (get_or xs p 0) f effect adds some first) effect adds some first
      (x.start t) p xs (saw_sees t k xs saw) within refl

  first_of : (k u : ℕ) → IsFirst r k u → (w : ℕ) → IsWriter r x w k → x.start u < x.commit w
  first_of k u (inl saw) w writer = none_of u k saw w writer
  first_of k u (inr (t, xs, saw, some, adds)) w writer =
      seen_none r orders x e k (x.start u) (take 0 xs) (front t k xs 0 u saw (omega (arith, some)) adds) refl w writer

  pub next_of : (k t u : ℕ) → IsNext r k t u → IsNewest r x k (x.start u) t
  next_of k t u (inl saw) = newest_of u k t saw
  next_of k t u (inr (w, xs, p, saw, lt, (l, put), adds)) =
      let end : IsLast (take (p + 1) xs) (get_or xs p 0) = (take p xs, take_more xs p 0 (omega (arith, lt))) in
      let (z, newest, also, ends) = seen_last r orders x e k (x.start u) (take (p + 1) xs) (get_or xs p 0)
      (front w k xs (p + 1) u saw lt adds) end in
      let same : z ≡ t = put_once r table owners z t k l (get_or xs p 0) also put in
      subst (λ q. IsNewest r x k (x.start u) q) same newest

  starts_at : (k : ℕ) (ws : List ℕ) (i : ℕ) → IsBased r k ws i → StartsAt r x k ws i
  starts_at k ws zero is = first_of k (slice_index ws zero) is
  starts_at k ws (suc i) is = next_of k (slice_index ws i) (slice_index ws (suc i)) is

  pub behind_of : (k t u : ℕ) → IsWriter r x u k → IsBehind r k t u → x.commit t ≤ x.start u
  behind_of k t u writer (inl next) = (next_of k t u next).1
  behind_of k t u writer (inr (ws, n, (at, row), other)) =
      let le = no_gap r orders x e k ws n u (λ i upto. writer_of (slice_index ws i) k (row i upto).0)
      (λ i upto. starts_at k ws i (row i upto).1) writer other in
      let c = ap x.commit at in
      omega (arith, le, c)

  pub missed_of : (k t u : ℕ) → IsWriter r x u k → HasMissed r k t u → x.start t < x.commit u
  missed_of k t u writer (inl none) = none_of t k none u writer
  missed_of k t u writer (inr (w, saw, behind)) =
      let newest = newest_of t k w saw in
      let before = behind_of k w u writer behind in
      let up = e.above u writer.0 in
      elim (cases_lt (x.start t) (x.commit u)) [
        | inl so ↦ so
        | inr upto ↦ absurd (let least = newest.2 u writer upto in omega (arith, least, before, up))
      ]

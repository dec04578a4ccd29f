-- The edges of all transactions, versions, reads and pairs are the graph of the history.
use Rattle.std.proofs.Common.{◌≡◌, ◌⊎◌, ℕ, ◌+◌, ◌-◌, ◌<◌, ◌≤◌, List, [], length, get_or, drop, arith, inl, inr, sym, ap, ◌∙◌, subst, Contains, slice_index}
use Rattle.std.proofs.lemmas.Bool.{cases_lt}
use Rattle.std.proofs.lemmas.List.{length-take, get_or_past, get_or_default}
use Rattle.std.proofs.lemmas.List.Elements.{Contains-get_or}
use Rattle.tx_order.specs.declared.graph.Edge.{Edge}
use Rattle.tx_history.specs.Histories.{HasVersion}
use Rattle.tx_history.specs.declared.recorded.Read.{Read}
use Rattle.tx_history.specs.declared.recorded.After.{After}
use Rattle.tx_history.specs.declared.recorded.Recorded.{Recorded}
use Rattle.tx_history.specs.Records.{AreHeads, writers_of, history_of}
use Rattle.tx_history.specs.Graph.{IsGraph, IsEdge, IsWw, IsWr, IsRw, IsAfter}
use Rattle.tx_history.specs.Additions.{Adds, Each, IsVersionEdge, IsSeenEdge, IsNextEdge, IsReadEdge, IsAfterEdge, IsOwnOf, IsVersionOf, IsReadOf, IsAfterOf, read_at, pair_at, before_edge, after_edge}

-- a key past the last has no versions
no_versions : (r : Recorded) (k : ℕ) → length r.heads.items ≤ k → length (writers_of r k) ≡ 0
no_versions r k past =
    let last : slice_index r.heads.items (k + 1) ≡ 0 = get_or_past r.heads.items (k + 1) 0 (omega (arith, past)) in
    let from = slice_index r.heads.items k in
    let n = length-take (slice_index r.heads.items (k + 1) - from) (drop from r.writers.items) in
    omega (arith, n, last)

-- nor has the last place
pub no_versions_next : (r : Recorded) (k : ℕ) → k + 1 ≡ length r.heads.items → length (writers_of r k) ≡ 0
no_versions_next r k last =
    let none : slice_index r.heads.items (k + 1) ≡ 0 = get_or_past r.heads.items (k + 1) 0 (omega (arith, last)) in
    let from = slice_index r.heads.items k in
    let n = length-take (slice_index r.heads.items (k + 1) - from) (drop from r.writers.items) in
    omega (arith, n, none)

pub key_within : (r : Recorded) (k : ℕ) → 1 ≤ length (writers_of r k) → k < length r.heads.items
key_within r k some = elim (cases_lt k (length r.heads.items)) [
  | inl lt ↦ lt
  | inr past ↦ absurd (let none = no_versions r k past in omega (arith, none, some))
]

versions_to : (r : Recorded) (e : Edge) → IsVersionOf r e → IsWw (history_of r) e
versions_to r e (k, in_keys, (i, within, (more, is))) =
    let ws = writers_of r k in
    let at : i ≡ i + 1 - 1 = omega arith in
    let next : i + 1 ≡ i + 1 + 1 - 1 = omega arith in (
      k,
      i + 1,
      (omega arith, omega (arith, within)),
      (omega arith, omega (arith, more)),
      is ∙ ap (λ q. after_edge (slice_index ws q) (slice_index ws (i + 1))) at
          ∙ ap (λ q. after_edge (slice_index ws (i + 1 - 1)) (slice_index ws q)) next,
    )

pub versions_from : (r : Recorded) (e : Edge) → IsWw (history_of r) e → IsVersionOf r e
versions_from r e (k, i, has, more, is) =
    let ws = writers_of r k in
    let low = has.0 in
    let high = more.1 in
    let same : i + 1 - 1 ≡ i - 1 + 1 = omega (arith, low) in (
      k,
      key_within r k (omega (arith, low, high)),
      (
        i - 1,
        omega (arith, low, high),
        (omega (arith, low, high), is ∙ ap (λ q. after_edge (slice_index ws (i - 1)) (slice_index ws q)) same),
      ),
    )

contains_read : (r : Recorded) (i : ℕ) → i < length r.reads.items → Contains (history_of r).reads (read_at r i)
contains_read r i lt = Contains-get_or r.reads.items i record { txn = 0; key = 0; version = 0 } lt

reads_to : (r : Recorded) (e : Edge) → IsReadOf r e → IsWr (history_of r) e ⊎ IsRw (history_of r) e
reads_to r e (i, lt, inl (bounds, is)) = inl (read_at r i, contains_read r i lt, bounds, is)
reads_to r e (i, lt, inr (more, is)) =
    let s = read_at r i in
    let same : s.version ≡ s.version + 1 - 1 = omega arith in
    inr (
      s,
      contains_read r i lt,
      (omega arith, omega (arith, more)),
      is ∙ ap (λ q. before_edge s.txn (slice_index (writers_of r s.key) q)) same,
    )

-- a read of the history is one that was recorded
pub read_of : (r : Recorded) (x : Read) → Contains (history_of r).reads x
    → (i : ℕ) × (i < length r.reads.items) × (x ≡ read_at r i)
read_of r x (i, lt, is) =
    (i, lt, sym is ∙ sym (get_or_default r.reads.items i record { txn = 0; key = 0; version = 0 } x lt))

pub pair_of : (r : Recorded) (x : After) → Contains (history_of r).after x
    → (i : ℕ) × (i < length r.after.items) × (x ≡ pair_at r i)
pair_of r x (i, lt, is) = (i, lt, sym is ∙ sym (get_or_default r.after.items i record { earlier = 0; later = 0 } x lt))

pub wr_of : (r : Recorded) (e : Edge) → IsWr (history_of r) e
    → (i : ℕ) × (i < length r.reads.items) × IsSeenEdge (writers_of r (read_at r i).key) (read_at r i) e
wr_of r e (x, in_reads, has, is) =
    let h = history_of r in
    let (i, lt, same) = read_of r x in_reads in
    let P : Read → Type 0 = λ q. HasVersion h q.key q.version × (e ≡ after_edge (h.writer q.key q.version) q.txn) in
    (i, lt, subst P same (has, is))

pub rw_of : (r : Recorded) (e : Edge) → IsRw (history_of r) e
    → (i : ℕ) × (i < length r.reads.items) × IsNextEdge (writers_of r (read_at r i).key) (read_at r i) e
rw_of r e (x, in_reads, has, is) =
    let h = history_of r in
    let (i, lt, same) = read_of r x in_reads in
    let s = read_at r i in
    let P : Read → Type 0 = λ q. HasVersion h q.key (q.version + 1)
    × (e ≡ before_edge q.txn (h.writer q.key (q.version + 1))) in
    let at = subst P same (has, is) in
    let high = at.0.1 in
    let back : s.version + 1 - 1 ≡ s.version = omega arith in
    (i, lt, (omega (arith, high), at.1 ∙ ap (λ q. before_edge s.txn (slice_index (writers_of r s.key) q)) back))

pairs_to : (r : Recorded) (e : Edge) → IsAfterOf r e → IsAfter (history_of r) e
pairs_to r e (i, lt, is) = (pair_at r i, Contains-get_or r.after.items i record { earlier = 0; later = 0 } lt, is)

pub pairs_from : (r : Recorded) (e : Edge) → IsAfter (history_of r) e → IsAfterOf r e
pairs_from r e (x, in_pairs, is) =
    let (i, lt, same) = pair_of r x in_pairs in
    (i, lt, is ∙ ap (λ (p : After). after_edge p.earlier p.later) same)

none_in : (xs : List Edge) (e : Edge) → xs ≡ [] → Contains xs e → ⊥
none_in xs e empty (i, lt, is) = let n = ap length empty in omega (arith, n, lt)

module _ (r : Recorded) (none own versions reads all : List Edge) (empty : none ≡ []) (p : Adds none own (IsOwnOf r))
    (q : Adds own versions (IsVersionOf r)) (s : Adds versions reads (IsReadOf r))
    (t : Adds reads all (IsAfterOf r)) where
  to_edge : (e : Edge) → Contains all e → IsEdge (history_of r) e
  to_edge e is = elim (t.only e is) [
    | inl old ↦ elim (s.only e old) [
      | inl older ↦ elim (q.only e older) [
        | inl oldest ↦ elim (p.only e oldest) [
          | inl never ↦ absurd (none_in none e empty never)
          | inr of_own ↦ inl of_own
        ]
        | inr of_version ↦ inr (inl (versions_to r e of_version))
      ]
      | inr of_read ↦ elim (reads_to r e of_read) [
        | inl wr ↦ inr (inr (inl wr))
        | inr rw ↦ inr (inr (inr (inl rw)))
      ]
    ]
    | inr of_pair ↦ inr (inr (inr (inr (pairs_to r e of_pair))))
  ]

  kept_reads : (e : Edge) → IsReadOf r e → Contains all e
  kept_reads e is = t.kept e (s.has e is)

  from_edge : (e : Edge) → IsEdge (history_of r) e → Contains all e
  from_edge e (inl is) = t.kept e (s.kept e (q.kept e (p.has e is)))
  from_edge e (inr (inl is)) = t.kept e (s.kept e (q.has e (versions_from r e is)))
  from_edge e (inr (inr (inl is))) = (let (i, lt, at) = wr_of r e is in kept_reads e (i, lt, inl at))
  from_edge e (inr (inr (inr (inl is)))) = (let (i, lt, at) = rw_of r e is in kept_reads e (i, lt, inr at))
  from_edge e (inr (inr (inr (inr is)))) = t.has e (pairs_from r e is)

pub graph_of : (r : Recorded) (none own versions reads all : List Edge) → none ≡ [] → Adds none own (IsOwnOf r)
    → Adds own versions (IsVersionOf r) → Adds versions reads (IsReadOf r) → Adds reads all (IsAfterOf r)
    → IsGraph (history_of r) all
graph_of r none own versions reads all empty p q s t e =
    (to_edge r none own versions reads all empty p q s t e, from_edge r none own versions reads all empty p q s t e)

-- the edges of a key's versions, by the key
pub of_key : (r : Recorded) (k : ℕ) (ws : List ℕ) (a b : List Edge) → ws ≡ writers_of r k
    → Adds a b (Each (length ws) (IsVersionEdge ws))
    → Adds a b (Each (length (writers_of r k)) (IsVersionEdge (writers_of r k)))
of_key r k ws a b is p = subst (λ q. Adds a b (Each (length q) (IsVersionEdge q))) is p

seen_read : (r : Recorded) (i : ℕ) (s : Read) → i < length r.reads.items → s ≡ get_or r.reads.items i s
    → s ≡ read_at r i
seen_read r i s lt is = is ∙ sym (get_or_default r.reads.items i record { txn = 0; key = 0; version = 0 } s lt)

-- the edges of a read, by its place
pub of_read : (r : Recorded) (i : ℕ) (s : Read) (ws : List ℕ) (a b : List Edge) → i < length r.reads.items
    → s ≡ get_or r.reads.items i s → ws ≡ writers_of r s.key → Adds a b (IsReadEdge ws s)
    → Adds a b (IsReadEdge (writers_of r (read_at r i).key) (read_at r i))
of_read r i s ws a b lt is same p =
    subst (λ (t : Read). Adds a b (IsReadEdge (writers_of r t.key) t)) (seen_read r i s lt is)
    (subst (λ q. Adds a b (IsReadEdge q s)) same p)

-- the edge of a pair, by its place
pub of_pair : (r : Recorded) (i : ℕ) (s : After) (a b : List Edge) → i < length r.after.items
    → s ≡ get_or r.after.items i s → Adds a b (IsAfterEdge s) → Adds a b (IsAfterEdge (pair_at r i))
of_pair r i s a b lt is p =
    subst (λ (t : After). Adds a b (IsAfterEdge t))
    (is ∙ sym (get_or_default r.after.items i record { earlier = 0; later = 0 } s lt)) p

-- a key's versions end where the next ones begin, or where none are left
pub versions_upto : (r : Recorded) (k : ℕ)
    → length (writers_of r k) ≤ slice_index r.heads.items (k + 1) - slice_index r.heads.items k
versions_upto r k =
    let from = slice_index r.heads.items k in
    let n = length-take (slice_index r.heads.items (k + 1) - from) (drop from r.writers.items) in
    omega (arith, n)

-- how many edges there are once those of a key were added, before and behind the last
pub edges_of_key : (r : Recorded) (k : ℕ) (ws : List ℕ) (a b c : ℕ) → AreHeads r.heads.items (length r.writers.items)
    → k < length r.heads.items → ws ≡ writers_of r k → b ≤ a + slice_index r.heads.items k → c ≤ b + length ws
    → (k + 1 < length r.heads.items → c ≤ a + slice_index r.heads.items (k + 1))
    × (k + 1 ≡ length r.heads.items → c ≤ a + length r.writers.items)
edges_of_key r k ws a b c places lt is old new =
    let n = ap length is in
    let upto = versions_upto r k in (
      λ more. (let rising = places.rising k more in omega (arith, n, upto, rising, old, new)),
      λ last. (let none = no_versions_next r k last in
          let high = places.upto k lt in
          omega (arith, n, none, high, old, new)),
    )

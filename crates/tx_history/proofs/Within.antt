-- The edges join nodes of the transactions that there are.
use Rattle.std.proofs.Common.{◌≡◌, ℕ, ◌+◌, ◌-◌, ◌*◌, ◌<◌, List, get_or, drop, arith, inl, inr, sym, subst, Contains, slice_index}
use Rattle.std.proofs.lemmas.List.Elements.{Contains-get_or, All-take, All-drop}
use Rattle.tx_order.specs.declared.graph.Edge.{Edge}
use Rattle.tx_order.specs.Graphs.{AreWithin}
use Rattle.tx_history.specs.Histories.{HasVersion, AreWritten}
use Rattle.tx_history.specs.declared.recorded.Read.{Read}
use Rattle.tx_history.specs.declared.recorded.After.{After}
use Rattle.tx_history.specs.declared.recorded.Recorded.{Recorded}
use Rattle.tx_history.specs.Records.{IsRecorded, history_of}
use Rattle.tx_history.specs.Graph.{IsGraph, IsEdge, before_edge, after_edge}
use Rattle.tx_history.proofs.Graphs.{read_of, pair_of}

pub writer_within : (r : Recorded) (k i : ℕ) → IsRecorded r → HasVersion (history_of r) k i
    → (history_of r).writer k i < r.txns
writer_within r k i good has =
    let from = slice_index r.heads.items k in
    let some = All-drop (λ w. w < r.txns) from r.writers.items good.writers in
    let all = All-take (λ w. w < r.txns) (slice_index r.heads.items (k + 1) - from) (drop from r.writers.items) some in
    let low = has.0 in
    let high = has.1 in
    all (i - 1) 0 (omega (arith, low, high))

pub are_written : (r : Recorded) → IsRecorded r → AreWritten (history_of r)
are_written r good k i has = writer_within r k i good has

reader_within : (r : Recorded) (x : Read) → IsRecorded r → Contains (history_of r).reads x → x.txn < r.txns
reader_within r x good is =
    let (i, lt, same) = read_of r x is in
    let below = (good.reads i record { txn = 0; key = 0; version = 0 } lt).0 in
    subst (λ (q : Read). q.txn < r.txns) (sym same) below

pair_within : (r : Recorded) (x : After) → IsRecorded r → Contains (history_of r).after x
    → (x.earlier < r.txns) × (x.later < r.txns)
pair_within r x good is =
    let (i, lt, same) = pair_of r x is in
    let below = good.after i record { earlier = 0; later = 0 } lt in
    subst (λ (q : After). (q.earlier < r.txns) × (q.later < r.txns)) (sym same) below

abbrev IsWithin : ℕ → Edge → Type 0
IsWithin n e = (e.from < n) × (e.to < n)

before_within : (n t u : ℕ) (e : Edge) → e ≡ before_edge t u → t < n → u < n → IsWithin (2 * n) e
before_within n t u e is lt less = subst (IsWithin (2 * n)) (sym is) (omega arith, omega arith)

after_within : (n u t : ℕ) (e : Edge) → e ≡ after_edge u t → t < n → u < n → IsWithin (2 * n) e
after_within n u t e is lt less = subst (IsWithin (2 * n)) (sym is) (omega arith, omega arith)

edge_within : (r : Recorded) (e : Edge) → IsRecorded r → IsEdge (history_of r) e → IsWithin (2 * r.txns) e
edge_within r e good (inl (t, lt, is)) = before_within r.txns t t e is lt lt
edge_within r e good (inr (inl (k, i, has, more, is))) =
    after_within r.txns _ _ e is (writer_within r k (i + 1) good more) (writer_within r k i good has)
edge_within r e good (inr (inr (inl (x, in_reads, has, is)))) =
    after_within r.txns _ _ e is (reader_within r x good in_reads) (writer_within r x.key x.version good has)
edge_within r e good (inr (inr (inr (inl (x, in_reads, has, is))))) =
    before_within r.txns _ _ e is (reader_within r x good in_reads) (writer_within r x.key (x.version + 1) good has)
edge_within r e good (inr (inr (inr (inr (x, in_pairs, is))))) =
    let (one, other) = pair_within r x good in_pairs in after_within r.txns _ _ e is other one

pub graph_within : (r : Recorded) (edges : List Edge) → IsRecorded r → IsGraph (history_of r) edges
    → AreWithin (2 * r.txns) edges
graph_within r edges good graph i d lt =
    edge_within r (get_or edges i d) good ((graph (get_or edges i d)).0 (Contains-get_or edges i d lt))

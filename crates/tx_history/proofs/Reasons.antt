-- Why there is an edge, and that there is none.
use Rattle.std.proofs.Common.{◌≡◌, ◌≢◌, ◌⊎◌, ℕ, ◌+◌, ◌-◌, ◌*◌, ◌/◌, ◌%◌, ◌<◌, ◌≤◌, List, [], ◌∷◌, ◌++◌, length, get_or, zero, suc, Option, None, IfNone, slice_get, arith, inl, inr, refl, sym, ap, ◌∙◌, subst, Contains, slice_index, Some}
use Rattle.std.proofs.lemmas.Bool.{cases_lt}
use Rattle.std.proofs.lemmas.Grind.{common_steps}
use Rattle.std.proofs.lemmas.List.{get_or_default}
use Rattle.std.proofs.lemmas.Option.{slice_get-get_or, get_or_from_slice_get, slice_get_within}
use Rattle.tx_order.specs.declared.graph.Edge.{Edge}
use Rattle.tx_order.specs.Graphs.{IsWalk, IsCycle}
use Rattle.tx_order.proofs.Marks.{same_edge}
use Rattle.tx_history.specs.Histories.{History}
use Rattle.tx_history.specs.declared.recorded.Read.{Read}
use Rattle.tx_history.specs.declared.recorded.Recorded.{Recorded}
use Rattle.tx_history.specs.declared.dependency.DependencyKind.TheVariants.{Wr, Rw}
use Rattle.tx_history.specs.declared.dependency.Dependency.{Dependency}
use Rattle.tx_history.specs.Records.{writers_of, history_of}
use Rattle.tx_history.specs.Graph.{IsEdge, IsWw, IsWr, IsRw, IsAfter, IsCycleOf, before_edge, after_edge}
use Rattle.tx_history.specs.Additions.{IsSeenEdge, IsNextEdge, read_at, pair_at}
use Rattle.tx_history.specs.Dependencies.{IsDependency, IsWwIn, IsNoWwIn, IsSeen, IsNext, next_of}
use Rattle.tx_history.proofs.Graphs.{versions_from, wr_of, rw_of, pairs_from}

pub after_same : (a b u t : ℕ) → after_edge a b ≡ after_edge u t → (a ≡ u) × (b ≡ t)
after_same a b u t e =
    let from : 2 * a + 1 ≡ 2 * u + 1 = ap (λ (x : Edge). x.from) e in
    let to : 2 * b ≡ 2 * t = ap (λ (x : Edge). x.to) e in
    (omega (arith, from), omega (arith, to))

pub before_same : (a b t u : ℕ) → before_edge a b ≡ before_edge t u → (a ≡ t) × (b ≡ u)
before_same a b t u e =
    let from : 2 * a ≡ 2 * t = ap (λ (x : Edge). x.from) e in
    let to : 2 * b + 1 ≡ 2 * u + 1 = ap (λ (x : Edge). x.to) e in
    (omega (arith, from), omega (arith, to))

pub never_both : (a b t u : ℕ) → before_edge a b ≡ after_edge t u → ⊥
never_both a b t u e =
    let from : 2 * a ≡ 2 * t + 1 = ap (λ (x : Edge). x.from) e in
    absurd (omega (arith, from))

pub ww_some : (r : Recorded) (k from to : ℕ) (ws : List ℕ) (d : Dependency) → ws ≡ writers_of r k
    → IsWwIn ws k from to d
    → IsDependency (history_of r) d (after_edge from to)
ww_some r k from to ws d same (i, lt, one, other, is) =
    let h = history_of r in
    let n = ap length same in
    let at : i + 1 - 1 ≡ i = omega arith in
    let next : i + 1 + 1 - 1 ≡ i + 1 = omega arith in
    subst (λ (q : Dependency). IsDependency h q (after_edge from to)) (sym is) (
      (
        (omega arith, omega (arith, lt, n)),
        (omega arith, omega (arith, lt, n)),
        ap (slice_index (writers_of r k)) at ∙ ap (λ xs. slice_index xs i) (sym same) ∙ one,
        ap (slice_index (writers_of r k)) next ∙ ap (λ xs. slice_index xs (i + 1)) (sym same) ∙ other,
      ),
      refl,
    )

pub no_ww_in : (a b : List ℕ) (from to : ℕ) → a ≡ b → IsNoWwIn a from to → IsNoWwIn b from to
no_ww_in a b from to e h = subst (λ ws. IsNoWwIn ws from to) e h

pub ww_none : (r : Recorded) (from to : ℕ) → ((k : ℕ) → k < length r.heads.items → IsNoWwIn (writers_of r k) from to)
    → IsWw (history_of r) (after_edge from to) → ⊥
ww_none r from to none is =
    let (k, lt, (i, within, (more, same))) = versions_from r (after_edge from to) is in
    let (one, other) = after_same from to _ _ same in
    none k lt i more (sym one) (sym other)

-- a read of the history, by its parts
has_read : (r : Recorded) (i : ℕ) (s : Read) (t : ℕ) → i < length r.reads.items → s ≡ get_or r.reads.items i s
    → s.txn ≡ t
    → Contains r.reads.items record { txn = t; key = s.key; version = s.version }
has_read r i s t lt is same =
    let P : ℕ → Type 0 = λ q. Contains r.reads.items record { txn = q; key = s.key; version = s.version } in
    subst P same (i, lt, sym is)

pub wr_some : (r : Recorded) (i from to : ℕ) (s : Read) (ws : List ℕ) → i < length r.reads.items
    → s ≡ get_or r.reads.items i s → ws ≡ writers_of r s.key → IsSeen ws s from to
    → IsDependency (history_of r) record { kind = Wr; from = from; to = to; key = s.key; version = s.version }
    (after_edge from to)
wr_some r i from to s ws lt is same (reader, low, high, writer) =
    let n = ap length same in (
      (
        has_read r i s to lt is reader,
        (low, omega (arith, high, n)),
        ap (λ xs. slice_index xs (s.version - 1)) (sym same) ∙ writer,
      ),
      refl,
    )

pub rw_some : (r : Recorded) (i from to : ℕ) (s : Read) (ws : List ℕ) → i < length r.reads.items
    → s ≡ get_or r.reads.items i s → ws ≡ writers_of r s.key → IsNext ws s from to
    → IsDependency (history_of r) record { kind = Rw; from = from; to = to; key = s.key; version = s.version }
    (before_edge from to)
rw_some r i from to s ws lt is same (reader, high, writer) =
    let n = ap length same in
    let back : s.version + 1 - 1 ≡ s.version = omega arith in (
      (
        has_read r i s from lt is reader,
        (omega arith, omega (arith, high, n)),
        ap (slice_index (writers_of r s.key)) back ∙ ap (λ xs. slice_index xs s.version) (sym same) ∙ writer,
      ),
      refl,
    )

-- what is not seen is so of the read at its place
pub not_seen : (r : Recorded) (i from to : ℕ) (s : Read) (ws : List ℕ) → i < length r.reads.items
    → s ≡ get_or r.reads.items i s → ws ≡ writers_of r s.key → (IsSeen ws s from to → ⊥)
    → IsSeenEdge (writers_of r (read_at r i).key) (read_at r i) (after_edge from to) → ⊥
not_seen r i from to s ws lt is same never edge =
    let at : read_at r i ≡ s = get_or_default r.reads.items i record { txn = 0; key = 0; version = 0 } s lt ∙ sym is in
    let here : IsSeenEdge ws s (after_edge from to) = subst (λ xs. IsSeenEdge xs s (after_edge from to)) (sym same)
    (subst (λ (q : Read). IsSeenEdge (writers_of r q.key) q (after_edge from to)) at edge) in
    let (one, other) = after_same from to _ _ here.1 in
    never (sym other, here.0.0, here.0.1, sym one)

pub not_next : (r : Recorded) (i from to : ℕ) (s : Read) (ws : List ℕ) → i < length r.reads.items
    → s ≡ get_or r.reads.items i s → ws ≡ writers_of r s.key → (IsNext ws s from to → ⊥)
    → IsNextEdge (writers_of r (read_at r i).key) (read_at r i) (before_edge from to) → ⊥
not_next r i from to s ws lt is same never edge =
    let at : read_at r i ≡ s = get_or_default r.reads.items i record { txn = 0; key = 0; version = 0 } s lt ∙ sym is in
    let here : IsNextEdge ws s (before_edge from to) = subst (λ xs. IsNextEdge xs s (before_edge from to)) (sym same)
    (subst (λ (q : Read). IsNextEdge (writers_of r q.key) q (before_edge from to)) at edge) in
    let (one, other) = before_same from to _ _ here.1 in
    never (sym one, here.0, sym other)

pub wr_none : (r : Recorded) (from to : ℕ)
    → ((i : ℕ) → i < length r.reads.items
    → IsSeenEdge (writers_of r (read_at r i).key) (read_at r i) (after_edge from to) → ⊥)
    → IsWr (history_of r) (after_edge from to) → ⊥
wr_none r from to none is = let (i, lt, at) = wr_of r (after_edge from to) is in none i lt at

pub rw_none : (r : Recorded) (from to : ℕ)
    → ((i : ℕ) → i < length r.reads.items
    → IsNextEdge (writers_of r (read_at r i).key) (read_at r i) (before_edge from to) → ⊥)
    → IsRw (history_of r) (before_edge from to) → ⊥
rw_none r from to none is = let (i, lt, at) = rw_of r (before_edge from to) is in none i lt at

pub pair_none : (r : Recorded) (from to : ℕ)
    → ((i : ℕ) → i < length r.after.items → (pair_at r i).earlier ≡ from → (pair_at r i).later ≡ to → ⊥)
    → IsAfter (history_of r) (after_edge from to) → ⊥
pair_none r from to none is =
    let (i, lt, at) = pairs_from r (after_edge from to) is in
    let (one, other) = after_same from to _ _ at in
    none i lt (sym one) (sym other)

-- no edge to a commit, where a transaction's own is none and no read gives one
pub none_before : (r : Recorded) (from to : ℕ) → (from ≡ to → from < r.txns → ⊥)
    → (IsRw (history_of r) (before_edge from to) → ⊥)
    → IsEdge (history_of r) (before_edge from to) → ⊥
none_before r from to own rw (inl (t, lt, is)) =
    let (one, other) = before_same from to t t is in
    own (one ∙ sym other) (omega (arith, one, lt))
none_before r from to own rw (inr (inl (k, i, has, more, is))) = never_both _ _ _ _ is
none_before r from to own rw (inr (inr (inl (x, in_reads, has, is)))) = never_both _ _ _ _ is
none_before r from to own rw (inr (inr (inr (inl is)))) = rw is
none_before r from to own rw (inr (inr (inr (inr (p, in_pairs, is))))) = never_both _ _ _ _ is

pub none_after : (r : Recorded) (from to : ℕ) → (IsWw (history_of r) (after_edge from to) → ⊥)
    → (IsWr (history_of r) (after_edge from to) → ⊥) → (IsAfter (history_of r) (after_edge from to) → ⊥)
    → IsEdge (history_of r) (after_edge from to) → ⊥
none_after r from to ww wr pair (inl (t, lt, is)) = never_both _ _ _ _ (sym is)
none_after r from to ww wr pair (inr (inl is)) = ww is
none_after r from to ww wr pair (inr (inr (inl is))) = wr is
none_after r from to ww wr pair (inr (inr (inr (inl (x, in_reads, has, is))))) = never_both _ _ _ _ (sym is)
none_after r from to ww wr pair (inr (inr (inr (inr is)))) = pair is

-- the edge of two nodes, the first of which is a start
pub as_before : (a b : ℕ) → (a % 2 ≢ 1) → (a % 2 ≢ b % 2) → record { from = a; to = b } ≡ before_edge (a / 2) (b / 2)
as_before a b start other =
    let e : a ≡ 2 * (a / 2) = omega (arith, start) in
    let f : b ≡ 2 * (b / 2) + 1 = omega (arith, start, other) in
    let P : ℕ → Edge = λ x. record { from = x; to = b } in
    let Q : ℕ → Edge = λ y. record { from = 2 * (a / 2); to = y } in
    ap P e ∙ ap Q f

pub if_none_map : {A : Type 0} (P Q : Type 0) (found : Option A) → (P → Q) → IfNone found P → IfNone found Q
if_none_map P Q None f h = f h
if_none_map P Q (Some x) f h = h

cons_at : (x : ℕ) (xs : List ℕ) (i : ℕ) → slice_index (x ∷ xs) (i + 1) ≡ slice_index xs i
cons_at x xs i = grind (arith, common_steps)

inner : (edges : List Edge) (a : ℕ) (xs : List ℕ) (b i : ℕ) → IsWalk edges a xs b → i + 1 < length (a ∷ xs)
    → Contains edges record { from = slice_index (a ∷ xs) i; to = slice_index (a ∷ xs) (i + 1) }
inner edges a [] b i walk lt = absurd (omega (arith, lt))
inner edges a (x ∷ xs) b zero walk lt = walk.0
inner edges a (x ∷ xs) b (suc i) walk lt =
    let e : suc i ≡ i + 1 = omega arith in
    same_edge edges _ _ _ _ (ap (slice_index (a ∷ x ∷ xs)) e ∙ cons_at a (x ∷ xs) i)
    (cons_at a (x ∷ xs) (suc i) ∙ ap (slice_index (x ∷ xs)) e)
    (inner edges x xs b i walk.1 (omega (arith, lt)))

final : (edges : List Edge) (a : ℕ) (xs : List ℕ) (b i : ℕ) → IsWalk edges a xs b → i ≡ length xs
    → Contains edges record { from = slice_index (a ∷ xs) i; to = b }
final edges a [] b i walk end =
    subst (λ n. Contains edges record { from = slice_index (a ∷ []) n; to = b }) (sym end) walk
final edges a (x ∷ xs) b i walk end =
    let e : i ≡ length xs + 1 = omega (arith, end) in
    let here = final edges x xs b (length xs) walk.1 refl in
    same_edge edges _ _ _ _ (ap (slice_index (a ∷ x ∷ xs)) e ∙ cons_at a (x ∷ xs) (length xs)) refl here

next_inner : (nodes : List ℕ) (i : ℕ) → i + 1 < length nodes → next_of nodes i ≡ slice_index nodes (i + 1)
next_inner nodes i lt = grind (arith, common_steps)

next_final : (nodes : List ℕ) (i : ℕ) → length nodes ≤ i + 1 → next_of nodes i ≡ slice_index nodes 0
next_final nodes i end = grind (arith, common_steps)

in_cycle : (edges : List Edge) (nodes : List ℕ) (i : ℕ) → IsCycle edges nodes → i < length nodes
    → Contains edges record { from = slice_index nodes i; to = next_of nodes i }
in_cycle edges [] i cycle lt = absurd (omega (arith, lt))
in_cycle edges (a ∷ xs) i cycle lt = elim (cases_lt (i + 1) (length (a ∷ xs))) [
  | inl less ↦ same_edge edges _ _ _ _ refl (next_inner (a ∷ xs) i less) (inner edges a xs a i cycle less)
  | inr past ↦ same_edge edges _ _ _ _ refl (next_final (a ∷ xs) i past)
      (final edges a xs a i cycle (omega (arith, lt, past)))
]

-- each step round a cycle is an edge
pub cycle_edge : (h : History) (nodes : List ℕ) (i : ℕ) → IsCycleOf h nodes → i < length nodes
    → IsEdge h record { from = slice_index nodes i; to = next_of nodes i }
cycle_edge h nodes i (edges, graph, cycle) lt = (graph _).0 (in_cycle edges nodes i cycle lt)

one_longer : (old : List Dependency) (x : Dependency) → length (old ++ x ∷ []) ≡ length old + 1
one_longer old x = grind (arith, common_steps)

found_below : (old : List Dependency) (x : Dependency) (j : ℕ) (d : Dependency) → j < length old
    → get_or (old ++ x ∷ []) j d ≡ get_or old j d
found_below old x j d lt = grind (arith, common_steps)

found_at : (old : List Dependency) (x : Dependency) (j : ℕ) (d : Dependency) → j ≡ length old
    → get_or (old ++ x ∷ []) j d ≡ x
found_at old x j d is = grind (arith, common_steps)

last_found : (old : List Dependency) (x : Dependency) (j : ℕ) (d : Dependency) → slice_get (old ++ x ∷ []) j ≡ Some d
    → (slice_get old j ≡ Some d) ⊎ ((j ≡ length old) × (d ≡ x))
last_found old x j d at =
    let lt = slice_get_within (old ++ x ∷ []) j d at in
    let is : get_or (old ++ x ∷ []) j d ≡ d = get_or_from_slice_get (old ++ x ∷ []) j d d at in
    let n = one_longer old x in
    elim (cases_lt j (length old)) [
      | inl below ↦ inl (slice_get-get_or old j d below ∙ ap Some (sym (found_below old x j d below) ∙ is))
      | inr past ↦ (let same : j ≡ length old =
          omega (arith, past, lt, n) in inr (same, sym is ∙ found_at old x j d same))
    ]

-- what holds of those found so far, and of one more
pub found_more : (P : ℕ → Dependency → Type 0) (old new : List Dependency) (x : Dependency) (i : ℕ)
    → new ≡ old ++ x ∷ []
    → length old ≡ i → ((j : ℕ) (d : Dependency) → slice_get old j ≡ Some d → P j d) → P i x
    → (j : ℕ) (d : Dependency) → slice_get new j ≡ Some d → P j d
found_more P old new x i is n before here j d at =
    elim (last_found old x j d (subst (λ xs. slice_get xs j ≡ Some d) is at)) [
      | inl earlier ↦ before j d earlier
      | inr last ↦ (let same : i ≡ j = sym n ∙ sym last.0 in
          subst (P j) (sym last.1) (subst (λ q. P q x) same here))
    ]

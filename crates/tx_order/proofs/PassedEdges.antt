-- A search that passes an edge of a node on its path.
use Rattle.std.proofs.Common.{◌≡◌, ◌≢◌, ℕ, ◌+◌, ◌-◌, ◌<◌, ◌≤◌, ◌⊎◌, List, length, slice_set, get_or, arith, inl, inr, sym, ap, ◌∙◌, subst, length-set, get_or-set_other, get_or-set_same}
use Rattle.std.proofs.lemmas.Bool.{cases_lt}
use Rattle.std.proofs.lemmas.List.{get_or_default}
use Rattle.tx_order.specs.declared.graph.Edge.{Edge}
use Rattle.tx_order.specs.declared.search.Mark.{Mark}
use Rattle.tx_order.specs.declared.search.Mark.TheVariants.{Done}
use Rattle.tx_order.specs.declared.search.Frame.{Frame}
use Rattle.tx_order.specs.Search.{edge_at, mark_of, frame_at, node_at, top_of, IsPath, IsSearch}
use Rattle.tx_order.proofs.Marks.{same_edge, same_mark}

-- the node at i, whose next edge leads to a finished one, and what is there then
pub record Passes (edges : List Edge) (marks : List Mark) (path : List Frame) (i : ℕ) (y : Frame)
    (done : ℕ) : Type 0 where
  pub search : IsSearch edges marks path done
  pub at : i < length path
  pub same : y.node ≡ node_at path i
  pub next : y.next ≡ (frame_at path i).next + 1
  pub more : (frame_at path i).next < length edges
  pub ended : (f : ℕ) × (mark_of marks (edge_at edges (frame_at path i).next).to ≡ Done f)

same_or_not : (p i : ℕ) → (p ≡ i) ⊎ (p ≢ i)
same_or_not p i = elim (cases_lt p i) [
  | inl lt ↦ inr (λ e. omega (arith, lt, e))
  | inr ge ↦ elim (cases_lt i p) [
    | inl gt ↦ inr (λ e. omega (arith, gt, e))
    | inr le ↦ inl (omega (arith, ge, le))
  ]
]

node-set : (path : List Frame) (i p : ℕ) (y : Frame) → i < length path → y.node ≡ node_at path i
    → node_at (slice_set path i y) p ≡ node_at path p
node-set path i p y h same = elim (same_or_not p i) [
  | inl e ↦ ap (node_at (slice_set path i y)) e
      ∙ ap (λ (f : Frame). f.node) (get_or-set_same path i y record { node = 0; next = 0 } h) ∙ same
      ∙ ap (node_at path) (sym e)
  | inr ne ↦ ap (λ (f : Frame). f.node) (get_or-set_other path i p y record { node = 0; next = 0 } ne)
]

next-set : (path : List Frame) (i p : ℕ) (y : Frame) → i < length path
    → ((p ≡ i) × ((frame_at (slice_set path i y) p).next ≡ y.next))
    ⊎ ((frame_at (slice_set path i y) p).next ≡ (frame_at path p).next)
next-set path i p y h = elim (same_or_not p i) [
  | inl e ↦ inl (
    e,
    ap (λ q. (frame_at (slice_set path i y) q).next) e
        ∙ ap (λ (f : Frame). f.next) (get_or-set_same path i y record { node = 0; next = 0 } h),
  )
  | inr ne ↦ inr (ap (λ (f : Frame). f.next) (get_or-set_other path i p y record { node = 0; next = 0 } ne))
]

other_below : (e n m k : ℕ) → m ≡ n + 1 → k ≡ m → e < k → e ≢ n → e < n
other_below e n m k h is lt ne = omega arith

passes_passed : (edges : List Edge) (marks : List Mark) (path : List Frame) (i : ℕ) (y : Frame) (done : ℕ)
    → Passes edges marks path i y done → (p e : ℕ) → p < length path → e < (frame_at (slice_set path i y) p).next
    → e < length edges → (edge_at edges e).from ≡ node_at path p
    → (f : ℕ) × (mark_of marks (edge_at edges e).to ≡ Done f)
passes_passed edges marks path i y done c p e h lt within from = elim (next-set path i p y c.at) [
  | inr same ↦ c.search.path_is.passed p e h (omega (arith, same, lt)) within from
  | inl (at, next) ↦ elim (same_or_not e (frame_at path i).next) [
    | inl is ↦ (c.ended.0, ap (λ k. mark_of marks (edge_at edges k).to) is ∙ c.ended.1)
    | inr ne ↦ c.search.path_is.passed p e h
        (let same = ap (λ k. (frame_at path k).next) at in
        let less = other_below e (frame_at path i).next y.next _ c.next next lt ne in
        omega (arith, same, less)) within from
  ]
]

-- what lies ahead lay ahead
later_next : (path : List Frame) (i : ℕ) (y : Frame) (p e : ℕ) → i < length path → y.next ≡ (frame_at path i).next + 1
    → (frame_at (slice_set path i y) p).next ≤ e → (frame_at path p).next ≤ e
later_next path i y p e h is le = elim (next-set path i p y h) [
  | inr same ↦ omega (arith, same, le)
  | inl (at, next) ↦ (let same = ap (λ k. (frame_at path k).next) at in omega (arith, same, next, is, le))
]

passes_path : (edges : List Edge) (marks : List Mark) (path : List Frame) (i : ℕ) (y : Frame) (done : ℕ)
    → Passes edges marks path i y done → IsPath edges marks (slice_set path i y)
passes_path edges marks path i y done c =
    let old = c.search.path_is in
    let n = length-set path i y in
    let node = λ (p : ℕ). node-set path i p y c.at c.same in
    record {
      opened = λ v p is. (let (lt, at) = old.opened v p is in (omega (arith, n, lt), node p ∙ at));
      marked = λ p h. same_mark marks _ _ _ (node p) (old.marked p (omega (arith, n, h)));
      upto = λ p h. elim (next-set path i p y c.at) [
        | inr same ↦ (let lt = old.upto p (omega (arith, n, h)) in omega (arith, same, lt))
        | inl (at, next) ↦ (let is = c.next in let more = c.more in omega (arith, next, is, more))
      ];
      ahead = λ p e h le within. (let same = node p in
          let next = later_next path i y p e c.at c.next le in
          let is = old.ahead p e (omega (arith, n, h)) next within in omega (arith, same, is));
      linked = λ p h. same_edge edges _ _ _ _ (node p) (node (p + 1)) (old.linked p (omega (arith, n, h)));
      passed = λ p e h lt within from. passes_passed edges marks path i y done c p e (omega (arith, n, h)) lt within
          (from ∙ node p);
    }

pub passed : (edges : List Edge) (marks : List Mark) (path : List Frame) (i : ℕ) (y : Frame) (done : ℕ)
    → Passes edges marks path i y done → IsSearch edges marks (slice_set path i y) done
passed edges marks path i y done c = record {
  finishes = c.search.finishes;
  path_is = passes_path edges marks path i y done c;
  counts = (let counts = c.search.counts in let n = length-set path i y in omega (arith, counts, n));
}

frame_read : (path : List Frame) (i : ℕ) (f : Frame) → i < length path → f ≡ get_or path i f → frame_at path i ≡ f
frame_read path i f h is = get_or_default path i record { node = 0; next = 0 } f h ∙ sym is

passing_top : (edges : List Edge) (marks : List Mark) (path : List Frame) (f : Frame) (done : ℕ)
    → IsSearch edges marks path done → length path ≢ 0 → (top_of path).next < length edges
    → ((g : ℕ) × (mark_of marks (edge_at edges (top_of path).next).to ≡ Done g))
    → f ≡ get_or path (length path - 1) f
    → IsSearch edges marks (slice_set path (length path - 1) record { node = f.node; next = f.next + 1 }) done
passing_top edges marks path f done search some more ended is =
    let at : length path - 1 < length path = omega (arith, some) in
    let read = frame_read path (length path - 1) f at is in
    passed edges marks path (length path - 1) record { node = f.node; next = f.next + 1 } done record {
      search = search;
      at = at;
      same = sym (ap (λ (x : Frame). x.node) read);
      next = ap (λ n. n + 1) (sym (ap (λ (x : Frame). x.next) read));
      more = more;
      ended = ended;
    }

pub passing : (edges : List Edge) (marks : List Mark) (path : List Frame) (n : ℕ) (f : Frame) (done : ℕ)
    → n ≡ length path → IsSearch edges marks path done → length path ≢ 0 → (top_of path).next < length edges
    → ((g : ℕ) × (mark_of marks (edge_at edges (top_of path).next).to ≡ Done g))
    → f ≡ get_or path (n - 1) f
    → IsSearch edges marks (slice_set path (n - 1) record { node = f.node; next = f.next + 1 }) done
passing edges marks path n f done len search some more ended is =
    let P : ℕ → Type 0 = λ k. f ≡ get_or path (k - 1) f
    → IsSearch edges marks (slice_set path (k - 1) record { node = f.node; next = f.next + 1 }) done in
    subst P (sym len) (passing_top edges marks path f done search some more ended) is

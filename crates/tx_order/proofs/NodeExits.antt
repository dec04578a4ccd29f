-- A search that finishes the last node on its path.
use Rattle.std.proofs.Common.{◌≡◌, ◌≢◌, ℕ, ◌+◌, ◌-◌, ◌*◌, ◌<◌, ◌≤◌, List, [], ◌∷◌, ◌++◌, length, slice_set, get_or, arith, refl, inl, inr, sym, ap, ◌∙◌, length-set}
use Rattle.std.specs.List.{sum_by}
use Rattle.std.proofs.lemmas.List.Sums.{sum_by-set, sum_by-append}
use Rattle.std.proofs.lemmas.Bool.{cases_lt}
use Rattle.tx_order.specs.declared.graph.Edge.{Edge}
use Rattle.tx_order.specs.declared.search.Mark.{Mark}
use Rattle.tx_order.specs.declared.search.Mark.TheVariants.{Unseen, Open, Done}
use Rattle.tx_order.specs.declared.search.Frame.{Frame}
use Rattle.tx_order.specs.Search.{edge_at, mark_of, frame_at, node_at, Finishes, IsPath, IsSearch, unseen, StaysMet, rest_of, steps_left}
use Rattle.tx_order.proofs.Marks.{still_done_open, still_open_open, done-done, open-done, mark_within, unseen_open, frame-push_at, length-push, node-push_below, next-push_below, node-push_at, next-push_at, same_edge, same_mark}

-- the last node and those before, none of whose edges are left
pub record Leaves (edges : List Edge) (marks : List Mark) (path : List Frame) (x : Frame) (done : ℕ) : Type 0 where
  pub search : IsSearch edges marks (path ++ x ∷ []) done
  pub ended : (e : ℕ) → x.next ≤ e → e < length edges → (edge_at edges e).from ≢ x.node

-- its mark
last_mark : (edges : List Edge) (marks : List Mark) (path : List Frame) (x : Frame) (done : ℕ)
    → Leaves edges marks path x done → mark_of marks x.node ≡ Open (length path)
last_mark edges marks path x done c =
    let lt : length path < length (path ++ x ∷ []) = grind (arith, length-push) in
    same_mark marks _ _ _ (sym (node-push_at path x (length path) refl)) (c.search.path_is.marked (length path) lt)

pub last_within : (edges : List Edge) (marks : List Mark) (path : List Frame) (x : Frame) (done : ℕ)
    → Leaves edges marks path x done → x.node < length marks
last_within edges marks path x done c =
    mark_within marks x.node (λ e. grind (arith, e, last_mark edges marks path x done c))

-- an edge of the last node leads to one that is finished
last_leads : (edges : List Edge) (marks : List Mark) (path : List Frame) (x : Frame) (done : ℕ)
    → Leaves edges marks path x done → (e : ℕ) → e < length edges → (edge_at edges e).from ≡ x.node
    → (f : ℕ) × (mark_of marks (edge_at edges e).to ≡ Done f)
last_leads edges marks path x done c e h from = elim (cases_lt e x.next) [
  | inl below ↦ (let lt : length path < length (path ++ x ∷ []) = grind (arith, length-push) in
      let same = next-push_at path x (length path) refl in
      c.search.path_is.passed (length path) e lt (omega (arith, same, below)) h
      (from ∙ sym (node-push_at path x (length path) refl)))
  | inr above ↦ absurd (c.ended e above h from)
]

leaves_leads : (edges : List Edge) (marks : List Mark) (path : List Frame) (x : Frame) (done : ℕ)
    → Leaves edges marks path x done → (e f : ℕ) → e < length edges
    → mark_of (slice_set marks x.node (Done done)) (edge_at edges e).from ≡ Done f
    → (g : ℕ) × (g < f) × (mark_of (slice_set marks x.node (Done done)) (edge_at edges e).to ≡ Done g)
leaves_leads edges marks path x done c e f h is =
    let within = last_within edges marks path x done c in
    let last = last_mark edges marks path x done c in
    elim (done-done marks x.node _ done f within is) [
      | inl (same, at) ↦ (let (g, so) = last_leads edges marks path x done c e h same in
          let lt = c.search.finishes.below _ g so in
          (g, omega (arith, lt, at), still_done_open marks x.node _ g (length path) (Done done) within last so))
      | inr was ↦ (let (g, lt, so) = c.search.finishes.leads e f h was in
          (g, lt, still_done_open marks x.node _ g (length path) (Done done) within last so))
    ]

leaves_distinct : (edges : List Edge) (marks : List Mark) (path : List Frame) (x : Frame) (done : ℕ)
    → Leaves edges marks path x done → (v w f : ℕ)
    → mark_of (slice_set marks x.node (Done done)) v ≡ Done f → mark_of (slice_set marks x.node (Done done)) w ≡ Done f
    → v ≡ w
leaves_distinct edges marks path x done c v w f is so =
    let within = last_within edges marks path x done c in
    let below = c.search.finishes.below in
    elim (done-done marks x.node v done f within is) [
      | inl (same, at) ↦ elim (done-done marks x.node w done f within so) [
        | inl (also, _) ↦ same ∙ sym also
        | inr was ↦ absurd (let lt = below w f was in omega (arith, lt, at))
      ]
      | inr was ↦ elim (done-done marks x.node w done f within so) [
        | inl (also, at) ↦ absurd (let lt = below v f was in omega (arith, lt, at))
        | inr too ↦ c.search.finishes.distinct v w f was too
      ]
    ]

leaves_finishes : (edges : List Edge) (marks : List Mark) (path : List Frame) (x : Frame) (done : ℕ)
    → Leaves edges marks path x done → Finishes edges (slice_set marks x.node (Done done)) (done + 1)
leaves_finishes edges marks path x done c = record {
  below = λ v f is. elim (done-done marks x.node v done f (last_within edges marks path x done c) is) [
    | inl (same, at) ↦ omega (arith, at)
    | inr was ↦ (let lt = c.search.finishes.below v f was in omega (arith, lt))
  ];
  distinct = leaves_distinct edges marks path x done c;
  leads = leaves_leads edges marks path x done c;
}

leaves_opened : (edges : List Edge) (marks : List Mark) (path : List Frame) (x : Frame) (done : ℕ)
    → Leaves edges marks path x done → (v p : ℕ) → mark_of (slice_set marks x.node (Done done)) v ≡ Open p
    → (p < length path) × (node_at path p ≡ v)
leaves_opened edges marks path x done c v p is =
    let (ne, was) = open-done marks x.node v done p (last_within edges marks path x done c) is in
    let (lt, at) = c.search.path_is.opened v p was in
    elim (cases_lt p (length path)) [
      | inl below ↦ (below, sym (node-push_below path x p below) ∙ at)
      | inr above ↦ absurd (ne
          (sym at ∙ node-push_at path x p (let n = length-push path x in omega (arith, n, lt, above))))
    ]

leaves_path : (edges : List Edge) (marks : List Mark) (path : List Frame) (x : Frame) (done : ℕ)
    → Leaves edges marks path x done → IsPath edges (slice_set marks x.node (Done done)) path
leaves_path edges marks path x done c =
    let old = c.search.path_is in
    let within = last_within edges marks path x done c in
    let last = last_mark edges marks path x done c in
    let n = length-push path x in
    record {
      opened = leaves_opened edges marks path x done c;
      marked = λ p h. still_open_open marks x.node _ p (length path) (Done done) within last (λ e. omega (arith, e, h))
          (same_mark marks _ _ _ (sym (node-push_below path x p h)) (old.marked p (omega (arith, n, h))));
      upto = λ p h. (let same = next-push_below path x p h in
          let lt = old.upto p (omega (arith, n, h)) in omega (arith, same, lt));
      ahead = λ p e h le in_edges. (let same = next-push_below path x p h in
          let node = node-push_below path x p h in
          let is = old.ahead p e (omega (arith, n, h)) (omega (arith, same, le)) in_edges in omega (arith, node, is));
      linked = λ p h. (let lt : p < length path = omega (arith, h) in
          same_edge edges _ _ _ _ (sym (node-push_below path x p lt)) (sym (node-push_below path x (p + 1) h))
          (old.linked p (omega (arith, n, h))));
      passed = λ p e h lt in_edges from. (let same = next-push_below path x p h in
          let (f, is) = old.passed p e (omega (arith, n, h)) (omega (arith, same, lt)) in_edges
          (from ∙ sym (node-push_below path x p h)) in
          (f, still_done_open marks x.node _ f (length path) (Done done) within last is));
    }

no_fewer : (a b u : ℕ) → a + u ≡ b + 0 → u ≡ 0 → a ≡ b
no_fewer a b u h is = omega arith

counted : (a b p q m k d : ℕ) → b + (q + d) ≡ m → a ≡ b → q ≡ p + 1 → k ≡ m → a + (p + (d + 1)) ≡ k
counted a b p q m k d h e f g = omega arith

less_rest : (a b s t k n m q : ℕ) → a ≡ b → t ≡ s + (0 + (n + 1 - q)) → m ≤ n → m ≡ q → a * k + s < b * k + t
less_rest a b s t k n m q e h le is =
    let some : s < t = omega arith in
    rw e (grind arith)

leaves_unseen : (edges : List Edge) (marks : List Mark) (path : List Frame) (x : Frame) (done : ℕ)
    → Leaves edges marks path x done
    → sum_by unseen (slice_set marks x.node (Done done)) ≡ sum_by unseen marks
leaves_unseen edges marks path x done c =
    let was : unseen (get_or marks x.node Unseen) ≡ 0 = ap unseen (last_mark edges marks path x done c) in
    let more = sum_by-set unseen marks x.node (Done done) Unseen (last_within edges marks path x done c) in
    no_fewer _ _ _ more was

pub left : (edges : List Edge) (marks : List Mark) (path : List Frame) (x : Frame) (done : ℕ)
    → Leaves edges marks path x done → IsSearch edges (slice_set marks x.node (Done done)) path (done + 1)
left edges marks path x done c = record {
  finishes = leaves_finishes edges marks path x done c;
  path_is = leaves_path edges marks path x done c;
  counts = (let counts = c.search.counts in
      let same = leaves_unseen edges marks path x done c in
      let n = length-push path x in
      let m = length-set marks x.node (Done done) in
      counted _ _ _ _ _ _ done counts same n m);
}

pub left-met : (edges : List Edge) (marks : List Mark) (path : List Frame) (x : Frame) (done : ℕ)
    → Leaves edges marks path x done → StaysMet marks (slice_set marks x.node (Done done))
left-met edges marks path x done c = (
  length-set marks x.node (Done done),
  λ w so. unseen_open marks x.node w (length path) (Done done) (last_mark edges marks path x done c)
      (last_within edges marks path x done c) (λ e. grind (arith, e)) so,
)

pub left-smaller : (edges : List Edge) (marks : List Mark) (path : List Frame) (x : Frame) (done : ℕ)
    → Leaves edges marks path x done
    → steps_left edges (slice_set marks x.node (Done done)) path < steps_left edges marks (path ++ x ∷ [])
left-smaller edges marks path x done c =
    let same = leaves_unseen edges marks path x done c in
    let rest = sum_by-append (rest_of edges) path (x ∷ []) in
    let lt : length path < length (path ++ x ∷ []) = grind (arith, length-push) in
    let upto = c.search.path_is.upto (length path) lt in
    let next = next-push_at path x (length path) refl in
    less_rest _ _ _ _ (length edges + 2) (length edges) _ _ same rest upto next

-- whether the last node may be left is seen from the path alone
pub top_push : (path : List Frame) (x : Frame) → frame_at (path ++ x ∷ []) (length (path ++ x ∷ []) - 1) ≡ x
top_push path x = frame-push_at path x _ (let n = length-push path x in omega (arith, n))

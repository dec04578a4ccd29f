-- A search that goes to a node that it has not met.
use Rattle.std.proofs.Common.{◌≡◌, ◌≢◌, ℕ, ◌+◌, ◌-◌, ◌*◌, ◌<◌, ◌≤◌, List, [], ◌∷◌, ◌++◌, length, slice_set, get_or, arith, Contains, length-set, inl, inr, sym, ap, ◌∙◌}
use Rattle.std.proofs.lemmas.List.Sums.{sum_by-set, sum_by-append}
use Rattle.std.proofs.lemmas.Bool.{cases_lt}
use Rattle.std.proofs.lemmas.Grind.{common_steps}
use Rattle.tx_order.specs.declared.graph.Edge.{Edge}
use Rattle.tx_order.specs.declared.search.Mark.{Mark}
use Rattle.tx_order.specs.declared.search.Mark.TheVariants.{Unseen, Open}
use Rattle.tx_order.specs.declared.search.Frame.{Frame}
use Rattle.tx_order.specs.Search.{edge_at, mark_of, frame_at, node_at, top_of, Finishes, IsPath, Counts, IsSearch, unseen, StaysMet, rest_of, steps_left}
use Rattle.tx_order.proofs.Marks.{mark-set_same, done-open, still_done, open-open, still_open, frame-push_below, frame-push_at, length-push, node-push_below, next-push_below, node-push_at, next-push_at, same_edge, same_mark, unseen_set}

-- what is asked of the search, the node and its first edge
pub record Enters (edges : List Edge) (marks : List Mark) (path : List Frame) (done v next : ℕ) : Type 0 where
  pub search : IsSearch edges marks path done
  pub within : v < length marks
  pub is_unseen : mark_of marks v ≡ Unseen
  pub linked : length path ≢ 0 → Contains edges record { from = (top_of path).node; to = v }
  pub before : (e : ℕ) → e < next → (edge_at edges e).from < v
  pub upto : next ≤ length edges
  pub ahead : (e : ℕ) → next ≤ e → e < length edges → v ≤ (edge_at edges e).from

pub entered-finishes : (edges : List Edge) (marks : List Mark) (path : List Frame) (done v next : ℕ)
    → Enters edges marks path done v next → Finishes edges (slice_set marks v (Open (length path))) done
entered-finishes edges marks path done v next c =
    let f = c.search.finishes in
    record {
      below = λ w n is. f.below w n (done-open marks v w (length path) n c.within is);
      distinct = λ w x n is so. f.distinct w x n (done-open marks v w (length path) n c.within is)
          (done-open marks v x (length path) n c.within so);
      leads = λ e n h is. let (g, lt, so) = f.leads e n h (done-open marks v _ (length path) n c.within is) in
          (g, lt, still_done marks v _ g (Open (length path)) c.within c.is_unseen so);
    }

entered_at : (path : List Frame) (x : Frame) (w p : ℕ) → w ≡ x.node → p ≡ length path
    → (p < length (path ++ x ∷ [])) × (node_at (path ++ x ∷ []) p ≡ w)
entered_at path x w p same at = grind (arith, common_steps, frame-push_at, length-push)

entered_below : (path : List Frame) (x : Frame) (w p : ℕ) → p < length path → node_at path p ≡ w
    → (p < length (path ++ x ∷ [])) × (node_at (path ++ x ∷ []) p ≡ w)
entered_below path x w p h is = grind (arith, common_steps, frame-push_below, length-push)

entered_mark : (marks : List Mark) (path : List Frame) (x : Frame) (p : ℕ) → x.node < length marks → length path ≤ p
    → p < length (path ++ x ∷ [])
    → mark_of (slice_set marks x.node (Open (length path))) (node_at (path ++ x ∷ []) p) ≡ Open p
entered_mark marks path x p within above h = grind (arith, common_steps, frame-push_at, length-push, mark-set_same)

linked_below : (edges : List Edge) (path : List Frame) (x : Frame) (p : ℕ) → p + 1 < length path
    → Contains edges record { from = node_at path p; to = node_at path (p + 1) }
    → Contains edges record { from = node_at (path ++ x ∷ []) p; to = node_at (path ++ x ∷ []) (p + 1) }
linked_below edges path x p h is =
    let lt : p < length path = omega arith in
    same_edge edges _ _ _ _ (node-push_below path x p lt) (node-push_below path x (p + 1) h) is

linked_top : (edges : List Edge) (path : List Frame) (x : Frame) (p : ℕ) → length path ≤ p + 1
    → p + 1 < length (path ++ x ∷ [])
    → (length path ≢ 0 → Contains edges record { from = (top_of path).node; to = x.node })
    → Contains edges record { from = node_at (path ++ x ∷ []) p; to = node_at (path ++ x ∷ []) (p + 1) }
linked_top edges path x p above h link =
    let last : p + 1 ≡ length path = grind (arith, length-push) in
    let lt : p < length path = omega arith in
    let some : length path ≢ 0 = omega arith in
    let top : length path - 1 ≡ p = omega arith in
    same_edge edges _ _ _ _ (node-push_below path x p lt ∙ ap (node_at path) (sym top))
    (node-push_at path x (p + 1) last)
    (link some)

last_index : (path : List Frame) (x : Frame) (p : ℕ) → length path ≤ p → p < length (path ++ x ∷ []) → p ≡ length path
last_index path x p above h = grind (arith, length-push)

entered_next : (edges : List Edge) (path : List Frame) (x : Frame) (p : ℕ) → length path ≤ p
    → p < length (path ++ x ∷ []) → x.next ≤ length edges → (frame_at (path ++ x ∷ []) p).next ≤ length edges
entered_next edges path x p above h upto =
    let last : p ≡ length path = grind (arith, length-push) in
    let same = next-push_at path x p last in
    omega (arith, same, upto)

passed_next : (path : List Frame) (x : Frame) (p e : ℕ) → p < length path → e < (frame_at (path ++ x ∷ []) p).next
    → e < (frame_at path p).next
passed_next path x p e h lt = let same = next-push_below path x p h in omega (arith, same, lt)

passed_node : (path : List Frame) (x : Frame) (p v : ℕ) → p < length path → v ≡ node_at (path ++ x ∷ []) p
    → v ≡ node_at path p
passed_node path x p v h is = is ∙ node-push_below path x p h

passed_none : (edges : List Edge) (path : List Frame) (x : Frame) (p e : ℕ) → length path ≤ p
    → p < length (path ++ x ∷ []) → e < (frame_at (path ++ x ∷ []) p).next
    → (edge_at edges e).from ≡ node_at (path ++ x ∷ []) p
    → ((i : ℕ) → i < x.next → (edge_at edges i).from < x.node) → ⊥
passed_none edges path x p e above h lt from before =
    let last : p ≡ length path = grind (arith, length-push) in
    let next = next-push_at path x p last in
    let small : e < x.next = omega (arith, next, lt) in
    let same = from ∙ node-push_at path x p last in
    let less = before e small in
    omega (arith, less, same)

pub entered-path : (edges : List Edge) (marks : List Mark) (path : List Frame) (done v next : ℕ)
    → Enters edges marks path done v next
    → IsPath edges (slice_set marks v (Open (length path))) (path ++ record { node = v; next = next } ∷ [])
entered-path edges marks path done v next c =
    let old = c.search.path_is in
    let n = length path in
    let x : Frame = record { node = v; next = next } in
    record {
      opened = λ w p is. elim (open-open marks v w n p c.within is) [
        | inl (same, at) ↦ entered_at path x w p same at
        | inr so ↦ entered_below path x w p (old.opened w p so).0 (old.opened w p so).1
      ];
      marked = λ p h. elim (cases_lt p n) [
        | inl below ↦ same_mark _ _ _ _ (node-push_below path x p below)
            (still_open marks v _ p (Open n) c.within c.is_unseen (old.marked p below))
        | inr above ↦ entered_mark marks path x p c.within above h
      ];
      upto = λ p h. elim (cases_lt p n) [
        | inl below ↦ (let same = next-push_below path x p below in let lt =
            old.upto p below in omega (arith, same, lt))
        | inr above ↦ entered_next edges path x p above h c.upto
      ];
      ahead = λ p e h le within. elim (cases_lt p n) [
        | inl below ↦ (let same = next-push_below path x p below in
            let node = node-push_below path x p below in
            let is = old.ahead p e below (omega (arith, same, le)) within in omega (arith, node, is))
        | inr above ↦ (let last : p ≡ length path = last_index path x p above h in
            let same = next-push_at path x p last in
            let node = node-push_at path x p last in
            let is = c.ahead e (omega (arith, same, le)) within in omega (arith, node, is))
      ];
      linked = λ p h. elim (cases_lt (p + 1) n) [
        | inl below ↦ linked_below edges path x p below (old.linked p below)
        | inr above ↦ linked_top edges path x p above h c.linked
      ];
      passed = λ p e h lt within from. elim (cases_lt p n) [
        | inl below ↦ (let (f, is) = old.passed p e below (passed_next path x p e below lt) within
            (passed_node path x p _ below from) in
            (f, still_done marks v _ f (Open n) c.within c.is_unseen is))
        | inr above ↦ absurd (passed_none edges path x p e above h lt from c.before)
      ];
    }

pub entered-counts : (edges : List Edge) (marks : List Mark) (path : List Frame) (done v next : ℕ)
    → Enters edges marks path done v next
    → Counts (slice_set marks v (Open (length path))) (path ++ record { node = v; next = next } ∷ []) done
entered-counts edges marks path done v next c =
    let counts = c.search.counts in
    let was : unseen (get_or marks v Unseen) ≡ 1 = ap unseen c.is_unseen in
    let more = sum_by-set unseen marks v (Open (length path)) Unseen c.within in
    grind (arith, common_steps, counts, was, more)

pub entered : (edges : List Edge) (marks : List Mark) (path : List Frame) (done v next : ℕ)
    → Enters edges marks path done v next
    → IsSearch edges (slice_set marks v (Open (length path))) (path ++ record { node = v; next = next } ∷ []) done
entered edges marks path done v next c = record {
  finishes = entered-finishes edges marks path done v next c;
  path_is = entered-path edges marks path done v next c;
  counts = entered-counts edges marks path done v next c;
}

one_fewer : (a b u : ℕ) → a + u ≡ b + 0 → u ≡ 1 → b ≡ a + 1
one_fewer a b u h is = omega arith

new_rest : (n next : ℕ) → 0 + (n + 1 - next) < n + 2
new_rest n next = omega arith

fewer_unseen : (a b s t r k : ℕ) → b ≡ a + 1 → t ≡ s + r → r < k → a * k + t < b * k + s
fewer_unseen a b s t r k e h lt = rw (e, h) (grind arith)

pub entered-met : (marks : List Mark) (v : ℕ) (m : Mark) → mark_of marks v ≡ Unseen
    → StaysMet marks (slice_set marks v m)
entered-met marks v m is = (length-set marks v m, λ w so. unseen_set marks v w m is so)

pub entered-smaller : (edges : List Edge) (marks : List Mark) (path : List Frame) (done v next : ℕ)
    → Enters edges marks path done v next
    → steps_left edges (slice_set marks v (Open (length path))) (path ++ record { node = v; next = next } ∷ [])
    < steps_left edges marks path
entered-smaller edges marks path done v next c =
    let was : unseen (get_or marks v Unseen) ≡ 1 = ap unseen c.is_unseen in
    let more = sum_by-set unseen marks v (Open (length path)) Unseen c.within in
    let rest = sum_by-append (rest_of edges) path (record { node = v; next = next } ∷ []) in
    fewer_unseen _ _ _ _ _ (length edges + 2) (one_fewer _ _ _ more was) rest (new_rest (length edges) next)

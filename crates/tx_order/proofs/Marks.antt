-- Marks of nodes, and the path, once one is changed.
use Rattle.std.proofs.Common.{◌≡◌, ◌≢◌, ℕ, ◌+◌, ◌<◌, ◌≤◌, ◌⊎◌, List, [], ◌∷◌, ◌++◌, length, slice_set, arith, inl, inr, Contains, ap, sym, ◌∙◌, get_or-set_other, get_or-set_same}
use Rattle.std.proofs.lemmas.Bool.{cases_lt}
use Rattle.std.proofs.lemmas.Grind.{common_steps}
use Rattle.tx_order.specs.declared.graph.Edge.{Edge}
use Rattle.tx_order.specs.declared.search.Mark.{Mark}
use Rattle.tx_order.specs.declared.search.Mark.TheVariants.{Unseen, Open, Done}
use Rattle.tx_order.specs.declared.search.Frame.{Frame}
use Rattle.tx_order.specs.Search.{mark_of, frame_at, node_at}

pub mark-set_same : (marks : List Mark) (v : ℕ) (m : Mark) → v < length marks → mark_of (slice_set marks v m) v ≡ m
mark-set_same marks v m h = get_or-set_same marks v m Unseen h

pub mark-set_other : (marks : List Mark) (v w : ℕ) (m : Mark) → w ≢ v
    → mark_of (slice_set marks v m) w ≡ mark_of marks w
mark-set_other marks v w m ne = get_or-set_other marks v w m Unseen ne

-- a finished node was finished before, where another was marked as open
pub done-open : (marks : List Mark) (v w p f : ℕ) → v < length marks → mark_of (slice_set marks v (Open p)) w ≡ Done f
    → mark_of marks w ≡ Done f
done-open marks v w p f h is = grind (arith, common_steps, mark-set_same, mark-set_other)

-- what was finished stays so where an unseen node is marked
pub still_done : (marks : List Mark) (v w f : ℕ) (m : Mark) → v < length marks → mark_of marks v ≡ Unseen
    → mark_of marks w ≡ Done f → mark_of (slice_set marks v m) w ≡ Done f
still_done marks v w f m h is so = grind (arith, common_steps, mark-set_same, mark-set_other)

-- what is open was open before, or it is the node that was marked so
pub open-open : (marks : List Mark) (v w n p : ℕ) → v < length marks → mark_of (slice_set marks v (Open n)) w ≡ Open p
    → ((w ≡ v) × (p ≡ n)) ⊎ (mark_of marks w ≡ Open p)
open-open marks v w n p h is = grind (arith, common_steps, mark-set_same, mark-set_other)

-- what was open stays so where an unseen node is marked
pub still_open : (marks : List Mark) (v w p : ℕ) (m : Mark) → v < length marks → mark_of marks v ≡ Unseen
    → mark_of marks w ≡ Open p → mark_of (slice_set marks v m) w ≡ Open p
still_open marks v w p m h is so = grind (arith, common_steps, mark-set_same, mark-set_other)

-- the path with one node more
pub frame-push_below : (path : List Frame) (x : Frame) (p : ℕ) → p < length path
    → frame_at (path ++ x ∷ []) p ≡ frame_at path p
frame-push_below path x p h = grind (arith, common_steps)

pub frame-push_at : (path : List Frame) (x : Frame) (p : ℕ) → p ≡ length path → frame_at (path ++ x ∷ []) p ≡ x
frame-push_at path x p h = grind (arith, common_steps)

pub length-push : (path : List Frame) (x : Frame) → length (path ++ x ∷ []) ≡ length path + 1
length-push path x = grind (arith, common_steps)

pub node-push_below : (path : List Frame) (x : Frame) (p : ℕ) → p < length path
    → node_at (path ++ x ∷ []) p ≡ node_at path p
node-push_below path x p h = ap (λ (f : Frame). f.node) (frame-push_below path x p h)

pub next-push_below : (path : List Frame) (x : Frame) (p : ℕ) → p < length path
    → (frame_at (path ++ x ∷ []) p).next ≡ (frame_at path p).next
next-push_below path x p h = ap (λ (f : Frame). f.next) (frame-push_below path x p h)

pub node-push_at : (path : List Frame) (x : Frame) (p : ℕ) → p ≡ length path → node_at (path ++ x ∷ []) p ≡ x.node
node-push_at path x p h = ap (λ (f : Frame). f.node) (frame-push_at path x p h)

pub next-push_at : (path : List Frame) (x : Frame) (p : ℕ) → p ≡ length path
    → (frame_at (path ++ x ∷ []) p).next ≡ x.next
next-push_at path x p h = ap (λ (f : Frame). f.next) (frame-push_at path x p h)

-- equal numbers for equal ones
pub same_edge : (edges : List Edge) (a b c d : ℕ) → c ≡ a → d ≡ b → Contains edges record { from = a; to = b }
    → Contains edges record { from = c; to = d }
same_edge edges a b c d e f h = rw (e, f) h

pub same_mark : (marks : List Mark) (a b : ℕ) (m : Mark) → b ≡ a → mark_of marks a ≡ m → mark_of marks b ≡ m
same_mark marks a b m e h = ap (mark_of marks) e ∙ h

-- what is unseen was unseen before an unseen node was marked
pub unseen_set : (marks : List Mark) (v w : ℕ) (m : Mark) → mark_of marks v ≡ Unseen
    → mark_of (slice_set marks v m) w ≡ Unseen → mark_of marks w ≡ Unseen
unseen_set marks v w m is so = elim (cases_lt v w) [
  | inl below ↦ sym (mark-set_other marks v w m (λ e. omega (arith, e))) ∙ so
  | inr above ↦ elim (cases_lt w v) [
    | inl lt ↦ sym (mark-set_other marks v w m (λ e. omega (arith, e))) ∙ so
    | inr le ↦ same_mark marks v w Unseen (omega arith) is
  ]
]

-- finished nodes stay finished, and open ones open, where an open node is marked
pub still_done_open : (marks : List Mark) (v w f n : ℕ) (m : Mark) → v < length marks → mark_of marks v ≡ Open n
    → mark_of marks w ≡ Done f → mark_of (slice_set marks v m) w ≡ Done f
still_done_open marks v w f n m h is so = grind (arith, common_steps, mark-set_same, mark-set_other)

pub still_open_open : (marks : List Mark) (v w p n : ℕ) (m : Mark) → v < length marks → mark_of marks v ≡ Open n
    → p ≢ n → mark_of marks w ≡ Open p → mark_of (slice_set marks v m) w ≡ Open p
still_open_open marks v w p n m h is ne so = grind (arith, common_steps, mark-set_same, mark-set_other)

-- what is finished now was so before, or it is the node that was marked so
pub done-done : (marks : List Mark) (v w n f : ℕ) → v < length marks → mark_of (slice_set marks v (Done n)) w ≡ Done f
    → ((w ≡ v) × (f ≡ n)) ⊎ (mark_of marks w ≡ Done f)
done-done marks v w n f h is = grind (arith, common_steps, mark-set_same, mark-set_other)

open_other : (marks : List Mark) (v w n p : ℕ) → v < length marks → mark_of (slice_set marks v (Done n)) w ≡ Open p
    → w ≢ v
open_other marks v w n p h is e = grind (arith, common_steps, mark-set_same)

mark_past : (marks : List Mark) (v : ℕ) → length marks ≤ v → mark_of marks v ≡ Unseen
mark_past marks v h = grind (arith, common_steps)

-- what is open now was open, and it is not that node
pub open-done : (marks : List Mark) (v w n p : ℕ) → v < length marks → mark_of (slice_set marks v (Done n)) w ≡ Open p
    → (w ≢ v) × (mark_of marks w ≡ Open p)
open-done marks v w n p h is =
    (open_other marks v w n p h is, grind (arith, common_steps, mark-set_same, mark-set_other))

-- a node with a mark is one of the nodes
pub mark_within : (marks : List Mark) (v : ℕ) → mark_of marks v ≢ Unseen → v < length marks
mark_within marks v ne = elim (cases_lt v (length marks)) [
  | inl h ↦ h
  | inr h ↦ absurd (ne (mark_past marks v h))
]

pub unseen_open : (marks : List Mark) (v w n : ℕ) (m : Mark) → mark_of marks v ≡ Open n → v < length marks → m ≢ Unseen
    → mark_of (slice_set marks v m) w ≡ Unseen → mark_of marks w ≡ Unseen
unseen_open marks v w n m is h ne so = elim (cases_lt v w) [
  | inl below ↦ sym (mark-set_other marks v w m (λ e. omega (arith, e))) ∙ so
  | inr above ↦ elim (cases_lt w v) [
    | inl lt ↦ sym (mark-set_other marks v w m (λ e. omega (arith, e))) ∙ so
    | inr le ↦ absurd (ne (sym (mark-set_same marks v m h) ∙ same_mark _ w v Unseen (omega arith) so))
  ]
]

-- Edges that are added one after another.
use Rattle.std.proofs.Common.{◌≡◌, ◌⊎◌, ℕ, ◌+◌, ◌-◌, ◌<◌, ◌≤◌, List, length, arith, inl, inr, sym, ◌∙◌, subst, slice_index, Result, Ok, Err, OnOk}
use Rattle.std.proofs.lemmas.Bool.{cases_lt}
use Rattle.tx_order.specs.declared.graph.Edge.{Edge}
use Rattle.tx_history.specs.declared.recorded.Read.{Read}
use Rattle.tx_history.specs.Additions.{Adds, Each, IsVersionEdge, IsSeenEdge, IsNextEdge, IsReadEdge, before_edge, after_edge}

pub on_ok : {A E : Type 0} (P Q : Type 0) (r : Result A E) → (P → Q) → OnOk r P → OnOk r Q
on_ok P Q (Ok a) f h = f h
on_ok P Q (Err e) f h = h

pub in_turn : (a b c : List Edge) (P Q R : Edge → Type 0) → Adds a b P → Adds b c Q
    → ((e : Edge) → R e → P e ⊎ Q e) → ((e : Edge) → P e → R e) → ((e : Edge) → Q e → R e) → Adds a c R
in_turn a b c P Q R p q split left right = record {
  kept = λ e is. q.kept e (p.kept e is);
  has = λ e is. elim (split e is) [ inl l ↦ q.kept e (p.has e l) | inr r ↦ q.has e r ];
  only = λ e is. elim (q.only e is) [
    | inl old ↦ elim (p.only e old) [ inl older ↦ inl older | inr l ↦ inr (left e l) ]
    | inr r ↦ inr (right e r)
  ];
}

pub other_words : (a b : List Edge) (P Q : Edge → Type 0) → Adds a b P → ((e : Edge) → P e → Q e)
    → ((e : Edge) → Q e → P e) → Adds a b Q
other_words a b P Q p to from = record {
  kept = p.kept;
  has = λ e is. p.has e (from e is);
  only = λ e is. elim (p.only e is) [ inl old ↦ inl old | inr new ↦ inr (to e new) ];
}

pub adds_none : (a : List Edge) (P : Edge → Type 0) → ((e : Edge) → P e → ⊥) → Adds a a P
adds_none a P none = record {
  kept = λ e is. is;
  has = λ e is. absurd (none e is);
  only = λ e is. inl is;
}

pub none_below : (a : List Edge) (P : ℕ → Edge → Type 0) → Adds a a (Each 0 P)
none_below a P = adds_none a (Each 0 P) (λ e h. (let lt = h.1 in omega (arith, lt)))

last_of : (n i : ℕ) → i < n + 1 → (i < n) ⊎ (n ≡ i)
last_of n i lt = elim (cases_lt i n) [ inl below ↦ inl below | inr above ↦ inr (omega (arith, lt, above)) ]

pub one_more : (a b c : List Edge) (n : ℕ) (P : ℕ → Edge → Type 0) → Adds a b (Each n P) → Adds b c (P n)
    → Adds a c (Each (n + 1) P)
one_more a b c n P p q = in_turn a b c (Each n P) (P n) (Each (n + 1) P) p q
    (λ e h. elim (last_of n h.0 h.1) [
      | inl lt ↦ inl (h.0, lt, h.2)
      | inr same ↦ inr (subst (λ k. P k e) (sym same) h.2)
    ])
    (λ e h. (let lt = h.1 in (h.0, omega (arith, lt), h.2)))
    (λ e h. (n, omega arith, h))

pub up_to : (a b : List Edge) (n m : ℕ) (P : ℕ → Edge → Type 0) → n ≡ m → Adds a b (Each n P) → Adds a b (Each m P)
up_to a b n m P same p = subst (λ k. Adds a b (Each k P)) same p

pub version_edge : (a b : List Edge) (ws : List ℕ) (i : ℕ) (x : Edge) → i + 1 < length ws
    → x ≡ after_edge (slice_index ws i) (slice_index ws (i + 1)) → Adds a b (λ e. e ≡ x) → Adds a b (IsVersionEdge ws i)
version_edge a b ws i x lt is p = other_words a b (λ e. e ≡ x) (IsVersionEdge ws i) p
    (λ e h. (lt, h ∙ is)) (λ e h. h.1 ∙ sym is)

pub equal_edge : (a b : List Edge) (x y : Edge) → x ≡ y → Adds a b (λ e. e ≡ x) → Adds a b (λ e. e ≡ y)
equal_edge a b x y is p = other_words a b (λ e. e ≡ x) (λ e. e ≡ y) p (λ e h. h ∙ is) (λ e h. h ∙ sym is)

pub seen_edge : (a b : List Edge) (ws : List ℕ) (s : Read) (x : Edge) → 1 ≤ s.version → s.version ≤ length ws
    → x ≡ after_edge (slice_index ws (s.version - 1)) s.txn → Adds a b (λ e. e ≡ x) → Adds a b (IsSeenEdge ws s)
seen_edge a b ws s x low high is p = other_words a b (λ e. e ≡ x) (IsSeenEdge ws s) p
    (λ e h. ((low, high), h ∙ is)) (λ e h. h.1 ∙ sym is)

pub next_edge : (a b : List Edge) (ws : List ℕ) (s : Read) (x : Edge) → s.version < length ws
    → x ≡ before_edge s.txn (slice_index ws s.version) → Adds a b (λ e. e ≡ x) → Adds a b (IsNextEdge ws s)
next_edge a b ws s x lt is p = other_words a b (λ e. e ≡ x) (IsNextEdge ws s) p
    (λ e h. (lt, h ∙ is)) (λ e h. h.1 ∙ sym is)

pub both_edges : (a b c : List Edge) (ws : List ℕ) (s : Read) → Adds a b (IsSeenEdge ws s) → Adds b c (IsNextEdge ws s)
    → Adds a c (IsReadEdge ws s)
both_edges a b c ws s p q = in_turn a b c (IsSeenEdge ws s) (IsNextEdge ws s) (IsReadEdge ws s) p q
    (λ e h. h) (λ e h. inl h) (λ e h. inr h)

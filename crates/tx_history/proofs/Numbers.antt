-- Numbers of starts and commits as numbers of nodes.
use Rattle.std.proofs.Common.{◌≡◌, ℕ, ◌+◌, ◌*◌, ◌<◌, List, get_or, arith, inl, inr, zero, suc, refl, sym, ap, ◌∙◌, subst}
use Rattle.std.specs.List.{All}
use Rattle.std.proofs.lemmas.List.Elements.{Contains-get_or}
use Rattle.tx_order.specs.declared.graph.Edge.{Edge}
use Rattle.tx_history.specs.Histories.{History, Rises}
use Rattle.tx_history.specs.Graph.{IsGraph, IsEdge, before_edge, after_edge}

abbrev pub number : (ℕ → ℕ) → (ℕ → ℕ) → ℕ → ℕ
number starts commits zero = starts zero
number starts commits (suc zero) = commits zero
number starts commits (suc (suc n)) = number (λ t. starts (suc t)) (λ t. commits (suc t)) n

number_start : (starts commits : ℕ → ℕ) (t : ℕ) → number starts commits (2 * t) ≡ starts t
number_start starts commits zero = refl
number_start starts commits (suc t) =
    let e : 2 * suc t ≡ suc (suc (2 * t)) = omega arith in
    ap (number starts commits) e ∙ number_start (λ q. starts (suc q)) (λ q. commits (suc q)) t

number_commit : (starts commits : ℕ → ℕ) (t : ℕ) → number starts commits (2 * t + 1) ≡ commits t
number_commit starts commits zero = refl
number_commit starts commits (suc t) =
    let e : 2 * suc t + 1 ≡ suc (suc (2 * t + 1)) = omega arith in
    ap (number starts commits) e ∙ number_commit (λ q. starts (suc q)) (λ q. commits (suc q)) t

less : (a b p q : ℕ) → p ≡ a → q ≡ b → a < b → p < q
less a b p q e f lt = omega arith

-- an edge's nodes rise
abbrev RisesAlong : (ℕ → ℕ) → (ℕ → ℕ) → Edge → Type 0
RisesAlong starts commits e = number starts commits e.from < number starts commits e.to

along_before : (starts commits : ℕ → ℕ) (t u : ℕ) (e : Edge) → e ≡ before_edge t u → starts t < commits u
    → RisesAlong starts commits e
along_before starts commits t u e is lt =
    subst (RisesAlong starts commits) (sym is)
    (less (starts t) (commits u) _ _ (number_start starts commits t) (number_commit starts commits u) lt)

along_after : (starts commits : ℕ → ℕ) (u t : ℕ) (e : Edge) → e ≡ after_edge u t → commits u < starts t
    → RisesAlong starts commits e
along_after starts commits u t e is lt =
    subst (RisesAlong starts commits) (sym is)
    (less (commits u) (starts t) _ _ (number_commit starts commits u) (number_start starts commits t) lt)

along : (h : History) (starts commits : ℕ → ℕ) (e : Edge) → Rises h starts commits → IsEdge h e
    → RisesAlong starts commits e
along h starts commits e g (inl (t, lt, is)) = along_before starts commits _ _ e is (g.own t lt)
along h starts commits e g (inr (inl (k, i, has, more, is))) = along_after starts commits _ _ e is (g.ww k i has more)
along h starts commits e g (inr (inr (inl (r, in_reads, has, is)))) =
    along_after starts commits _ _ e is (g.wr r in_reads has)
along h starts commits e g (inr (inr (inr (inl (r, in_reads, has, is))))) =
    along_before starts commits _ _ e is (g.rw r in_reads has)
along h starts commits e g (inr (inr (inr (inr (p, in_pairs, is))))) =
    along_after starts commits _ _ e is (g.after p in_pairs)

pub all_rise : (h : History) (edges : List Edge) (starts commits : ℕ → ℕ) → IsGraph h edges → Rises h starts commits
    → All (λ (e : Edge). number starts commits e.from < number starts commits e.to) edges
all_rise h edges starts commits graph g i d lt =
    along h starts commits (get_or edges i d) g ((graph (get_or edges i d)).0 (Contains-get_or edges i d lt))

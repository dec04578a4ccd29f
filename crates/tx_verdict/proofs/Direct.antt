-- Steps with a key, and what is settled so far.
use Rattle.std.proofs.Common.{◌≡◌, ℕ, List, [], ◌∷◌, ◌++◌, sym, subst, Option, Some}
use Rattle.tx_recording.specs.declared.recording.Orders.{Orders}
use Rattle.tx_recording.specs.declared.recording.Recording.{Recording}
use Rattle.tx_verdict.specs.declared.question.Question.{Question}
use Rattle.tx_verdict.specs.declared.verdict.EdgeKind.{EdgeKind}
use Rattle.tx_verdict.specs.declared.verdict.CycleStep.{CycleStep}
use Rattle.tx_verdict.specs.declared.refutation.WriteOrder.{WriteOrder}
use Rattle.tx_verdict.specs.declared.refutation.Settled.{Settled}
use Rattle.tx_verdict.specs.declared.refutation.Hint.{Hint}
use Rattle.tx_verdict.specs.declared.refutation.Lemma.{Lemma}
use Rattle.tx_verdict.specs.declared.refutation.Refutation.{Refutation}
use Rattle.tx_verdict.specs.Steps.{IsEdgeOf, IsStep}
use Rattle.tx_verdict.specs.Refutations.{IsOrder, opposite, IsUnitOf, ClosesBy, IsClauseBy, IsLemmaBy, AreLemmasBy, IsRefutationBy, IsSettledBy, IsRoundBy, IsByOrder}

-- what an edge with a key says of a step that has them
pub step_with : (r : Recording) (orders : Orders) (s : CycleStep) (edge : EdgeKind) (k : ℕ) → (s.edge ≡ edge) ×
    (s.key ≡ Some k)
    → IsEdgeOf r orders edge s.from s.to (Some k) → IsStep r orders s
step_with r orders s edge k (of_edge, of_key) is =
    let P : EdgeKind → Type 0 = λ q. IsEdgeOf r orders q s.from s.to s.key in
    let Q : Option ℕ → Type 0 = λ q. IsEdgeOf r orders edge s.from s.to q in
    subst P (sym of_edge) (subst Q (sym of_key) is)

pub order_with : (r : Recording) (known : List WriteOrder) (s : CycleStep) (edge : EdgeKind) (k : ℕ) → (s.edge ≡ edge) ×
    (s.key ≡ Some k)
    → IsByOrder r known edge s.from s.to (Some k) → IsByOrder r known s.edge s.from s.to s.key
order_with r known s edge k (of_edge, of_key) is =
    let P : EdgeKind → Type 0 = λ q. IsByOrder r known q s.from s.to s.key in
    let Q : Option ℕ → Type 0 = λ q. IsByOrder r known edge s.from s.to q in
    subst P (sym of_edge) (subst Q (sym of_key) is)

-- one more is settled
pub goes_on : (X : Type 0) (r : Recording) (asked : Question) (all : Refutation) (known new : List WriteOrder)
    (rest more : List Settled) (f : Settled) → rest ≡ f ∷ more → new ≡ known ++ f.order ∷ []
    → IsSettledBy r asked known f → (IsRefutationBy r asked known rest all → X)
    → IsRefutationBy r asked new more all → X
goes_on X r asked all known new rest more f split is settled before after =
    let P : List Settled → Type 0 = λ q. IsRefutationBy r asked known q all in
    let Q : List WriteOrder → Type 0 = λ q. IsRefutationBy r asked q more all in
    before (subst P (sym split) (settled, subst Q is after))

-- none is left
pub ends_with : (r : Recording) (asked : Question) (all : Refutation) (known same : List WriteOrder)
    (rest : List Settled) → rest ≡ [] → same ≡ known
    → AreLemmasBy r asked same [] all.lemmas.items all.hints.items all.last.items
    → IsRefutationBy r asked known rest all
ends_with r asked all known same rest none is lemmas =
    let P : List Settled → Type 0 = λ q. IsRefutationBy r asked known q all in
    let Q : List WriteOrder → Type 0 = λ q. AreLemmasBy r asked q [] all.lemmas.items all.hints.items all.last.items in
    subst P (sym none) (subst Q is lemmas)

-- one more is left of a clause
pub hint_on : (X : Type 0) (r : Recording) (asked : Question) (lemmas : List Lemma) (round : List CycleStep)
    (known new : List WriteOrder) (rest more : List Hint) (h : Hint) → rest ≡ h ∷ more → new ≡ known ++ h.order ∷ []
    → IsUnitOf lemmas known h
    → (ClosesBy r asked lemmas known rest round → X) → ClosesBy r asked lemmas new more round → X
hint_on X r asked lemmas round known new rest more h split is unit before after =
    let P : List Hint → Type 0 = λ q. ClosesBy r asked lemmas known q round in
    let Q : List WriteOrder → Type 0 = λ q. ClosesBy r asked lemmas q more round in
    before (subst P (sym split) (unit, subst Q is after))

pub hints_end : (r : Recording) (asked : Question) (lemmas : List Lemma) (round : List CycleStep)
    (known same : List WriteOrder) (rest : List Hint) → rest ≡ [] → same ≡ known → IsRoundBy r asked same round
    → ClosesBy r asked lemmas known rest round
hints_end r asked lemmas round known same rest none is closes =
    let P : List Hint → Type 0 = λ q. ClosesBy r asked lemmas known q round in
    let Q : List WriteOrder → Type 0 = λ q. IsRoundBy r asked q round in
    subst P (sym none) (subst Q is closes)

-- one more of a clause
pub clause_on : (X : Type 0) (r : Recording) (asked : Question) (lemmas : List Lemma) (hints : List Hint)
    (round : List CycleStep) (known new : List WriteOrder) (rest more : List WriteOrder) (o : WriteOrder)
    → rest ≡ o ∷ more
    → new ≡ known ++ opposite o ∷ [] → IsOrder r o
    → (IsClauseBy r asked lemmas known rest hints round → X) → IsClauseBy r asked lemmas new more hints round → X
clause_on X r asked lemmas hints round known new rest more o split is order before after =
    let P : List WriteOrder → Type 0 = λ q. IsClauseBy r asked lemmas known q hints round in
    let Q : List WriteOrder → Type 0 = λ q. IsClauseBy r asked lemmas q more hints round in
    before (subst P (sym split) (order, subst Q is after))

pub clause_ends : (r : Recording) (asked : Question) (lemmas : List Lemma) (hints same_hints : List Hint)
    (round same_round : List CycleStep) (known : List WriteOrder) (rest : List WriteOrder) → rest ≡ []
    → same_hints ≡ hints → same_round ≡ round
    → ClosesBy r asked lemmas known same_hints same_round → IsClauseBy r asked lemmas known rest hints round
clause_ends r asked lemmas hints same_hints round same_round known rest none is also closes =
    let P : List WriteOrder → Type 0 = λ q. IsClauseBy r asked lemmas known q hints round in
    let Q : List Hint → Type 0 = λ q. ClosesBy r asked lemmas known q same_round in
    let R : List CycleStep → Type 0 = λ q. ClosesBy r asked lemmas known hints q in
    subst P (sym none) (subst R also (subst Q is closes))

-- one more lemma
pub lemma_on : (X : Type 0) (r : Recording) (asked : Question) (known : List WriteOrder) (hints : List Hint)
    (last : List CycleStep) (before new rest more : List Lemma) (l : Lemma) → rest ≡ l ∷ more
    → new ≡ before ++ l ∷ [] → IsLemmaBy r asked known before l
    → (AreLemmasBy r asked known before rest hints last → X) → AreLemmasBy r asked known new more hints last → X
lemma_on X r asked known hints last before new rest more l split is lemma so after =
    let P : List Lemma → Type 0 = λ q. AreLemmasBy r asked known before q hints last in
    let Q : List Lemma → Type 0 = λ q. AreLemmasBy r asked known q more hints last in
    so (subst P (sym split) (lemma, subst Q is after))

pub lemmas_end : (r : Recording) (asked : Question) (known : List WriteOrder) (hints : List Hint)
    (last : List CycleStep) (before same rest : List Lemma) → rest ≡ [] → same ≡ before
    → ClosesBy r asked same known hints last → AreLemmasBy r asked known before rest hints last
lemmas_end r asked known hints last before same rest none is closes =
    let P : List Lemma → Type 0 = λ q. AreLemmasBy r asked known before q hints last in
    let Q : List Lemma → Type 0 = λ q. ClosesBy r asked q known hints last in
    subst P (sym none) (subst Q is closes)

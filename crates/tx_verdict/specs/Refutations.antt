-- What refutes a recording of which some keys' orders are open: no search, graph or order of all is
-- in it.
use Rattle.std.specs.Prelude.{◌≡◌, ◌≢◌, ◌⊎◌, ℕ, ◌+◌, ◌<◌, ◌≤◌, List, [], ◌∷◌, ◌++◌, Contains, Option, Some, slice_get, slice_index}
use Rattle.tx_recording.specs.declared.recording.Orders.{Orders}
use Rattle.tx_recording.specs.declared.recording.Recording.{Recording}
use Rattle.tx_verdict.specs.declared.question.Question.{Question}
use Rattle.tx_verdict.specs.declared.verdict.EdgeKind.{EdgeKind}
use Rattle.tx_verdict.specs.declared.verdict.EdgeKind.TheVariants.{Ww, Rw}
use Rattle.tx_verdict.specs.declared.verdict.CycleStep.{CycleStep}
use Rattle.tx_verdict.specs.declared.refutation.WriteOrder.{WriteOrder}
use Rattle.tx_verdict.specs.declared.refutation.Settled.{Settled}
use Rattle.tx_verdict.specs.declared.refutation.Hint.{Hint}
use Rattle.tx_verdict.specs.declared.refutation.Lemma.{Lemma}
use Rattle.tx_verdict.specs.declared.refutation.Refutation.{Refutation}
use Rattle.tx_verdict.specs.Reasons.{SawOf, HasWritten, IsNext}
use Rattle.tx_verdict.specs.Steps.{IsEdgeOf, AreRound, Forbids}

-- two that wrote the key
abbrev pub IsOrder : Recording → WriteOrder → Type 0
IsOrder r o = HasWritten r o.first o.key × HasWritten r o.second o.key × (o.first ≢ o.second)

abbrev pub AreOrders : Recording → List WriteOrder → Type 0
AreOrders r known = (o : WriteOrder) → Contains known o → IsOrder r o

abbrev pub no_order : WriteOrder
no_order = record { key = 0; first = 0; second = 0 }

abbrev pub opposite : WriteOrder → WriteOrder
opposite o = record { key = o.key; first = o.second; second = o.first }

-- those up to n wrote k, each right behind the one before it, from t on and up to u; none of them
-- is w
abbrev pub IsTrain : Recording → ℕ → List ℕ → ℕ → ℕ → ℕ → ℕ → Type 0
IsTrain r k ws n t u w = (slice_index ws 0 ≡ t) × (slice_index ws n ≡ u)
    × ((i : ℕ) → i ≤ n → HasWritten r (slice_index ws i) k × (slice_index ws i ≢ w))
    × ((i : ℕ) → i < n → IsNext r k (slice_index ws i) (slice_index ws (i + 1)))

-- t wrote k before u by an order that is known: t is its first or was right behind it, and so on; u
-- is its second or was right before it, and so on
abbrev pub IsOrdered : Recording → List WriteOrder → ℕ → ℕ → ℕ → Type 0
IsOrdered r known k t u = (o : WriteOrder) × Contains known o × (o.key ≡ k)
    × ((ws : List ℕ) × (n : ℕ) × IsTrain r k ws n o.first t o.second)
    × ((ws : List ℕ) × (n : ℕ) × IsTrain r k ws n u o.second t)

-- u wrote k behind t by an order that is known; t saw k as one left it behind whom u wrote it so
abbrev pub IsByOrder : Recording → List WriteOrder → EdgeKind → ℕ → ℕ → Option ℕ → Type 0
IsByOrder r known Ww t u (Some k) = IsOrdered r known k t u
IsByOrder r known Rw t u (Some k) = (w : ℕ) × SawOf r t k w × IsOrdered r known k w u
IsByOrder r known _ t u _ = ⊥

-- the step is so by the recording, or by an order that is known
abbrev pub IsStepBy : Recording → Orders → List WriteOrder → CycleStep → Type 0
IsStepBy r orders known s = IsEdgeOf r orders s.edge s.from s.to s.key
    ⊎ IsByOrder r known s.edge s.from s.to s.key

abbrev pub AreStepsBy : Recording → Orders → List WriteOrder → List CycleStep → Type 0
AreStepsBy r orders known steps = (s : CycleStep) → Contains steps s → IsStepBy r orders known s

-- the steps are so, and go round, as the level that is asked for forbids
abbrev pub IsRoundBy : Recording → Question → List WriteOrder → List CycleStep → Type 0
IsRoundBy r asked known steps = AreRound steps × Forbids asked.level steps × AreStepsBy r asked.orders known steps

-- with the opposite order, what is known closes a round
abbrev pub IsSettledBy : Recording → Question → List WriteOrder → Settled → Type 0
IsSettledBy r asked known f = IsOrder r f.order × IsRoundBy r asked (known ++ opposite f.order ∷ []) f.round.items

-- of the clause all orders but this one are known to be the other way round
abbrev pub IsUnit : List WriteOrder → List WriteOrder → WriteOrder → Type 0
IsUnit known clause o = (p : WriteOrder) → Contains clause p → (p ≡ o) ⊎ Contains known (opposite p)

-- the clause is that of a lemma
abbrev pub IsUnitOf : List Lemma → List WriteOrder → Hint → Type 0
IsUnitOf lemmas known h = (l : Lemma) × (slice_get lemmas h.lemma ≡ Some l) × IsUnit known l.clause.items h.order

-- with what is left of the clauses of lemmas, one after the other, what is known closes a round
abbrev pub ClosesBy : Recording → Question → List Lemma → List WriteOrder → List Hint → List CycleStep → Type 0
ClosesBy r asked lemmas known [] round = IsRoundBy r asked known round
ClosesBy r asked lemmas known (h ∷ hs) round = IsUnitOf lemmas known h
    × ClosesBy r asked lemmas (known ++ h.order ∷ []) hs round

-- it does with the opposites of all orders of a clause
abbrev pub IsClauseBy : Recording → Question → List Lemma → List WriteOrder → List WriteOrder → List Hint
    → List CycleStep → Type 0
IsClauseBy r asked lemmas known [] hints round = ClosesBy r asked lemmas known hints round
IsClauseBy r asked lemmas known (o ∷ os) hints round = IsOrder r o
    × IsClauseBy r asked lemmas (known ++ opposite o ∷ []) os hints round

-- so one of the clause's orders holds, by what is known and by the lemmas before
abbrev pub IsLemmaBy : Recording → Question → List WriteOrder → List Lemma → Lemma → Type 0
IsLemmaBy r asked known before l =
    IsClauseBy r asked before known l.clause.items l.hints.items l.round.items

-- each lemma follows from those before it, and with them all the last round closes
abbrev pub AreLemmasBy : Recording → Question → List WriteOrder → List Lemma → List Lemma → List Hint
    → List CycleStep → Type 0
AreLemmasBy r asked known before [] hints last = ClosesBy r asked before known hints last
AreLemmasBy r asked known before (l ∷ ls) hints last = IsLemmaBy r asked known before l
    × AreLemmasBy r asked known (before ++ l ∷ []) ls hints last

-- each order is settled by what is known and by those before it, and with them all the lemmas
-- follow and the last round closes
abbrev pub IsRefutationBy : Recording → Question → List WriteOrder → List Settled → Refutation → Type 0
IsRefutationBy r asked known [] x = AreLemmasBy r asked known [] x.lemmas.items x.hints.items x.last.items
IsRefutationBy r asked known (f ∷ fs) x = IsSettledBy r asked known f
    × IsRefutationBy r asked (known ++ f.order ∷ []) fs x

-- each order is settled by those before it, each lemma follows from them and from the lemmas before
-- it, and with them all the last round closes
abbrev pub IsRefutation : Recording → Question → Refutation → Type 0
IsRefutation r asked x = IsRefutationBy r asked [] x.facts.items x

-- The steps of a cycle are so by the recording.
use Rattle.std.proofs.Common.{◌≡◌, ◌⊎◌, ℕ, ◌+◌, List, Contains, arith, inl, inr, sym, ap, ◌∙◌, subst, Option, Some}
use Rattle.std.specs.Prelude.{IfSome}
use Rattle.std.proofs.lemmas.Option.{slice_get-get_or}
use Rattle.tx_recording.specs.declared.recording.Orders.{Orders}
use Rattle.tx_recording.specs.declared.recording.Recording.{Recording}
use Rattle.std.proofs.lemmas.Bool.{cases_eq}
use Rattle.tx_history.specs.declared.dependency.DependencyKind.{DependencyKind}
use Rattle.tx_history.specs.declared.dependency.DependencyKind.TheVariants.{Own, Ww, Wr, Rw, After}
use Rattle.tx_history.specs.Histories.{History, HasVersion}
use Rattle.tx_history.specs.declared.dependency.Dependency.{Dependency}
use Rattle.tx_history.specs.Dependencies.{Depends, AreDependencies}
use Rattle.tx_verdict.specs.declared.verdict.EdgeKind.{EdgeKind}
use Rattle.tx_verdict.specs.declared.verdict.CycleStep.{CycleStep}
use Rattle.tx_verdict.specs.Forced.{AreForced}
use Rattle.tx_verdict.specs.Reasons.{SawOf, HasWritten, IsBehind, HasMissed}
use Rattle.tx_verdict.specs.Steps.{IsEdgeOf, IsEdgeFor, IsStep, AreSteps}

module _ (r : Recording) (orders : Orders) (h : History) (key : ℕ → ℕ) (f : AreForced r h key) where
  missed : (t q v : ℕ) → Contains h.reads record { txn = t; key = q; version = v } → HasVersion h q (v + 1)
      → HasMissed r (key q) t (h.writer q (v + 1))
  missed t q v reads has = elim (cases_eq v 0) [
    | inl none ↦ inl (f.none record { txn = t; key = q; version = v } reads none)
    | inr some ↦ (
        let high = has.1 in
        let old : HasVersion h q v = (omega (arith, some), omega (arith, high)) in
        inr (h.writer q v, f.seen record { txn = t; key = q; version = v } reads old, f.steps q v old has)
        )
  ]

  by_kind : (kind : DependencyKind) (t u q v : ℕ) (e : EdgeKind) → Depends h kind t u q v → IsEdgeFor kind e
      → IsEdgeOf r orders e t u (Some (key q))
  by_kind Own t u q v e depends none = absurd none
  by_kind After t u q v e depends none = absurd none
  by_kind Ww t u q v e (has, more, from, to) is =
      let P : ℕ → Type 0 = λ z. HasWritten r z (key q) × HasWritten r u (key q) × IsBehind r (key q) z u in
      let Q : ℕ → Type 0 = λ z. HasWritten r (h.writer q v) (key q) × HasWritten r z (key q)
      × IsBehind r (key q) (h.writer q v) z in
      let R : EdgeKind → Type 0 = λ z. IsEdgeOf r orders z t u (Some (key q)) in
      subst R (sym is) (subst P from (subst Q to (f.writers q v has, f.writers q (v + 1) more, f.steps q v has more)))
  by_kind Wr t u q v e (reads, has, from) is =
      let P : ℕ → Type 0 = λ z. SawOf r u (key q) z in
      let R : EdgeKind → Type 0 = λ z. IsEdgeOf r orders z t u (Some (key q)) in
      subst R (sym is) (subst P from (f.seen record { txn = u; key = q; version = v } reads has))
  by_kind Rw t u q v e (reads, has, to) is =
      let P : ℕ → Type 0 = λ z. HasWritten r z (key q) × HasMissed r (key q) t z in
      let R : EdgeKind → Type 0 = λ z. IsEdgeOf r orders z t u (Some (key q)) in
      subst R (sym is) (subst P to (f.writers q (v + 1) has, missed t q v reads has))

  pub step_on : (kind : DependencyKind) (t u q v k : ℕ) (e : EdgeKind) → Depends h kind t u q v → IsEdgeFor kind e
      → k ≡ key q
      → IsStep r orders record { from = t; edge = e; key = Some k; to = u }
  step_on kind t u q v k e depends is at =
      let P : ℕ → Type 0 = λ z. IsEdgeOf r orders e t u (Some z) in
      subst P (sym at) (by_kind kind t u q v e depends is)

-- each of the dependencies of a cycle holds
pub depends_all : (h : History) (nodes : List ℕ) (found list : List Dependency) → list ≡ found
    → AreDependencies h nodes found
    → (d : Dependency) → Contains list d → Depends h d.kind d.from d.to d.key d.version
depends_all h nodes found list is all d there =
    let (i, lt, at) = subst (λ q. Contains q d) is there in
    (all.holds i d (slice_get-get_or found i d lt ∙ ap Some at)).0

-- a step that there may be
pub if_step : (r : Recording) (orders : Orders) (step : Option CycleStep) → IfSome step (IsStep r orders)
    → (s : CycleStep) → step ≡ Some s → IsStep r orders s
if_step r orders step is s at = (let P : Option CycleStep → Type 0 = λ q. IfSome q (IsStep r orders) in subst P at is)

-- steps, and one more
pub steps_more : (r : Recording) (orders : Orders) (old new : List CycleStep) (step : Option CycleStep)
    → AreSteps r orders old
    → ((s : CycleStep) → step ≡ Some s → IsStep r orders s)
    → ((s : CycleStep) → Contains new s → Contains old s ⊎ (step ≡ Some s)) → AreSteps r orders new
steps_more r orders old new step all one added s there = elim (added s there) [
  | inl before ↦ all s before
  | inr is ↦ one s is
]

-- One more, and then all.
use Rattle.std.proofs.Common.{◌≡◌, ℕ, false, arith, inl, inr, sym, subst}
use Rattle.std.proofs.Math.Dec.{eqb}
use Rattle.std.proofs.lemmas.Bool.Decides.{eqb_tells}
use Rattle.std.proofs.lemmas.Bool.{cases_eq}
use Rattle.std.proofs.lemmas.Grind.{common_steps}
use Rattle.tx_verdict.proofs.Trains.{IsCarried, train_of}
use Rattle.tx_verdict.proofs.stretch.is_train.Goals as goal

differs : (i from : ℕ) → (i ≡ from → ⊥) → eqb i from ≡ false
differs i from ne = elim (eqb_tells i from) [
  | inl (is, same) ↦ absurd (ne same)
  | inr (is, other) ↦ is
]

pub loop-i-preserved : goal.loop-i-preserved
loop-i-preserved c i from below = elim (cases_eq i c.loop-i.i) [
  | inl same ↦ (
      let one = c.in_ok-is_linked.ensures c.if-not-branch.false in
      subst (λ q. IsCarried c.args.case.now.recording.now c.args.key c.writers_of-writers.result.now
      c.args.stretch.first c.args.other q)
      (sym same) (one.0, one.1, λ ne. one.2 (differs c.loop-i.i c.args.stretch.first ne))
      )
  | inr ne ↦ c.loop-i.invariant i from (omega (arith, below, ne))
]

pub returns : goal.returns
returns c _ = train_of c.args.case.now.recording.now c.args.key c.writers_of-writers.result.now c.args.stretch.first
    c.args.stretch.last c.args.first c.args.last c.args.other (grind (arith, common_steps, c.if-from-upto.false))
    (grind (arith, common_steps, c.if-writers-from.false)) (grind (arith, common_steps, c.if-writers-upto.false))
    (λ i from upto. c.loop-i.invariant i from (grind (arith, common_steps, c.loop-i-test.false, upto)))

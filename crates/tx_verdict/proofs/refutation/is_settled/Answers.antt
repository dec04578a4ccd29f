-- The opposite order, and then the order in its place.
use Rattle.std.proofs.Common.{◌≡◌, List, [], ◌∷◌, ◌++◌, length, slice_set, arith, ap, ◌∙◌, subst}
use Rattle.std.proofs.lemmas.Grind.{common_steps}
use Rattle.std.proofs.Math.Seq.{set-append_seam}
use Rattle.tx_verdict.specs.declared.refutation.WriteOrder.{WriteOrder}
use Rattle.tx_verdict.specs.declared.verdict.CycleStep.{CycleStep}
use Rattle.tx_verdict.specs.Refutations.{opposite, IsRoundBy}
use Rattle.tx_verdict.proofs.refutation.is_settled.Goals as goal

pub returns : goal.returns
returns c _ =
    let r = c.args.case.now.recording.now in
    let o = c.args.fact.now.order in
    let known = c.args.known.now.items in
    let round = c.in_ok-is_round_by.ensures c.if-not-branch.false in
    let P : List WriteOrder → Type 0 = λ q. IsRoundBy r c.args.case.now.question q c.as_slice-2.result.now in
    let Q : List CycleStep → Type 0 = λ q. IsRoundBy r c.args.case.now.question (known ++ opposite o ∷ []) q in
    let len : c.len-count.result ≡ length known = grind (arith, common_steps, c.len-count.ensures) in
    let seam : slice_set (known ++ opposite o ∷ []) (length known) o ≡ known ++ o ∷ [] =
    set-append_seam known (opposite o) [] o in (
      ap (λ q. slice_set q c.len-count.result o) c.in_ok-push.ensures.items
          ∙ ap (λ q. slice_set (known ++ opposite o ∷ []) q o) len ∙ seam,
      (
        (
          c.has_written.ensures c.if-not-has_written.false,
          c.has_written-2.ensures c.if-not-has_written-2.false,
          λ e. grind (arith, common_steps, c.if-order.false, e),
        ),
        subst Q c.as_slice-2.ensures.value (subst P (c.as_slice.ensures.value ∙ c.in_ok-push.ensures.items) round),
      ),
    )

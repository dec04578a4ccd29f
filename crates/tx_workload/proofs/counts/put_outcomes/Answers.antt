use Rattle.std.proofs.Common.{◌≡◌, ◌++◌, ◌∷◌, [], codes, ap, ◌∙◌}
use Rattle.std.specs.Prelude.{decimal}
use Rattle.tx_workload.proofs.Sums.{outcomes_is}
use Rattle.tx_workload.proofs.counts.put_outcomes.Goals as goal

pub returns : goal.returns
returns c =
    let old = c.args.out.now.items in
    let counts = c.args.counts in
    c.in_ok-extend_from_slice-2.ensures.items
    ∙ ap (λ t. t ++ 93 ∷ 10 ∷ []) (c.in_ok-put_number-4.ensures
    ∙ ap (λ t. t ++ 44 ∷ decimal counts.read_only) (c.in_ok-put_number-3.ensures
    ∙ ap (λ t. t ++ 44 ∷ decimal counts.unknown) (c.in_ok-put_number-2.ensures
    ∙ ap (λ t. t ++ 44 ∷ decimal counts.aborted) (c.in_ok-put_number.ensures
    ∙ ap (λ t. t ++ 44 ∷ decimal counts.committed) c.in_ok-extend_from_slice.ensures.items))))
    ∙ outcomes_is old counts

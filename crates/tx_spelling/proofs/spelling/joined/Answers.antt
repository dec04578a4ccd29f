use Rattle.std.proofs.Common.{◌++◌, ◌∷◌, [], length, refl, ap, ◌∙◌}
use Rattle.tx_spelling.proofs.FirstGroups.{two_groups}
use Rattle.tx_spelling.proofs.spelling.joined.Goals as goal

pub returns : goal.returns
returns c =
    let zeros = 0 ∷ 0 ∷ 0 ∷ 0 ∷ 0 ∷ 0 ∷ 0 ∷ 0 ∷ [] in
    two_groups c.copy_from_slice.new.self zeros c.copy_from_slice-2.new.self (ap length c.copy_from_slice.ensures.after
    ∙ c.requires.0) refl
    ∙ ap (λ w. w ++ c.copy_from_slice-2.new.self) c.copy_from_slice.ensures.after
    ∙ ap (λ w. c.args.first.now ++ w) c.copy_from_slice-2.ensures.after

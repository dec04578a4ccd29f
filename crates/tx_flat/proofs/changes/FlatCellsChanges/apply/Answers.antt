use Rattle.std.proofs.Common.{sym, ap, subst, ◌∙◌}
use Rattle.tx_cells.specs.Numbers.{noted}
use Rattle.tx_cells.proofs.Numbers.{noted_back}
use Rattle.tx_flat.specs.Numbered.{numbers_among, IsNoted}
use Rattle.tx_flat.proofs.changes.FlatCellsChanges.apply.Goals as goal

pub note_back-requires : goal.note_back-requires
note_back-requires c =
    let earlier = c.in_ok-earlier.earlier in
    subst (λ (m : _). IsNoted m.items earlier.slot c.args.key.now) (sym c.apply_unnoted.ensures.numbers)
    c.in_ok-earlier.ensures.there

pub returns-in-Err-clause-same : goal.returns-in-Err-clause-same
returns-in-Err-clause-same c = c.in-Err.ensures.same

pub returns-in-Err-clause-same_numbers : goal.returns-in-Err-clause-same_numbers
returns-in-Err-clause-same_numbers c = λ k.
    let key = c.args.key.now in
    let earlier = c.in_ok-earlier.earlier in
    let was = c.in_ok-earlier.ensures in
    let old = numbers_among c.args.self.now.numbers.items in
    c.note_back.ensures k
    ∙ (ap (λ (m : _). noted (numbers_among m.items) key earlier.before k) c.apply_unnoted.ensures.numbers
    ∙ ((λ i. noted (λ q. was.noted q i) key (was.before i) k) ∙ noted_back old key c.args.number k))

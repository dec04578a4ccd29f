use Rattle.std.proofs.Common.{◌≡◌, Some, refl, sym}
use Rattle.std.specs.BTreeMap as tree
use Rattle.std.specs.Cmp.Lexicographic.{slice_cmp}
use Rattle.std.specs.Ordering.{nat_cmp}
use Rattle.tx_flat.proofs.FlatNumbers.{number_put}
use Rattle.tx_flat.proofs.numbers.note_over.Goals as goal

pub returns-in-Some-clause-noted : goal.returns-in-Some-clause-noted
returns-in-Some-clause-noted c =
    let key = c.args.key.now in
    let old = tree.get (slice_cmp nat_cmp) c.args.numbers.now in
    let new = tree.get (slice_cmp nat_cmp) (c.get_mut.follows.lender c.args.number) in
    let here : old key ≡ Some c.in-Some.noted.now = sym c.in-Some.ensures.value in
    number_put old new key key c.args.number refl ((c.get_mut.follows.holds c.args.number).3 (rw here refl)).0

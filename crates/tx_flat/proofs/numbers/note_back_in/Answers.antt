use Rattle.std.proofs.Common.{◌≡◌, Some, refl, sym}
use Rattle.std.specs.BTreeMap as tree
use Rattle.std.specs.Cmp.Lexicographic.{slice_cmp}
use Rattle.std.specs.Ordering.{nat_cmp}
use Rattle.tx_flat.proofs.FlatNumbers.{number_put}
use Rattle.tx_flat.proofs.numbers.note_back_in.Goals as goal

pub returns-in-Some : goal.returns-in-Some
returns-in-Some c =
    let key = c.args.key.now in
    let old = tree.get (slice_cmp nat_cmp) c.args.numbers.now in
    let new = tree.get (slice_cmp nat_cmp) (c.get_mut.follows.lender c.args.before) in
    let here : old key ≡ Some c.in-Some.number.now = sym c.in-Some.ensures.value in
    number_put old new key key c.args.before refl ((c.get_mut.follows.holds c.args.before).3 (rw here refl)).0

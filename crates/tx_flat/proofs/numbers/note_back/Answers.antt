use Rattle.std.proofs.Common.{◌≡◌, ◌<◌, ℕ, length, Option, Some, arith, refl, sym, subst, ◌∙◌}
use Rattle.std.specs.Prelude.{IsSome, IfSome}
use Rattle.std.specs.BTreeMap as tree
use Rattle.std.specs.BTreeMap.{BTreeMap}
use Rattle.std.specs.Cmp.Lexicographic.{slice_cmp}
use Rattle.std.specs.Ordering.{nat_cmp}
use Rattle.std.proofs.lemmas.Option.{slice_get_within, slice_get_read}
use Rattle.tx_types.specs.declared.key.Key.{Key}
use Rattle.tx_cells.specs.Numbers.{noted}
use Rattle.tx_flat.specs.Numbered.{numbers_in}
use Rattle.tx_flat.proofs.FlatNumbers.{placed_noted}
use Rattle.tx_flat.proofs.numbers.note_back.Goals as goal

pub index_mut-requires : goal.index_mut-requires
index_mut-requires c =
    let within : c.args.earlier.slot < length c.args.numbers.now.items =
    slice_get_within c.args.numbers.now.items c.args.earlier.slot c.requires.at c.requires.found in
    omega (arith, within, c.args.numbers.now.ok.0)

pub note_back_in-requires : goal.note_back_in-requires
note_back_in-requires c =
    let xs = c.args.numbers.now.items in
    let i = c.args.earlier.slot in
    let m = c.index_mut.result.now in
    let within : i < length xs = slice_get_within xs i c.requires.at c.requires.found in
    let same : Some c.requires.at ≡ Some m =
    sym c.requires.found ∙ slice_get_read xs (length xs) i m refl within c.index_mut.ensures.value in
    let there : IsSome (tree.get (slice_cmp nat_cmp) m c.args.key.now) =
    subst (λ (o : Option (BTreeMap Key ℕ)). IfSome o (λ q. IsSome (tree.get (slice_cmp nat_cmp) q c.args.key.now)))
    same c.requires.noted in
    subst (λ (k : Key). IsSome (tree.get (slice_cmp nat_cmp) m k)) (sym c.bytes.ensures) there

pub returns : goal.returns
returns c = λ k.
    let xs = c.args.numbers.now.items in
    let i = c.args.earlier.slot in
    let within : i < length xs = slice_get_within xs i c.requires.at c.requires.found in
    placed_noted xs i c.index_mut.result.now c.note_back_in.new.numbers within c.index_mut.ensures.value c.args.key.now
    c.args.earlier.before (sym c.requires.is)
    (λ q. subst (λ (j : Key). numbers_in c.note_back_in.new.numbers q
    ≡ noted (numbers_in c.index_mut.result.now) j c.args.earlier.before q) c.bytes.ensures
    (c.note_back_in.ensures q)) k

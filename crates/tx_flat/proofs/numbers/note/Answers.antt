use Rattle.std.proofs.Common.{◌≡◌, ◌<◌, ℕ, List, length, cond, bytes_eq, Some, Result, Ok, Err, arith, sym, ap, subst, ◌∙◌}
use Rattle.std.specs.Prelude.{IfOk, OnOk, IsSome}
use Rattle.std.specs.List.{slice_get}
use Rattle.std.specs.BTreeMap as tree
use Rattle.std.specs.BTreeMap.{BTreeMap}
use Rattle.std.specs.Cmp.Lexicographic.{slice_cmp}
use Rattle.std.specs.Ordering.{nat_cmp}
use Rattle.tx_types.specs.declared.key.Key.{Key}
use Rattle.tx_cells.proofs.Facts.{if_ok, on_ok, on_err}
use Rattle.tx_flat.specs.Ceilings.{slot_of}
use Rattle.tx_flat.specs.Numbered.{IsNoted}
use Rattle.tx_flat.specs.declared.numbers.Earlier.{Earlier}
use Rattle.tx_flat.proofs.FlatNumbers.{among, found_there, placed_noted, placed_same}
use Rattle.tx_flat.proofs.numbers.note.Goals as goal

noted_there : {E : Type 0} (r : Result Earlier E) (maps : List (BTreeMap Key ℕ)) (at : BTreeMap Key ℕ) (slot : ℕ) (key :
    Key)
    → slot ≡ slot_of key → slice_get maps slot ≡ Some at
    → OnOk r (IsSome (tree.get (slice_cmp nat_cmp) at key)) → IfOk r (λ x. x.slot ≡ slot)
    → IfOk r (λ x. IsNoted maps x.slot key)
noted_there (Ok x) maps at slot key is found there p =
    subst (λ (i : ℕ). IsNoted maps i key) (sym p) (record { is = is; at = at; found = found; noted = there })
noted_there (Err e) maps at slot key is found there p = p

pub returns-clause-noted : goal.returns-clause-noted
returns-clause-noted c =
    let xs = c.open.new.numbers.items in
    let within : c.slot-at.result < length xs = omega (arith, c.slot-at.ensures.within, c.in_ok-open.ensures.open) in
    on_ok c.note_in.result _ _ (λ noted k.
    placed_noted xs c.slot-at.result c.index_mut.result.now c.note_in.new.numbers within c.index_mut.ensures.value
    c.args.key.now c.args.number (sym c.slot-at.ensures.slot) noted k
    ∙ ap (cond (bytes_eq c.args.key.now k) c.args.number) (c.in_ok-open.ensures.same k)) c.note_in.ensures.noted

pub returns-clause-before : goal.returns-clause-before
returns-clause-before c =
    let xs = c.open.new.numbers.items in
    let key = c.args.key.now in
    let within : c.slot-at.result < length xs = omega (arith, c.slot-at.ensures.within, c.in_ok-open.ensures.open) in
    if_ok c.note_in.result _ _ (λ x is. is
    ∙ sym (among xs c.slot-at.result c.index_mut.result.now c.note_in.new.numbers within c.index_mut.ensures.value key
    (sym c.slot-at.ensures.slot))
    ∙ c.in_ok-open.ensures.same key) c.note_in.ensures.before

pub returns-clause-there : goal.returns-clause-there
returns-clause-there c =
    let xs = c.open.new.numbers.items in
    let within : c.slot-at.result < length xs = omega (arith, c.slot-at.ensures.within, c.in_ok-open.ensures.open) in
    noted_there c.note_in.result _ c.note_in.new.numbers c.slot-at.result c.args.key.now c.slot-at.ensures.slot
    (found_there xs c.slot-at.result c.index_mut.result.now c.note_in.new.numbers within c.index_mut.ensures.value)
    c.note_in.ensures.there c.note_in.ensures.slot

pub returns-clause-same : goal.returns-clause-same
returns-clause-same c =
    let xs = c.open.new.numbers.items in
    let within : c.slot-at.result < length xs = omega (arith, c.slot-at.ensures.within, c.in_ok-open.ensures.open) in
    on_err c.note_in.result _ _ (λ same k.
    placed_same xs c.slot-at.result c.index_mut.result.now c.note_in.new.numbers within c.index_mut.ensures.value same k
    ∙ c.in_ok-open.ensures.same k) c.note_in.ensures.same

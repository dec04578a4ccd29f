use Rattle.std.proofs.Common.{◌≡◌, ◌++◌, None, inl, [], length, ap, ◌∙◌, arith}
use Rattle.tx_transaction.specs.Buffers.{Entries, put_over, touched}
use Rattle.tx_transaction.specs.declared.key_entries.TheConstants.{FEW}
use Rattle.tx_types.specs.declared.mutation.Mutation.TheVariants as mutation
use Rattle.tx_transaction.proofs.Parts.{IsFound, IsAbsent, found_at, absent_at, find_few, find_behind, nothing_there, touched_few, touched_last, none_behind, room_set, distinct_by}
use Rattle.tx_transaction.proofs.key_entries.KeyEntries.put.Goals as goal

pub invariant_of-self : goal.invariant_of-self
invariant_of-self c =
    let few = c.self.inside.few.items in
    let more = c.self.inside.more in
    let m = c.put_over_one-mutation.result in
    let there : IsFound few c.args.key c.in-Some.i =
    found_at c.as_slice.result.now few
    c.as_bytes.result.now c.args.key c.in-Some.i c.as_slice.ensures.value c.as_bytes.ensures.value
    c.in-Some.ensures.found in (
      distinct_by _ _ c.args.key m c.self.invariant.0
          (touched_few few more c.args.key m c.in-Some.i c.index_mut.result.now there
          c.index_mut.ensures.value),
      room_set FEW few more c.in-Some.i _ c.self.invariant.1,
    )

pub returns-in-Some-clause-ok : goal.returns-in-Some-clause-ok
returns-in-Some-clause-ok c =
    let few = c.self.inside.few.items in
    let more = c.self.inside.more in
    let m = c.put_over_one-mutation.result in
    let there : IsFound few c.args.key c.in-Some.i =
    found_at c.as_slice.result.now few
    c.as_bytes.result.now c.args.key c.in-Some.i c.as_slice.ensures.value c.as_bytes.ensures.value
    c.in-Some.ensures.found in
    touched_few few more c.args.key m c.in-Some.i c.index_mut.result.now there c.index_mut.ensures.value
    ∙ ap (λ es. touched es c.args.key m) c.self.view_is
    ∙ ap (touched c.args.self.now c.args.key) (c.put_over_one-mutation.ensures
    ∙ ap (λ o. put_over o c.args.value) (find_few few more c.args.self.now c.args.key c.in-Some.i
    c.index.result.now there c.index.ensures c.self.view_is))

pub invariant_of-self-then-len-lt-FEW : goal.invariant_of-self-then-len-lt-FEW
invariant_of-self-then-len-lt-FEW c =
    let few = c.self.inside.few.items in
    let more = c.self.inside.more in
    let m = mutation.Put c.args.value in
    let none : IsAbsent few c.args.key =
    absent_at c.as_slice.result.now few
    c.as_bytes.result.now c.args.key c.as_slice.ensures.value c.as_bytes.ensures.value
    c.in_default.ensures.absent in
    let empty : more ≡ [] = none_behind FEW few more c.self.invariant.1
    (omega (arith, c.if-len-lt-FEW.true, c.len.ensures)) in (
      distinct_by _ _ c.args.key m c.self.invariant.0
          (ap (λ (l : Entries). l ++ more) c.in_ok-push.ensures.items
          ∙ touched_last few more c.args.key m empty none),
      inl empty,
    )

pub returns-then-len-lt-FEW-clause-ok : goal.returns-then-len-lt-FEW-clause-ok
returns-then-len-lt-FEW-clause-ok c =
    let few = c.self.inside.few.items in
    let more = c.self.inside.more in
    let m = mutation.Put c.args.value in
    let none : IsAbsent few c.args.key =
    absent_at c.as_slice.result.now few
    c.as_bytes.result.now c.args.key c.as_slice.ensures.value c.as_bytes.ensures.value
    c.in_default.ensures.absent in
    let empty : more ≡ [] = none_behind FEW few more c.self.invariant.1
    (omega (arith, c.if-len-lt-FEW.true, c.len.ensures)) in
    let gone = nothing_there more c.args.key (ap length empty)
    ∙ find_behind few more c.args.self.now c.args.key none c.self.view_is in
    ap (λ (l : Entries). l ++ more) c.in_ok-push.ensures.items
    ∙ touched_last few more c.args.key m empty none
    ∙ ap (λ es. touched es c.args.key m) c.self.view_is
    ∙ ap (λ o. touched c.args.self.now c.args.key (put_over o c.args.value)) gone

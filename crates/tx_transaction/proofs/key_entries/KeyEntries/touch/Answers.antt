use Rattle.std.proofs.Common.{◌≡◌, ◌++◌, inl, inr, [], ap, ◌∙◌, arith}
use Rattle.tx_transaction.specs.Buffers.{Entries, touched}
use Rattle.tx_transaction.specs.declared.key_entries.TheConstants.{FEW}
use Rattle.tx_transaction.proofs.Parts.{IsFound, IsAbsent, found_at, absent_at, touched_few, touched_last, touched_behind, none_behind, room_set, distinct_by}
use Rattle.tx_transaction.proofs.key_entries.KeyEntries.touch.Goals as goal

pub invariant_of-self : goal.invariant_of-self
invariant_of-self c =
    let few = c.self.inside.few.items in
    let more = c.self.inside.more in
    let there : IsFound few c.args.key c.in-Some.i =
    found_at c.as_slice.result.now few
    c.as_bytes.result.now c.args.key c.in-Some.i c.as_slice.ensures.value c.as_bytes.ensures.value
    c.in-Some.ensures.found in (
      distinct_by _ _ c.args.key c.args.mutation c.self.invariant.0
          (touched_few few more c.args.key c.args.mutation c.in-Some.i c.index_mut.result.now there
          c.index_mut.ensures.value),
      room_set FEW few more c.in-Some.i _ c.self.invariant.1,
    )

pub returns-in-Some-clause-ok : goal.returns-in-Some-clause-ok
returns-in-Some-clause-ok c =
    let few = c.self.inside.few.items in
    let more = c.self.inside.more in
    let there : IsFound few c.args.key c.in-Some.i =
    found_at c.as_slice.result.now few
    c.as_bytes.result.now c.args.key c.in-Some.i c.as_slice.ensures.value c.as_bytes.ensures.value
    c.in-Some.ensures.found in
    touched_few few more c.args.key c.args.mutation c.in-Some.i c.index_mut.result.now there c.index_mut.ensures.value
    ∙ ap (λ es. touched es c.args.key c.args.mutation) c.self.view_is

pub invariant_of-self-then-len-lt-FEW : goal.invariant_of-self-then-len-lt-FEW
invariant_of-self-then-len-lt-FEW c =
    let few = c.self.inside.few.items in
    let more = c.self.inside.more in
    let none : IsAbsent few c.args.key =
    absent_at c.as_slice.result.now few
    c.as_bytes.result.now c.args.key c.as_slice.ensures.value c.as_bytes.ensures.value
    c.in_default.ensures.absent in
    let empty : more ≡ [] = none_behind FEW few more c.self.invariant.1
    (omega (arith, c.if-len-lt-FEW.true, c.len.ensures)) in (
      distinct_by _ _ c.args.key c.args.mutation c.self.invariant.0
          (ap (λ (l : Entries). l ++ more) c.in_ok-push.ensures.items
          ∙ touched_last few more c.args.key c.args.mutation empty none),
      inl empty,
    )

pub returns-then-len-lt-FEW-clause-ok : goal.returns-then-len-lt-FEW-clause-ok
returns-then-len-lt-FEW-clause-ok c =
    let few = c.self.inside.few.items in
    let more = c.self.inside.more in
    let none : IsAbsent few c.args.key =
    absent_at c.as_slice.result.now few
    c.as_bytes.result.now c.args.key c.as_slice.ensures.value c.as_bytes.ensures.value
    c.in_default.ensures.absent in
    let empty : more ≡ [] = none_behind FEW few more c.self.invariant.1
    (omega (arith, c.if-len-lt-FEW.true, c.len.ensures)) in
    ap (λ (l : Entries). l ++ more) c.in_ok-push.ensures.items
    ∙ touched_last few more c.args.key c.args.mutation empty none
    ∙ ap (λ es. touched es c.args.key c.args.mutation) c.self.view_is

pub invariant_of-self-2 : goal.invariant_of-self-2
invariant_of-self-2 c =
    let few = c.self.inside.few.items in
    let more = c.self.inside.more in
    let none : IsAbsent few c.args.key =
    absent_at c.as_slice.result.now few
    c.as_bytes.result.now c.args.key c.as_slice.ensures.value c.as_bytes.ensures.value
    c.in_default.ensures.absent in (
      distinct_by _ _ c.args.key c.args.mutation c.self.invariant.0
          (ap (λ (l : Entries). few ++ l) c.in_ok-insert.ensures.ok
          ∙ touched_behind few more c.args.key c.args.mutation none),
      inr (omega (arith, c.if-len-lt-FEW.false, c.len.ensures)),
    )

pub returns-clause-ok : goal.returns-clause-ok
returns-clause-ok c =
    let few = c.self.inside.few.items in
    let more = c.self.inside.more in
    let none : IsAbsent few c.args.key =
    absent_at c.as_slice.result.now few
    c.as_bytes.result.now c.args.key c.as_slice.ensures.value c.as_bytes.ensures.value
    c.in_default.ensures.absent in
    ap (λ (l : Entries). few ++ l) c.in_ok-insert.ensures.ok
    ∙ touched_behind few more c.args.key c.args.mutation none
    ∙ ap (λ es. touched es c.args.key c.args.mutation) c.self.view_is

use Rattle.std.proofs.Common.{◌≡◌, ◌<◌, ◌≤◌, ◌++◌, length, ap, refl, ◌∙◌, arith}
use Rattle.tx_transaction.specs.Buffers.{with_progress}
use Rattle.tx_transaction.specs.declared.key_entries.TheConstants.{FEW}
use Rattle.tx_transaction.proofs.Parts.{progress_few, set_behind, room_set, room_behind, distinct_still}
use Rattle.tx_transaction.proofs.key_entries.KeyEntries.set_progress.Goals as goal

pub invariant_of-self : goal.invariant_of-self
invariant_of-self c =
    let few = c.self.inside.few.items in
    let more = c.self.inside.more in
    let lt : c.args.i < length few = omega (arith, c.if-i-few.true, c.len-few.ensures) in (
      distinct_still _ _ c.args.i c.args.progress
          c.self.invariant.0 (progress_few few more c.args.i c.index_mut.result.now c.args.progress lt
          c.index_mut.ensures.value),
      room_set FEW few more c.args.i _ c.self.invariant.1,
    )

pub invariant_of-self-else-i-few : goal.invariant_of-self-else-i-few
invariant_of-self-else-i-few c =
    let few = c.self.inside.few.items in
    let more = c.self.inside.more in
    let n = c.len-few.result in
    let count : n ≡ length few = omega (arith, c.len-few.ensures) in
    let le : n ≤ c.args.i = omega (arith, c.if-i-few.false) in (
      distinct_still _ _ c.args.i c.args.progress c.self.invariant.0
          (set_behind few more (few ++ more) c.set_progress.new.self c.args.i n c.args.progress count le refl
          c.set_progress.ensures),
      room_behind FEW few more _ _ _ c.self.invariant.1 c.set_progress.ensures,
    )

pub returns-then-i-few : goal.returns-then-i-few
returns-then-i-few c =
    let few = c.self.inside.few.items in
    let more = c.self.inside.more in
    let lt : c.args.i < length few = omega (arith, c.if-i-few.true, c.len-few.ensures) in
    progress_few few more c.args.i c.index_mut.result.now c.args.progress lt c.index_mut.ensures.value
    ∙ ap (λ es. with_progress es c.args.i c.args.progress) c.self.view_is

pub returns-else-i-few : goal.returns-else-i-few
returns-else-i-few c =
    let few = c.self.inside.few.items in
    let more = c.self.inside.more in
    let n = c.len-few.result in
    let count : n ≡ length few = omega (arith, c.len-few.ensures) in
    let le : n ≤ c.args.i = omega (arith, c.if-i-few.false) in
    set_behind few more c.args.self.now c.set_progress.new.self c.args.i n c.args.progress count le c.self.view_is
    c.set_progress.ensures

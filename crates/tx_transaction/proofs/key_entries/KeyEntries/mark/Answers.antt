use Rattle.std.proofs.Common.{◌≡◌, ◌<◌, ◌≤◌, ◌++◌, length, refl, arith}
use Rattle.tx_transaction.specs.Sessions.{marked_by, sent_by}
use Rattle.tx_transaction.specs.declared.key_entries.TheConstants.{FEW}
use Rattle.tx_transaction.proofs.Parts.{progress_few, marked_few, marked_behind, room_set, room_behind, distinct_still, set_behind}
use Rattle.tx_transaction.proofs.key_entries.KeyEntries.mark.Goals as goal

pub invariant_of-self : goal.invariant_of-self
invariant_of-self c =
    let few = c.self.inside.few.items in
    let more = c.self.inside.more in
    let progress = c.mark.new.progress in
    let lt : c.args.i < length few = omega (arith, c.if-i-few.true, c.len-few.ensures) in (
      distinct_still _ _ c.args.i progress
          c.self.invariant.0 (progress_few few more c.args.i c.index_mut.result.now progress lt
          c.index_mut.ensures.value),
      room_set FEW few more c.args.i _ c.self.invariant.1,
    )

pub invariant_of-self-else-i-few : goal.invariant_of-self-else-i-few
invariant_of-self-else-i-few c =
    let few = c.self.inside.few.items in
    let more = c.self.inside.more in
    let n = c.len-few.result in
    let count : n ≡ length few = omega (arith, c.len-few.ensures) in
    let le : n ≤ c.args.i = omega (arith, c.if-i-few.false) in (
      distinct_still _ _ c.args.i _ c.self.invariant.0
          (set_behind few more (few ++ more) c.mark-else-i-few.new.self c.args.i n _ count le refl
          c.mark-else-i-few.ensures),
      room_behind FEW few more _ _ _ c.self.invariant.1 c.mark-else-i-few.ensures,
    )

pub returns-then-i-few : goal.returns-then-i-few
returns-then-i-few c =
    let few = c.self.inside.few.items in
    let more = c.self.inside.more in
    let lt : c.args.i < length few = omega (arith, c.if-i-few.true, c.len-few.ensures) in
    marked_few (λ p. marked_by c.args.phase c.args.answer.now (sent_by c.args.phase p)) few more c.args.self.now
    c.args.i c.index_mut.result.now c.mark.new.progress lt c.index_mut.ensures.value c.mark.ensures c.self.view_is

pub returns-else-i-few : goal.returns-else-i-few
returns-else-i-few c =
    let few = c.self.inside.few.items in
    let more = c.self.inside.more in
    let n = c.len-few.result in
    let count : n ≡ length few = omega (arith, c.len-few.ensures) in
    let le : n ≤ c.args.i = omega (arith, c.if-i-few.false) in
    marked_behind (λ p. marked_by c.args.phase c.args.answer.now (sent_by c.args.phase p)) few more c.args.self.now
    c.mark-else-i-few.new.self c.args.i n count le c.self.view_is c.mark-else-i-few.ensures

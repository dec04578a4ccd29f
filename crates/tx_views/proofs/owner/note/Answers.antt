-- One operation more.
use Rattle.std.proofs.Common.{◌≡◌, ◌<◌, length, arith, sym, ◌∙◌, Some, None}
use Rattle.std.proofs.lemmas.List.{length-set, get_or_read}
use Rattle.tx_views.specs.Owners.{owner_at}
use Rattle.tx_views.proofs.ValueOwners.{own_op, kept_set, notes_set, only_set, early_set, value_below}
use Rattle.tx_views.proofs.owner.note.Goals as goal

pub returns-in-Some-index-clause-twice : goal.returns-in-Some-index-clause-twice
returns-in-Some-index-clause-twice c =
    let r = c.args.recording.now in
    let t = c.args.txn in
    let place = c.loop-place.place in
    let table = c.loop-place.table.items in
    let v = c.in-Some.value in
    let first = c.in-Some-index.first in
    let own = own_op r c.ops_of-ops.result.now t place v c.ops_of-ops.ensures.are c.loop-place-test.true
    c.in-Some.ensures.some in
    let below = value_below r t place v c.requires.recording own.0 own.1 in
    let each = c.loop-place.invariant.each in
    let all = c.requires.each in
    let within : v < length table = omega (arith, below, each, all) in
    let at : owner_at table v ≡ Some first =
    sym (get_or_read table v c.index.result.now within c.index.ensures None) ∙ c.in-Some-index.is in (
      c.loop-place.invariant.only v first at,
      own,
      c.loop-place.invariant.early v first at,
    )

pub loop-place-preserved : goal.loop-place-preserved
loop-place-preserved c =
    let r = c.args.recording.now in
    let t = c.args.txn in
    let place = c.loop-place.place in
    let table = c.loop-place.table.items in
    let v = c.in-Some.value in
    let old = c.loop-place.invariant in
    let own = own_op r c.ops_of-ops.result.now t place v c.ops_of-ops.ensures.are c.loop-place-test.true
    c.in-Some.ensures.some in
    let below = value_below r t place v c.requires.recording own.0 own.1 in
    let each = c.loop-place.invariant.each in
    let all = c.requires.each in
    let within : v < length table = omega (arith, below, each, all) in
    let none : owner_at table v ≡ None =
    sym (get_or_read table v c.index.result.now within c.index.ensures None) ∙ c.in_default-index.is in
    record {
      each = length-set table v (Some record { txn = t; place = place }) ∙ old.each;
      early = early_set table t place v within old.early;
      kept = kept_set c.args.table.now.items table v record { txn = t; place = place } none old.kept;
      noted = notes_set r table t place v within none own.1 old.noted;
      only = only_set r table v record { txn = t; place = place } within own old.only;
    }

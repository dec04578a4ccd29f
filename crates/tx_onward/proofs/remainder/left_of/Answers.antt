use Rattle.std.proofs.Common.{◌+◌, ◌<◌, ◌++◌, ◌∷◌, [], length, subst, sym, refl, ap, ◌∙◌, arith}
use Rattle.std.proofs.lemmas.Grind.{common_steps}
use Rattle.tx_recording.specs.Recordings.{txns_of, transaction_at, ops_of}
use Rattle.tx_onward.specs.Left.{without, moved}
use Rattle.tx_onward.proofs.Lefts.{IsLeftTo, one_more, left_is, recording_left}
use Rattle.tx_onward.proofs.remainder.left_of.Goals as goal

pub loop-txn-preserved : goal.loop-txn-preserved
loop-txn-preserved c =
    let r = c.args.recording.now in
    let told = c.args.told.now in
    let ts = c.loop-txn.transactions.items in
    let os = c.loop-txn.ops.items in
    let n = c.loop-txn.txn in
    let more = without c.is_told.result (ops_of r n) in
    let within : n < txns_of r = grind (arith, common_steps, c.loop-txn-test.true) in
    let added = ap (λ b. without b (ops_of r n)) c.is_told.ensures in
    let puts = c.in_ok-put_one.ensures in
    let step = one_more r told ts os n more c.requires.recording c.requires.in_turn within c.loop-txn.invariant added in
    let last = puts.transactions
    ∙ ap (λ l. ts ++ moved (transaction_at r n) (length os) (length l) ∷ []) puts.ops in
    subst (λ l. IsLeftTo r told l c.put_one.new.left.items (n + 1)) (sym last)
    (subst (λ l. IsLeftTo r told (ts ++ moved (transaction_at r n) (length os) (length (os ++ more)) ∷ []) l (n + 1))
    (sym puts.ops) step)

-- all of them
all_left : (c : goal.In_ok-same_values) → IsLeftTo c.args.recording.now c.args.told.now c.loop-txn.transactions.items
    c.loop-txn.ops.items (txns_of c.args.recording.now)
all_left c = subst (λ n. IsLeftTo c.args.recording.now c.args.told.now c.loop-txn.transactions.items
    c.loop-txn.ops.items n) (grind (arith, common_steps, c.loop-txn-test.false, c.loop-txn.invariant.count))
    c.loop-txn.invariant

pub returns-clause-left : goal.returns-clause-left
returns-clause-left c =
    left_is c.args.recording.now _ c.args.told.now (all_left c) (c.in_ok-same_values.ensures ∙ c.as_slice.ensures.value)
    refl refl

pub returns-clause-recording : goal.returns-clause-recording
returns-clause-recording c =
    recording_left c.args.recording.now _ c.args.told.now (all_left c)
    (c.in_ok-same_values.ensures ∙ c.as_slice.ensures.value) refl refl c.requires.recording

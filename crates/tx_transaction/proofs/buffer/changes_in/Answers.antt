use Rattle.std.proofs.Common.{◌≡◌, ◌∙◌, ◌<◌, ◌+◌, ◌++◌, suc, sym, ap, take, length, arith, [], ◌∷◌}
use Rattle.tx_types.specs.declared.mutation.Change.{Change}
use Rattle.tx_transaction.specs.Buffers.{changes_of}
use Rattle.tx_transaction.proofs.Places.{front_more}
use Rattle.tx_transaction.proofs.buffer.changes_in.Goals as goal

pub loop-i-preserved : goal.loop-i-preserved
loop-i-preserved c =
    let lt : c.loop-i.i < length c.args.buffer.now = omega (arith, c.len-i-end.ensures.len) in
    let next : suc c.loop-i.i ≡ c.loop-i.i + 1 = omega arith in
    let parts : ◌≡◌ {A = Change} (record { key = c.in_ok-key.key; mutation = c.in_ok-mutation.mutation }) _ =
    λ j. record { key = c.in_ok-key.ensures.ok j; mutation = c.in_ok-mutation.ensures.ok j } in
    c.in_ok-push.ensures.ok ∙ (λ j. c.loop-i.invariant j ++ parts j ∷ [])
    ∙ sym (front_more c.loop-i.i c.args.buffer.now lt) ∙ ap (λ n. changes_of (take n c.args.buffer.now)) next

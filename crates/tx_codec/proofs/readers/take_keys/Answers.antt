use Rattle.std.proofs.Common.{arith}
use Rattle.std.proofs.lemmas.Result.{err_from_is_err_and}
use Rattle.std.proofs.lemmas.List.{length_push}
use Rattle.tx_codec.proofs.KeyLists.{KeysRead-more, KeysRead-all, KeysRead-fails}
use Rattle.tx_codec.proofs.readers.take_keys.Goals as goal

pub returns-in_err-key : goal.returns-in_err-key
returns-in_err-key c =
    let p = err_from_is_err_and c.from_residual-in_err-key.result c.from_residual-in_err-key.ensures.1 in
    let fails = KeysRead-fails c.in_ok-count.ensures (omega arith) c.loop.invariant.1 c.in_err-key.field-0.0
    c.in_err-key.ensures in
    rw (p.1, p.2) fails

pub loop-preserved : goal.loop-preserved
loop-preserved c =
    let more = KeysRead-more c.loop.invariant.1 c.in_ok-key.ensures in
    rw c.in_ok-push.ensures.ok (omega (arith, length_push c.loop.keys c.in_ok-key.key), more)

pub returns : goal.returns
returns c = KeysRead-all c.in_ok-count.ensures (omega arith) (omega arith) c.loop.invariant.1

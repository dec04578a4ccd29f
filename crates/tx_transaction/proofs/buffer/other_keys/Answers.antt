use Rattle.std.proofs.Common.{◌∙◌, ◌<◌, ◌++◌, [], ◌∷◌, length, arith, sym, ap}
use Rattle.tx_transaction.proofs.Places.{others_step, others_short, others_all}
use Rattle.tx_transaction.proofs.buffer.other_keys.Goals as goal

pub push-requires : goal.push-requires
push-requires c =
    let short = others_short c.loop-i.i c.args.buffer.now c.loop-i.invariant.from in
    omega (arith, short, ap length c.loop-i.invariant.keys, c.len-i-end.ensures.len, c.requires)

pub loop-i-preserved : goal.loop-i-preserved
loop-i-preserved c =
    let lt : c.loop-i.i < length c.args.buffer.now = omega (arith, c.len-i-end.ensures.len) in
    record {
      from = omega arith;
      keys = c.in_ok-push.ensures.ok ∙ (λ j. c.loop-i.invariant.keys j ++ c.in_ok-key_of.ensures.ok j ∷ [])
          ∙ sym (others_step c.loop-i.i c.args.buffer.now c.loop-i.invariant.from lt);
    }

pub returns-clause-ok : goal.returns-clause-ok
returns-clause-ok c = c.loop-i.invariant.keys ∙ others_all c.loop-i.i c.args.buffer.now c.loop-i.invariant.from
    (omega (arith, c.len-i-end.ensures.len))

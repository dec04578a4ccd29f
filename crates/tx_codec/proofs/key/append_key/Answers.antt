use Rattle.std.proofs.Common.{refl, arith}
use Rattle.tx_codec.proofs.Groups.{group_written, last_written}
use Rattle.tx_codec.proofs.key.append_key.Goals as goal

pub loop-rest-preserved : goal.loop-rest-preserved
loop-rest-preserved c =
    rw (
      c.in_ok-extend_from_slice.ensures.items,
      c.group_of.ensures,
      c.split_at.ensures.front,
      c.split_at.ensures.back,
    )
    (group_written c.loop-rest.out.items c.loop-rest.rest.now _ _ (omega arith) refl c.loop-rest.invariant)

pub returns : goal.returns
returns c =
    rw (
      c.in_ok-extend_from_slice-2.ensures.items,
      c.group_of-2.ensures,
    ) (last_written c.loop-rest.out.items c.loop-rest.rest.now _
    (omega arith) c.loop-rest.invariant)

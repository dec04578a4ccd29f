use Rattle.std.proofs.Common.{arith}
use Rattle.tx_trace.specs.Pending.{has}
use Rattle.tx_trace.proofs.KeySets.{taken_gone, taken_others, some_left}
use Rattle.tx_trace.proofs.pending.Locks.take.Goals as goal

pub returns-then-is_empty-clause-takes : goal.returns-then-is_empty-clause-takes
returns-then-is_empty-clause-takes c =
    record {
      was = c.requires.left;
      gone = taken_gone (has c.args.self.now.left) (has c.remove.new.self) c.args.key.now c.remove.ensures.updates.0;
      others = taken_others (has c.args.self.now.left) (has c.remove.new.self) c.args.key.now
          c.remove.ensures.updates.0;
      async = c.requires.minimum;
      min = omega (arith, c.new-self.ensures, c.max.ensures, c.get.ensures, c.get-2.ensures);
    }

pub returns-else-is_empty-clause-takes : goal.returns-else-is_empty-clause-takes
returns-else-is_empty-clause-takes c =
    record {
      was = c.requires.left;
      gone = taken_gone (has c.args.self.now.left) (has c.remove.new.self) c.args.key.now c.remove.ensures.updates.0;
      others = taken_others (has c.args.self.now.left) (has c.remove.new.self) c.args.key.now
          c.remove.ensures.updates.0;
      async = c.requires.minimum;
      min = omega (arith, c.new-self.ensures, c.max.ensures, c.get.ensures, c.get-2.ensures);
    }

pub returns-else-is_empty-clause-completes : goal.returns-else-is_empty-clause-completes
returns-else-is_empty-clause-completes c =
    some_left c.remove.new.self (λ e. cc (c.is_empty.ensures.1 e, c.if-is_empty.false))

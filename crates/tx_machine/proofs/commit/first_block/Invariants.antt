use Rattle.std.proofs.Common.{◌≡◌, take, Some}
use Rattle.tx_types.specs.declared.key.Key.{Key}
use Rattle.tx_types.specs.declared.mutation.Mutation.{Mutation}
use Rattle.tx_machine.specs.Keys.{mutation_at}
use Rattle.tx_machine.specs.Representation.{InOrder, IsFree}
use Rattle.tx_machine.proofs.commit.first_block.Given as goal

abbrev pub invariant-loop-change : goal.invariant-loop-change
invariant-loop-change l = InOrder l.index l.fates
    → (k : Key) (m : Mutation) → mutation_at (take l.change-index l.set) k ≡ Some m
    → IsFree l.index l.fates l.reads l.t l.c record { key = k; mutation = m }

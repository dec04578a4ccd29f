use Rattle.std.proofs.Common.{◌≡◌, ℕ, take}
use Rattle.tx_types.specs.declared.key.Key.{Key}
use Rattle.tx_machine.specs.Shown.{history_of, insert_read_in}
use Rattle.tx_machine.specs.Representation.{version_of, puts}
use Rattle.tx_machine.proofs.commit.list_all.Given as goal

abbrev pub invariant-loop-change : goal.invariant-loop-change
invariant-loop-change l =
    ((k : Key) (q : ℕ)
    → version_of l.index k q ≡ puts l.t l.c (take l.change-index l.set) (version_of l.initial.index) k q)
    × ((k : Key) → insert_read_in (history_of l.index k) ≡ insert_read_in (history_of l.initial.index k))

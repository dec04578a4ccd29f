use Rattle.std.proofs.Common.{ℕ, ◌≤◌, ◌<◌, ◌-◌, ◌^◌}
use Rattle.tx_types.specs.declared.mutation.Mutation.{Mutation}
use Rattle.tx_machine.specs.Versions.{Listed}
use Rattle.tx_machine.proofs.versions.overlapping.Given as goal

abbrev pub invariant-versions : goal.invariant-versions
invariant-versions l =
    (l.fn.start ≤ l.bound)
    × ((u d : ℕ) (m : Mutation) → Listed l.versions l.fates u d m → l.fn.start < d → d ≤ l.bound → ⊥)

abbrev pub decreases-versions : goal.decreases-versions
decreases-versions l = 2 ^ 64 - l.bound

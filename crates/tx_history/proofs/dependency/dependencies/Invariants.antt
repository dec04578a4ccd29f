-- One for each step so far.
use Rattle.std.proofs.Common.{◌≡◌, ℕ, length, slice_index, slice_get, Some}
use Rattle.tx_history.specs.declared.dependency.Dependency.{Dependency}
use Rattle.tx_history.specs.Records.{history_of}
use Rattle.tx_history.specs.Dependencies.{IsDependency, next_of}
use Rattle.tx_history.proofs.dependency.dependencies.Given as goal

abbrev pub invariant-loop-i : goal.invariant-loop-i
invariant-loop-i l = record {
  each : length l.found.items ≡ l.i;
  holds : (j : ℕ) (d : Dependency) → slice_get l.found.items j ≡ Some d
      → IsDependency (history_of l.recorded) d record { from = slice_index l.nodes j; to = next_of l.nodes j };
}

use Rattle.std.proofs.Common.{◌≡◌, ◌+◌, ◌<◌, ◌≤◌, ℕ, List, ◌++◌, All, length, take}
use Rattle.tx_import.specs.Numbers.{Grows, AreValuesOf}
use Rattle.tx_import.proofs.draft.put_values.Given as goal

abbrev pub invariant-loop-value : goal.invariant-loop-value
invariant-loop-value l =
    ((ns : List ℕ) × (l.elements.items ≡ l.fn.elements.items ++ ns)
    × AreValuesOf l.values l.key ns (take l.value-index l.found))
    × Grows l.fn.values l.values × (length l.values ≤ length l.fn.values + l.value-index)
    × (All (λ v. v < length l.fn.values) l.fn.elements.items → All (λ v. v < length l.values) l.elements.items)

-- The words of modes and kinds.
use Rattle.std.specs.Prelude.{ℕ, List, codes}
use Rattle.tx_types.specs.declared.mutation.Mode.{Mode}
use Rattle.tx_types.specs.declared.mutation.Mode.TheVariants.{TwoPhase, Async}
use Rattle.tx_types.specs.declared.mutation.LockKind.{LockKind}
use Rattle.tx_types.specs.declared.mutation.LockKind.TheVariants as kind

-- how a transaction commits
abbrev pub mode_word : Mode → List ℕ
mode_word TwoPhase = codes "two-phase"
mode_word Async = codes "async"

-- what a transaction does to a key
abbrev pub kind_word : LockKind → List ℕ
kind_word kind.Put = codes "put"
kind_word kind.Delete = codes "delete"
kind_word kind.Lock = codes "lock"

use Rattle.std.proofs.Common.{◌≡◌, ◌++◌, List, take}
use Rattle.tx_types.specs.declared.mutation.KeyValue.{KeyValue}
use Rattle.tx_kv.specs.Sizes.{size_of}
use Rattle.tx_kv.proofs.size.Size.with_rows.Given as goal

-- it is the size of what it was before with the rows so far
abbrev pub invariant-loop-row : goal.invariant-loop-row
invariant-loop-row l = (before : List KeyValue) → l.fn.self ≡ size_of before
    → l.size ≡ size_of (before ++ take l.row-index l.rows)

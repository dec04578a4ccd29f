use Rattle.std.proofs.Common.{◌≡◌, ◌++◌, length, take}
use Rattle.std.specs.Int.{w16, to_be_bytes}
use Rattle.std.specs.List.{flat_map}
use Rattle.tx_codec.specs.Records.{key_bytes}
use Rattle.tx_codec.proofs.writers.append_keys.Given as goal

abbrev pub invariant-loop-key : goal.invariant-loop-key
invariant-loop-key l = l.out.items ≡ l.fn.out.items
    ++ (to_be_bytes w16 (length l.keys) ++ flat_map key_bytes (take l.key-index l.keys))

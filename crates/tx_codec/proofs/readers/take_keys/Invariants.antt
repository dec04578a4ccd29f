use Rattle.std.proofs.Common.{◌≡◌, length}
use Rattle.tx_codec.proofs.KeyLists.{KeysRead}
use Rattle.tx_codec.proofs.readers.take_keys.Given as goal

abbrev pub invariant-loop : goal.invariant-loop
invariant-loop l = (length l.keys ≡ l.counter) × KeysRead l.initial.rest l.rest l.keys

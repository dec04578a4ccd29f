use Rattle.std.proofs.Common.{◌≤◌, ◌-◌, ◌+◌, ◌≡◌, length, drop}
use Rattle.std.specs.List.{prefix_len}
use Rattle.std.specs.Char.{is_ascii_digit}
use Rattle.json.specs.Lex.{in_word, lex}
use Rattle.tx_text.proofs.scan.digits_end.Given as goal

abbrev pub invariant-bytes : goal.invariant-bytes
invariant-bytes l = (l.from ≤ l.at) × (l.at ≤ length l.bytes)
    × (prefix_len is_ascii_digit (drop l.from l.bytes)
    ≡ (l.at - l.from) + prefix_len is_ascii_digit (drop l.at l.bytes))
    × (lex in_word (drop l.from l.bytes) ≡ lex in_word (drop l.at l.bytes))

abbrev pub decreases-bytes : goal.decreases-bytes
decreases-bytes l = length l.bytes - l.at

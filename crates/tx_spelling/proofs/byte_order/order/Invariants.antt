use Rattle.std.proofs.Common.{◌≡◌, length}
use Rattle.std.specs.Ordering.{nat_cmp}
use Rattle.std.specs.Cmp.Lexicographic.{slice_cmp}
use Rattle.tx_codec.proofs.Words.{AreBytes}
use Rattle.tx_spelling.proofs.byte_order.order.Given as goal

-- what is left is of bytes, and orders as the whole
abbrev pub invariant-words : goal.invariant-words
invariant-words l = AreBytes l.x × AreBytes l.y × (slice_cmp nat_cmp l.a l.b ≡ slice_cmp nat_cmp l.x l.y)

abbrev pub decreases-words : goal.decreases-words
decreases-words l = length l.x

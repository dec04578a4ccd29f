-- The effect of the operations so far.
use Rattle.std.proofs.Common.{take}
use Rattle.tx_views.specs.Views.{IsEffect}
use Rattle.tx_views.proofs.effect.effect_of.Given as goal

abbrev pub invariant-loop-i : goal.invariant-loop-i
invariant-loop-i l = IsEffect (take l.i l.ops) l.key l.effect

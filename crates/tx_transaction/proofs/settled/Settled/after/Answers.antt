use Rattle.std.proofs.Common.{arith, sym, inl, inr, ◌+◌, ◌-◌, ◌^◌}
use Rattle.std.proofs.Math.Nat.{min-le_left, min-le_right}
use Rattle.tx_transaction.proofs.Heads.{settled_before, settled_past}
use Rattle.tx_transaction.proofs.settled.Settled.after.Goals as goal

pub returns-then-wants_more : goal.returns-then-wants_more
returns-then-wants_more c =
    λ es within is. settled_before c.args.phase es c.keys-keys.result c.min-keys.result c.args.i c.args.progress.now
    (c.keys-keys.ensures.settled es is)
    (omega (arith, c.min-keys.ensures, min-le_left c.keys-keys.result c.args.i))
    (omega (arith, c.min-keys.ensures, min-le_right c.keys-keys.result c.args.i))

pub returns-then-keys-i : goal.returns-then-keys-i
returns-then-keys-i c =
    λ es within is. settled_past c.args.phase es c.keys-keys.result c.saturating_add-keys.result c.args.i
    c.args.progress.now (c.keys-keys.ensures.settled es is) within (sym c.if-wants_more.ensures)
    (inr (c.if-keys-i.true, omega (arith, c.saturating_add-keys.ensures, min-le_left (c.args.i + 1) (2 ^ 64 - 1))))

pub returns : goal.returns
returns c =
    λ es within is. settled_past c.args.phase es c.keys-keys.result c.keys-keys.result c.args.i c.args.progress.now
    (c.keys-keys.ensures.settled es is) within (sym c.if-wants_more.ensures) (inl (omega arith))

-- Each of the orders that is asked for.
use Rattle.std.proofs.Common.{◌≡◌, inl, inr}
use Rattle.std.proofs.lemmas.Result.{IfOk-weaker}
use Rattle.tx_clock.proofs.orders.keeps_orders.Goals as goal

pub returns : goal.returns
returns c =
    IfOk-weaker c.keeps_clock_if.result _ _ (λ keeps clock is t u before live also. elim before [
      | inl session ↦ c.in_ok-keeps_sessions_if.ensures c.if-not-branch.false session.0 t u session.1 live also
      | inr earlier ↦ clock is earlier.0 t u earlier.1 live also
    ]) c.keeps_clock_if.ensures

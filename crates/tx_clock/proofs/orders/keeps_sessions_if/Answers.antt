-- Asked for or not.
use Rattle.std.proofs.lemmas.Result.{IfOk-weaker}
use Rattle.tx_clock.proofs.orders.keeps_sessions_if.Goals as goal

pub returns : goal.returns
returns c = IfOk-weaker c.keeps_sessions.result _ _ (λ keeps kept is _. kept is) c.keeps_sessions.ensures

use Rattle.tx_text.proofs.Texts.{on_ok}
use Rattle.tx_check.proofs.all.put_no.Goals as goal

pub returns-in-Ok-Some : goal.returns-in-Ok-Some
returns-in-Ok-Some c =
    let is = rw c.in-Ok-Some.field-0-is at c.in-Ok-Some.ensures.ok in
    on_ok c.put_told.result c.put_told.ensures (λ e table stands refused. (c.in-Ok-Some.why, is, e))

pub returns-in-Ok-None : goal.returns-in-Ok-None
returns-in-Ok-None c =
    let is = rw c.in-Ok-None.field-0-is at c.in-Ok-None.ensures.ok in
    λ table stands refused. absurd (refused (is table stands))

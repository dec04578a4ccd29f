use Rattle.tx_ops.proofs.EditEffects.{delete_told, delete_entered}
use Rattle.tx_ops.proofs.edits.delete.Goals as goal

pub returns-in-Ok-Some : goal.returns-in-Ok-Some
returns-in-Ok-Some g c = delete_told c.args.session.now c.args.session.now c.args.key.now c.in-Ok-Some.reply
    c.in-Ok-Some.field-0 c.in-Ok-Some.ensures c.in-Ok-Some.field-0-is

pub returns-in-Ok-None : goal.returns-in-Ok-None
returns-in-Ok-None g c = delete_entered c.args.session.now c.enter_delete.new.session c.args.key.now c.said.result
    c.in-Ok-None.field-0 c.in-Ok-None.ensures c.in-Ok-None.field-0-is c.enter_delete.result
    (c.enter_delete.ensures.ok, c.enter_delete.ensures.same) (c.said.ensures.ok, c.said.ensures.err)

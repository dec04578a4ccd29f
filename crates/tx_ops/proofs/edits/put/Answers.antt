use Rattle.tx_ops.proofs.EditEffects.{put_told, put_entered}
use Rattle.tx_ops.proofs.edits.put.Goals as goal

pub returns-in-Ok-Some : goal.returns-in-Ok-Some
returns-in-Ok-Some g c = put_told c.args.session.now c.args.session.now c.args.key.now c.in-Ok-Some.reply
    c.in-Ok-Some.field-0 c.args.value.now c.is_value.result c.is_value.ensures c.in-Ok-Some.ensures
    c.in-Ok-Some.field-0-is

pub returns-in-Ok-None : goal.returns-in-Ok-None
returns-in-Ok-None g c = put_entered c.args.session.now c.enter_put.new.session c.args.key.now c.said.result
    c.in-Ok-None.field-0 c.args.value.now c.is_value.result c.is_value.ensures c.in-Ok-None.ensures
    c.in-Ok-None.field-0-is c.enter_put.result (c.enter_put.ensures.ok, c.enter_put.ensures.same)
    (c.said.ensures.ok, c.said.ensures.err)

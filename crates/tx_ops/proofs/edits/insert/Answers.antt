use Rattle.tx_ops.proofs.EditEffects.{insert_told, insert_entered}
use Rattle.tx_ops.proofs.edits.insert.Goals as goal

pub returns-in-Ok-Some : goal.returns-in-Ok-Some
returns-in-Ok-Some g c = insert_told c.args.session.now c.args.session.now c.args.key.now c.in-Ok-Some.reply
    c.in-Ok-Some.field-0 c.args.value.now c.is_value.result c.is_value.ensures c.in-Ok-Some.ensures
    c.in-Ok-Some.field-0-is

pub returns-in-Ok-None : goal.returns-in-Ok-None
returns-in-Ok-None g c = insert_entered c.args.session.now c.insert_new.new.session c.args.key.now c.insert_new.result
    c.in-Ok-None.field-0 c.args.value.now c.is_value.result c.is_value.ensures c.in-Ok-None.ensures
    c.in-Ok-None.field-0-is c.insert_new.ensures

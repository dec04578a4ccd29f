use Rattle.tx_update.specs.Reads.{LosesRead}
use Rattle.tx_embed.proofs.Found.{gets_value}
use Rattle.tx_embed.proofs.reads.get_now.Goals as goal

pub returns : goal.returns
returns g c =
    gets_value (LosesRead g.S.Sender.sends) c.args.session.now c.look.new.session c.args.key.now _ c.value_in.result
    c.in_ok-answer.ensures c.value_in.ensures.finds c.value_in.ensures.err c.value_in.ensures.names

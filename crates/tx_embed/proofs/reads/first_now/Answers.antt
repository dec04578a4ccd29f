use Rattle.tx_update.specs.Reads.{LosesRead}
use Rattle.tx_embed.proofs.Found.{nexts_row}
use Rattle.tx_embed.proofs.reads.first_now.Goals as goal

pub returns : goal.returns
returns g c =
    nexts_row (LosesRead g.S.Sender.sends) c.args.session.now c.look_from.new.session c.args.from.now
    c.args.to.now _ c.row_in.result
    c.in_ok-answer.ensures c.row_in.ensures.finds c.row_in.ensures.err c.row_in.ensures.within

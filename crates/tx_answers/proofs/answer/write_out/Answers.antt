use Rattle.tx_check.proofs.Told.{on_err, whole_part}
use Rattle.tx_answers.proofs.answer.write_out.Goals as goal

pub returns-clause-part : goal.returns-clause-part
returns-clause-part g c =
    on_err c.finish.result
    (whole_part (g.W.Write.contents c.args.writer.now) (g.W.Write.contents c.send.new.writer)
    (g.W.Write.contents c.finish.new.writer) c.args.text.now c.in_ok-send.ensures.all c.finish.ensures.kept)

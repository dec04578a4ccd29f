use Rattle.tx_resolve.proofs.Knowledge.{asked_more}
use Rattle.tx_resolve.proofs.CollectorAnswers.{not_lost, to_collect}
use Rattle.tx_resolve.proofs.collector.collect.Goals as goal

pub collected_by-requires : goal.collected_by-requires
collected_by-requires g c =
    let asked = c.ask-response.ensures.asked in
    let more = asked_more g.S.Sender.sends g.J.JournalId.bounds c.args.seat.now c.ask-response.new.seat
    c.args.sender.now c.ask-response.new.sender _ c.ask-response.result c.requires.run asked in
    to_collect g.J.JournalId.bounds c.ask-response.new.seat.events more.0 _ c.ask-response.result
    (not_lost g.S.Sender.sends c.requires.lossless g.J.JournalId.bounds _ _ _ _ _ _ asked)
    c.ask-response.ensures.told

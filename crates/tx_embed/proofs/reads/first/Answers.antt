use Rattle.tx_update.specs.Reads.{LosesRead}
use Rattle.tx_update.proofs.CallSequences.{goes_itself}
use Rattle.tx_embed.proofs.Found.{nexts_row, nexts_after}
use Rattle.tx_embed.proofs.Steps.{seen_more}
use Rattle.tx_embed.proofs.reads.first.Goals as goal

pub returns-in_err-answer-clause-resolver : goal.returns-in_err-answer-clause-resolver
returns-in_err-answer-clause-resolver g c = goes_itself c.args.resolver.now

pub first_past-requires-clause-drawn : goal.first_past-requires-clause-drawn
first_past-requires-clause-drawn g c =
    seen_more g.J.JournalId.bounds c.args.session.now c.look_from.new.session c.in_ok-answer.ensures.0.0
    c.show.ensures.run c.requires.drawn

pub returns-in-KeyIsLocked-clause-nexts : goal.returns-in-KeyIsLocked-clause-nexts
returns-in-KeyIsLocked-clause-nexts g c =
    nexts_after (LosesRead g.S.Sender.sends) c.args.session.now c.look_from.new.session c.first_past.new.session
    c.args.from.now c.args.to.now
    c.first_past.result c.in_ok-answer.ensures.0 c.first_past.ensures.nexts

pub returns-in_default : goal.returns-in_default
returns-in_default g c = record {
  nexts = nexts_row (LosesRead g.S.Sender.sends) c.args.session.now c.look_from.new.session c.args.from.now
      c.args.to.now _ c.row_in.result
      c.in_ok-answer.ensures c.row_in.ensures.finds c.row_in.ensures.err c.row_in.ensures.within;
  resolver = goes_itself c.args.resolver.now;
}

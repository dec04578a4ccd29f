use Rattle.tx_update.specs.Reads.{LosesRead}
use Rattle.tx_update.proofs.CallSequences.{goes_itself}
use Rattle.tx_embed.proofs.Found.{gets_value, gets_after}
use Rattle.tx_embed.proofs.Steps.{seen_more}
use Rattle.tx_embed.proofs.reads.get.Goals as goal

pub returns-in_err-answer-clause-resolver : goal.returns-in_err-answer-clause-resolver
returns-in_err-answer-clause-resolver g c = goes_itself c.args.resolver.now

pub get_past-requires-clause-drawn : goal.get_past-requires-clause-drawn
get_past-requires-clause-drawn g c =
    seen_more g.J.JournalId.bounds c.args.session.now c.look.new.session c.in_ok-answer.ensures.0.0
    c.show.ensures.run c.requires.drawn

pub returns-in-KeyIsLocked-clause-gets : goal.returns-in-KeyIsLocked-clause-gets
returns-in-KeyIsLocked-clause-gets g c =
    gets_after (LosesRead g.S.Sender.sends) c.args.session.now c.look.new.session c.get_past.new.session c.args.key.now
    c.get_past.result c.in_ok-answer.ensures.0 c.get_past.ensures.gets

pub returns-in_default : goal.returns-in_default
returns-in_default g c = record {
  gets = gets_value (LosesRead g.S.Sender.sends) c.args.session.now c.look.new.session c.args.key.now _
      c.value_in.result
      c.in_ok-answer.ensures c.value_in.ensures.finds c.value_in.ensures.err c.value_in.ensures.names;
  resolver = goes_itself c.args.resolver.now;
}

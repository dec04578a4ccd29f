use Rattle.tx_update.specs.Reads.{LosesRead}
use Rattle.tx_embed.proofs.Found.{gets_waits, gets_after}
use Rattle.tx_embed.proofs.Steps.{seen_more}
use Rattle.tx_embed.proofs.reads.get_past.Goals as goal

pub returns-in-Waiting-clause-gets : goal.returns-in-Waiting-clause-gets
returns-in-Waiting-clause-gets g c =
    let told = c.in_ok-clone.field-0 in
    gets_waits (LosesRead g.S.Sender.sends) c.args.session.now c.clear.new.session c.args.key.now told c.args.lock.now
    c.in-Waiting.why (c.clear.ensures.session, c.clear.ensures.buffer) c.in_ok-clone.ensures.ok c.requires.met

pub get_now-requires : goal.get_now-requires
get_now-requires g c = record {
  way = c.requires.way;
  drawn = seen_more g.J.JournalId.bounds c.args.session.now c.clear.new.session c.clear.ensures.session
      c.show.ensures.run c.requires.drawn;
}

pub returns : goal.returns
returns g c = record {
  gets = gets_after (LosesRead g.S.Sender.sends) c.args.session.now c.clear.new.session c.get_now.new.session
      c.args.key.now c.get_now.result (c.clear.ensures.session, c.clear.ensures.buffer) c.get_now.ensures;
  resolver = c.clear.ensures.resolver;
}

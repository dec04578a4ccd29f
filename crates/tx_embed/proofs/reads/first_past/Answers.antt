use Rattle.std.proofs.Common.{◌≡◌, rules}
use Rattle.tx_update.specs.Reads.{LosesRead}
use Rattle.tx_embed.proofs.Found.{nexts_waits, nexts_after}
use Rattle.tx_embed.proofs.Steps.{seen_more}
use Rattle.tx_embed.proofs.reads.first_past.Goals as goal

pub returns-in-Waiting-clause-nexts : goal.returns-in-Waiting-clause-nexts
returns-in-Waiting-clause-nexts g c =
    let told = c.in_ok-clone.field-0 in
    let is : told ≡ c.args.lock.now.key = search rules in
    nexts_waits (LosesRead g.S.Sender.sends) c.args.session.now c.clear.new.session c.args.from.now
    c.args.to.now told c.args.lock.now
    c.in-Waiting.why (c.clear.ensures.session, c.clear.ensures.buffer) is c.requires.met c.requires.within

pub first_now-requires : goal.first_now-requires
first_now-requires g c = record {
  way = c.requires.way;
  drawn = seen_more g.J.JournalId.bounds c.args.session.now c.clear.new.session c.clear.ensures.session
      c.show.ensures.run c.requires.drawn;
}

pub returns : goal.returns
returns g c = record {
  nexts = nexts_after (LosesRead g.S.Sender.sends) c.args.session.now c.clear.new.session c.first_now.new.session
      c.args.from.now c.args.to.now c.first_now.result (c.clear.ensures.session, c.clear.ensures.buffer)
      c.first_now.ensures;
  resolver = c.clear.ensures.resolver;
}

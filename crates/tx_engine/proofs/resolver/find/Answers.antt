use Rattle.std.proofs.Common.{length, ap, ◌∙◌}
use Rattle.tx_core.specs.Recording.{part}
use Rattle.tx_resolve.specs.BlockedReads.{read_walk}
use Rattle.tx_resolve.proofs.Knowledge.{told_on}
use Rattle.tx_engine.specs.declared.resolver.Direct.{Direct}
use Rattle.tx_engine.proofs.Directly.{direct_ticks, direct_serves}
use Rattle.tx_engine.proofs.resolver.find.Goals as goal

pub resolve-requires-clause-told : goal.resolve-requires-clause-told
resolve-requires-clause-told g c = told_on c.args.told c.learn.new.self.events c.learn.ensures.told c.args.met.now
    c.requires

pub returns-clause-ticks : goal.returns-clause-ticks
returns-clause-ticks g c =
    direct_ticks (λ (d : Direct _ _). d.network) g.J.JournalId.bounds (read_walk c.args.met.now c.args.at c.args.now)
    c.args.system_seat.now c.learn.new.self c.resolve.new.seat c.args.direct.now c.resolve.new.sender
    c.resolve.result.status c.resolve.ensures.sends
    c.learn.ensures.same.1

pub returns-clause-serves : goal.returns-clause-serves
returns-clause-serves g c =
    direct_serves (λ (d : Direct _ _). d.network) g.J.JournalId.bounds (read_walk c.args.met.now c.args.at c.args.now)
    c.args.system_seat.now c.learn.new.self c.resolve.new.seat c.args.direct.now c.resolve.new.sender
    c.resolve.result.status c.resolve.ensures.sends
    c.learn.ensures.same.0 (ap (λ i. length (part i c.learn.new.self.events)) c.learn.ensures.same.0 ∙ ap length
    c.learn.ensures.own)

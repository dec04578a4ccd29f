use Rattle.std.proofs.Common.{refl}
use Rattle.tx_resolve.specs.Collection.{gc_walk}
use Rattle.tx_engine.specs.declared.resolver.Direct.{Direct}
use Rattle.tx_engine.proofs.Directly.{direct_ticks, direct_serves}
use Rattle.tx_engine.proofs.resolver.gc_at.Goals as goal

pub returns-clause-ticks : goal.returns-clause-ticks
returns-clause-ticks g c =
    direct_ticks (λ (d : Direct _ _). d.network) g.J.JournalId.bounds (gc_walk g.J.JournalId.bounds c.args.safe)
    c.args.system_seat.now c.args.system_seat.now c.gc.new.seat c.args.direct.now c.gc.new.sender c.gc.result
    c.gc.ensures refl

pub returns-clause-serves : goal.returns-clause-serves
returns-clause-serves g c =
    direct_serves (λ (d : Direct _ _). d.network) g.J.JournalId.bounds (gc_walk g.J.JournalId.bounds c.args.safe)
    c.args.system_seat.now c.args.system_seat.now c.gc.new.seat c.args.direct.now c.gc.new.sender c.gc.result
    c.gc.ensures refl refl

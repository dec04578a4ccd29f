use Rattle.std.proofs.Common.{subst}
use Rattle.tx_core.specs.declared.event.Event.TheVariants.{Drawn}
use Rattle.tx_network.specs.Networks.{NetworkParts, GoesOnWith}
use Rattle.tx_network.proofs.network.Network.drew.Goals as goal

pub returns-clause-notes : goal.returns-clause-notes
returns-clause-notes g c =
    λ seat. subst (λ (d : NetworkParts). GoesOnWith d.trace (Drawn seat c.args.ts) c.note_drawn.new.trace)
    c.self.view_is (c.note_drawn.ensures seat)

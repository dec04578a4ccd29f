use Rattle.std.proofs.Common.{ap, ◌∙◌}
use Rattle.tx_client.specs.Calls.{Seated}
use Rattle.tx_update.proofs.CallSequences.{entry_seat}
use Rattle.tx_update.proofs.session.Running.put.Goals as goal

pub returns-clause-seat : goal.returns-clause-seat
returns-clause-seat g c =
    entry_seat c.put.result _ c.self.inside.session c.put.new.self _ c.put.ensures.ok c.put.ensures.same
    ∙ ap (λ (s : Seated). s.seat) c.self.view_is

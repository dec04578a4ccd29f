use Rattle.std.proofs.Common.{ap, ◌∙◌}
use Rattle.tx_client.specs.Calls.{Seated}
use Rattle.tx_update.proofs.CallSequences.{entry_seat}
use Rattle.tx_update.proofs.session.Running.delete.Goals as goal

pub returns-clause-seat : goal.returns-clause-seat
returns-clause-seat g c =
    entry_seat c.delete.result _ c.self.inside.session c.delete.new.self _ c.delete.ensures.ok c.delete.ensures.same
    ∙ ap (λ (s : Seated). s.seat) c.self.view_is

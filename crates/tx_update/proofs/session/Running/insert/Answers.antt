use Rattle.std.proofs.Common.{ap, ◌∙◌}
use Rattle.tx_client.specs.Calls.{Seated}
use Rattle.tx_update.proofs.CallSequences.{insert_seat}
use Rattle.tx_update.proofs.session.Running.insert.Goals as goal

pub returns-clause-seat : goal.returns-clause-seat
returns-clause-seat g c =
    insert_seat c.insert.result _ _ c.self.inside.session c.insert.new.self _ c.insert.ensures.ok c.insert.ensures.same
    ∙ ap (λ (s : Seated). s.seat) c.self.view_is

use Rattle.std.proofs.Common.{ap, ◌∙◌}
use Rattle.tx_client.specs.Calls.{Seated}
use Rattle.tx_update.proofs.CallSequences.{entry_seat}
use Rattle.tx_update.proofs.session.Running.lock.Goals as goal

pub returns-clause-seat : goal.returns-clause-seat
returns-clause-seat g c =
    entry_seat c.lock.result _ c.self.inside.session c.lock.new.self _ c.lock.ensures.ok c.lock.ensures.same
    ∙ ap (λ (s : Seated). s.seat) c.self.view_is

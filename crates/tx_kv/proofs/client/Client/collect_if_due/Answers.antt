use Rattle.std.proofs.Common.{subst}
use Rattle.tx_reader.specs.Readers.{OnlySees}
use Rattle.tx_reader.proofs.Observers.{sees_itself}
use Rattle.tx_kv.specs.Clients.{ClientState, seats_of}
use Rattle.tx_kv.proofs.client.Client.collect_if_due.Goals as goal

pub returns-then-self-eq0-clause-resolves : goal.returns-then-self-eq0-clause-resolves
returns-then-self-eq0-clause-resolves g c =
    let seats = seats_of c.self.inside.seats in
    subst (λ (s : ClientState g.row.J.Denot). OnlySees s.seats.resolves seats.resolves) c.self.view_is
    (sees_itself seats.resolves)

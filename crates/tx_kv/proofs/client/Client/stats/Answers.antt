use Rattle.std.proofs.Common.{◌≡◌, rules, subst}
use Rattle.tx_journal.specs.Known.{Known}
use Rattle.tx_reader.specs.Readers.{OnlySees}
use Rattle.tx_reader.proofs.Observers.{sees_seen}
use Rattle.tx_kv.specs.Clients.{ClientState, seats_of}
use Rattle.tx_kv.proofs.client.Client.stats.Goals as goal

-- the seat that resolves has only seen more
pub returns-clause-resolves : goal.returns-clause-resolves
returns-clause-resolves g c =
    let old = c.in-Some.field-0.resolves in
    let new = c.last-last.new.self in
    let is : old ≡ (seats_of c.self.inside.seats).resolves = search rules in
    let sees = sees_seen g.J.JournalId.bounds old new c.last-last.ensures.same.0 c.last-last.ensures.same.1
    c.last-last.ensures.seen in
    subst (λ (s : ClientState g.row.J.Denot). OnlySees s.seats.resolves new) c.self.view_is
    (subst (λ (k : Known). OnlySees k new) is sees)

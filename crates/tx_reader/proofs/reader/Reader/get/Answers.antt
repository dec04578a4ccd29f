use Rattle.std.proofs.Common.{◌≡◌, IfOk, rules, subst}
use Rattle.tx_types.specs.declared.key.Key.{Key}
use Rattle.tx_reader.specs.Readers.{ReadsOn}
use Rattle.tx_reader.proofs.Observers.{sees_itself}
use Rattle.tx_reader.proofs.reader.Reader.get.Goals as goal

pub returns-in_default-clause-seat : goal.returns-in_default-clause-seat
returns-in_default-clause-seat g c = sees_itself c.args.self.now.seat

pub returns-clause-finds : goal.returns-clause-finds
returns-clause-finds g c =
    let same : c.in-Ok.key ≡ c.args.key.now = search rules in
    subst
    (λ (k : Key). IfOk c.look_past.result (ReadsOn g.J.JournalId.bounds c.look_past.new.self.seat.events
    c.args.self.now.at k))
    same c.look_past.ensures.finds

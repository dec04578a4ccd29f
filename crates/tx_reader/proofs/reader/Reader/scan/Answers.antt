use Rattle.std.proofs.Common.{◌≡◌, sym, subst, rules}
use Rattle.tx_types.specs.declared.key.Key.{Key}
use Rattle.tx_reader.specs.Readers.{AreTogether}
use Rattle.tx_reader.proofs.Observers.{sees_itself}
use Rattle.tx_reader.proofs.reader.Reader.scan.Goals as goal

pub returns-in_default-clause-seat : goal.returns-in_default-clause-seat
returns-in_default-clause-seat g c = sees_itself c.args.self.now.seat

pub look_past-requires-clause-held : goal.look_past-requires-clause-held
look_past-requires-clause-held g c =
    let bounds = g.J.JournalId.bounds in
    let low : c.in-Ok-Ok.from ≡ c.args.from.now = search rules in
    let high : c.in-Ok-Ok.to ≡ c.args.to.now = search rules in
    subst (λ (x : Key). AreTogether bounds x c.in-Ok-Ok.to) (sym low)
    (subst (λ (y : Key). AreTogether bounds c.args.from.now y) (sym high) c.requires.held)

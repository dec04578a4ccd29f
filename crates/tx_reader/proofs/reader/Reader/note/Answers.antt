use Rattle.std.proofs.Common.{rules, ◌≡◌, ◌++◌, ◌∷◌, [], ℕ, true, OnOk, sym, subst}
use Rattle.tx_core.specs.Histories.{Begins}
use Rattle.tx_client.specs.declared.resolved.Status.{Status}
use Rattle.tx_client.specs.Statuses.{lies_above}
use Rattle.tx_reader.specs.Readers.{Reading}
use Rattle.tx_reader.proofs.Observers.{noted_either}
use Rattle.tx_reader.proofs.reader.Reader.note.Goals as goal

pub invariant_of-self : goal.invariant_of-self
invariant_of-self g c =
    let parts = c.into_parts-start.ensures.parts in
    noted_either g.J.JournalId.bounds c.self.inside.seat c.self.inside.at c.self.inside.passed c.push.new.self
    c.args.found.events c.args.found.start c.args.found.status c.push.result c.self.invariant
    (subst (λ (r : Reading). Begins c.args.found.events r.seat.events) (sym c.self.view_is) c.requires.told)
    c.into_parts-start.ensures.ends
    (subst (λ (s : Status). lies_above s c.self.inside.at ≡ true) parts.1
    (search (rules, c.lies_above.ensures, c.if-not-lies_above.false)))
    (subst (λ (n : ℕ). OnOk c.push.result (c.push.new.self ≡ c.self.inside.passed ++ n ∷ [])) parts.0 c.push.ensures.ok)
    c.push.ensures.same

use Rattle.std.proofs.Common.{◌≡◌, ◌∷◌, max, ap, arith}
use Rattle.tx_core.specs.ReadMarks.{max_ts}
use Rattle.tx_core.proofs.seats.ReadMarks.{raised_on}
use Rattle.tx_journal.specs.Known.{Known}
use Rattle.tx_journal.proofs.seat.Seat.raise_read_as.Goals as goal

pub returns-clause-raised : goal.returns-clause-raised
returns-clause-raised g c =
    let me = c.self.inside.token.me.0 in
    let e = g.E.StepEvent.event in
    let recorded = c.raise.ensures.1.1.1 in
    let read : max_ts (e ∷ me.seen) ≡ max (max_ts me.seen) c.args.at =
    rw (ap (λ (k : Known). k.events) c.self.view_is) c.requires.read in
    let raised = raised_on me.from me.seen recorded.before recorded.extends e c.args.at recorded.own read in
    omega (arith, raised, ap max_ts recorded.is)

use Rattle.std.proofs.Common.{sym, ◌∙◌, ap, arith}
use Rattle.tx_core.specs.ReadMarks.{max_ts}
use Rattle.tx_core.proofs.seats.Beginnings.{extends_begins}
use Rattle.tx_core.proofs.seats.ReadMarks.{read_on}
use Rattle.tx_journal.specs.Known.{Known}
use Rattle.tx_journal.proofs.Moves.{looks_read}
use Rattle.tx_journal.proofs.Tokens.{ready}
use Rattle.tx_journal.proofs.seat.Seat.max_ts.Goals as goal

pub load-requires : goal.load-requires
load-requires g c =
    let i = c.self.invariant in
    let s = c.self.inside in
    let same = ap (λ h. h.shared.table_id) c.deref.ensures in
    let words = ap (λ z. z.words) (same ∙ i.0.words_of) in
    let size = i.0.size in (
      i.0.token_of ∙ (sym i.0.words_of ∙ sym same),
      omega arith,
      looks_read c.deref.result.now.shared.key c.deref.result.now.shared.table_id.slots s.token.id s.token.me
          (ready g.J.JournalId.bounds g.J.JournalId.seats s.number s.left s.token.me.0.seen s.token.me i.1.owns),
    )

pub returns-clause-least : goal.returns-clause-least
returns-clause-least g c =
    let me = c.self.inside.token.me.0 in
    let new = c.load.new.seat.me.0.seen in
    let found = c.load.ensures.2 in
    let on = read_on me.seen new (extends_begins me.from me.seen new found.1.extends) in
    omega (arith, on, found.2, ap (λ (k : Known). max_ts k.events) c.self.view_is)

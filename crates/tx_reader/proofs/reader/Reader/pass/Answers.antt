use Rattle.std.proofs.Common.{sym, subst}
use Rattle.tx_core.specs.Histories.{History, Begins}
use Rattle.tx_core.proofs.seats.Beginnings.{begins_all}
use Rattle.tx_resolve.specs.BlockedReads.{read_walk}
use Rattle.tx_reader.specs.Readers.{Reading, OnlySees}
use Rattle.tx_reader.proofs.Observers.{sent_sees, keeps_sent}
use Rattle.tx_reader.proofs.reader.Reader.pass.Goals as goal

pub invariant_of-self : goal.invariant_of-self
invariant_of-self g c =
    keeps_sent g.J.JournalId.bounds c.self.inside.seat c.resolve-found.new.seat c.self.inside.at c.self.inside.passed
    c.self.invariant g.S.Sender.sends (read_walk c.args.info.now c.self.inside.at c.args.now)
    c.args.sender.now c.resolve-found.new.sender c.resolve-found.result.status c.resolve-found.ensures.sends

pub note-requires : goal.note-requires
note-requires g c = record {
  told = subst (λ (h : History). Begins h c.resolve-found.new.seat.events) (sym c.resolve-found.ensures.told)
      (begins_all c.resolve-found.new.seat.events);
}

pub returns-in_err-note-clause-seat : goal.returns-in_err-note-clause-seat
returns-in_err-note-clause-seat g c =
    subst (λ (r : Reading). OnlySees c.args.self.now.seat r.seat) (sym c.note.ensures.same)
    (subst (λ (r : Reading). OnlySees r.seat c.resolve-found.new.seat) c.self.view_is
    (sent_sees g.S.Sender.sends g.J.JournalId.bounds
    (read_walk c.args.info.now c.self.inside.at c.args.now) c.self.inside.seat
    c.resolve-found.new.seat c.args.sender.now c.resolve-found.new.sender c.resolve-found.result.status
    c.resolve-found.ensures.sends))

pub returns-clause-seat : goal.returns-clause-seat
returns-clause-seat g c =
    subst (λ (r : Reading). OnlySees c.args.self.now.seat r.seat) (sym c.note.ensures.same)
    (subst (λ (r : Reading). OnlySees r.seat c.resolve-found.new.seat) c.self.view_is
    (sent_sees g.S.Sender.sends g.J.JournalId.bounds
    (read_walk c.args.info.now c.self.inside.at c.args.now) c.self.inside.seat
    c.resolve-found.new.seat c.args.sender.now c.resolve-found.new.sender c.resolve-found.result.status
    c.resolve-found.ensures.sends))

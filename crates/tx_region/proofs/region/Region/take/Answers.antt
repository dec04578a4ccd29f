use Rattle.std.proofs.Common.{sym, subst}
use Rattle.std.specs.Prelude.{IfSome, IfNone}
use Rattle.tx_core.specs.Worlds.{Holds}
use Rattle.tx_journal.specs.Known.{Known, HasSeen}
use Rattle.tx_journal.specs.Replies.{Asked}
use Rattle.tx_region.specs.Calls.{TakesNoMemory}
use Rattle.tx_region.specs.TakenRequests.{Answered}
use Rattle.tx_region.proofs.region.Region.take.Goals as goal

pub take_in-requires : goal.take_in-requires
take_in-requires g c = record {
  holds = subst (λ (x : Known × Asked). Holds g.J.JournalId.bounds x.0.seat x.1.body)
      (λ i. (sym c.tell-told.ensures.same i, sym c.new-reply.ensures.0 i)) c.requires.holds;
}

pub returns-clause-answered : goal.returns-clause-answered
returns-clause-answered g c =
    let reply = c.take_in.new.place in
    subst (λ (k : Known). IfSome reply.answer (Answered g.J.JournalId.bounds k.seat k.events reply))
    c.tell-told.ensures.same c.take_in.ensures.answered

pub returns-clause-always : goal.returns-clause-always
returns-clause-always g c none =
    c.take_in.ensures.always (subst (λ (q : Asked). TakesNoMemory q.body) (sym c.new-reply.ensures.0) none)

pub returns-clause-refused : goal.returns-clause-refused
returns-clause-refused g c =
    let now = c.take_in.new.self in
    subst (λ (k : Known). IfNone c.take_in.new.place.answer (HasSeen g.J.JournalId.bounds k.seat k.events now.events))
    c.tell-told.ensures.same c.take_in.ensures.refused

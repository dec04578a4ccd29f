use Rattle.std.proofs.Common.{sym, subst}
use Rattle.std.specs.Prelude.{IfSome}
use Rattle.tx_journal.specs.Replies.{Asked}
use Rattle.tx_journal.specs.Senders.{IsHeld}
use Rattle.tx_store.specs.Stores.{IsAnswered}
use Rattle.tx_store.proofs.store.Store.run.Goals as goal

pub run_in-requires : goal.run_in-requires
run_in-requires g c = record {
  held = subst (λ (q : Asked). IsHeld g.J.JournalId.bounds q.body) (sym c.new-reply.ensures.0) c.requires;
  empty = c.new-reply.ensures.1;
}

pub returns-clause-answered : goal.returns-clause-answered
returns-clause-answered g c =
    let reply = c.run_in.new.place in
    subst (λ (q : Asked). IfSome reply.answer (IsAnswered g.J.JournalId.bounds q reply.events)) c.new-reply.ensures.0
    c.run_in.ensures.answered

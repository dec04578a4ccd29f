use Rattle.tx_store.proofs.Replies.{is_answered}
use Rattle.tx_store.proofs.store.Store.run_in.Goals as goal

pub returns-then-is_of_key-clause-answered : goal.returns-then-is_of_key-clause-answered
returns-then-is_of_key-clause-answered g c =
    is_answered g.J.JournalId.bounds c.args.place.now.request c.run_at.new.place c.run_at.ensures.request
    c.run_at.ensures.given

pub returns-else-is_of_key-clause-answered : goal.returns-else-is_of_key-clause-answered
returns-else-is_of_key-clause-answered g c =
    is_answered g.J.JournalId.bounds c.args.place.now.request c.take_at.new.place c.take_at.ensures.request
    c.take_at.ensures.given

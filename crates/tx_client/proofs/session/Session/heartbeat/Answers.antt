use Rattle.std.proofs.Common.{sym, subst}
use Rattle.tx_plan.specs.declared.body.Body.{Body}
use Rattle.tx_journal.specs.Senders.{IsHeld}
use Rattle.tx_client.proofs.Calls.{held_at}
use Rattle.tx_client.proofs.session.Session.heartbeat.Goals as goal

pub ask-requires-clause-held : goal.ask-requires-clause-held
ask-requires-clause-held g c =
    subst (λ (b : Body). IsHeld g.J.JournalId.bounds b) (sym c.in-Ok.ensures.ok) (held_at g.J.JournalId.bounds _)

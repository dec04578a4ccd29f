use Rattle.tx_update.proofs.CallSequences.{goes_itself, follows_same, resolved_goes}
use Rattle.tx_embed.proofs.locks.clear.Goals as goal

pub returns-in_err-met-clause-session : goal.returns-in_err-met-clause-session
returns-in_err-met-clause-session g c = follows_same c.args.session.now c.met.new.self c.in_err-met.ensures.same

pub returns-in_err-met-clause-resolver : goal.returns-in_err-met-clause-resolver
returns-in_err-met-clause-resolver g c = goes_itself c.args.resolver.now

pub returns-in_default-clause-session : goal.returns-in_default-clause-session
returns-in_default-clause-session g c = follows_same c.args.session.now c.met.new.self c.in_ok-met.ensures.same

pub returns-in_default-clause-resolver : goal.returns-in_default-clause-resolver
returns-in_default-clause-resolver g c = goes_itself c.args.resolver.now

pub returns-in_err-learn-clause-resolver : goal.returns-in_err-learn-clause-resolver
returns-in_err-learn-clause-resolver g c =
    resolved_goes g.S.Sender.sends g.J.JournalId.bounds c.args.resolver.now c.last-now.new.self
    c.resolve_met-found.new.seat c.args.sender.now c.resolve_met-found.new.sender c.in-Some.met c.start.result
    c.last-now.result c.resolve_met-found.result.status c.last-now.ensures.same.0 c.last-now.ensures.seen
    c.resolve_met-found.ensures.sends

pub returns-clause-resolver : goal.returns-clause-resolver
returns-clause-resolver g c =
    resolved_goes g.S.Sender.sends g.J.JournalId.bounds c.args.resolver.now c.last-now.new.self
    c.resolve_met-found.new.seat c.args.sender.now c.resolve_met-found.new.sender c.in-Some.met c.start.result
    c.last-now.result c.resolve_met-found.result.status c.last-now.ensures.same.0 c.last-now.ensures.seen
    c.resolve_met-found.ensures.sends

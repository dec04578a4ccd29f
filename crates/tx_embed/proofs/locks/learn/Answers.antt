use Rattle.tx_client.specs.Statuses.{lies_above}
use Rattle.tx_update.proofs.CallSequences.{follows_learnt}
use Rattle.tx_embed.proofs.locks.learn.Goals as goal

pub returns-clause-session : goal.returns-clause-session
returns-clause-session g c =
    let found = c.args.found in
    let both = follows_learnt g.J.JournalId.bounds c.args.session.now c.learn.new.self found.start
    (lies_above found.status c.args.session.now.state.start) found.events c.learn.result c.learn.ensures.ok
    c.learn.ensures.same in
    both.0

pub returns-clause-buffer : goal.returns-clause-buffer
returns-clause-buffer g c =
    let found = c.args.found in
    let both = follows_learnt g.J.JournalId.bounds c.args.session.now c.learn.new.self found.start
    (lies_above found.status c.args.session.now.state.start) found.events c.learn.result c.learn.ensures.ok
    c.learn.ensures.same in
    both.1

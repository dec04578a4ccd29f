use Rattle.tx_machine.proofs.Commits.{free_hidden, free_seen}
use Rattle.tx_machine.proofs.commit.block_of.Goals as goal

pub returns-then-not-is_visible-clause-free : goal.returns-then-not-is_visible-clause-free
returns-then-not-is_visible-clause-free c ordered =
    free_hidden c.args.index.now c.args.fates.now c.args.reads.now c.args.t c.args.c c.args.change.now
    (c.in_default.ensures.apart ordered) (λ seen. cc (c.is_visible.ensures.seen.1 seen, c.if-not-is_visible.true))

pub returns-in-None-clause-free : goal.returns-in-None-clause-free
returns-in-None-clause-free c ordered =
    free_seen c.args.index.now c.args.fates.now c.args.reads.now c.args.t c.args.c c.args.change.now
    (c.in_default.ensures.apart ordered) c.in-None.ensures.none
    (c.in_default.ensures.unread (c.is_visible.ensures.seen.0 c.if-not-is_visible.false)) c.in_default.ensures.fresh

pub returns-in-Some-clause-blocked : goal.returns-in-Some-clause-blocked
returns-in-Some-clause-blocked c = c.in-Some.ensures.blocked c.args.reads.now

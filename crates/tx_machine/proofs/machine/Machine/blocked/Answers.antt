use Rattle.tx_machine.proofs.Reasons.{why_conflicts, why_unread, why_exists}
use Rattle.tx_machine.proofs.machine.Machine.blocked.Goals as goal

pub returns-in-Conflict-clause-ok : goal.returns-in-Conflict-clause-ok
returns-in-Conflict-clause-ok c =
    why_conflicts c.args.self.now c.args.t c.args.c c.args.set.now c.requires.declared c.requires.open_yet
    c.args.change.now c.requires.among c.args.block c.requires.blocks
    c.in_ok-key.key c.in_ok-key.ensures.ok c.in-Conflict.other c.in-Conflict.is

pub returns-in-Read-clause-ok : goal.returns-in-Read-clause-ok
returns-in-Read-clause-ok c =
    why_unread c.args.self.now c.args.t c.args.c c.args.set.now c.requires.declared c.requires.open_yet
    c.args.change.now c.requires.among c.args.block c.requires.blocks
    c.in_ok-key.key c.in_ok-key.ensures.ok c.in-Read.at c.in-Read.is

pub returns-in_ok-seen-in-Exists-clause-ok : goal.returns-in_ok-seen-in-Exists-clause-ok
returns-in_ok-seen-in-Exists-clause-ok c =
    why_exists c.args.self.now c.args.t c.args.c c.args.set.now c.requires.declared c.requires.open_yet
    c.args.change.now c.requires.among c.args.block c.requires.blocks
    c.in_ok-key.key c.in_ok-key.ensures.ok c.in_ok-seen-in-Exists.seen c.in_ok-seen-in-Exists.ensures.ok c.in-Exists.is

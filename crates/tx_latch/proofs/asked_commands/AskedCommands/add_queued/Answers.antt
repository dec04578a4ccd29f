use Rattle.std.proofs.Common.{ap, ◌∙◌}
use Rattle.tx_latch.specs.Asked.{Command, is_asked}
use Rattle.tx_latch.specs.Queues.{asked_of}
use Rattle.tx_latch.proofs.Lone.{queued}
use Rattle.tx_latch.proofs.asked_commands.AskedCommands.add_queued.Goals as goal

pub returns-clause-kept : goal.returns-clause-kept
returns-clause-kept c =
    let moved = c.in_ok-queue_all.ensures in
    let new : Command = record { cid = c.args.cid; slots = c.args.slots.now } in
    let f = queued (asked_of c.queue_all.new.self.queues) (asked_of c.add.new.self) c.queue_all.new.self.lone.items new
    c.add.result moved.none moved.kept.distinct (ap (λ t. is_asked t c.args.cid) moved.same
    ∙ c.requires.absent) c.add.ensures.ok c.add.ensures.same in
    record { kept = c.add.ensures.kept; free = f.0; distinct = f.1 }

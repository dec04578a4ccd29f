use Rattle.std.proofs.Common.{◌≡◌, true, false, sym, subst}
use Rattle.tx_latch.specs.declared.asked_commands.Lone.{Lone}
use Rattle.tx_latch.specs.Asked.{Lacks, blocked, is_granted}
use Rattle.tx_latch.specs.Queues.{asked_of}
use Rattle.tx_latch.specs.Lone.{all_asked, alone}
use Rattle.tx_latch.proofs.Lone.{Pushed, pushed}
use Rattle.tx_latch.proofs.asked_commands.AskedCommands.add_lone.Goals as goal

facts : (c : goal.After-push) → Pushed (asked_of c.args.self.now.queues) c.push.new.self.items c.get.result
facts c =
    let old = all_asked c.args.self.now in
    let l : Lone = record { cid = c.get.result; slot = c.get-2.result } in
    pushed (asked_of c.args.self.now.queues) c.args.self.now.lone.items c.push.new.self.items l c.push.ensures.items
    c.requires.kept.free c.requires.kept.distinct
    (subst (λ n. Lacks n old) (sym c.get.ensures) c.requires.absent)
    (subst (λ s. blocked old (alone record { cid = 0; slot = s }) ≡ false) (sym c.get-2.ensures) c.requires.free)

pub returns-clause-kept : goal.returns-clause-kept
returns-clause-kept c = let f = facts c in record { kept = c.requires.kept.kept; free = f.free; distinct = f.distinct }

pub returns-clause-granted : goal.returns-clause-granted
returns-clause-granted c =
    subst (λ n. is_granted
    (all_asked (let a : Rattle.tx_latch.specs.declared.asked_commands.AskedCommands.AskedCommands =
    record { queues = c.args.self.now.queues; lone = c.push.new.self } in a)) n ≡ true) c.get.ensures (facts c).granted

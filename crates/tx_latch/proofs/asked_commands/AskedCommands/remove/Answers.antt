use Rattle.std.proofs.Common.{◌≡◌, None, Some, eqb, sym, ap, ◌∙◌}
use Rattle.std.specs.List.{position}
use Rattle.tx_latch.specs.declared.asked_commands.Lone.{Lone}
use Rattle.tx_latch.specs.Queues.{asked_of}
use Rattle.tx_latch.proofs.Lone.{Taken, taken, Left, leaves, granted-in-queue}
use Rattle.tx_latch.proofs.asked_commands.AskedCommands.remove.Goals as goal

pub remove-requires-in-None-clause-granted : goal.remove-requires-in-None-clause-granted
remove-requires-in-None-clause-granted c =
    let at : position (λ (one : Lone). eqb one.cid c.args.cid) c.args.self.now.lone.items ≡ None =
    ap (position (λ (one : Lone). eqb one.cid c.args.cid)) (sym c.as_slice.ensures.value) ∙ sym c.position_of.ensures
    ∙ c.in-None.is in
    granted-in-queue (asked_of c.args.self.now.queues) c.args.self.now.lone.items c.args.cid at c.requires.kept.free
    c.requires.granted

took : (c : goal.After-new)
    → Taken (asked_of c.args.self.now.queues) c.args.self.now.lone.items c.remove.new.self.items c.args.cid
took c =
    let at : position (λ (one : Lone). eqb one.cid c.args.cid) c.args.self.now.lone.items ≡ Some c.in-Some.position =
    ap (position (λ (one : Lone). eqb one.cid c.args.cid)) (sym c.as_slice.ensures.value) ∙ sym c.position_of.ensures
    ∙ c.in-Some.is in
    taken (asked_of c.args.self.now.queues) c.args.self.now.lone.items c.remove.new.self.items c.args.cid
    c.in-Some.position at c.remove.ensures.items c.requires.kept.free c.requires.kept.distinct

pub returns-in-Some-clause-kept : goal.returns-in-Some-clause-kept
returns-in-Some-clause-kept c = let f = took c in
    record { kept = c.requires.kept.kept; free = f.free; distinct = f.distinct }

pub returns-in-Some-clause-left : goal.returns-in-Some-clause-left
returns-in-Some-clause-left c = (took c).left

pub returns-in-Some-clause-freed : goal.returns-in-Some-clause-freed
returns-in-Some-clause-freed c = c.new.ensures.items ∙ (took c).freed

gone : (c : goal.After-remove-in-None)
    → Left (asked_of c.args.self.now.queues) (asked_of c.remove-in-None.new.self) c.args.self.now.lone.items c.args.cid
gone c =
    let at : position (λ (one : Lone). eqb one.cid c.args.cid) c.args.self.now.lone.items ≡ None =
    ap (position (λ (one : Lone). eqb one.cid c.args.cid)) (sym c.as_slice.ensures.value) ∙ sym c.position_of.ensures
    ∙ c.in-None.is in
    leaves (asked_of c.args.self.now.queues) (asked_of c.remove-in-None.new.self) c.args.self.now.lone.items c.args.cid
    at c.remove-in-None.ensures.left c.requires.kept.free c.requires.kept.distinct

pub returns-in-None-clause-kept : goal.returns-in-None-clause-kept
returns-in-None-clause-kept c = let f = gone c in
    record { kept = c.remove-in-None.ensures.kept; free = f.free; distinct = f.distinct }

pub returns-in-None-clause-left : goal.returns-in-None-clause-left
returns-in-None-clause-left c = (gone c).left

pub returns-in-None-clause-freed : goal.returns-in-None-clause-freed
returns-in-None-clause-freed c = c.remove-in-None.ensures.freed ∙ (gone c).freed

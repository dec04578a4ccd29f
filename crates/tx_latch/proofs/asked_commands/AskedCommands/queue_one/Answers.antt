use Rattle.std.proofs.Common.{◌≡◌, false, Some, sym, ap, ◌∙◌, subst, drop, ◌∷◌}
use Rattle.std.specs.List.{slice_get}
use Rattle.tx_latch.specs.Asked.{is_asked, Distinct}
use Rattle.tx_latch.specs.Queues.{asked_of}
use Rattle.tx_latch.specs.Lone.{lones}
use Rattle.tx_latch.proofs.Lone.{absent-first, starts}
use Rattle.tx_latch.proofs.asked_commands.AskedCommands.queue_one.Goals as goal

pub add-requires-clause-absent : goal.add-requires-clause-absent
add-requires-clause-absent c =
    let ls = c.args.self.now.lone.items in
    let one = c.in-Some.one in
    let q = asked_of c.args.self.now.queues in
    let first : slice_get ls 0 ≡ Some one =
    ap (λ t. slice_get t 0) (sym c.as_slice.ensures.value) ∙ sym c.first.ensures.value ∙ sym c.copied.ensures
    ∙ c.in-Some.is in
    let whole = starts ls one first in
    ap (is_asked q) c.new.ensures
    ∙ absent-first q one (drop 1 ls)
    (subst (λ t. Distinct (Rattle.std.proofs.Common.◌++◌ q (lones t))) whole c.requires.distinct)

-- None ended before it began.
use Rattle.std.proofs.Common.{true≢false, arith, sym, ◌∙◌}
use Rattle.std.proofs.lemmas.Grind.{common_steps}
use Rattle.tx_import.specs.Recorders.{IsBackward}
use Rattle.tx_import.proofs.Bares.{below_more}
use Rattle.tx_import.proofs.recorder.backward.Goals as goal

pub loop-txn-preserved : goal.loop-txn-preserved
loop-txn-preserved c =
    below_more (λ t. IsBackward c.args.recording.now t → ⊥) c.loop-txn.txn c.loop-txn.invariant
    (λ is. true≢false (sym (c.is_backward.ensures.1 is) ∙ c.if-is_backward.false))

pub returns-clause-none : goal.returns-clause-none
returns-clause-none c t lt = c.loop-txn.invariant t (grind (arith, common_steps, c.loop-txn-test.false, lt))

-- One of its operations puts into the key.
use Rattle.std.proofs.Common.{ℕ, subst}
use Rattle.tx_recording.specs.Explanations.{PutsIn}
use Rattle.tx_verdict.proofs.facts.is_update.Goals as goal

pub returns : goal.returns
returns c is = subst (λ os. (v : ℕ) × PutsIn os c.args.view.key v) c.ops_of.ensures.are (c.puts.ensures is)

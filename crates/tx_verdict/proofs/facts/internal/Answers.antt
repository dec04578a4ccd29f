-- The read is one of the operations.
use Rattle.std.proofs.Common.{ℕ, None, get_or, ap, sym, subst}
use Rattle.tx_recording.specs.Recordings.{no_op}
use Rattle.tx_verdict.specs.declared.verdict.Rule.TheVariants.{Internal}
use Rattle.tx_verdict.specs.Verdicts.{IsWrong}
use Rattle.tx_clock.proofs.ClockOrder.{is_one}
use Rattle.tx_verdict.proofs.Refutations.{fact_internal}
use Rattle.tx_verdict.proofs.facts.internal.Goals as goal

pub ops_of-ops-requires-clause-within : goal.ops_of-ops-requires-clause-within
ops_of-ops-requires-clause-within c = is_one c.args.recording.now c.args.txn c.requires.internal.1.0

pub returns : goal.returns
returns c =
    let P : ℕ → Type 0 = λ k. IsWrong c.args.recording.now record {
      rule = Internal;
      txn = c.args.txn;
      key = k;
      value = None;
      by = None;
    } in
    subst P (sym (ap (λ q. (get_or q c.args.place no_op).key) c.ops_of-ops.ensures.are))
    (fact_internal c.args.recording.now c.args.txn c.args.place c.requires.internal)

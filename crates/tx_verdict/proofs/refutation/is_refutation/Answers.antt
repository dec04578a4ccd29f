-- What is a refutation refuses each explanation.
use Rattle.std.proofs.Common.{List, [], subst}
use Rattle.tx_verdict.specs.declared.refutation.Settled.{Settled}
use Rattle.tx_verdict.specs.Refutations.{IsRefutationBy}
use Rattle.tx_verdict.proofs.Known.{refuted_by}
use Rattle.tx_verdict.proofs.refutation.is_refutation.Goals as goal

pub returns-clause-refutation : goal.returns-clause-refutation
returns-clause-refutation c is =
    let P : List Settled → Type 0 = λ q. IsRefutationBy c.args.case.now.recording.now
    c.args.case.now.question [] q c.args.refutation.now in
    subst P c.as_slice-facts.ensures.value (c.in_ok-is.ensures is)

pub returns-clause-refused : goal.returns-clause-refused
returns-clause-refused c is =
    let P : List Settled → Type 0 = λ q. IsRefutationBy c.args.case.now.recording.now
    c.args.case.now.question [] q c.args.refutation.now in
    refuted_by c.args.case.now.recording.now c.args.case.now.owners.now c.requires.case.owners
    c.args.case.now.question c.args.refutation.now
    (subst P c.as_slice-facts.ensures.value (c.in_ok-is.ensures is))

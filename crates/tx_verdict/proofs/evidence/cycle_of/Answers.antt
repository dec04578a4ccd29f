-- The steps refuse each explanation.
use Rattle.std.proofs.Common.{List, sym, subst}
use Rattle.tx_history.specs.Records.{history_of}
use Rattle.tx_verdict.specs.declared.verdict.CycleStep.{CycleStep}
use Rattle.tx_verdict.specs.Steps.{AreRound, Forbids, AreSteps, Needs}
use Rattle.tx_verdict.specs.Anomalies.{IsNamed}
use Rattle.tx_verdict.proofs.Rounds.{refused_by}
use Rattle.tx_verdict.proofs.CycleSteps.{depends_all}
use Rattle.tx_verdict.proofs.evidence.cycle_of.Goals as goal

pub steps_of-requires-clause-hold : goal.steps_of-requires-clause-hold
steps_of-requires-clause-hold c =
    depends_all (history_of c.args.versions.now.recorded) c.args.nodes.now c.in_ok-found.found.items
    c.as_slice.result.now c.as_slice.ensures.value c.in_ok-found.ensures

pub with_stale_read-requires-clause-steps : goal.with_stale_read-requires-clause-steps
with_stale_read-requires-clause-steps c =
    subst (AreSteps c.args.case.now.recording.now c.args.case.now.question.orders) (sym c.as_slice-2.ensures.value)
    c.in_ok-plain.ensures

pub returns-clause-refused : goal.returns-clause-refused
returns-clause-refused c = refused_by c.args.case.now.recording.now c.args.case.now.owners.now
    c.requires.case.owners c.args.case.now.question
    c.in_ok-steps.steps.items c.in_ok-steps.ensures
    (subst AreRound c.as_slice-3.ensures.value (c.is_round.ensures c.if-not-is_round.false))
    (subst (Forbids c.args.case.now.question.level) c.as_slice-4.ensures.value (c.forbids.ensures
    c.if-not-forbids.false))

pub returns-clause-cycle : goal.returns-clause-cycle
returns-clause-cycle c = (
  subst AreRound c.as_slice-3.ensures.value (c.is_round.ensures c.if-not-is_round.false),
  subst (Forbids c.args.case.now.question.level) c.as_slice-4.ensures.value (c.forbids.ensures c.if-not-forbids.false),
  c.in_ok-steps.ensures,
  subst (λ (q : List CycleStep). Needs q c.beside_of-beside.result) c.as_slice-5.ensures.value
      c.beside_of-beside.ensures,
  subst (λ (q : List CycleStep). IsNamed q c.anomaly_of-anomaly.result) c.as_slice-6.ensures.value
      c.anomaly_of-anomaly.ensures,
)

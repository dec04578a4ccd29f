-- What a cycle says of a recording.
use Rattle.tx_recording.specs.declared.recording.Recording.{Recording}
use Rattle.tx_verdict.specs.declared.question.Question.{Question}
use Rattle.tx_verdict.specs.declared.verdict.Cycle.{Cycle}
use Rattle.tx_verdict.specs.Steps.{AreRound, Forbids, AreSteps, Needs}
use Rattle.tx_verdict.specs.Anomalies.{IsNamed}

-- its steps go round, as the level that is asked for forbids, and are so by the recording; they
-- need the order that is told, and have its name
abbrev pub IsCycleFor : Recording → Question → Cycle → Type 0
IsCycleFor r asked c = AreRound c.steps.items × Forbids asked.level c.steps.items
    × AreSteps r asked.orders c.steps.items × Needs c.steps.items c.beside
    × IsNamed c.steps.items c.anomaly

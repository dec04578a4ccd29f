use Rattle.std.proofs.Common.{◌≡◌, refl, subst, arith}
use Rattle.tx_plan.specs.declared.planned_answer.PlannedAnswer.{PlannedAnswer}
use Rattle.tx_plan.specs.Plans.{answer_with}
use Rattle.tx_plan.specs.Views.{info_on}
use Rattle.tx_region.specs.Regions.{region_of}
use Rattle.tx_region.proofs.records.Records.carry_out.Goals as goal

pub returns-clause-ok : goal.returns-clause-ok
returns-clause-ok g c =
    let s = c.args.self.now in
    let content = g.F.Holds.content in
    λ n. record {
      answer = subst (λ (x : PlannedAnswer). c.in_ok-answer.answer
          ≡ answer_with (info_on ((region_of content s n).cells c.args.key.now) c.args.key.now) x)
          c.replace-answer.ensures.value c.in_ok-answer.ensures.answer;
      reads = refl;
      leaves = c.in_ok-change.ensures.ok n;
    }

pub returns-clause-notes : goal.returns-clause-notes
returns-clause-notes g c = (let next = c.in_ok-number.ensures.ok in c.in_ok-change.ensures.notes (omega (arith, next)))

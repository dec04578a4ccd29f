use Rattle.std.proofs.Common.{Some, refl, ap, ◌∷◌, ◌∙◌}
use Rattle.tx_machine.specs.declared.step.Step.{Step}
use Rattle.tx_trace.specs.Logs.{steps_of, kept_in}
use Rattle.tx_trace.proofs.Steps.{one_more, changed_at}
use Rattle.tx_trace.proofs.log.TraceLog.enter.Goals as goal

pub returns-clause-ok : goal.returns-clause-ok
returns-clause-ok c =
    record {
      first = c.in_ok-first.first;
      is = c.in_ok-first.ensures.ok;
      steps = one_more c.args.self.now.steps.items c.reserve.new.self.items c.push_reserved.new.self.items
          c.in_ok-step.step c.in_ok-reserve.ensures.items c.push_reserved.ensures.items
          ∙ ap (λ (s : Step). s ∷ steps_of c.args.self.now) c.in_ok-step.ensures.ok;
      still = λ q k. refl;
      others = changed_at (kept_in c.args.self.now) _ c.args.of.now.start (Some c.in_ok-first.first)
          c.in_ok-insert.ensures.updates.0;
    }

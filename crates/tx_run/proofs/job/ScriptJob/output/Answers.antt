use Rattle.std.proofs.Common.{ap, sym, subst, ◌∙◌}
use Rattle.tx_run.specs.Jobs.{Working}
use Rattle.tx_run.specs.Played.{IsStageOf}
use Rattle.tx_run.proofs.AnsweredLines.{promised_on}
use Rattle.tx_run.proofs.Leads.{ends_out, stands_so}
use Rattle.tx_run.proofs.job.ScriptJob.output.Goals as goal

pub returns-clause-promised : goal.returns-clause-promised
returns-clause-promised g c =
    promised_on c.args.self.now c.tell_last-last.new.self c.hand_out.result c.tell_last-last.ensures.job
    c.requires.over.1 c.hand_out.ensures.promised

pub returns-clause-plays : goal.returns-clause-plays
returns-clause-plays g c =
    let bounds = g.J.JournalId.bounds in
    let source = g.L.Source.text in
    let old = c.args.self.now in record {
      plays = λ known here unlost.
          let s = stands_so bounds source old.stands here c.requires.still in
          ends_out bounds source old.stands s.0 old.log c.hand_out.result.log c.hand_out.result.stage
          c.hand_out.result.last s.1
          (c.hand_out.ensures.log ∙ ap (λ (w : Working). w.log) c.tell_last-last.ensures.job)
          (subst (IsStageOf s.0 old.log.replies) (sym c.hand_out.ensures.stage) (c.stage-stage.ensures s.0 s.1))
          (c.hand_out.ensures.last ∙ c.tell_last-last.ensures.knows s.0 s.1);
    }

use Rattle.std.proofs.Common.{map, sym, subst, ◌∙◌, Ok}
use Rattle.std.specs.Prelude.{reverse}
use Rattle.tx_workload.specs.LineNumbers.{number_of}
use Rattle.tx_run.specs.States.{going_of, where_of}
use Rattle.tx_workload.specs.declared.reply.LineAnswer.TheVariants.{Plain}
use Rattle.tx_workload.specs.Logs.{answer_to}
use Rattle.tx_workload.specs.Tells.{TellsLine}
use Rattle.tx_run.specs.Jobs.{JobGoesOn, MayAnswer, Working, with_line}
use Rattle.tx_run.proofs.AnsweredLines.{answered}
use Rattle.tx_run.proofs.job.ScriptJob.report.Goals as goal

pub returns-clause-goes : goal.returns-clause-goes
returns-clause-goes g c =
    let j : Working = record {
      number = c.self.inside.number;
      log = c.self.inside.log;
      going = going_of c.self.inside.state (λ transfer. transfer.value.number);
      left = map number_of (reverse c.self.inside.lines.items);
      stands = where_of c.self.inside.state (λ session. session.value) (λ transfer. transfer.value);
      faulted = c.self.inside.faulted;
    } in
    let is = c.self.view_is ∙ c.meet.ensures in
    subst (λ (w : Working). JobGoesOn (with_line c.args.number w) (record j { log = c.keep.new.self })) is
    (answered j c.keep.new.self c.args.number (Plain (Ok c.args.plain)) (subst MayAnswer (sym is) c.requires.may)
    c.keep.ensures.same.0 c.keep.ensures.kept)

pub keep-requires : goal.keep-requires
keep-requires g c =
    subst (λ (w : Working). TellsLine g.L.Source.text g.J.JournalId.bounds w.log.told
    (answer_to c.args.number (Plain (Ok c.args.plain)))) (sym (c.self.view_is ∙ c.meet.ensures)) c.requires.tells

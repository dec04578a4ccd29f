use Rattle.tx_workload.proofs.Evidence.{refusal_tells}
use Rattle.tx_run.proofs.job.ScriptJob.report_refusal.Goals as goal

pub report-requires-clause-tells : goal.report-requires-clause-tells
report-requires-clause-tells g c =
    refusal_tells g.L.Source.text g.J.JournalId.bounds c.args.self.now.log.told c.args.number c.args.plain
    c.requires.says
    c.requires.refusal

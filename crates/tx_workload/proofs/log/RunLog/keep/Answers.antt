use Rattle.std.proofs.Common.{sym, subst}
use Rattle.std.specs.Prelude.{◌||◌, not}
use Rattle.tx_workload.specs.declared.reply.LineReply.{LineReply}
use Rattle.tx_workload.specs.declared.reply.LineAnswer.TheVariants.{Plain}
use Rattle.tx_workload.specs.Logs.{KeepsAnswer, Logged}
use Rattle.tx_workload.proofs.SessionAnswers.{told_if, plain_apart, kept_if}
use Rattle.tx_workload.specs.Tells.{TellsLine}
use Rattle.tx_workload.proofs.Evidence.{tell_if}
use Rattle.tx_workload.proofs.Sources.{pairs_if}
use Rattle.tx_workload.proofs.log.RunLog.keep.Goals as goal

pub invariant_of-self : goal.invariant_of-self
invariant_of-self g c =
    let xs = c.self.inside.replies.items in
    let x : LineReply = record { number = c.args.number; answer = Plain c.args.answer } in
    let source = g.L.Source.text in
    let bounds = g.J.JournalId.bounds in
    let tells = subst (λ (l : Logged). TellsLine source bounds l.told x) (sym c.self.view_is) c.requires in (
      told_if c.self.inside.told c.self.inside.seat xs c.add-kept.new.replies.items x c.add-kept.result
          c.add-kept.ensures c.self.invariant.0 tt
          (plain_apart c.args.answer c.args.number xs),
      pairs_if source xs c.add-kept.new.replies.items x c.add-kept.result c.add-kept.ensures c.self.invariant.1 tt,
      tell_if source bounds c.self.inside.told xs c.add-kept.new.replies.items x c.add-kept.result
          c.add-kept.ensures c.self.invariant.2 tells,
    )

pub returns-clause-kept : goal.returns-clause-kept
returns-clause-kept g c =
    let xs = c.self.inside.replies.items in
    let x : LineReply = record { number = c.args.number; answer = Plain c.args.answer } in
    let log : Logged = record {
      seat = c.self.inside.seat;
      told = c.self.inside.told;
      replies =
          c.add-kept.new.replies.items;
      lost = c.self.inside.lost || not c.add-kept.result;
    } in
    subst (λ (l : Logged). KeepsAnswer l c.args.number (Plain c.args.answer) log) c.self.view_is
    (kept_if c.self.inside.lost xs c.add-kept.new.replies.items x c.add-kept.result c.add-kept.ensures)

use Rattle.std.proofs.Common.{sym, subst}
use Rattle.std.specs.Prelude.{◌||◌, not}
use Rattle.tx_workload.specs.declared.reply.LineReply.{LineReply}
use Rattle.tx_workload.specs.declared.reply.LineAnswer.TheVariants.{Ended}
use Rattle.tx_workload.specs.Logs.{Logged, IsAnswered, KeepsAnswer, TellsNone}
use Rattle.tx_workload.proofs.SessionAnswers.{told_if, none_apart, kept_if}
use Rattle.tx_workload.proofs.Evidence.{outcome_tells, tell_if}
use Rattle.tx_workload.proofs.Sources.{pairs_if}
use Rattle.tx_workload.proofs.log.RunLog.keep_outcome.Goals as goal

pub invariant_of-self : goal.invariant_of-self
invariant_of-self g c =
    let source = g.L.Source.text in
    let bounds = g.J.JournalId.bounds in
    let told = c.self.inside.told in
    let xs = c.self.inside.replies.items in
    let x : LineReply = record { number = c.args.number; answer = Ended c.args.start c.args.outcome.now c.args.keys } in
    let stands = subst (λ (l : Logged). IsAnswered l.told l.seat c.args.start c.args.outcome.now c.args.keys)
    (sym c.self.view_is) c.requires.answered in
    let fresh = subst (λ (l : Logged). TellsNone c.args.start l.replies) (sym c.self.view_is) c.requires.fresh in (
      told_if c.self.inside.told c.self.inside.seat xs c.add-kept.new.replies.items x c.add-kept.result
          c.add-kept.ensures c.self.invariant.0 stands
          (none_apart c.args.start c.args.outcome.now c.args.keys c.args.number xs fresh),
      pairs_if source xs c.add-kept.new.replies.items x c.add-kept.result c.add-kept.ensures c.self.invariant.1
          c.requires.pair,
      tell_if source bounds told xs c.add-kept.new.replies.items x c.add-kept.result c.add-kept.ensures
          c.self.invariant.2 (outcome_tells source bounds told c.args.number c.args.start c.args.outcome.now c.args.keys
          c.requires.says stands.among),
    )

pub returns-clause-kept : goal.returns-clause-kept
returns-clause-kept g c =
    let xs = c.self.inside.replies.items in
    let answer = Ended c.args.start c.args.outcome.now c.args.keys in
    let x : LineReply = record { number = c.args.number; answer = answer } in
    let log : Logged = record {
      seat = c.self.inside.seat;
      told = c.self.inside.told;
      replies =
          c.add-kept.new.replies.items;
      lost = c.self.inside.lost || not c.add-kept.result;
    } in
    subst (λ (l : Logged). KeepsAnswer l c.args.number answer log) c.self.view_is
    (kept_if c.self.inside.lost xs c.add-kept.new.replies.items x c.add-kept.result c.add-kept.ensures)

use Rattle.std.proofs.Common.{All, List, ap, sym, subst}
use Rattle.tx_core.specs.Histories.{History}
use Rattle.tx_workload.specs.declared.reply.LineReply.{LineReply}
use Rattle.tx_workload.specs.Logs.{TellsBy}
use Rattle.tx_workload.specs.Pairs.{TellsPair}
use Rattle.tx_workload.specs.Tells.{TellsLine}
use Rattle.tx_workload.proofs.log.RunLog.take.Goals as goal

pub invariant_of-result : goal.invariant_of-result
invariant_of-result g c =
    let source = g.L.Source.text in
    let bounds = g.J.JournalId.bounds in
    let told = sym c.copy-told.ensures.copy in
    let items = ap (λ v. v.items) (sym c.replace.ensures.value) in (
      subst (λ (h : History). TellsBy h c.self.inside.seat c.replace.result.items) told
          (subst (λ (l : List LineReply). TellsBy c.self.inside.told c.self.inside.seat l) items c.self.invariant.0),
      subst (λ (l : List LineReply). All (TellsPair source) l) items c.self.invariant.1,
      subst (λ (h : History). All (TellsLine source bounds h) c.replace.result.items) told
          (subst (λ (l : List LineReply). All (TellsLine source bounds c.self.inside.told) l) items c.self.invariant.2),
    )

use Rattle.std.proofs.Common.{All, List, sym, subst, ◌∙◌}
use Rattle.tx_types.specs.declared.key.Key.{Key}
use Rattle.tx_core.specs.Histories.{History}
use Rattle.tx_workload.specs.Answers.{numbers_of}
use Rattle.tx_run.specs.Jobs.{AreGathered, IsSubsequence, Output, stages_in}
use Rattle.tx_workload.specs.Tells.{TellsLine}
use Rattle.tx_journal.specs.Known.{Seen}
use Rattle.tx_run.specs.Sums.{SumsBehind}
use Rattle.tx_run.proofs.AllAnswers.{gathered_on}
use Rattle.tx_run.proofs.Totals.{seen_is}
use Rattle.tx_run.proofs.play.close.Goals as goal

pub returns-clause-gathered : goal.returns-clause-gathered
returns-clause-gathered g c =
    let bounds = g.J.JournalId.bounds in
    let source = g.L.Source.text in
    let firsts = numbers_of c.args.replies in
    let jobs = c.args.outputs.items in (
      subst (λ (h : History). AreGathered bounds source firsts h c.gather.new.replies jobs)
          (sym (c.unnamed.ensures.1 ∙ c.tell-told.ensures.told))
          (gathered_on bounds source c.gather.new.seat.events c.in_ok-total.seat.events c.in_ok-total.ensures.knows
          firsts
          c.gather.new.replies jobs c.in_ok-faulted.ensures.comes),
      c.in_ok-faulted.ensures.faulted,
    )

pub returns-clause-tells : goal.returns-clause-tells
returns-clause-tells g c =
    let source = g.L.Source.text in
    let xs = c.gather.new.replies in
    let told = c.unnamed.ensures.1 ∙ c.tell-told.ensures.told in
    subst (λ (h : History). All (TellsLine source c.unnamed.result.bounds h) xs) (sym told)
    (subst (λ (b : List Key). All (TellsLine source b c.in_ok-total.seat.events) xs) (sym c.unnamed.ensures.0)
    c.in_ok-total.ensures.tells)

pub returns-clause-sums : goal.returns-clause-sums
returns-clause-sums g c =
    let told = c.unnamed.ensures.1 ∙ c.tell-told.ensures.told in
    let xs = c.gather.new.replies in
    let total = c.in_ok-total.total in
    let bounds = g.J.JournalId.bounds in
    subst (λ (s : Seen). SumsBehind g.L.Source.text s xs total)
    (sym (seen_is c.unnamed.result bounds c.in_ok-total.seat.events c.unnamed.ensures.0 told))
    c.in_ok-total.ensures.sums

pub returns-clause-stages : goal.returns-clause-stages
returns-clause-stages g c =
    subst (λ (l : List Output). IsSubsequence c.stages_of-stages.result.items (stages_in l)) c.as_slice-3.ensures.value
    c.stages_of-stages.ensures

use Rattle.std.proofs.Common.{sym, ◌∙◌}
use Rattle.tx_reply.specs.declared.reply.ScriptReply.TheVariants.{Regions}
use Rattle.tx_steps.specs.Lines.{data_of}
use Rattle.tx_script.specs.Play.{value_turn}
use Rattle.tx_script.proofs.LineTurns.{says_so, regions_turn}
use Rattle.tx_script.proofs.line.play_said.Goals as goal

pub returns-then-branch-clause-goes : goal.returns-then-branch-clause-goes
returns-then-branch-clause-goes g c =
    let bounds = g.J.JournalId.bounds in
    let e = c.args.engine.now in
    says_so bounds e (λ refused. value_turn bounds refused c.args.number (data_of c.args.said.now))
    (Regions c.regions.result)
    (λ later. regions_turn bounds later c.args.number (data_of c.args.said.now) e c.regions.result c.if-number-eq1.true
    (sym c.in_ok-says_regions.ensures.ok ∙ c.if-branch.true) c.regions.ensures)

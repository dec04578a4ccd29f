-- The two views differ.
use Rattle.std.proofs.Common.{sym, ◌∙◌}
use Rattle.std.proofs.lemmas.Bool.{false≢true}
use Rattle.tx_verdict.proofs.Refutations.{fact_unrepeatable}
use Rattle.tx_verdict.proofs.facts.wrong_again.Goals as goal

pub returns : goal.returns
returns c =
    fact_unrepeatable c.args.recording.now c.args.before c.args.view c.requires.before c.requires.view
    c.if-before-view.false
    c.if-before-view-2.false (λ same. false≢true (sym c.if-is_end.false
    ∙ c.is_end.ensures.1 (c.list_of.ensures ∙ same ∙ sym c.list_of-2.ensures)))

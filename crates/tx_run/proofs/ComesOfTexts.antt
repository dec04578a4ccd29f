-- The sessions that are played are those of the text.
use Rattle.std.proofs.Common.{◌≡◌, ℕ, List, ◌++◌, Option, Some, None, ap, subst, ◌∙◌}
use Rattle.tx_core.specs.Histories.{History}
use Rattle.tx_evidence.specs.Lines.{bounds_of}
use Rattle.tx_ops.specs.declared.stage.SessionStage.{SessionStage}
use Rattle.tx_text.specs.Lines.{lines_of}
use Rattle.tx_types.specs.declared.key.Key.{Key}
use Rattle.tx_workload.specs.ScriptLines.{KeepsText, firsts_of, opening_of, sessions_of}
use Rattle.tx_workload.specs.declared.reply.LineReply.{LineReply}
use Rattle.tx_run.specs.Jobs.{ComesOf, ComesOfText}

pub comes_of_text : (source : Option (List ℕ)) (lines : List (List ℕ)) (others : List ℕ) (between bounds : List Key)
    (h : History) (replies : List LineReply) (stages : List (ℕ × SessionStage)) → KeepsText source lines others between
    → ComesOf bounds source (opening_of between ++ others) lines h replies stages
    → ComesOfText source bounds h replies stages
comes_of_text None lines others between bounds h replies stages keeps comes =
    (opening_of between ++ others, lines, comes)
comes_of_text (Some text) lines others between bounds h replies stages keeps comes =
    let firsts : opening_of between ++ others ≡ firsts_of (lines_of text) =
    ap (λ (b : List Key). opening_of b ++ others) keeps.bounds
    ∙ ap (λ (o : List ℕ). opening_of (bounds_of (lines_of text)) ++ o) keeps.seeds in
    subst (λ (f : List ℕ). ComesOf bounds (Some text) f (sessions_of (lines_of text)) h replies stages) firsts
    (subst (λ (l : List (List ℕ)). ComesOf bounds (Some text) (opening_of between ++ others) l h replies stages)
    keeps.sessions comes)

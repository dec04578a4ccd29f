use Rattle.std.proofs.Common.{◌≡◌, ◌++◌, ap, subst, ◌∙◌, List, [], ℕ}
use Rattle.std.specs.Io.KnownBytes.{Appends}
use Rattle.std.proofs.KnownBytes.{Appends-kept}
use Rattle.tx_workload.specs.Texts.{outcomes_text, total_text}
use Rattle.tx_text.specs.Output.{AppendsPart}
use Rattle.tx_workload.proofs.WrittenLines.{on_any_ok, on_any_err, part_none, part_all}
use Rattle.tx_workload.proofs.write.write_sums.Goals as goal

text_is : (bytes all mid none first second : List ℕ) → bytes ≡ all → all ≡ mid ++ second → mid ≡ none ++ first
    → none ≡ [] → bytes ≡ first ++ second
text_is bytes all mid none first second a b c d = a ∙ b ∙ ap (λ l. l ++ second) (c ∙ ap (λ l. l ++ first) d)

pub returns-clause-all : goal.returns-clause-all
returns-clause-all g c =
    let old = g.W.Write.contents c.args.writer.now in
    let text = text_is _ _ _ _ _ _ c.as_slice.ensures.value c.in_ok-put_total.ensures c.in_ok-put_outcomes.ensures
    c.new-text.ensures.items in
    on_any_ok _ _ (Appends-kept _ _ _ _
    (subst (Appends old (g.W.Write.contents c.send.new.writer)) text c.in_ok-send.ensures.all)
    c.finish.ensures.kept)

pub returns-clause-part : goal.returns-clause-part
returns-clause-part g c =
    let old = g.W.Write.contents c.args.writer.now in
    let text = text_is _ _ _ _ _ _ c.as_slice.ensures.value c.in_ok-put_total.ensures c.in_ok-put_outcomes.ensures
    c.new-text.ensures.items in
    on_any_err _ _ (part_all _ _ _
    (Appends-kept _ _ _ _ (subst (Appends old (g.W.Write.contents c.send.new.writer)) text c.in_ok-send.ensures.all)
    c.finish.ensures.kept))

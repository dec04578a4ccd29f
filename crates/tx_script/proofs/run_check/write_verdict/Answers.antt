use Rattle.std.proofs.Common.{◌≡◌, ap, subst, ◌∙◌, []}
use Rattle.tx_text.specs.Output.{AppendsPart}
use Rattle.tx_text.specs.Texts.{line_text}
use Rattle.tx_check.specs.declared.words.Verdict.TheVariants.{Yes}
use Rattle.tx_check.specs.Words.{words}
use Rattle.tx_script.proofs.Scripts.{if_err_is}
use Rattle.tx_script.proofs.Begun.{appends_part}
use Rattle.tx_script.proofs.run_check.write_verdict.Goals as goal

pub returns-in_err-send-clause-part : goal.returns-in_err-send-clause-part
returns-in_err-send-clause-part g c =
    let old = g.W.Write.contents c.args.writer.now in
    let new = g.W.Write.contents c.send.new.writer in
    let text : c.as_bytes.result.now ≡ line_text (words Yes) =
    c.as_bytes.ensures.value ∙ c.in_ok-text.ensures ∙ ap (λ v. line_text (words v)) c.in_ok-verdict.ensures.yes in
    let e = c.in_err-send.field-0.0 in
    if_err_is _ _ e c.from_residual-in_err-send.ensures.1 (appends_part e old new (line_text (words Yes)) []
    (subst (AppendsPart old new) text c.in_err-send.ensures.part) c.in_err-send.ensures.err)

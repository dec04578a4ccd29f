use Rattle.std.proofs.Common.{◌++◌, ap, ◌∙◌}
use Rattle.serde_json.specs.Data.{string}
use Rattle.serde_json.specs.Written.{compact_text}
use Rattle.tx_text.proofs.Texts.{on_ok}
use Rattle.tx_verdict_text.proofs.Lines.{text_so}
use Rattle.tx_verdict_text.proofs.line.put_edge.Goals as goal

pub returns : goal.returns
returns c =
    let old = c.args.out.now.items in
    on_ok c.put_string.result c.put_string.ensures (λ e. e
    ∙ ap (λ d. old ++ compact_text d) (text_so c.as_bytes.result.now c.as_bytes.ensures.utf8)
    ∙ ap (λ t. old ++ compact_text (string t)) (c.as_bytes.ensures.value ∙ c.edge_word.ensures))

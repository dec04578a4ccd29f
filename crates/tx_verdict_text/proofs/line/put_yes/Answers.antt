use Rattle.std.proofs.Common.{◌≡◌, ◌++◌, codes, ◌∷◌, [], length, ap, ◌∙◌, arith}
use Rattle.std.specs.Prelude.{decimal}
use Rattle.json.specs.Print.{escape_byte}
use Rattle.tx_text.proofs.Texts.{if_ok}
use Rattle.tx_check.proofs.Joins.{join_one}
use Rattle.tx_verdict_text.proofs.Lines.{after, object_end}
use Rattle.tx_verdict_text.proofs.line.put_yes.Goals as goal

pub returns : goal.returns
unfolding escape_byte
returns c =
    let old = c.args.out.now.items in
    let before = codes "[\"import\",\"yes\",{\"transactions\":" in
    let transactions = c.args.history.now.recording.transactions in
    let count = decimal (length transactions.items) in
    let all : c.len.result ≡ length transactions.items = omega (arith, c.len.ensures, transactions.ok.0) in
    let counted : c.put_digits.new.out.items ≡ c.extend_from_slice.new.self.items ++ count =
    c.in_ok-put_digits.ensures ∙ ap (λ n. c.extend_from_slice.new.self.items ++ decimal n) all in
    if_ok c.extend_from_slice-2.result _ _ _ c.extend_from_slice-2.ensures.items (λ e. e
    ∙ join_one old (before ++ count) (125 ∷ 93 ∷ 10 ∷ [])
    (after old before count c.in_ok-extend_from_slice.ensures.items counted)
    ∙ ap (λ t. old ++ (before ++ t)) (object_end count))

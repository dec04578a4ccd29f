use Rattle.std.proofs.Common.{◌≡◌, ◌++◌, ◌∷◌, ap, ◌∙◌}
use Rattle.std.specs.Fmt.{decimal}
use Rattle.tx_text.proofs.Texts.{collected_text, collected_is, on_ok}
use Rattle.tx_reply.proofs.reply.put_collected.Goals as goal

pub returns : goal.returns
returns c =
    let old = c.args.out.now.items in
    let first : c.put_stamped.new.out.items ≡ old ++ (collected_text ++ 44 ∷ decimal c.args.records) =
    c.in_ok-put_stamped.ensures in
    on_ok c.put_number.result c.put_number.ensures (λ e. e ∙ ap (λ t. t ++ 44 ∷ decimal c.args.values) first
    ∙ collected_is old c.args.records c.args.values)

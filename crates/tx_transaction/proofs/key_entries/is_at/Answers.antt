use Rattle.std.proofs.Common.{ap, ◌∙◌, bytes_eq}
use Rattle.tx_transaction.proofs.Parts.{key_of_item}
use Rattle.tx_transaction.proofs.key_entries.is_at.Goals as goal

pub returns : goal.returns
returns c =
    c.eq.ensures ∙ ap (λ k. bytes_eq k c.args.key.now)
    (c.as_bytes.ensures.value
    ∙ key_of_item c.args.few.now c.args.i c.in-Some.field-0.now c.requires c.in-Some.ensures.lookup.1)

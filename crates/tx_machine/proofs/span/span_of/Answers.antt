use Rattle.std.proofs.Common.{◌≤◌, ◌-◌, List, length, subst, ap, ◌∙◌}
use Rattle.std.specs.List.{slice_get}
use Rattle.tx_types.specs.declared.mutation.KeyValue.{KeyValue}
use Rattle.tx_machine.proofs.Spans.{spanned}
use Rattle.tx_machine.proofs.span.span_of.Goals as goal

pub returns-in_ok-clone-in-Some-2-clause-ok : goal.returns-in_ok-clone-in-Some-2-clause-ok
returns-in_ok-clone-in-Some-2-clause-ok c rising ends k =
    spanned c.args.scan.now c.in-Some.row.now c.in_ok-clone-in-Some.field-0 c.in_ok-clone-in-Some-2.field-0 k
    (subst (λ (xs : List KeyValue). c.args.scan.now.limit ≤ length xs) c.as_slice-rows.ensures c.if-rows-scan.false)
    rising ends (c.in-Some.ensures.value
    ∙ ap (λ (xs : List KeyValue). slice_get xs (length xs - 1)) c.as_slice-rows.ensures)
    c.in_ok-clone-in-Some.ensures.ok c.in_ok-clone-in-Some-2.ensures.ok

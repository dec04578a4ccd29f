use Rattle.std.proofs.Common.{◌≡◌, None, List, sym, ap, ◌∙◌, rules}
use Rattle.std.specs.List.{insert, remove}
use Rattle.tx_types.specs.declared.mutation.KeyValue.{KeyValue}
use Rattle.tx_update.specs.Ranges.{row_with, with_value}
use Rattle.tx_update.proofs.Entries.{first_at, kept, place, put_in, removed}
use Rattle.tx_update.proofs.rows.set_value.Goals.{then-is_first_of, else-is_first_of, in-Some+in_ok-insert, in_default}
use Rattle.tx_update.proofs.rows.set_value.Goals as goal

pub returns-clause-ok : goal.returns-clause-ok
returns-clause-ok c =
    let rows : List KeyValue = c.args.rows.now.items in
    let key = c.args.key in
    let at : c.place_of-at.result ≡ place rows key = search rules in
    let first = first_at c.as_slice-2.result.now rows c.place_of-at.result key c.is_first_of.result
    c.as_slice-2.ensures.value at c.is_first_of.ensures in
    let without : c.if-is_first_of.rows.items ≡ with_value rows key None = elim c.if-is_first_of.branch [
      | then-is_first_of w ↦ ap (λ v. v.items) w.rows-is ∙ w.remove.ensures.items ∙ ap (remove rows) at
          ∙ removed rows key (sym first ∙ w.if-is_first_of.true)
      | else-is_first_of w ↦ ap (λ v. v.items) w.rows-is ∙ kept rows key (sym first ∙ w.if-is_first_of.false)
    ] in
    elim c.match-value.branch [
      | in-Some+in_ok-insert w ↦ ap (λ v. v.items) w.rows-is ∙ w.in_ok-insert.ensures.items
          ∙ ap (λ (xs : List KeyValue). insert xs c.place_of-at.result (row_with key w.in-Some.value)) without
          ∙ ap (λ n. insert (with_value rows key None) n (row_with key w.in-Some.value)) at
          ∙ put_in rows key w.in-Some.value ∙ ap (with_value rows key) (sym w.in-Some.is)
      | in_default w ↦ ap (λ v. v.items) w.rows-is ∙ without ∙ ap (with_value rows key) (sym w.in_default.is)
    ]

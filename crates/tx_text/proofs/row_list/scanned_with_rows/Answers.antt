use Rattle.std.proofs.Common.{subst}
use Rattle.serde_json.specs.Data.{array}
use Rattle.std.specs.Prelude.{◌≡◌, Some}
use Rattle.std.proofs.lemmas.Option.{MatchOption-at_none, MatchOption-at_some}
use Rattle.serde_json.specs.Read.{read}
use Rattle.tx_text.specs.Parts.{parts_items, listed_items}
use Rattle.tx_text.proofs.Leaves.{json_is}
use Rattle.tx_text.proofs.ListedRows.{read_listed}
use Rattle.tx_text.proofs.row_list.scanned_with_rows.Goals as goal

pub returns-in_default : goal.returns-in_default
returns-in_default c =
    let whole = MatchOption-at_none _ _ c.in_default.is c.in_ok-position.ensures in
    json_is c.args.line.now _ c.in_ok-text.ensures.1
    (subst (λ line. read line ≡ Some (array (parts_items c.leading.new.parts.items))) c.in_ok-text.ensures.0 whole)

pub returns-then-is_over : goal.returns-then-is_over
returns-then-is_over c =
    let parts = c.leading.new.parts.items in
    let rows = c.in_ok-rows.rows.items in
    let soon = MatchOption-at_some _ _ c.in-Some.at c.in-Some.is c.in_ok-position.ensures in
    let whole = read_listed c.in_ok-text.text.now parts rows _ _ soon.1 c.in_ok-rows.ensures.begins
    (c.is_over.ensures c.if-is_over.true) in
    json_is c.args.line.now _ c.in_ok-text.ensures.1
    (subst (λ line. read line ≡ Some (array (listed_items parts rows))) c.in_ok-text.ensures.0 whole)

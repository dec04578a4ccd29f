use Rattle.std.proofs.Common.{subst}
use Rattle.serde_json.specs.Data.{array}
use Rattle.std.specs.Prelude.{◌≡◌, Some}
use Rattle.std.proofs.lemmas.Option.{MatchOption-at_none}
use Rattle.serde_json.specs.Read.{read}
use Rattle.tx_text.specs.Parts.{parts_items}
use Rattle.tx_text.proofs.Leaves.{json_is}
use Rattle.tx_text.proofs.scan.scanned.Goals as goal

pub returns-in-Some-None : goal.returns-in-Some-None
returns-in-Some-None c so =
    let whole = MatchOption-at_none _ _ c.in-Some-None.field-0-is c.in-Some-None.ensures in
    json_is c.args.line.now _ c.in-Some.ensures.1
    (subst (λ line. read line ≡ Some (array (parts_items c.leading.new.parts.items))) c.in-Some.ensures.0 whole)

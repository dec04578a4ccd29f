use Rattle.std.proofs.Common.{◌≡◌, ◌↔◌, IsTrue, Some, sym, subst}
use Rattle.json.specs.Json.{Json, object, document}
use Rattle.json.specs.Find.{BeginsWith}
use Rattle.json.specs.Strict.{AreDistinct}
use Rattle.json.proofs.Found.{not_found}
use Rattle.json.proofs.Unique.Keys.{texts}
use Rattle.tx_import.proofs.MemberTexts.{told_by_names}
use Rattle.tx_import.proofs.member_names.has_one_twice.Goals as goal

pub returns-in_default : goal.returns-in_default
returns-in_default c ms is =
    let begins : BeginsWith c.root.result (object ms) =
    subst (λ ts. BeginsWith ts (object ms)) (sym c.root.ensures.same) (c.in-Ok.ensures.value (object ms) is) in
    not_found ms (sym (c.in_default.ensures (object ms) begins))

pub returns : goal.returns
returns c =
    let line = c.args.line.now in
    let root = c.root.result in
    let begins : (j : Json) → document line ≡ Some j → BeginsWith root j =
    λ j is. subst (λ ts. BeginsWith ts j) (sym c.root.ensures.same) (c.in-Ok.ensures.value j is) in
    let names = c.in_ok-names.names.items in
    let distinct : IsTrue c.are_distinct.result ↔ AreDistinct (texts names) =
    rw c.as_mut_slice.ensures.value at c.are_distinct.ensures in
    told_by_names line root c.in-Some.members names c.are_distinct.result c.in-Ok.ensures.ok.1 begins
    c.in-Some.ensures c.in_ok-names.ensures distinct

use Rattle.std.proofs.Common.{◌≡◌, ℕ, List, length, ap, sym, subst, ◌∙◌, length-append, arith}
use Rattle.std.proofs.lemmas.Grind.{common_steps}
use Rattle.tx_import.specs.Numbers.{IsValueOf, AreValuesOf}
use Rattle.tx_import.proofs.Extensions.{part_is, zip_long}
use Rattle.tx_import.proofs.draft.put_read.Goals as goal

pub returns-clause-elements : goal.returns-clause-elements
returns-clause-elements c =
    let added = c.in_ok-put_values.ensures.said in
    let count = ap length added.1 ∙ length-append c.args.elements.now.items added.0 in
    let many = zip_long (IsValueOf c.put_values.new.values c.args.key) added.0 c.args.found.now added.2 in
    omega (arith, count, many)

pub returns-clause-upto : goal.returns-clause-upto
returns-clause-upto c =
    let added = c.in_ok-put_values.ensures.said in
    let count = ap length added.1 ∙ length-append c.args.elements.now.items added.0 in
    let many = zip_long (IsValueOf c.put_values.new.values c.args.key) added.0 c.args.found.now added.2 in
    let first : c.len-first.result ≡ length c.args.elements.now.items =
    grind (arith, common_steps, c.len-first.ensures) in
    omega (arith, count, many, first)

pub returns-clause-said : goal.returns-clause-said
returns-clause-said c =
    let added = c.in_ok-put_values.ensures.said in
    let many = zip_long (IsValueOf c.put_values.new.values c.args.key) added.0 c.args.found.now added.2 in
    let first : c.len-first.result ≡ length c.args.elements.now.items =
    grind (arith, common_steps, c.len-first.ensures) in
    let part = part_is c.put_values.new.elements.items c.args.elements.now.items added.0 c.len-first.result
    (length c.args.found.now) added.1 first (sym many) in
    let P : List ℕ → Type 0 = λ l. AreValuesOf c.put_values.new.values c.args.key l c.args.found.now in
    subst P (sym part) added.2

use Rattle.std.proofs.Common.{◌≡◌, Some, None, Option, refl, ap, sym, ◌∙◌}
use Rattle.tx_types.specs.declared.value.Value.{Value}
use Rattle.tx_types.specs.declared.write.WriteRec.TheVariants.{Commit}
use Rattle.tx_plan.specs.Reads.{Reads}
use Rattle.tx_cells.specs.Contents.{cells_of}
use Rattle.tx_cells.specs.Heads.{write_inline, write_keeps_apart}
use Rattle.tx_nested.specs.Nested.{held}
use Rattle.tx_cells.proofs.Facts.{write_kept, if_ok}
use Rattle.tx_cells.proofs.NewestValue.{inline_found, apart_found}
use Rattle.tx_nested.proofs.key.KeyFamilies.value_in.Goals as goal

pub returns-then-not-keeps_value_apart-clause-value : goal.returns-then-not-keeps_value_apart-clause-value
returns-then-not-keeps_value_apart-clause-value c =
    let x = held c.args.self.now in
    let seen = c.args.seen in
    let rec = c.requires.seen.rec in
    let e = c.requires.seen.stands in
    let same : c.args.rec.now ≡ Commit rec = cc (e, c.requires.stands) in
    let apart = sym (ap write_keeps_apart same) ∙ sym c.keeps_value_apart.ensures ∙ c.if-not-keeps_value_apart.true in
    if_ok c.inline_value.result (λ (found : Option Value). found
    ≡ write_inline c.args.rec.now) (Reads (cells_of x).write c.args.at)
    (λ found is. inline_found x c.args.at seen.commit seen.start seen.kind c.requires.seen rec e rec.mutation refl apart
    (write_kept x c.args.self.now.whole seen.commit rec e) found (is ∙ ap write_inline same))
    c.inline_value.ensures.ok

pub returns-in_ok-clone-in-Some-clause-value : goal.returns-in_ok-clone-in-Some-clause-value
returns-in_ok-clone-in-Some-clause-value c =
    let x = held c.args.self.now in
    let seen = c.args.seen in
    let rec = c.requires.seen.rec in
    let e = c.requires.seen.stands in
    let same : c.args.rec.now ≡ Commit rec = cc (e, c.requires.stands) in
    let apart = sym (ap write_keeps_apart same) ∙ sym c.keeps_value_apart.ensures ∙ c.if-not-keeps_value_apart.false in
    let found : Some c.in_ok-clone-in-Some.field-0 ≡ x.value rec.start =
    ap (λ (v : Value). Some v) c.in_ok-clone-in-Some.ensures.ok ∙ c.in-Some.ensures.value
    ∙ ap x.value (sym c.requires.seen.of) in
    apart_found x c.args.at seen.commit seen.start seen.kind c.requires.seen rec e rec.mutation refl apart
    (write_kept x c.args.self.now.whole seen.commit rec e) (Some c.in_ok-clone-in-Some.field-0) found

pub returns-in-None-clause-value : goal.returns-in-None-clause-value
returns-in-None-clause-value c =
    let x = held c.args.self.now in
    let seen = c.args.seen in
    let rec = c.requires.seen.rec in
    let e = c.requires.seen.stands in
    let same : c.args.rec.now ≡ Commit rec = cc (e, c.requires.stands) in
    let apart = sym (ap write_keeps_apart same) ∙ sym c.keeps_value_apart.ensures ∙ c.if-not-keeps_value_apart.false in
    let found : None ≡ x.value rec.start = c.in-None.ensures.value ∙ ap x.value (sym c.requires.seen.of) in
    apart_found x c.args.at seen.commit seen.start seen.kind c.requires.seen rec e rec.mutation refl apart
    (write_kept x c.args.self.now.whole seen.commit rec e) None found

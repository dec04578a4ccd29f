use Rattle.std.proofs.Common.{◌≡◌, Some, None, Option, refl, ap, sym, ◌∙◌}
use Rattle.std.specs.BTreeMap as tree
use Rattle.tx_types.specs.declared.value.Value.{Value}
use Rattle.tx_types.specs.declared.write.WriteRec.TheVariants.{Commit}
use Rattle.tx_plan.specs.Reads.{Reads}
use Rattle.tx_cells.specs.Contents.{cells_of}
use Rattle.tx_spelling.specs.Spelt.{version_cmp}
use Rattle.tx_flat.specs.Flats.{flat_content}
use Rattle.tx_cells.specs.Heads.{write_inline, write_keeps_apart}
use Rattle.tx_cells.proofs.Facts.{write_kept, whole_at, if_ok}
use Rattle.tx_cells.proofs.NewestValue.{inline_found, apart_found}
use Rattle.tx_flat.proofs.FlatCells.value_in.Goals as goal

pub returns-then-not-keeps_value_apart-clause-value : goal.returns-then-not-keeps_value_apart-clause-value
returns-then-not-keeps_value_apart-clause-value c =
    let flat = c.args.self.now in
    let x = flat_content flat c.args.key.now in
    let seen = c.args.seen in
    let rec = c.requires.seen.rec in
    let e = c.requires.seen.stands in
    let same : c.args.bytes.now ≡ Commit rec = cc (e, c.requires.stands) in
    let apart = sym (ap write_keeps_apart same) ∙ sym c.keeps_value_apart.ensures ∙ c.if-not-keeps_value_apart.true in
    if_ok c.inline_value.result (λ (found : Option Value). found
    ≡ write_inline c.args.bytes.now) (Reads (cells_of x).write c.args.at)
    (λ found is. inline_found x c.args.at seen.commit seen.start seen.kind c.requires.seen rec e rec.mutation refl apart
    (write_kept x (whole_at (flat_content flat) flat.whole c.args.key.now) seen.commit rec e) found (is
    ∙ ap write_inline same))
    c.inline_value.ensures.ok

pub returns-in-Some-clause-value : goal.returns-in-Some-clause-value
returns-in-Some-clause-value c =
    let flat = c.args.self.now in
    let x = flat_content flat c.args.key.now in
    let seen = c.args.seen in
    let rec = c.requires.seen.rec in
    let e = c.requires.seen.stands in
    let same : c.args.bytes.now ≡ Commit rec = cc (e, c.requires.stands) in
    let apart = sym (ap write_keeps_apart same) ∙ sym c.keeps_value_apart.ensures ∙ c.if-not-keeps_value_apart.false in
    let found : Some c.in_ok-clone-in-Some.field-0 ≡ x.value rec.start =
    ap (λ (v : Value). Some v) c.in_ok-clone-in-Some.ensures.ok ∙ c.in-Some.ensures.value
    ∙ ap (tree.get version_cmp flat.values) c.in_ok-version.ensures ∙ ap x.value (sym c.requires.seen.of) in
    apart_found x c.args.at seen.commit seen.start seen.kind c.requires.seen rec e rec.mutation refl apart
    (write_kept x (whole_at (flat_content flat) flat.whole c.args.key.now) seen.commit rec e)
    (Some c.in_ok-clone-in-Some.field-0) found

pub returns-clause-value : goal.returns-clause-value
returns-clause-value c =
    let flat = c.args.self.now in
    let x = flat_content flat c.args.key.now in
    let seen = c.args.seen in
    let rec = c.requires.seen.rec in
    let e = c.requires.seen.stands in
    let same : c.args.bytes.now ≡ Commit rec = cc (e, c.requires.stands) in
    let apart = sym (ap write_keeps_apart same) ∙ sym c.keeps_value_apart.ensures ∙ c.if-not-keeps_value_apart.false in
    let found : None ≡ x.value rec.start =
    c.in-None.ensures.value ∙ ap (tree.get version_cmp flat.values) c.in_ok-version.ensures
    ∙ ap x.value (sym c.requires.seen.of) in
    apart_found x c.args.at seen.commit seen.start seen.kind c.requires.seen rec e rec.mutation refl apart
    (write_kept x (whole_at (flat_content flat) flat.whole c.args.key.now) seen.commit rec e) None found

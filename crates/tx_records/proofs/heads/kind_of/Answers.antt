use Rattle.std.proofs.Common.{◌≡◌, Bool, false, ap, sym, ◌∙◌}
use Rattle.tx_types.specs.declared.mutation.LockKind.{LockKind}
use Rattle.tx_types.specs.declared.mutation.LockKind.TheVariants as kind
use Rattle.tx_cells.specs.Heads.{is_rollback, write_keeps_apart}
use Rattle.tx_cells.proofs.RecordKinds.{kind_by, kind_by_is}
use Rattle.tx_records.proofs.heads.kind_of.Goals as goal

pub returns-in-Put : goal.returns-in-Put
returns-in-Put c =
    let w = c.args.bytes.now in
    let no : is_rollback w ≡ false = cc (c.if-is_rollback.false, c.is_rollback.ensures) in
    ap (λ (b : Bool). kind_by kind.Put b) c.keeps_value_apart.ensures
    ∙ ap (λ (k : LockKind). kind_by k (write_keeps_apart w)) (sym c.in-Put.is)
    ∙ kind_by_is w c.kind.result no c.kind.ensures

pub returns-in-Delete : goal.returns-in-Delete
returns-in-Delete c =
    let w = c.args.bytes.now in
    let no : is_rollback w ≡ false = cc (c.if-is_rollback.false, c.is_rollback.ensures) in
    ap (λ (k : LockKind). kind_by k (write_keeps_apart w)) (sym c.in-Delete.is)
    ∙ kind_by_is w c.kind.result no c.kind.ensures

pub returns-in-Lock : goal.returns-in-Lock
returns-in-Lock c =
    let w = c.args.bytes.now in
    let no : is_rollback w ≡ false = cc (c.if-is_rollback.false, c.is_rollback.ensures) in
    ap (λ (k : LockKind). kind_by k (write_keeps_apart w)) (sym c.in-Lock.is)
    ∙ kind_by_is w c.kind.result no c.kind.ensures

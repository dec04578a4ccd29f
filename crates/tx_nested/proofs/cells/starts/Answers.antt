use Rattle.std.proofs.Common.{◌++◌, List, ℕ, ap, sym, ◌∙◌}
use Rattle.tx_types.specs.declared.value.Value.{Value}
use Rattle.tx_cells.specs.Copies.{starts_down}
use Rattle.tx_cells.proofs.EntryOrder.{starts_step}
use Rattle.tx_nested.proofs.cells.starts.Goals as goal

pub values-preserved : goal.values-preserved
values-preserved c =
    let e : ℕ × Value = (c.in-Some.start.now, c.in-Some.field-0-1.now) in
    starts_step (starts_down c.args.values.now.entries) c.values.starts c.values.entries c.next_back.new.self e
    c.values.invariant c.in-Some.ensures.steps
    ∙ ap (λ (w : List ℕ). w ++ starts_down c.next_back.new.self) (sym c.in_ok-push.ensures.ok)

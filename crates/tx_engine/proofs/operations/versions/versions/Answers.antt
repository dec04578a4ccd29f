use Rattle.std.proofs.Common.{ℕ, List, ◌∙◌, sym, subst}
use Rattle.tx_core.specs.Worlds.{route}
use Rattle.tx_network.specs.Networks.{Displays}
use Rattle.tx_engine.proofs.Inspections.{inspect_unkeyed, inspect_short, inspect_refused, inspect_shown}
use Rattle.tx_engine.proofs.operations.versions.versions.Goals as goal

pub returns-then-not-is_key : goal.returns-then-not-is_key
returns-then-not-is_key g c = inspect_unkeyed g.J.JournalId.bounds c.args.key.now
    (sym c.if-not-is_key.ensures) c.args.network.now

pub returns-in_default : goal.returns-in_default
returns-in_default g c = inspect_short g.J.JournalId.bounds c.args.key.now
    (sym c.if-not-is_key.ensures) c.args.network.now

pub returns-in-Ok-show_key : goal.returns-in-Ok-show_key
returns-in-Ok-show_key g c =
    let bounds = g.J.JournalId.bounds in
    let from = c.args.network.now in
    let to = c.show_key.new.self in
    let shown = subst (λ (key : List ℕ). Displays (route bounds key) from to key c.show_key.result)
    (c.in-Ok.ensures.ok ∙ c.as_bytes.ensures.value) c.show_key.ensures in
    inspect_shown bounds c.args.key.now (sym c.if-not-is_key.ensures) from to c.show_key.result shown
    c.in-Ok-show_key.copy c.in-Ok-show_key.is

pub returns : goal.returns
returns g c =
    let bounds = g.J.JournalId.bounds in
    let from = c.args.network.now in
    let to = c.show_key.new.self in
    let shown = subst (λ (key : List ℕ). Displays (route bounds key) from to key c.show_key.result)
    (c.in-Ok.ensures.ok ∙ c.as_bytes.ensures.value) c.show_key.ensures in
    inspect_refused bounds c.args.key.now (sym c.if-not-is_key.ensures) from to c.show_key.result shown

use Rattle.std.proofs.Common.{◌≡◌, ◌≤◌, ◌<◌, ℕ, length, Some, None, sym, ap, ◌∙◌, arith}
use Rattle.tx_engine.specs.Slots.{name_at}
use Rattle.tx_engine.proofs.Engines.{named, no_name, no_place}
use Rattle.tx_engine.proofs.slots.slot_at.Goals as goal

pub returns-in_default-clause-none : goal.returns-in_default-clause-none
returns-in_default-clause-none g c = λ e names slots ready.
    let name = c.args.name.now in
    no_name g.J.JournalId.bounds e name (ap (λ ns. name_at ns name) names ∙
    (named c.args.names.now name ∙ sym c.in_default.ensures.value))

pub returns-then-k-slots-clause-none : goal.returns-then-k-slots-clause-none
returns-then-k-slots-clause-none g c = λ e names slots ready.
    let name = c.args.name.now in
    let k = c.in-Some.field-0.now in
    let at : name_at e.names name ≡ Some k = ap (λ ns. name_at ns name) names ∙
    (named c.args.names.now name ∙ sym c.in-Some.ensures.value) in
    let le : length e.slots ≤ k = omega (arith, ap length slots, c.if-k-slots.true) in
    no_place g.J.JournalId.bounds e name k at le

pub returns-clause-some : goal.returns-clause-some
returns-clause-some g c =
    let k = c.in-Some.field-0.now in
    let lt : k < length c.args.slots.now = omega (arith, c.if-k-slots.false) in
    (sym c.in-Some.ensures.value, lt)

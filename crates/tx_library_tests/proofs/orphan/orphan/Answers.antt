use Rattle.std.proofs.Common.{◌≡◌, ◌∙◌, ℕ, false, bytes_eq, sym, subst}
use Rattle.tx_plan.specs.declared.body.Body.{Body}
use Rattle.tx_core.specs.declared.event.Declaration.{Declaration}
use Rattle.tx_core.specs.declared.event.Event.TheVariants.{Began, Declared}
use Rattle.tx_core.specs.Recording.{MayRecord}
use Rattle.tx_journal.specs.Known.{HasDrawn, HasRecorded}
use Rattle.tx_journal.proofs.Calls.{may_begin_there}
use Rattle.tx_journal.specs.Senders.{IsHeld}
use Rattle.tx_client.proofs.Calls.{held_at}
use Rattle.tx_library_tests.proofs.Orphans.{may_declare_both}
use Rattle.tx_library_tests.proofs.orphan.orphan.Goals as goal

pub add-requires-clause-right : goal.add-requires-clause-right
add-requires-clause-right g c =
    let bounds = g.J.JournalId.bounds in
    subst (λ (n : ℕ). MayRecord bounds n c.draw.new.self.events (Began c.in-Ok.start)) (sym c.draw.ensures.seat)
    (may_begin_there bounds c.args.seat.now.seat c.args.seat.now.events c.draw.new.self.events 1 c.in-Ok.start
    c.in-Ok.ensures.drawn)

pub add-requires-2-clause-right : goal.add-requires-2-clause-right
add-requires-2-clause-right g c =
    let bounds = g.J.JournalId.bounds in
    let i = c.args.seat.now.seat in
    let t = c.in-Ok.start in
    let p = c.in-Ok-draw.placed in
    let differ : bytes_eq c.args.second.now c.args.first.now ≡ false = sym c.eq.ensures ∙ c.if-eq.false in
    let number : c.add.new.seat.seat ≡ i = c.add.ensures.number ∙ c.draw.ensures.seat in
    let began = subst (λ (n : ℕ). HasRecorded bounds n c.draw.new.self.events (Began t) c.add.new.seat.events)
    c.draw.ensures.seat c.add.ensures.recorded in
    let placed = subst (λ (n : ℕ). HasDrawn bounds n c.add.new.seat.events 1 p c.draw-2.new.self.events) number
    c.in-Ok-draw.ensures.drawn in
    let may = may_declare_both bounds i t p c.args.first.now c.args.second.now differ
    c.args.seat.now.events c.draw.new.self.events c.add.new.seat.events c.draw-2.new.self.events
    c.in-Ok.ensures.drawn began placed in
    subst (λ (n : ℕ). MayRecord bounds n c.draw-2.new.self.events (Declared c.in-Some.declaration))
    (sym (c.draw-2.ensures.seat ∙ number))
    (subst (λ (d : Declaration). MayRecord bounds i c.draw-2.new.self.events (Declared d)) (sym c.in-Some.ensures) may)

pub ask-requires-clause-held : goal.ask-requires-clause-held
ask-requires-clause-held g c =
    subst (λ (b : Body). IsHeld g.J.JournalId.bounds b) (sym c.in-Some-second_of.ensures)
    (held_at g.J.JournalId.bounds _)

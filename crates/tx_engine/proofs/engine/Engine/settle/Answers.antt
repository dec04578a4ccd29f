use Rattle.std.proofs.Common.{◌≡◌, ◌+◌, length, Some, Contains, sym, ap, subst, ◌∙◌, arith}
use Rattle.tx_core.specs.Histories.{Begins}
use Rattle.tx_journal.specs.Known.{Known}
use Rattle.tx_network.specs.Networks.{NetworkParts, IsDone, AreNumbered}
use Rattle.tx_engine.specs.Slots.{Held, SlotContent, seat_in, Done}
use Rattle.tx_network.proofs.SettledSeats.{done_learnt, done_popped}
use Rattle.tx_engine.proofs.engine.Engine.settle.Goals as goal

pub slots-preserved-in-Free : goal.slots-preserved-in-Free
slots-preserved-in-Free g c =
    let n = c.args.self.network.newest in
    let k = c.in-Free.seat in
    let learnt = c.learn-in-Free in
    let knows : Begins n learnt.new.self.events = subst (λ h. Begins h learnt.new.self.events)
    (c.copy.ensures.copy ∙ c.slots.invariant.newest) learnt.ensures.told in
    let done : Done n (Some k) = done_learnt n k learnt.new.self knows learnt.ensures.own in
    record {
      newest = c.copy.ensures.same ∙ c.slots.invariant.newest;
      slots = λ rest. c.slots.invariant.slots (done_popped (λ (p : SlotContent). Done n (seat_in p)) c.slots.slots.items
          c.pop.new.self.items c.in-Some.slot c.in-Some.ensures.items
          (subst (λ p. Done n (seat_in p)) (sym c.in-Free.is) done) rest);
    }

pub slots-preserved-in-Live : goal.slots-preserved-in-Live
slots-preserved-in-Live g c =
    let n = c.args.self.network.newest in
    let s = c.in-Live.session in
    let learnt = c.learn_told in
    let knows : Begins n learnt.new.self.seat.events =
    subst (λ h. Begins h learnt.new.self.seat.events) (c.copy-in-Live.ensures.copy ∙ c.slots.invariant.newest)
    learnt.ensures.after_answer.knows in
    let done : Done n (Some s.seat) = done_learnt n s.seat learnt.new.self.seat knows learnt.ensures.after_answer.own in
    record {
      newest = c.copy-in-Live.ensures.same ∙ c.slots.invariant.newest;
      slots = λ rest. c.slots.invariant.slots (done_popped (λ (p : SlotContent). Done n (seat_in p)) c.slots.slots.items
          c.pop.new.self.items c.in-Some.slot c.in-Some.ensures.items
          (subst (λ p. Done n (seat_in p)) (sym c.in-Live.is) done) rest);
    }

pub slots-preserved : goal.slots-preserved
slots-preserved g c =
    let n = c.args.self.network.newest in
    record {
      newest = c.slots.invariant.newest;
      slots = λ rest. c.slots.invariant.slots (done_popped (λ (p : SlotContent). Done n (seat_in p)) c.slots.slots.items
          c.pop.new.self.items c.in-Some.slot c.in-Some.ensures.items
          (subst (λ p. Done n (seat_in p)) (sym c.in-Lent.is) tt) rest);
    }

pub returns-clause-settled : goal.returns-clause-settled
returns-clause-settled g c =
    let e = c.args.self in
    let n = e.network.newest in
    let network : c.newest-newest.new.self ≡ e.network =
    c.newest-newest.ensures.same ∙ (c.into_network-network.ensures ∙ ap (λ (x : Held). x.network) c.self.view_is) in
    let newest : c.newest-newest.result ≡ n = c.newest-newest.ensures.told ∙
    (ap (λ (d : NetworkParts). d.newest) c.into_network-network.ensures ∙ ap (λ (x : Held). x.network.newest)
    c.self.view_is) in
    let knows : Begins n c.learn.new.self.events =
    subst (λ h. Begins h c.learn.new.self.events) (c.copy-told.ensures.copy ∙ (c.settle.ensures.same ∙ newest))
    c.learn.ensures.told in
    let system_seat : IsDone n c.self.inside.system_seat =
    done_learnt n c.self.inside.system_seat c.learn.new.self knows c.learn.ensures.own in
    record {
      many = subst (λ (d : NetworkParts). length d.regions ≡ length g.J.JournalId.bounds + 1) network c.show.ensures.1;
      regions = λ k among. subst (λ h. IsDone h k) newest
          (c.settle.ensures.settled k (subst (λ (d : NetworkParts). Contains d.regions k) (sym network) among));
      numbers = subst (λ (d : NetworkParts). AreNumbered 0 d.regions) network c.show.ensures.0;
      system_seat = subst (λ (k : Known). IsDone n k) (ap (λ (x : Held). x.system_seat) c.self.view_is) system_seat;
      slots = c.slots.invariant.slots (λ p among. absurd (omega (
        arith,
        among.1,
        c.in_default.ensures.cases.0,
        c.slots.slots.ok.0,
      )));
    }

use Rattle.std.proofs.Common.{◌≡◌, ℕ, refl, sym, ap, subst, ◌∙◌, arith}
use Rattle.tx_plan.specs.declared.body.Body.{Body}
use Rattle.tx_core.specs.Worlds.{Holds}
use Rattle.tx_core.specs.declared.event.Event.TheVariants.{Took}
use Rattle.tx_journal.specs.Known.{Known, HasRecorded}
use Rattle.tx_journal.specs.Replies.{Asked, Given}
use Rattle.tx_region.specs.Calls.{Executes, Counts}
use Rattle.tx_region.specs.Regions.{region_of}
use Rattle.tx_region.specs.TakenRequests.{Loads, Answered}
use Rattle.tx_region.proofs.TakenRequests.{least_taken, does_taken, knows_taken, may_take_it, reads_taken, keeps_took, keeps_same, answered, if_some_is}
use Rattle.tx_region.proofs.region.Region.take_in.Goals as goal

pub answer-requires : goal.answer-requires
answer-requires g c = let low =
    c.load_in-loaded.ensures.loads.low in record { room = (omega (arith, low.0), omega (arith, low.1)) }

pub note_done-told-requires : goal.note_done-told-requires
note_done-told-requires g c =
    let bounds = g.J.JournalId.bounds in
    let content = g.F.Holds.content in
    let old = c.args.self.now in
    let s = c.self.inside in
    let n = s.seat.seat in
    let q = c.request-request.result.now in
    let load = c.load_in-loaded.ensures in
    let last = c.load_in-loaded.result.last in
    let mark = c.load_in-loaded.result.mark in
    let number : n ≡ old.seat = ap (λ (k : Known). k.seat) c.self.view_is ∙ load.same.0 in
    let is = c.request-request.ensures in
    let loads : Loads bounds n old.events q.by q.body last mark s.seat.events =
    subst (λ (p : ℕ × Known × Asked). Loads bounds p.0 old.events p.2.by p.2.body last mark p.1.events)
    (λ i. (sym number i, sym c.self.view_is i, sym is i)) load.loads in
    let holds : Holds bounds n q.body =
    subst (λ (p : ℕ × Asked). Holds bounds p.0 p.1.body)
    (λ i. (sym number i, sym (is ∙ ap (λ (r : Given). r.request) load.place) i)) c.requires.holds in
    let before = region_of content s.records in
    let after = region_of content c.answer.new.self in
    let a = c.in-Ok.done.answer in
    let read = c.in-Ok.done.read in
    let executes = subst (λ (b : Body). Executes mark before last b a read after) c.body.ensures.body
    c.in-Ok.ensures.ok in
    record {
      right = may_take_it bounds n c.self.invariant.inside old.events q.by q.body last mark
          s.seat.events loads c.body.ensures.allowed holds before after a read executes c.self.invariant.left
          (λ k. refl);
      read = reads_taken bounds n c.self.invariant.inside old.events q.by q.body last mark
          s.seat.events loads c.body.ensures.allowed holds before after a read executes c.self.invariant.left
          (λ k. refl);
      knows = knows_taken bounds n c.self.invariant.inside old.events q.by q.body last mark
          s.seat.events loads c.body.ensures.allowed holds before after a read executes c.self.invariant.left
          (λ k. refl);
    }

pub invariant_of-self-in-Ok : goal.invariant_of-self-in-Ok
invariant_of-self-in-Ok g c =
    let bounds = g.J.JournalId.bounds in
    let content = g.F.Holds.content in
    let numbers = g.F.Holds.numbers in
    let old = c.args.self.now in
    let s = c.self.inside in
    let n = s.seat.seat in
    let q = c.request-request.result.now in
    let load = c.load_in-loaded.ensures in
    let last = c.load_in-loaded.result.last in
    let mark = c.load_in-loaded.result.mark in
    let number : n ≡ old.seat = ap (λ (k : Known). k.seat) c.self.view_is ∙ load.same.0 in
    let is = c.request-request.ensures in
    let loads : Loads bounds n old.events q.by q.body last mark s.seat.events =
    subst (λ (p : ℕ × Known × Asked). Loads bounds p.0 old.events p.2.by p.2.body last mark p.1.events)
    (λ i. (sym number i, sym c.self.view_is i, sym is i)) load.loads in
    let holds : Holds bounds n q.body =
    subst (λ (p : ℕ × Asked). Holds bounds p.0 p.1.body)
    (λ i. (sym number i, sym (is ∙ ap (λ (r : Given). r.request) load.place) i)) c.requires.holds in
    let records = c.answer.new.self in
    let before = region_of content s.records in
    let after = region_of content records in
    let a = c.in-Ok.done.answer in
    let read = c.in-Ok.done.read in
    let executes = subst (λ (b : Body). Executes mark before last b a read after) c.body.ensures.body
    c.in-Ok.ensures.ok in
    let counts = subst (λ (b : Body). Counts b s.records.taken (before 0).cells
    (numbers s.records.families) records.taken (after 0).cells (numbers records.families)) c.body.ensures.body
    c.in-Ok.ensures.counts in
    let does = does_taken bounds n c.self.invariant.inside old.events q.by q.body last mark
    s.seat.events loads c.body.ensures.allowed holds before after a read executes c.self.invariant.left
    (λ k. refl) in
    let seat_now = c.note_done-told.new.seat in
    keeps_took bounds n s.seat.events q.body last a before after read c.self.invariant.left (λ k. refl) does
    seat_now.events c.note_done-told.ensures.added c.self.invariant.inside (before 0).cells (after 0).cells (λ k. refl)
    (λ k. refl) s.records.taken (numbers s.records.families)
    (numbers records.families) c.self.invariant.count c.self.invariant.noted records.taken counts seat_now
    c.note_done-told.ensures.same.0 refl

pub returns-clause-answered : goal.returns-clause-answered
returns-clause-answered g c =
    let bounds = g.J.JournalId.bounds in
    let content = g.F.Holds.content in
    let old = c.args.self.now in
    let s = c.self.inside in
    let n = s.seat.seat in
    let q = c.request-request.result.now in
    let load = c.load_in-loaded.ensures in
    let last = c.load_in-loaded.result.last in
    let mark = c.load_in-loaded.result.mark in
    let number : n ≡ old.seat = ap (λ (k : Known). k.seat) c.self.view_is ∙ load.same.0 in
    let is = c.request-request.ensures in
    let loads : Loads bounds n old.events q.by q.body last mark s.seat.events =
    subst (λ (p : ℕ × Known × Asked). Loads bounds p.0 old.events p.2.by p.2.body last mark p.1.events)
    (λ i. (sym number i, sym c.self.view_is i, sym is i)) load.loads in
    let holds : Holds bounds n q.body =
    subst (λ (p : ℕ × Asked). Holds bounds p.0 p.1.body)
    (λ i. (sym number i, sym (is ∙ ap (λ (r : Given). r.request) load.place) i)) c.requires.holds in
    let before = region_of content s.records in
    let after = region_of content c.answer.new.self in
    let a = c.in-Ok.done.answer in
    let read = c.in-Ok.done.read in
    let executes = subst (λ (b : Body). Executes mark before last b a read after) c.body.ensures.body
    c.in-Ok.ensures.ok in
    let least = least_taken bounds n c.self.invariant.inside old.events q.by q.body last mark
    s.seat.events loads c.body.ensures.allowed holds before after a read executes c.self.invariant.left
    (λ k. refl) in
    let given = c.fill-in-Ok.new.self in
    let reply = c.note_done-told.ensures in
    let filled = c.fill-in-Ok.ensures.filled in
    let so : Answered bounds n old.events given a =
    answered bounds n old.events q.by q.body last mark
    s.seat.events loads a least given (ap (λ (r : Given). r.request.by) filled ∙ ap (λ (r : Asked). r.by) (sym is))
    (ap (λ (r : Given). r.request.body) filled ∙ ap (λ (r : Asked). r.body) (sym is))
    (subst (λ h. HasRecorded bounds n
    s.seat.events (Took record { region = n; body = q.body; loaded = last; answer = a }) h)
    (reply.told ∙ sym (ap (λ (r : Given). r.events) filled)) reply.added) in
    if_some_is given.answer a (Answered bounds old.seat old.events given)
    (ap (λ (r : Given). r.answer) filled ∙ reply.answer)
    (subst (λ i. Answered bounds i old.events given a) number so)

pub invariant_of-self : goal.invariant_of-self
invariant_of-self g c =
    let content = g.F.Holds.content in
    let numbers = g.F.Holds.numbers in
    let s = c.self.inside in
    let records = c.answer.new.self in
    keeps_same g.J.JournalId.bounds s.seat c.tell-told.new.self (region_of content s.records)
    (region_of content records) s.records.taken records.taken (numbers s.records.families)
    (numbers records.families) c.tell-told.ensures.same c.in-Err.ensures.same c.in-Err.ensures.same_numbers
    c.self.invariant

use Rattle.std.proofs.Common.{◌≡◌, ℕ, refl, sym, ap, subst, ◌∙◌}
use Rattle.tx_plan.specs.declared.body.Body.{Body}
use Rattle.tx_core.specs.declared.event.Event.TheVariants.{Took}
use Rattle.tx_core.specs.Histories.{History}
use Rattle.tx_journal.specs.Known.{Known, HasRecorded}
use Rattle.tx_journal.specs.Replies.{Given}
use Rattle.tx_region.specs.Calls.{CarriesOut, Counts}
use Rattle.tx_region.specs.Copies.{IsOfKey, IsAbove, MayMake, key_in, made}
use Rattle.tx_region.specs.Regions.{region_of}
use Rattle.tx_region.proofs.PlanResults.{plan_holds, knows_here, may_here, reads_here, does_here, carried}
use Rattle.tx_region.proofs.TakenRequests.{seen_inside, keeps_took, keeps_same, if_some_is, if_none_is}
use Rattle.tx_region.proofs.region.Region.carry_into.Goals as goal

pub make_by_bytes-requires : goal.make_by_bytes-requires
make_by_bytes-requires g c =
    let bounds = g.J.JournalId.bounds in
    let content = g.F.Holds.content in
    let old = c.args.self.now in
    let s = c.self.inside in
    let q = c.args.request.now in
    let same = c.is_above.ensures.same.0 in
    let number : s.seat.seat ≡ old.seat = ap (λ (k : Known). k.seat) c.self.view_is ∙ same in
    let here = seen_inside bounds old c.is_above.new.self s.seat c.self.view_is same c.is_above.ensures.seen in
    let plan = plan_holds bounds old s.seat here number (content s.records.families) s.records.safe s.records.collected
    s.records.taken (g.F.Holds.numbers s.records.families) c.self.invariant c.args.loaded.now.mark
    c.args.loaded.now.last q.body c.args.planned.now c.requires.plan in
    record {
      of_key = subst IsOfKey (sym c.body.ensures.body) c.requires.of_key;
      of = c.requires.bytes ∙ ap key_in (sym c.body.ensures.body);
      may = subst (λ (b : Body). MayMake b ((region_of content s.records 0).cells (key_in b)) c.args.planned.now.change)
          (sym c.body.ensures.body) plan.may;
    }

pub note_done-requires : goal.note_done-requires
note_done-requires g c =
    let bounds = g.J.JournalId.bounds in
    let content = g.F.Holds.content in
    let old = c.args.self.now in
    let s = c.self.inside in
    let q = c.args.request.now in
    let same = c.is_above.ensures.same.0 in
    let number : s.seat.seat ≡ old.seat = ap (λ (k : Known). k.seat) c.self.view_is ∙ same in
    let here = seen_inside bounds old c.is_above.new.self s.seat c.self.view_is same c.is_above.ensures.seen in
    let after = region_of content c.make_by_bytes.new.self in
    let a = c.in-Ok.done.answer in
    let read = c.in-Ok.done.read in
    let p = c.args.planned.now in
    let above : IsAbove p.change s.seat.events =
    subst (λ (k : Known). IsAbove p.change k.events) (sym c.self.view_is)
    (c.is_above.ensures.above.0 (cc (c.if-not-is_above.false))) in
    let out = subst (λ (b : Body). (m : ℕ) → CarriesOut (region_of content s.records m) (key_in b)
    (made b ((region_of content s.records m).cells (key_in b)) p.change) p a read (after m)) c.body.ensures.body
    c.in-Ok.ensures.ok in
    record {
      right = may_here bounds old s.seat here number (content s.records.families) s.records.safe s.records.collected
          s.records.taken (g.F.Holds.numbers s.records.families) c.self.invariant after (λ k. refl) q
          c.body.ensures.allowed c.requires.holds
          c.args.loaded.now.last c.args.loaded.now.mark c.requires.knows c.requires.mark p c.requires.plan above a read
          out;
      read = reads_here bounds old s.seat here number (content s.records.families) s.records.safe s.records.collected
          s.records.taken (g.F.Holds.numbers s.records.families) c.self.invariant after (λ k. refl) q
          c.body.ensures.allowed c.requires.holds
          c.args.loaded.now.last c.args.loaded.now.mark c.requires.knows c.requires.mark p c.requires.plan above a read
          out;
      knows = knows_here bounds old s.seat here number (content s.records.families) s.records.safe s.records.collected
          s.records.taken (g.F.Holds.numbers s.records.families) c.self.invariant after (λ k. refl) q
          c.body.ensures.allowed c.requires.holds
          c.args.loaded.now.last c.args.loaded.now.mark c.requires.knows c.requires.mark p c.requires.plan above a read
          out;
    }

pub invariant_of-self-in-Ok : goal.invariant_of-self-in-Ok
invariant_of-self-in-Ok g c =
    let bounds = g.J.JournalId.bounds in
    let content = g.F.Holds.content in
    let numbers = g.F.Holds.numbers in
    let old = c.args.self.now in
    let s = c.self.inside in
    let q = c.args.request.now in
    let same = c.is_above.ensures.same.0 in
    let number : s.seat.seat ≡ old.seat = ap (λ (k : Known). k.seat) c.self.view_is ∙ same in
    let here = seen_inside bounds old c.is_above.new.self s.seat c.self.view_is same c.is_above.ensures.seen in
    let records = c.make_by_bytes.new.self in
    let before = region_of content s.records in
    let after = region_of content records in
    let a = c.in-Ok.done.answer in
    let read = c.in-Ok.done.read in
    let p = c.args.planned.now in
    let above : IsAbove p.change s.seat.events =
    subst (λ (k : Known). IsAbove p.change k.events) (sym c.self.view_is)
    (c.is_above.ensures.above.0 (cc (c.if-not-is_above.false))) in
    let out = subst (λ (b : Body). (m : ℕ) → CarriesOut (region_of content s.records m) (key_in b)
    (made b ((region_of content s.records m).cells (key_in b)) p.change) p a read (after m)) c.body.ensures.body
    c.in-Ok.ensures.ok in
    let does = does_here bounds old s.seat here number (content s.records.families) s.records.safe s.records.collected
    s.records.taken (numbers s.records.families) c.self.invariant after (λ k. refl) q c.body.ensures.allowed
    c.requires.holds c.args.loaded.now.last c.args.loaded.now.mark c.requires.knows c.requires.mark p
    c.requires.plan above a read out in
    let counts = subst (λ (b : Body). Counts b s.records.taken (before 0).cells
    (numbers s.records.families) records.taken (after 0).cells (numbers records.families)) c.body.ensures.body
    c.in-Ok.ensures.counts in
    let seat_now = c.note_done.new.seat in
    keeps_took bounds s.seat.seat s.seat.events q.body c.args.loaded.now.last a before after read c.self.invariant.left
    (λ k. refl) does seat_now.events c.note_done.ensures.added c.self.invariant.inside (before 0).cells
    (after 0).cells (λ k. refl) (λ k. refl) s.records.taken (numbers s.records.families)
    (numbers records.families) c.self.invariant.count c.self.invariant.noted records.taken counts seat_now
    c.note_done.ensures.same.0 refl

pub invariant_of-self : goal.invariant_of-self
invariant_of-self g c =
    let content = g.F.Holds.content in
    let numbers = g.F.Holds.numbers in
    let s = c.self.inside in
    let records = c.make_by_bytes.new.self in
    keeps_same g.J.JournalId.bounds s.seat c.tell-told.new.self (region_of content s.records)
    (region_of content records) s.records.taken records.taken (numbers s.records.families)
    (numbers records.families) c.tell-told.ensures.same c.in-Err.ensures.same c.in-Err.ensures.same_numbers
    c.self.invariant

pub returns-clause-comes : goal.returns-clause-comes
returns-clause-comes g c =
    let bounds = g.J.JournalId.bounds in
    let content = g.F.Holds.content in
    let old = c.args.self.now in
    let s = c.self.inside in
    let q = c.args.request.now in
    let same = c.is_above.ensures.same.0 in
    let number : s.seat.seat ≡ old.seat = ap (λ (k : Known). k.seat) c.self.view_is ∙ same in
    let here = seen_inside bounds old c.is_above.new.self s.seat c.self.view_is same c.is_above.ensures.seen in
    let after = region_of content c.make_by_bytes.new.self in
    let a = c.in-Ok.done.answer in
    let read = c.in-Ok.done.read in
    let p = c.args.planned.now in
    let above : IsAbove p.change s.seat.events =
    subst (λ (k : Known). IsAbove p.change k.events) (sym c.self.view_is)
    (c.is_above.ensures.above.0 (cc (c.if-not-is_above.false))) in
    let out = subst (λ (b : Body). (m : ℕ) → CarriesOut (region_of content s.records m) (key_in b)
    (made b ((region_of content s.records m).cells (key_in b)) p.change) p a read (after m)) c.body.ensures.body
    c.in-Ok.ensures.ok in
    let given : Given = record { request = q; answer = c.note_done.new.place; events = c.note_done.result } in
    let reply = c.note_done.ensures in
    let added = subst (λ (h : History). HasRecorded bounds s.seat.seat s.seat.events
    (Took record { region = s.seat.seat; body = q.body; loaded = c.args.loaded.now.last; answer = a }) h) reply.told
    reply.added in (
      refl,
      reply.told,
      if_some_is given.answer a _ reply.answer (carried bounds old s.seat here number (content s.records.families)
          s.records.safe s.records.collected s.records.taken (g.F.Holds.numbers s.records.families) c.self.invariant
          after (λ k. refl) q c.body.ensures.allowed c.requires.holds
          c.args.loaded.now.last c.args.loaded.now.mark c.requires.knows c.requires.mark p c.requires.plan above a read
          out given refl added),
      if_none_is given.answer a _ reply.answer,
    )

use Rattle.std.proofs.Common.{inl, inr, List, ℕ, OnOk, refl, subst}
use Rattle.tx_core.proofs.seats.Beginnings.{begins_all}
use Rattle.tx_core.specs.Histories.{History, Begins}
use Rattle.tx_journal.specs.Known.{Known}
use Rattle.tx_transfer.specs.SeedLines.{SeedEnds}
use Rattle.tx_transfer.specs.Seeds.{WasSeeded}
use Rattle.tx_transfer.proofs.SeedWrites.{seeded_seen}
use Rattle.tx_transfer.proofs.seeds.seed.Goals as goal

pub returns-in-Err-clause-knows : goal.returns-in-Err-clause-knows
returns-in-Err-clause-knows g c = begins_all c.args.seat.events

pub returns-in-Ok-clause-wrote : goal.returns-in-Ok-clause-wrote
returns-in-Ok-clause-wrote g c =
    let mid = c.seed_key-seat.result.0 in
    let r = c.seed_key-seat.result.1 in
    let h = c.learn.new.self.events in
    let was = seeded_seen g.J.JournalId.bounds mid.seat mid.events h c.learn.ensures.seen c.in-Ok.key c.in-Ok.value r
    c.seed_key-seat.ensures.wrote in
    subst (λ (k : List ℕ). OnOk r (WasSeeded h k c.args.value.now)) c.in-Ok.ensures.ok.0
    (subst (λ (v : List ℕ). OnOk r (WasSeeded h c.in-Ok.key v)) c.in-Ok.ensures.ok.1 was)

pub returns-in-Err-clause-plays : goal.returns-in-Err-clause-plays
returns-in-Err-clause-plays g c = inl (c.in-Err.fault, refl, c.in-Err.ensures.err, refl)

pub returns-in-Ok-clause-plays : goal.returns-in-Ok-clause-plays
returns-in-Ok-clause-plays g c =
    let bounds = g.J.JournalId.bounds in
    let old = c.args.seat in
    let mid = c.seed_key-seat.result.0 in
    let r = c.seed_key-seat.result.1 in
    let was = subst (λ (k : List ℕ). SeedEnds bounds k c.in-Ok.value old r mid) c.in-Ok.ensures.ok.0
    (subst (λ (k : Known). SeedEnds bounds c.in-Ok.key c.in-Ok.value k r mid) c.tell-known.ensures.same
    c.seed_key-seat.ensures.plays) in
    inr (
      mid,
      subst (λ (v : List ℕ). SeedEnds bounds c.args.key.now v old r mid) c.in-Ok.ensures.ok.1 was,
      record {
        number = c.learn.ensures.same.0;
        ticks = c.learn.ensures.same.1;
        seen = c.learn.ensures.seen;
        knows = subst (λ (h : History). Begins h c.learn.new.self.events) c.tell-known.ensures.told
            c.learn.ensures.told;
        own = c.learn.ensures.own;
      },
    )

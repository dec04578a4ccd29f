use Rattle.std.proofs.Common.{◌≡◌, ℕ, sym, ap, subst, ◌∙◌}
use Rattle.tx_plan.specs.Cells.{Region}
use Rattle.tx_core.specs.Histories.{History, left}
use Rattle.tx_journal.specs.Known.{Known}
use Rattle.tx_journal.specs.Replies.{Asked}
use Rattle.tx_region.specs.Copies.{Sees, LooksLike}
use Rattle.tx_region.specs.KeyPlans.{Copied, AreOf, IsCopyFor}
use Rattle.tx_region.specs.TakenRequests.{Loads, Knows}
use Rattle.tx_region.proofs.Copies.{looks_same}
use Rattle.tx_region.proofs.TakenRequests.{knows_loads}
use Rattle.tx_region.proofs.region.Region.copy_after.Goals as goal

pub returns-clause-copy : goal.returns-clause-copy
returns-clause-copy g c =
    let bounds = g.J.JournalId.bounds in
    let old = c.args.self.now in
    let s = c.self.inside in
    let n = s.seat.seat in
    let load = c.load_after-attempt-inside in
    let q : Asked = record { by = c.args.heard; body = c.args.body.now } in
    let told : c.tell-told.result ≡ s.seat.events = c.tell-told.ensures.told in
    let loads : Loads bounds old.seat old.events q.by q.body load.result.last load.result.mark s.seat.events =
    subst (λ (k : Known). Loads bounds old.seat old.events q.by q.body load.result.last load.result.mark k.events)
    (sym c.self.view_is) load.ensures.loads in
    let knows : Knows q.by s.seat.events load.result.last =
    knows_loads bounds old.seat old.events q.by q.body load.result.last load.result.mark s.seat.events loads in
    let here = left s.seat.events n in
    let looks : LooksLike here q.body c.view_into.new.place c.numbers-attempt-inside.result = record {
      sees = subst (λ (r : Region). Sees r.cells q.body c.view_into.new.place) c.self.invariant.left
          c.in_ok-view_into.ensures.ok;
      safe = c.numbers-attempt-inside.ensures.0 ∙ ap (λ (r : Region). r.safe) c.self.invariant.left;
      collected = c.numbers-attempt-inside.ensures.1 ∙ ap (λ (r : Region). r.collected) c.self.invariant.left;
    } in
    let key = c.into_bytes-bytes.result in
    let copy : Copied = record {
      region = n;
      events = s.seat.events;
      key = key;
      view = c.view_into.new.place;
      numbers = c.numbers-attempt-inside.result;
      loaded = load.result;
    } in
    let so : IsCopyFor q copy = record {
      of_key = c.requires;
      its_key = c.into_bytes-bytes.ensures ∙ c.in_ok-key.ensures.ok;
      knows = knows;
      is_mark = loads.is_mark;
      looks = λ region same. looks_same q.body here region c.view_into.new.place c.numbers-attempt-inside.result same
          looks;
    } in
    let same = c.tell-told.ensures.same in
    let number : c.number-attempt-inside.result ≡ n = c.number-attempt-inside.ensures.number
    ∙ ap (λ (k : Known). k.seat) same in (
      subst (λ (x : ℕ × History). IsCopyFor q (record {
        region = x.0;
        events = x.1;
        key = key;
        view = c.view_into.new.place;
        numbers = c.numbers-attempt-inside.result;
        loaded = load.result;
      }))
          (λ i. (sym number i, sym told i)) so,
      c.number-attempt-inside.ensures.number,
      told ∙ ap (λ (k : Known). k.events) (sym same),
    )

pub invariant_of-attempt-2 : goal.invariant_of-attempt-2
invariant_of-attempt-2 g c =
    let bounds = g.J.JournalId.bounds in
    let old = c.args.self.now in
    let s = c.self.inside in
    let n = s.seat.seat in
    let load = c.load_after-attempt-inside in
    let by = c.args.heard in
    let b = c.args.body.now in
    let told : c.tell-told.result ≡ s.seat.events = c.tell-told.ensures.told in
    let number : c.number-attempt-inside.result ≡ n = c.number-attempt-inside.ensures.number
    ∙ ap (λ (k : Known). k.seat) c.tell-told.ensures.same in
    let loads : Loads bounds old.seat old.events by b load.result.last load.result.mark s.seat.events =
    subst (λ (k : Known). Loads bounds old.seat old.events by b load.result.last load.result.mark k.events)
    (sym c.self.view_is) load.ensures.loads in
    let knows : Knows by s.seat.events load.result.last =
    knows_loads bounds old.seat old.events by b load.result.last load.result.mark s.seat.events loads in
    let are : AreOf s.seat.events n c.numbers-attempt-inside.result s.records.taken load.result = record {
      safe = c.numbers-attempt-inside.ensures.0 ∙ ap (λ (r : Region). r.safe) c.self.invariant.left;
      collected = c.numbers-attempt-inside.ensures.1 ∙ ap (λ (r : Region). r.collected) c.self.invariant.left;
      count = c.self.invariant.count;
      was = (knows.point, knows.upto, knows.is_last);
      low = load.ensures.loads.low;
    } in
    subst (λ (x : History × ℕ). AreOf x.0 x.1 c.numbers-attempt-inside.result s.records.taken load.result)
    (λ i. (sym told i, sym number i)) are

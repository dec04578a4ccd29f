use Rattle.std.proofs.Common.{◌≡◌, subst, rules}
use Rattle.tx_kv.specs.Clients.{ClientState, Place, Updates, seats_of}
use Rattle.tx_kv.proofs.UpdateResults.{if_has_value, seen_goes, updates_from, updates_so}
use Rattle.tx_kv.proofs.client.Client.update_now.Goals as goal

pub told_of-told-requires : goal.told_of-told-requires
told_of-told-requires g c =
    let inside = c.self.inside in
    record {
      value = if_has_value g.W.Work.does g.W.Work.stops_at g.J.JournalId.bounds inside.terms
          (record { begins = c.in-Some.seats.begins; resolves = c.last.new.self }) c.args.work.now
          c.update_watched-came.new.work
          inside.again c.update_watched-came.result c.update_watched-came.ensures.ended;
    }

pub returns : goal.returns
returns g c =
    let inside = c.self.inside in
    let same : c.in-Some.seats ≡ seats_of inside.seats = search rules in
    let does = g.W.Work.does in
    let stops_at = g.W.Work.stops_at in
    let bounds = g.J.JournalId.bounds in
    let begins = c.in-Some.seats.begins in
    let place : Place = record { number = inside.number; clients = inside.clients } in
    let now : ClientState g.row.J.Denot =
    record { seats = c.told_of-told.result.1; terms = inside.terms; again = inside.again; place = place } in
    let told = c.told_of-told.result.0 in
    subst
    (λ s. Updates does stops_at bounds s c.args.work.now told now c.update_watched-came.new.work)
    c.self.view_is
    (subst
    (λ k. Updates does stops_at bounds
    (record { seats = k; terms = inside.terms; again = inside.again; place = place }) c.args.work.now told now
    c.update_watched-came.new.work)
    same
    (updates_from does stops_at bounds inside.terms inside.again place c.in-Some.seats c.last.new.self
    (seen_goes bounds c.in-Some.seats.resolves c.last.new.self c.last.ensures.same.0 c.last.ensures.seen)
    c.args.work.now c.update_watched-came.new.work told now
    (updates_so does stops_at bounds
    (record {
      seats = record { begins = begins; resolves = c.last.new.self };
      terms = inside.terms;
      again = inside.again;
      place = place;
    })
    c.args.work.now c.update_watched-came.new.work told c.told_of-told.result.1 c.update_watched-came.result
    c.update_watched-came.ensures.ended c.update_watched-came.ensures.last c.update_watched-came.ensures.unended
    c.told_of-told.ensures.ended c.told_of-told.ensures.unended)))

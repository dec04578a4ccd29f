use Rattle.tx_kv.proofs.UpdateResults.{only_sees_goes, updates_at}
use Rattle.tx_kv.proofs.client.Client.update.Goals as goal

-- it may have collected before it
pub returns : goal.returns
returns g c =
    let first = c.collect_if_due.ensures in
    updates_at g.W.Work.does g.W.Work.stops_at g.J.JournalId.bounds c.args.self.now c.collect_if_due.new.self
    first.begins (only_sees_goes c.args.self.now.seats.resolves c.collect_if_due.new.self.seats.resolves first.resolves)
    first.terms c.args.work.now c.update_now-told.new.work c.update_now-told.result
    c.update_now-told.new.self c.update_now-told.ensures

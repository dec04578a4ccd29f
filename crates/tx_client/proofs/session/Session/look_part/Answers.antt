use Rattle.std.proofs.Common.{List, ap, inr, ◌∙◌}
use Rattle.tx_types.specs.declared.mutation.KeyValue.{KeyValue}
use Rattle.tx_client.specs.Walks.{part_by}
use Rattle.tx_client.proofs.Scans.{part_looked}
use Rattle.tx_client.proofs.session.Session.look_part.Goals as goal

pub returns : goal.returns
returns g c =
    let is = c.part_by.ensures
    ∙ ap (λ (l : List KeyValue). part_by c.args.limit l c.look-answered.result) c.in-Ok.ensures.ok in
    inr (part_looked g.S.Sender.sends g.J.JournalId.bounds c.args.self.now.seat c.look-answered.new.self.seat
    c.args.sender.now c.look-answered.new.sender c.args.self.now.state
    c.look-answered.new.self.state c.args.body c.args.limit c.args.rows c.look-answered.result c.part_by.result
    c.look-answered.ensures.sends is)

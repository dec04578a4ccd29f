use Rattle.std.proofs.Common.{ap, subst, ◌∙◌}
use Rattle.tx_types.specs.declared.key.Key.{Key}
use Rattle.tx_steps.specs.Steps.{Text}
use Rattle.tx_steps.specs.declared.transfer.Transfer.{Transfer}
use Rattle.tx_client.specs.Walks.{get_walk}
use Rattle.tx_transfer.specs.Sends.{SendsOver}
use Rattle.tx_transfer.specs.TransferSteps.{Moving, key_read, reads_first}
use Rattle.tx_transfer.proofs.TransferSteps.{asks_inside}
use Rattle.tx_transfer.proofs.transfer.TransferState.look.Goals as goal

pub returns : goal.returns
returns g c =
    let bounds = g.J.JournalId.bounds in
    let s = c.self.inside.session in
    let t = c.get.new.session in
    let now = c.args.self.now in
    let what : Transfer Text = record {
      from = c.self.inside.order.from;
      to = c.self.inside.order.to;
      amount = c.self.inside.order.amount;
      mode = c.self.inside.order.mode;
    } in
    let sent = subst (λ (k : Key). SendsOver bounds s.seat (get_walk s.state k) (t.state, c.get.result) t.seat)
    (c.key_of-key.ensures ∙ ap (λ b. key_read b what) c.reads_first.ensures
    ∙ ap (λ (m : Moving). key_read (reads_first m.next) m.what) c.self.view_is) c.get.ensures.over in
    asks_inside bounds _ now t (λ state. get_walk state (key_read (reads_first now.next) now.what)) c.get.result
    c.self.view_is sent

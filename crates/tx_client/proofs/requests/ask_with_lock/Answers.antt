use Rattle.std.proofs.Common.{◌≡◌, ◌∙◌, Ok, sym, ap, subst}
use Rattle.tx_plan.specs.declared.body.Body.{Body}
use Rattle.tx_core.specs.Histories.{History}
use Rattle.tx_journal.specs.Known.{Known}
use Rattle.tx_journal.specs.Replies.{Asked, Given}
use Rattle.tx_journal.specs.Senders.{IsHeld, reached}
use Rattle.tx_transaction.specs.Returns.{Response}
use Rattle.tx_client.specs.Facts.{RespondsSo}
use Rattle.tx_client.specs.Learns.{Learns}
use Rattle.tx_client.proofs.Calls.{came_reached}
use Rattle.tx_client.proofs.requests.ask_with_lock.Goals as goal

pub send_in-requires : goal.send_in-requires
send_in-requires g c =
    let q = c.new.result.request in
    let asks : q.body ≡ c.args.body = ap (λ (x : Asked). x.body) c.new.ensures.0 ∙ c.new-request.ensures.1 in (
      c.new.ensures.1,
      c.requires.way.takes c.args.sender.now q
          (subst (IsHeld g.J.JournalId.bounds) (sym asks) c.requires.held),
    )

pub returns-clause-asked : goal.returns-clause-asked
returns-clause-asked g c =
    let q = c.new.result.request in
    let came = reached c.send_in.new.place in
    let by : q.by ≡ c.args.seat.now.events =
    ap (λ (x : Asked). x.by) c.new.ensures.0 ∙ (c.new-request.ensures.0 ∙ c.tell-asked.ensures.told) in
    let asks : q.body ≡ c.args.body = ap (λ (x : Asked). x.body) c.new.ensures.0 ∙ c.new-request.ensures.1 in
    record {
      reached = came;
      sent = subst (λ (x : History × Body). g.S.Sender.sends c.args.sender.now (record { by = x.0; body = x.1 }) came
          c.send_in.new.self)
          (λ i. (by i, asks i)) c.send_in.ensures;
      learns = subst (λ (k : Known). Learns g.J.JournalId.bounds k came c.on_reply.new.seat)
          (c.tell-told.ensures.same ∙ c.tell-asked.ensures.same) c.on_reply.ensures.learns;
      is = c.on_reply.ensures.response;
    }

pub returns-clause-told : goal.returns-clause-told
returns-clause-told g c =
    let q = c.new.result.request in
    let came = reached c.send_in.new.place in
    let asks : q.body ≡ c.args.body = ap (λ (x : Asked). x.body) c.new.ensures.0 ∙ c.new-request.ensures.1 in
    let same : (r : Given) → came ≡ Ok r → r.request.body ≡ c.args.body =
    λ r is. ap (λ (x : Asked). x.body) (c.requires.way.answers c.args.sender.now c.send_in.new.self q r
    (subst (λ z. g.S.Sender.sends c.args.sender.now q z c.send_in.new.self) is c.send_in.ensures))
    ∙ asks in
    subst (λ (z : Response). RespondsSo c.on_reply.new.seat.events c.args.body z) (sym c.on_reply.ensures.response)
    (came_reached g.J.JournalId.bounds came c.args.body c.tell-told.new.self c.on_reply.new.seat
    c.on_reply.ensures.learns same)

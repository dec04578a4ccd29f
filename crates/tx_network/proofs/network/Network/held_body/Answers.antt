use Rattle.std.proofs.Common.{◌≡◌, Some, None, option_map, sym, ap, subst, ◌∙◌}
use Rattle.tx_journal.specs.Replies.{Asked}
use Rattle.tx_network.specs.Networks.{NetworkParts, body_at, requests}
use Rattle.tx_network.proofs.HeldRequests.{request_of}
use Rattle.tx_network.proofs.network.Network.held_body.Goals as goal

pub returns-in-Some : goal.returns-in-Some
returns-in-Some g c =
    let held = c.self.inside.held in
    let name = c.args.name.now in
    subst (λ (d : NetworkParts). Some c.body.result.now ≡ body_at d.held name) c.self.view_is
    (ap Some c.body.ensures.body
    ∙ ap (option_map (λ (r : Asked). r.body)) (c.in-Some.ensures.value ∙ sym (request_of held name)))

pub returns-in-None : goal.returns-in-None
returns-in-None g c =
    let held = c.self.inside.held in
    let name = c.args.name.now in
    subst (λ (d : NetworkParts). None ≡ body_at d.held name) c.self.view_is
    (ap (option_map (λ (r : Asked). r.body)) (c.in-None.ensures.value ∙ sym (request_of held name)))

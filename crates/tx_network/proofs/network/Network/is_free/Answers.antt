use Rattle.std.proofs.Common.{◌≡◌, ◌&&◌, not, is_some, sym, ap, subst, ◌∙◌}
use Rattle.tx_types.specs.Names.{is_name}
use Rattle.tx_network.specs.Networks.{NetworkParts, body_at, requests}
use Rattle.tx_network.proofs.HeldRequests.{in_use}
use Rattle.tx_network.proofs.network.Network.is_free.Goals as goal

pub returns-then-is_name : goal.returns-then-is_name
returns-then-is_name g c =
    let held = c.self.inside.held in
    let name = c.args.name.now in
    subst (λ (d : NetworkParts). not c.contains_key.result
    ≡ (is_name name && not (is_some (body_at d.held name)))) c.self.view_is
    (ap not (c.contains_key.ensures ∙ sym (in_use held name))
    ∙ ap (λ b. b && not (is_some (body_at (requests held.entries) name))) c.if-is_name.ensures)

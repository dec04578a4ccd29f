use Rattle.std.proofs.Common.{◌≡◌, length, nat_le, sym, ap, subst, ◌∙◌}
use Rattle.tx_types.specs.declared.limits.TheConstants.{MAX_HELD_REQUESTS}
use Rattle.tx_network.specs.Networks.{NetworkParts}
use Rattle.tx_network.proofs.HeldRequests.{length_requests}
use Rattle.tx_network.proofs.network.Network.is_full.Goals as goal

pub returns : goal.returns
returns g c =
    let held = c.self.inside.held in
    subst (λ (d : NetworkParts). nat_le MAX_HELD_REQUESTS c.len.result
    ≡ nat_le MAX_HELD_REQUESTS (length d.held)) c.self.view_is
    (ap (nat_le MAX_HELD_REQUESTS) (c.len.ensures.len ∙ sym (length_requests held.entries)))

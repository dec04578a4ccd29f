use Rattle.std.proofs.Common.{subst}
use Rattle.tx_journal.specs.Replies.{Asked}
use Rattle.tx_network.specs.Networks.{NetworkParts, Hands, region_for}
use Rattle.tx_network.proofs.network.Network.take.Goals as goal

pub returns : goal.returns
returns g c =
    subst (λ (x : NetworkParts × Asked). Hands (region_for g.J.JournalId.bounds x.1.body) x.0 c.take_in.new.self x.1
    c.take_in.new.place)
    (λ i. (c.newest-told.ensures.same i, c.new-reply.ensures.0 i)) c.take_in.ensures

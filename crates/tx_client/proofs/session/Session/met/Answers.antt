use Rattle.std.proofs.Common.{◌∙◌, sym, subst}
use Rattle.tx_core.specs.Histories.{History}
use Rattle.tx_client.specs.Facts.{WasMet}
use Rattle.tx_client.proofs.session.Session.met.Goals as goal

pub new-requires : goal.new-requires
new-requires g c =
    let info = c.in-Some.info in
    subst (λ (h : History). WasMet h info) (sym c.tell-told.ensures.told)
    (c.self.invariant.1.met info (sym c.in_ok-info.ensures.ok ∙ c.in-Some.is))

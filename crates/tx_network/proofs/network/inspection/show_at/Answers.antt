use Rattle.std.proofs.Common.{sym, subst}
use Rattle.std.specs.Prelude.{IfOk}
use Rattle.tx_cells.specs.Copies.{Copies}
use Rattle.tx_core.specs.Histories.{History, Begins, left}
use Rattle.tx_journal.specs.Known.{Known}
use Rattle.tx_network.specs.Networks.{Showed}
use Rattle.tx_network.proofs.ShownKeys.{showed_by}
use Rattle.tx_network.proofs.network.inspection.show_at.Goals as goal

pub returns : goal.returns
returns g c =
    let k = c.args.region.now in
    let n = c.args.newest.now in
    let l = c.learn.new.self in
    let key = c.args.key.now in
    let copied = c.cells_of.result in
    let knows = subst (λ h. Begins h l.events) c.copy-told.ensures.copy c.learn.ensures.told in
    let copies = subst (λ (x : Known). IfOk copied (λ copy. Copies ((left x.events x.seat).cells key) copy))
    c.tell.ensures.same c.cells_of.ensures.copies in
    subst (λ (p : Known × History). Showed k n key copied p.0 p.1)
    (λ i. (sym c.tell.ensures.same i, sym c.tell.ensures.told i))
    (showed_by k l n key copied c.learn.ensures.same.0 c.learn.ensures.own knows copies)

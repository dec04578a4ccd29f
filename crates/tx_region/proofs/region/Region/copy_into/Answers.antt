use Rattle.std.proofs.Common.{◌≡◌, sym, ap, subst, ◌∙◌}
use Rattle.std.specs.Prelude.{IsSomeAnd, OnOk}
use Rattle.tx_plan.specs.declared.body.Body.{Body}
use Rattle.tx_core.specs.Histories.{History}
use Rattle.tx_journal.specs.Replies.{Given}
use Rattle.tx_region.specs.Copies.{IsOfKey}
use Rattle.tx_region.specs.KeyPlans.{IsCopyFor}
use Rattle.tx_region.proofs.region.Region.copy_into.Goals as goal

pub copy_after-requires : goal.copy_after-requires
copy_after-requires g c = subst IsOfKey
    (sym (c.body.ensures.body ∙ ap (λ (r : Given). r.request.body) c.tell_asked-heard.ensures.same)) c.requires

pub returns-clause-copy : goal.returns-clause-copy
returns-clause-copy g c =
    let after = c.copy_after in
    let tell = c.tell_asked-heard.ensures in
    let heard : c.tell_asked-heard.result ≡ c.tell_asked-heard.new.self.request.by = tell.told
    ∙ ap (λ (r : Given). r.request.by) (sym tell.same) in
    subst (λ (x : History × Body). OnOk after.result (IsSomeAnd after.new.attempt.copy
    (λ copy. IsCopyFor (record { by = x.0; body = x.1 }) copy
    × (copy.region ≡ after.new.self.seat) × (copy.events ≡ after.new.self.events))))
    (λ i. (heard i, c.body.ensures.body i)) after.ensures.copy

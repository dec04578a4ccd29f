use Rattle.std.proofs.Common.{◌≡◌, sym, ap, subst, ◌∙◌}
use Rattle.std.specs.Prelude.{IsSomeAnd}
use Rattle.tx_plan.specs.declared.body.Body.{Body}
use Rattle.tx_core.specs.Histories.{History}
use Rattle.tx_journal.specs.Replies.{Asked}
use Rattle.tx_region.specs.Attempts.{no_copy}
use Rattle.tx_region.specs.Copies.{IsOfKey}
use Rattle.tx_region.specs.KeyPlans.{IsCopyFor}
use Rattle.tx_region.proofs.Attempts.{there_is, unwrapped}
use Rattle.tx_region.proofs.region.Region.copy_key.Goals as goal

pub copy_after-requires : goal.copy_after-requires
copy_after-requires g c = subst IsOfKey
    (sym (c.body.ensures.body ∙ ap (λ (r : Asked). r.body) c.tell-heard.ensures.same)) c.requires

pub invariant_of-result : goal.invariant_of-result
invariant_of-result g c = there_is _ c.copy_after.new.attempt.copy c.in_ok-copy_after.ensures.copy

pub returns-clause-copy : goal.returns-clause-copy
returns-clause-copy g c =
    let now = c.copy_after.new.self in
    let tell = c.tell-heard.ensures in
    let heard : c.tell-heard.result ≡ c.args.request.now.by = tell.told in
    let asks : c.body.result.now ≡ c.args.request.now.body = c.body.ensures.body
    ∙ ap (λ (r : Asked). r.body) tell.same in
    unwrapped (λ copy. IsCopyFor c.args.request.now copy × (copy.region ≡ now.seat) × (copy.events ≡ now.events))
    c.copy_after.new.attempt.copy no_copy
    (subst (λ (x : History × Body). IsSomeAnd c.copy_after.new.attempt.copy
    (λ copy. IsCopyFor (record { by = x.0; body = x.1 }) copy × (copy.region ≡ now.seat) × (copy.events ≡ now.events)))
    (λ i. (heard i, asks i)) c.in_ok-copy_after.ensures.copy)

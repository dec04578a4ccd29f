use Rattle.std.proofs.Common.{sym, subst}
use Rattle.tx_plan.specs.declared.body.Body.{Body}
use Rattle.tx_region.specs.declared.copy.KeyView.{KeyView}
use Rattle.tx_region.specs.Copies.{LooksLike, IsPlan}
use Rattle.tx_region.proofs.Copies.{get_plan}
use Rattle.tx_region.proofs.copy_plan.plan.Goals as goal

pub take_read-requires : goal.take_read-requires
take_read-requires c =
    let region = c.requires.seen.0 in
    let looks = subst (λ (b : Body). LooksLike region b c.args.view.now c.args.numbers.now) c.in-Get.is
    c.requires.seen.1 in
    (region.cells c.in-Get.body.key, (c.in-Get.body.at, looks.sees))

pub returns-in-Get : goal.returns-in-Get
returns-in-Get c = λ region looks.
    let arm = c.in-Get in
    let e = c.plan_get.ensures in
    let same = subst (λ (x : Body × KeyView). LooksLike region x.0 x.1 c.args.numbers.now)
    (λ i. (arm.is i, c.take_read.ensures i)) looks in
    subst (λ (b : Body). IsPlan c.args.loaded.now.mark region c.args.loaded.now.last b c.plan_get.result) (sym arm.is)
    (get_plan c.args.loaded.now.mark c.args.loaded.now.last region c.args.numbers.now c.plan_get.result arm.body
    c.take_read.result same e.answers e.leaves e.same)

use Rattle.std.proofs.Common.{◌≡◌, All, refl, sym, subst, ap, ◌∙◌, map}
use Rattle.std.proofs.lemmas.List.Elements.{All-push}
use Rattle.tx_workload.proofs.LineOrder.{entered}
use Rattle.tx_workload.proofs.write.enter.Goals as goal

pub loop-reply-preserved : goal.loop-reply-preserved
loop-reply-preserved c =
    let items = c.in_ok-push.ensures.items in
    let before = c.loop-reply.invariant in
    record {
      numbers = subst (All (λ p. p.0 ≡ p.1.now.number)) (sym items)
          (All-push (λ p. p.0 ≡ p.1.now.number) c.loop-reply.lines.items _ before.numbers refl);
      lines = ap (map (λ p. p.1.now)) items
          ∙ entered (λ p. p.0) (λ p. p.1.now) c.loop-reply.lines.items _ (map (λ p. p.1.now) c.args.lines.now.items)
          c.args.replies.now c.loop-reply.reply-index c.loop-reply-test.true before.lines c.reply-item.is;
    }

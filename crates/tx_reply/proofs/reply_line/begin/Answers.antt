use Rattle.std.proofs.Common.{◌≡◌, ◌∷◌, [], refl, sym, ap, subst, ◌∙◌, IfSome}
use Rattle.std.specs.Prelude.{decimal}
use Rattle.tx_reply.proofs.reply_line.begin.Goals as goal

pub returns-then-count_up : goal.returns-then-count_up
returns-then-count_up c =
    let is = c.if-is_next.ensures refl in
    let there : c.args.text.now.items ≡ 91 ∷ decimal is.0 =
    subst (λ o. IfSome o (λ n. c.args.text.now.items ≡ 91 ∷ decimal n)) is.1 c.requires in
    c.if-count_up.ensures.up refl (91 ∷ []) is.0 is.3 there ∙ ap (λ n. 91 ∷ decimal n) (sym is.2)

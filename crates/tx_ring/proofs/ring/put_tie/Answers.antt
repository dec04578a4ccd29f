use Rattle.std.proofs.Common.{◌++◌, codes, ap, ◌∙◌}
use Rattle.std.specs.Prelude.{decimal}
use Rattle.tx_ring.specs.Markup.{marked}
use Rattle.tx_ring.specs.Rings.{high_of, tip_text, word_text}
use Rattle.tx_ring.proofs.Pieces.{after, on_so}
use Rattle.tx_ring.proofs.ring.put_tie.Goals as goal

pub returns : goal.returns
returns c =
    let start = codes "<g><title>" in
    let shown = marked c.args.shown.now in
    let titled = codes "</title>\n" in
    let label = word_text c.args.rows (codes "kind") 22 c.args.label.now in
    let sense = word_text c.args.rows (codes "small") 37 c.args.sense.now in
    let path = codes "<path d=\"M88 " in
    let high = decimal (high_of c.args.rows) in
    let tip = tip_text c.args.tie in
    let end = codes "\"/></g></g>\n" in
    on_so c.put-5.result c.put-5.ensures (λ e.
    after c.args.out.now.items start (shown ++ (titled ++ (label ++ (sense ++ (path ++ (high ++
    (tip ++ end))))))) c.in_ok-put.ensures
    (after c.put.new.out.items shown (titled ++ (label ++ (sense ++ (path ++ (high ++ (tip ++ end))))))
    c.in_ok-put_text.ensures
    (after c.put_text.new.out.items titled (label ++ (sense ++ (path ++ (high ++ (tip ++ end)))))
    c.in_ok-put-2.ensures
    (after c.put-2.new.out.items label (sense ++ (path ++ (high ++ (tip ++ end)))) c.in_ok-put_word.ensures
    (after c.put_word.new.out.items sense (path ++ (high ++ (tip ++ end))) c.in_ok-put_word-2.ensures
    (after c.put_word-2.new.out.items path (high ++ (tip ++ end)) c.in_ok-put-3.ensures
    (after c.put-3.new.out.items high (tip ++ end) c.in_ok-put_high.ensures
    (after c.put_high.new.out.items tip end (c.in_ok-put-4.ensures ∙ ap
    (λ w. c.put_high.new.out.items ++ w) c.tip_of.ensures) e))))))))

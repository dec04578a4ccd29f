use Rattle.std.proofs.Common.{◌++◌, codes, ap, ◌∙◌}
use Rattle.tx_acts.specs.Ops.{did_words, found_text, found_by}
use Rattle.tx_ring.proofs.Pieces.{after, on_so}
use Rattle.tx_acts.proofs.ops.put_read.Goals as goal

pub returns : goal.returns
returns c =
    let h = c.args.history.now in
    let did = did_words h (codes "read ") c.args.key in
    on_so c.put_found.result c.put_found.ensures (λ e.
    after c.args.out.now.items did (found_text h (found_by h c.args.span)) c.in_ok-put_did.ensures
    (e ∙ ap (λ vs. c.put_did.new.out.items ++ found_text h vs) c.found_by.ensures))

use Rattle.std.proofs.Common.{◌++◌}
use Rattle.std.proofs.Common.{Some}
use Rattle.tx_acts.specs.About.{line_word}
use Rattle.tx_acts.specs.Shown.{did_text, other_text}
use Rattle.tx_ring.proofs.Pieces.{after, on_so}
use Rattle.tx_acts.proofs.evidence.put_read_shown.Goals as goal

pub returns : goal.returns
returns c =
    let h = c.args.history.now in
    let f = c.args.fact in
    let line = line_word f.txn in
    let did = did_text h f.txn (Some f.key) in
    let other = other_text h f.key f.by in
    on_so c.put_other.result c.put_other.ensures (λ e.
    after c.args.out.now.items line (did ++ other) c.in_ok-put_line.ensures
    (after c.put_line.new.out.items did other c.in_ok-put_with.ensures e))

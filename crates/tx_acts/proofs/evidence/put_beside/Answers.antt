use Rattle.std.proofs.Common.{◌++◌, codes}
use Rattle.std.proofs.Common.{Some}
use Rattle.tx_acts.specs.About.{line_word}
use Rattle.tx_acts.specs.Shown.{did_text}
use Rattle.tx_ring.proofs.Pieces.{after, on_so}
use Rattle.tx_acts.proofs.evidence.put_beside.Goals as goal

pub returns : goal.returns
returns c =
    let between = codes "; " in
    let line = line_word c.args.txn in
    let did = did_text c.args.history.now c.args.txn (Some c.args.key) in
    on_so c.put_with.result c.put_with.ensures (λ e.
    after c.args.out.now.items between (line ++ did) c.in_ok-extend_from_slice.ensures.items
    (after c.extend_from_slice.new.self.items line did c.in_ok-put_line.ensures e))

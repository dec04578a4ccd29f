use Rattle.std.proofs.Common.{◌++◌, codes}
use Rattle.tx_acts.specs.About.{line_word}
use Rattle.tx_acts.specs.Shown.{first_text, second_text}
use Rattle.tx_ring.proofs.Pieces.{after, on_so}
use Rattle.tx_acts.proofs.evidence.put_shown.Goals as goal

pub returns : goal.returns
returns c =
    let h = c.args.history.now in
    let s = c.args.step in
    let line = line_word s.from in
    let one = first_text h s.edge s.from s.key in
    let between = codes "; " in
    let next = line_word s.to in
    let other = second_text h s.edge s.to s.key in
    on_so c.put_second.result c.put_second.ensures (λ e.
    after c.args.out.now.items line (one ++ (between ++ (next ++ other))) c.in_ok-put_line.ensures
    (after c.put_line.new.out.items one (between ++ (next ++ other)) c.in_ok-put_first.ensures
    (after c.put_first.new.out.items between (next ++ other) c.in_ok-extend_from_slice.ensures.items
    (after c.extend_from_slice.new.self.items next other c.in_ok-put_line-2.ensures e))))

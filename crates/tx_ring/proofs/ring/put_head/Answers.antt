use Rattle.std.proofs.Common.{◌++◌, codes}
use Rattle.tx_ring.specs.Rings.{size_text, looks_text}
use Rattle.tx_ring.proofs.Pieces.{after, on_so}
use Rattle.tx_ring.proofs.ring.put_head.Goals as goal

pub returns : goal.returns
returns c =
    let start = codes "<svg xmlns=\"http://www.w3.org/2000/svg\" viewBox=\"0 0 " in
    let box = size_text c.args.reach (codes " ") c.args.rows c.args.count in
    let between = codes "\" width=\"" in
    let size = size_text c.args.reach (codes "\" height=\"") c.args.rows c.args.count in
    let looks = looks_text c.args.subject c.args.title.now in
    on_so c.put_looks.result c.put_looks.ensures (λ e.
    after c.args.out.now.items start (box ++ (between ++ (size ++ looks))) c.in_ok-put.ensures
    (after c.put.new.out.items box (between ++ (size ++ looks)) c.in_ok-put_size.ensures
    (after c.put_size.new.out.items between (size ++ looks) c.in_ok-put-2.ensures
    (after c.put-2.new.out.items size looks c.in_ok-put_size-2.ensures e))))

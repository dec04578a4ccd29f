use Rattle.std.proofs.Common.{◌+◌, ◌-◌, ◌++◌, codes}
use Rattle.std.specs.Prelude.{decimal}
use Rattle.tx_ring.specs.Rings.{high_of, top_of}
use Rattle.tx_ring.proofs.Pieces.{after, on_so}
use Rattle.tx_ring.proofs.ring.put_end.Goals as goal

pub returns : goal.returns
returns c =
    let start = codes "<g class=\"" in
    let kind = c.args.kind.now in
    let path = codes "\"><path d=\"M144 " in
    let bottom = decimal (top_of c.args.rows (c.args.count - 1) + high_of c.args.rows) in
    let end = codes "v42H30V92h24m-8 -5l8 5l-8 5\"/></g>\n</svg>\n" in
    on_so c.put-4.result c.put-4.ensures (λ e.
    after c.args.out.now.items start (kind ++ (path ++ (bottom ++ end))) c.in_ok-put.ensures
    (after c.put.new.out.items kind (path ++ (bottom ++ end)) c.in_ok-put-2.ensures
    (after c.put-2.new.out.items path (bottom ++ end) c.in_ok-put-3.ensures
    (after c.put-3.new.out.items bottom end c.in_ok-put_bottom.ensures e))))

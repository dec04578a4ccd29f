use Rattle.std.proofs.Common.{◌++◌, codes}
use Rattle.std.specs.Prelude.{decimal}
use Rattle.tx_text.proofs.Texts.{if_ok}
use Rattle.tx_ring.proofs.Pieces.{after}
use Rattle.tx_acts.proofs.transaction.put_part.Goals as goal

pub returns : goal.returns
returns c =
    let comma = codes ", " in
    let shown = decimal c.args.shown in
    let within = codes " of " in
    let all = decimal c.args.all in
    let words = codes " operations" in
    if_ok c.extend_from_slice-3.result _ _ _ c.extend_from_slice-3.ensures.items (λ e.
    after c.args.out.now.items comma (shown ++ (within ++ (all ++ words))) c.in_ok-extend_from_slice.ensures.items
    (after c.extend_from_slice.new.self.items shown (within ++ (all ++ words)) c.in_ok-put_count.ensures
    (after c.put_count.new.out.items within (all ++ words) c.in_ok-extend_from_slice-2.ensures.items
    (after c.extend_from_slice-2.new.self.items all words c.in_ok-put_count-2.ensures e))))

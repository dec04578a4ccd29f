use Rattle.std.proofs.Common.{◌++◌, ap, ◌∙◌}
use Rattle.tx_diagram.specs.Pictures.{keys_of, rows_of, ringed_text}
use Rattle.tx_ring.proofs.Pieces.{on_so}
use Rattle.tx_diagram.proofs.picture.put_picture.Goals as goal

pub returns : goal.returns
returns c =
    let h = c.args.history.now in
    let steps = c.args.steps.now in
    let name = c.args.title.now in
    let old = c.args.out.now.items in
    let same = c.as_slice-keys.ensures.value ∙ c.in_ok-found.ensures in
    on_so c.put_ringed.result c.put_ringed.ensures (λ e.
    e ∙ ap (λ k. old ++ ringed_text h name k c.in_ok-rows.rows steps) same
    ∙ ap (λ r. old ++ ringed_text h name (keys_of steps) r steps)
    (c.in_ok-rows.ensures ∙ ap (λ k. rows_of h k steps) same))

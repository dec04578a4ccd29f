use Rattle.std.proofs.Common.{◌++◌, ap, ◌∙◌}
use Rattle.tx_verdict_text.specs.Words.{cycle_word}
use Rattle.tx_diagram.specs.Pictures.{picture_of}
use Rattle.tx_diagram.proofs.picture.cycle_picture.Goals as goal

pub returns : goal.returns
returns c =
    let h = c.args.history.now in
    c.in_ok-put_picture.ensures
    ∙ ap (λ t. t ++ picture_of h c.as_bytes-title.result.now c.as_slice.result.now) c.new-out.ensures.items
    ∙ ap (λ n. picture_of h n c.as_slice.result.now) (c.as_bytes-title.ensures.value ∙ c.cycle_word.ensures)
    ∙ ap (λ steps. picture_of h (cycle_word c.args.cycle.now) steps) c.as_slice.ensures.value

use Rattle.std.proofs.Common.{◌++◌, ◌+◌, take, ap, ◌∙◌}
use Rattle.tx_text.specs.Members.{reply_text}
use Rattle.tx_script.specs.Play.{render}
use Rattle.tx_film.specs.declared.frame.Frame.{Frame}
use Rattle.tx_film.specs.Films.{words_of, replies_from}
use Rattle.tx_page.proofs.Told.{told_more}
use Rattle.tx_page.proofs.lines.told_of.Goals as goal

pub loop-place-preserved : goal.loop-place-preserved
loop-place-preserved c =
    let fs = c.args.frames.now in
    let at = c.loop-place.place in
    let f = c.index-frames-place.result in
    c.in_ok-put_told.ensures ∙ ap (λ t. t ++ reply_text (at + 1, words_of f.reply)) c.loop-place.invariant
    ∙ ap (λ (g : Frame). render (replies_from 0 (take at fs)) ++ reply_text (at + 1, words_of g.reply))
    c.index-frames-place.is
    ∙ told_more fs at f c.loop-place-test.true

use Rattle.std.proofs.Common.{ap, sym, ◌∙◌, take, drop, ◌∷◌}
use Rattle.tx_text.specs.Lines.{lines_of}
use Rattle.tx_text.proofs.TextLines.{slice-end}
use Rattle.tx_film.proofs.FirstLines.{ended, last}
use Rattle.tx_film.proofs.lines.first_line.Goals as goal
use Rattle.tx_film.proofs.lines.first_line.Goals.{then-is_ended, else-is_ended}

pub returns-clause-lines : goal.returns-clause-lines
returns-clause-lines c =
    let text = c.args.text.now in
    let len = c.before_newline-len.result.0 in
    let next = c.if-is_ended.next in
    elim c.if-is_ended.branch [
      | then-is_ended w ↦
          let found = c.before_newline-len.ensures.found w.if-is_ended.true in
          ended text len found.0 c.before_newline-len.ensures.before found.1
          ∙ ap (λ r. take len text ∷ lines_of r) (sym (slice-end text next ∙ ap (λ k. drop k text) w.next-is))
      | else-is_ended w ↦
          last text len c.requires c.before_newline-len.ensures.before
          (c.before_newline-len.ensures.whole w.if-is_ended.false)
          ∙ ap (λ r. take len text ∷ lines_of r) (sym (slice-end text next ∙ ap (λ k. drop k text) w.next-is))
    ]

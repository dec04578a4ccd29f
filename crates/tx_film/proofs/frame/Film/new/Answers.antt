use Rattle.std.proofs.Common.{not, ap, ◌∙◌}
use Rattle.tx_film.specs.Films.{taken_in}
use Rattle.tx_film.proofs.Reels.{has_log}
use Rattle.tx_film.proofs.frame.Film.new.Goals as goal

pub returns : goal.returns
returns c =
    let h = has_log c.takings.result (λ ts. ts.now) c.args.trace.taken (λ t. t.takings.items) c.takings.ensures
    (c.is_none.ensures ∙ ap not c.if-is_none.false) in (
      h.0,
      h.1,
      ap (λ o. record {
        frames = c.args.frames.items;
        takings = taken_in o;
        steps = c.args.trace.steps;
        ended = c.args.end;
      }) h.1,
    )

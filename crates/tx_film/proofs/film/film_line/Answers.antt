use Rattle.std.proofs.Common.{◌<◌, ◌++◌, ◌∷◌, [], List, ℕ, sym, subst, arith}
use Rattle.tx_film.specs.declared.frame.Frame.{Frame}
use Rattle.tx_film.specs.Filmed.{Counted, HasFilmed, StopsAt}
use Rattle.tx_film.proofs.Reels.{filmed_on, stopped}
use Rattle.tx_film.proofs.film.film_line.Goals as goal

pub returns-in_ok-push-in-Ok-clause-goes : goal.returns-in_ok-push-in-Ok-clause-goes
returns-in_ok-push-in-Ok-clause-goes g c =
    let bounds = g.J.JournalId.bounds in
    let shown = c.args.keys.now in
    let line = c.args.line.now in
    let p = c.args.player.now in
    let mid = c.play.new.self in
    let q = c.frame_of.new.player in
    let before = c.args.frames.now.items in
    let number = rw c.in-Ok.is at c.in_ok-reply.ensures.counts in
    let plays = rw c.in-Ok.is at c.in_ok-reply.ensures.plays in
    let replied = rw c.in-Ok.is at c.in_ok-reply.ensures.replies in
    subst (λ (fs : List Frame). (lines : List (List ℕ)) → HasFilmed bounds shown lines before p
    → HasFilmed bounds shown (lines ++ line ∷ []) fs q) (sym c.in_ok-push-in-Ok.ensures.items)
    (filmed_on bounds shown line p mid q c.in_ok-reply.ensures.traced before c.in_ok-frame-in-Ok.frame c.in-Ok.reply
    c.in_ok-frame-in-Ok.ensures.reply c.requires.number number plays replied c.in_ok-frame-in-Ok.ensures.counted
    c.in_ok-frame-in-Ok.ensures.same c.in_ok-frame-in-Ok.ensures.shows)

pub returns-in_ok-push-in-Err-clause-stops : goal.returns-in_ok-push-in-Err-clause-stops
returns-in_ok-push-in-Err-clause-stops g c =
    let bounds = g.J.JournalId.bounds in
    let shown = c.args.keys.now in
    let line = c.args.line.now in
    let p = c.args.player.now in
    let mid = c.play.new.self in
    let before = c.args.frames.now.items in
    let frame = c.fault_frame.result in
    let some : 0 < p.left = omega (arith, c.requires.tries, c.requires.number, c.requires.player.few) in
    let as_before = rw c.in-Err.is at c.in_ok-reply.ensures.as_before in
    let faults = rw c.in-Err.is at c.in_ok-reply.ensures.faults in
    let stays = rw c.in-Err.is at c.in_ok-reply.ensures.stays in
    let counted : Counted p.engine.network frame.takings frame.steps =
    subst (λ n. Counted p.engine.network n frame.steps) (sym c.fault_frame.ensures.counts.0)
    (subst (λ n. Counted p.engine.network c.in_ok-takings.takings n) (sym c.fault_frame.ensures.counts.1)
    c.in_ok-takings.ensures) in
    subst (λ (fs : List Frame). (lines : List (List ℕ)) → HasFilmed bounds shown lines before p
    → StopsAt bounds shown lines before fs line c.in-Err.cause mid) (sym c.in_ok-push-in-Err.ensures.items)
    (stopped bounds shown line p mid mid c.in_ok-reply.ensures.traced before frame c.in-Err.cause
    c.fault_frame.ensures.reply c.requires.number as_before.0 some as_before.1 faults stays counted
    c.fault_frame.ensures.keys)

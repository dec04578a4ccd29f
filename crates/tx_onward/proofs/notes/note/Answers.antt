use Rattle.std.proofs.Common.{◌+◌, ◌<◌, ◌≤◌, sym, subst, arith}
use Rattle.tx_onward.specs.Tells.{tells}
use Rattle.tx_onward.proofs.Counts.{IsNoted, none_noted, next, all_noted}
use Rattle.tx_onward.proofs.Past.{past_untold}
use Rattle.tx_onward.proofs.notes.note.Goals as goal

pub loop-t-init : goal.loop-t-init
loop-t-init c = none_noted (tells c.args.recording.now c.args.verdict.now) c.args.told.now

pub loop-t-preserved : goal.loop-t-preserved
loop-t-preserved c =
    let f = tells c.args.recording.now c.args.verdict.now in
    let told = c.note_one-is_new.new.told in
    subst (λ b. IsNoted f c.args.told.now told b (c.loop-t.t + 1)) (sym c.either-is_any.ensures)
    (next f c.args.told.now c.loop-t.told told c.loop-t.is_more c.note_one-is_new.result c.loop-t.t c.loop-t.invariant
    (subst (λ n. c.loop-t.t < n) (sym c.loop-t.invariant.count) c.loop-t-test.true) c.note_one-is_new.ensures.yes
    c.note_one-is_new.ensures.no)

pub returns-clause-told : goal.returns-clause-told
returns-clause-told c =
    let end = c.loop-t-test.false in
    all_noted (tells c.args.recording.now c.args.verdict.now) c.args.told.now c.loop-t.told c.loop-t.is_more c.loop-t.t
    c.loop-t.invariant (omega (arith, end))
    (λ u le. past_untold c.args.recording.now c.args.verdict.now u (subst (λ n. n ≤ u) c.requires.count le))

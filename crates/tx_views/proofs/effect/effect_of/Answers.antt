-- One operation more.
use Rattle.std.proofs.Common.{sym, ap, ◌∙◌, get_or}
use Rattle.tx_recording.specs.Recordings.{no_op}
use Rattle.tx_recording.specs.Explanations.{act_on}
use Rattle.tx_views.specs.Views.{left_by}
use Rattle.tx_views.proofs.Effects.{after_more_same, after_more_other}
use Rattle.tx_views.proofs.effect.effect_of.Goals as goal
use Rattle.tx_views.proofs.effect.effect_of.Goals.{then-ops-i+in_ok-act_on, else-ops-i}

pub loop-i-preserved : goal.loop-i-preserved
loop-i-preserved c xs =
    let os = c.args.ops.now in
    let i = c.loop-i.i in
    elim c.if-ops-i.branch [
      | then-ops-i+in_ok-act_on w ↦ after_more_same os i c.args.key no_op xs c.loop-i-test.true w.if-ops-i.true
          ∙ ap (λ q. act_on (get_or os i no_op).act q) (c.loop-i.invariant xs)
          ∙ sym (w.in_ok-act_on.ensures xs) ∙ sym (ap (λ e. left_by e xs) w.effect-is)
      | else-ops-i w ↦ after_more_other os i c.args.key no_op xs c.loop-i-test.true w.if-ops-i.false
          ∙ c.loop-i.invariant xs ∙ sym (ap (λ e. left_by e xs) w.effect-is)
    ]

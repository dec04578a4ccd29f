-- A value that is put twice.
use Rattle.std.proofs.Common.{subst}
use Rattle.tx_views.specs.Owners.{IsOwned}
use Rattle.tx_judge.proofs.verdict.judge_owned.Goals as goal

pub returns-in-Twice : goal.returns-in-Twice
returns-in-Twice c =
    let t = c.in-Twice.twice in
    (t.first.place, t.second.place, subst (IsOwned c.args.recording.now) c.in-Twice.is c.requires.owned)

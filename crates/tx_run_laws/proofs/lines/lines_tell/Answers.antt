use Rattle.std.proofs.Common.{Some}
use Rattle.tx_run_laws.proofs.LineReplies.{line_tells, plays_tell}
use Rattle.tx_run_laws.proofs.lines.lines_tell.Goals as goal

pub returns : goal.returns
returns c = record {
  line = λ bounds text job from s to line named own. line_tells bounds (Some text) job from s to line named own;
  lines = λ bounds text job from last replies plays own entered.
      plays_tell bounds (Some text) job from last replies plays own entered;
}

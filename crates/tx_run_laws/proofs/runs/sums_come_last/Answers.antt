use Rattle.tx_run_laws.proofs.RunClauses.{run_sums, sums_tell}
use Rattle.tx_run_laws.proofs.runs.sums_come_last.Goals as goal

pub returns : goal.returns
returns c = record {
  played = λ text bounds h replies stages before total run begins played sums.
      run_sums text bounds h replies stages before total run begins played sums;
  told = sums_tell;
}

use Rattle.std.proofs.Common.{inl, inr}
use Rattle.tx_transfer.proofs.Steps.{refused_as}
use Rattle.tx_transfer.proofs.seeds.write.Goals as goal

pub returns-in_err-put-clause-writes : goal.returns-in_err-put-clause-writes
returns-in_err-put-clause-writes g c = inl (
  c.in_err-put.field-0.0,
  refused_as c.from_residual.result c.in_err-put.field-0.0
      c.from_residual.ensures.1,
  c.in_err-put.ensures.puts,
)

pub returns-clause-writes : goal.returns-clause-writes
returns-clause-writes g c = inr (_, c.in_ok-put.ensures.puts, c.commit.ensures.commits)

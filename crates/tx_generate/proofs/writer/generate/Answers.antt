use Rattle.std.proofs.Common.{[]}
use Rattle.std.proofs.KnownBytes.{Appends-nil}
use Rattle.tx_script.proofs.Players.{on_err_any}
use Rattle.tx_generate.proofs.Growth.{ends_none}
use Rattle.tx_generate.proofs.writer.generate.Goals as goal

-- nothing is written yet
pub returns-in_err-text-clause-breaks : goal.returns-in_err-text-clause-breaks
returns-in_err-text-clause-breaks g c = on_err_any _ c.from_residual.result (
  [],
  ends_none,
  (0, Appends-nil (g.W.Write.contents c.args.writer.now)),
)

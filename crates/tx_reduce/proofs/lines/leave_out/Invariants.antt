use Rattle.tx_reduce.proofs.lines.leave_out.Given as goal

abbrev pub decreases-chunks : goal.decreases-chunks
decreases-chunks g l = l.to

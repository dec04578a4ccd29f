use Rattle.std.proofs.Common.{◌≡◌, take}
use Rattle.tx_trace.proofs.taken_log.infos_of.Given as goal

abbrev pub invariant-infos : goal.invariant-infos
invariant-infos l = l.copy ≡ take l.info-index l.info-items

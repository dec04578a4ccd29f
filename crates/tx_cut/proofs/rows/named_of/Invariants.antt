use Rattle.std.proofs.Common.{◌≡◌, map, take}
use Rattle.tx_cut.specs.Parts.{is_named}
use Rattle.tx_cut.proofs.rows.named_of.Given as goal

abbrev pub invariant-sessions : goal.invariant-sessions
invariant-sessions l = l.named.items ≡ map (is_named l.names) (take l.session-index l.sessions)

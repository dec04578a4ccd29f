-- Past the last transaction nobody is told of.
use Rattle.std.proofs.Common.{◌≡◌, ℕ, ◌≤◌, false, ap}
use Rattle.std.specs.Prelude.{◌&&◌}
use Rattle.std.proofs.lemmas.List.{get_or_past}
use Rattle.tx_recording.specs.declared.recording.Recording.{Recording}
use Rattle.tx_recording.specs.Recordings.{txns_of, no_transaction}
use Rattle.tx_verdict.specs.declared.verdict.HistoryVerdict.{HistoryVerdict}
use Rattle.tx_onward.specs.Tells.{is_ok, is_of, tells}

pub past_untold : (r : Recording) (v : HistoryVerdict) (u : ℕ) → txns_of r ≤ u → tells r v u ≡ false
past_untold r v u le = ap (λ t. is_ok t.outcome && is_of r v u) (get_or_past r.transactions.items u no_transaction le)

use Rattle.std.specs.Prelude.{◌<◌, ◌≤◌, ◌+◌, vec_len}
use Rattle.tx_types.specs.declared.limits.TheConstants.{MAX_LINES}
use Rattle.tx_workload.specs.Scripts.{IsWithin}
use Rattle.tx_workload.specs.Readers.{HasSorted}
use Rattle.tx_workload.proofs.Sources.{SoFar, Stands}
use Rattle.tx_workload.proofs.script.read_script.Given as goal

abbrev pub invariant-loop-number : goal.invariant-loop-number
invariant-loop-number g l = record {
  within : IsWithin l.reading.script.bounds.items (vec_len l.reading.script.sessions);
  sorted : HasSorted g.L.Source.text l.number l.reading;
  stands : Stands g.L.Source.text (g.B.Read.remaining l.reader) l.number;
  so_far : SoFar g.L.Source.text l.number;
  fewer : vec_len l.reading.script.sessions < l.number;
  few : l.number ≤ MAX_LINES + 1;
}

use Rattle.std.proofs.Common.{◌≡◌, ◌++◌}
use Rattle.std.specs.List.{list_any}
use Rattle.tx_core.specs.Histories.{Begins}
use Rattle.tx_run.specs.Jobs.{AreJoined, Output}
use Rattle.tx_run.proofs.AllAnswers.{AreLeft}
use Rattle.tx_run.proofs.sessions.gather.Given as goal

abbrev pub invariant-loop-output : goal.invariant-loop-output
invariant-loop-output g l = record {
  left : AreLeft g.L.Source.text g.J.JournalId.bounds l.seat.events l.replies l.output-iterator.rest.items;
  split : l.fn.outputs.items ≡ l.yielded ++ l.output-iterator.rest.items;
  joined : AreJoined l.fn.replies l.seat.events l.replies l.yielded;
  grew : Begins l.fn.seat.events l.seat.events;
  faulted : l.faulted ≡ list_any (λ (o : Output). o.faulted) l.yielded;
}

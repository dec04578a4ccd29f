use Rattle.tx_run.specs.Played.{buffer_at}
use Rattle.std.proofs.Common.{◌≡◌, ◌∷◌, map, false, subst}
use Rattle.std.specs.Prelude.{reverse, IfSome}
use Rattle.tx_run.specs.Jobs.{Working}
use Rattle.tx_workload.specs.LineNumbers.{number_of}
use Rattle.tx_run.specs.States.{going_of, where_of}
use Rattle.tx_run.proofs.LinesLeft.{one_before, one_entered, one_own, owns_left, some_left, sound_left}
use Rattle.tx_run.proofs.job.ScriptJob.next_line.Goals as goal

pub invariant_of-self : goal.invariant_of-self
invariant_of-self g c =
    let old = c.self.inside.lines.items in
    let new = c.pop.new.self.items in
    let j : Working = record {
      number = c.self.inside.number;
      log = c.self.inside.log;
      going = going_of c.self.inside.state (λ transfer. transfer.value.number);
      left = map number_of (reverse old);
      stands = where_of c.self.inside.state (λ session. session.value) (λ transfer. transfer.value);
      faulted = c.self.inside.faulted;
    } in
    let buffer = buffer_at (where_of c.self.inside.state (λ session. session.value) (λ transfer. transfer.value)) in (
      sound_left number_of j old new c.pop.result c.pop.ensures.items c.self.invariant.0,
      owns_left number_of g.L.Source.text j.number old new buffer c.pop.result c.pop.ensures.items c.self.invariant.1,
    )

pub returns-clause-some : goal.returns-clause-some
returns-clause-some g c =
    let old = c.self.inside.lines.items in
    let new = c.pop.new.self.items in
    let j : Working = record {
      number = c.self.inside.number;
      log = c.self.inside.log;
      going = going_of c.self.inside.state (λ transfer. transfer.value.number);
      left = map number_of (reverse old);
      stands = where_of c.self.inside.state (λ session. session.value) (λ transfer. transfer.value);
      faulted = c.self.inside.faulted;
    } in
    subst (λ (w : Working). IfSome c.pop.result (λ line.
    (w ≡ record j { left = number_of line ∷ map number_of (reverse new) }) × (j.faulted ≡ false))) c.self.view_is
    (some_left number_of j old new c.pop.result c.pop.ensures.items c.self.invariant.0)

pub returns-clause-own : goal.returns-clause-own
returns-clause-own g c =
    one_own number_of g.L.Source.text c.self.inside.number c.self.inside.lines.items c.pop.new.self.items c.pop.result
    c.pop.ensures.items c.self.invariant.1.lines

pub returns-clause-later : goal.returns-clause-later
returns-clause-later g c =
    one_before number_of g.L.Source.text c.self.inside.number c.self.inside.lines.items c.pop.new.self.items
    c.pop.result
    c.pop.ensures.items c.self.invariant.1.lines

pub returns-clause-entered : goal.returns-clause-entered
returns-clause-entered g c =
    one_entered number_of g.L.Source.text c.self.inside.number c.self.inside.lines.items c.pop.new.self.items
    (buffer_at (where_of c.self.inside.state (λ session. session.value) (λ transfer. transfer.value))) c.pop.result
    c.pop.ensures.items
    c.self.invariant.1.entered

use Rattle.std.proofs.Common.{◌≡◌, Some, None, sym, subst}
use Rattle.tx_flat.specs.Positions.{Locks, coming, IsPosition, Passes}
use Rattle.tx_flat.proofs.Positions.{coming_is}
use Rattle.tx_flat.proofs.PassedKeys.{locked_place, locked_passes}
use Rattle.tx_flat.proofs.walks.FlatReads.pass_locked.Goals as goal

pub invariant_of-self : goal.invariant_of-self
invariant_of-self c =
    let flat = c.args.self.now.cells.now in
    let ls = c.args.self.now.locks in
    let ws = coming c.args.write c.args.self.now.writes in
    let now : coming c.next-self.result c.next-self.new.self ≡ ls =
    coming_is ls c.next-self.new.self c.next-self.result c.next-self.ensures.steps in
    record {
      slot = subst (λ (es : Locks). IsPosition flat es ws) (sym now)
          (locked_place flat c.args.held.0.now c.args.held.1.now ls ws c.requires.slot c.requires.first);
    }

pub returns-clause-passes : goal.returns-clause-passes
returns-clause-passes c = λ at.
    let flat = c.args.self.now.cells.now in
    let ls = c.args.self.now.locks in
    let ws = coming c.args.write c.args.self.now.writes in
    let now : coming c.next-self.result c.next-self.new.self ≡ ls =
    coming_is ls c.next-self.new.self c.next-self.result c.next-self.ensures.steps in
    subst (λ (es : Locks). Passes flat at c.args.held.0.now (record { lock = Some c.lock_head_of.result; value = None })
    es ws) (sym now)
    (locked_passes flat c.args.held.0.now c.args.held.1.now ls ws c.requires.slot c.requires.first c.lock_head_of.result
    c.lock_head_of.ensures at)

use Rattle.std.proofs.Common.{Some, sym, ap, ◌∙◌}
use Rattle.tx_types.specs.declared.lock.LockRec.{LockRec}
use Rattle.tx_plan.specs.declared.key_change.KeyChange.TheVariants as change
use Rattle.tx_cells.specs.Afterwards.{after, with_lock, with_min}
use Rattle.tx_nested.specs.Nested.{held}
use Rattle.tx_cells.proofs.Facts.{stays_whole}
use Rattle.tx_cells.proofs.WholeAfter.{whole_after, on_same}
use Rattle.tx_nested.proofs.key.KeyFamilies.set_minimum.Goals as goal

pub invariant_of-self : goal.invariant_of-self
invariant_of-self c =
    let x = held c.args.self.now in
    record {
      whole = stays_whole x (after x (change.Minimum c.args.min)) _ c.args.self.now.whole
          (λ w. whole_after x (change.Minimum c.args.min) w c.requires tt)
          (ap (λ (rec : LockRec). with_lock x (Some rec)) c.set_min.ensures
          ∙ sym (on_same x c.in-Some.lock (λ (rec : LockRec). with_lock x (Some (with_min rec c.args.min)))
          c.in-Some.is));
    }

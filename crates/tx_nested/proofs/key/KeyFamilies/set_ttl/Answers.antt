use Rattle.std.proofs.Common.{Some, sym, ap, ◌∙◌}
use Rattle.tx_types.specs.declared.lock.LockRec.{LockRec}
use Rattle.tx_plan.specs.declared.key_change.KeyChange.TheVariants as change
use Rattle.tx_cells.specs.Afterwards.{after, with_lock, with_ttl}
use Rattle.tx_nested.specs.Nested.{held}
use Rattle.tx_cells.proofs.Facts.{stays_whole}
use Rattle.tx_cells.proofs.WholeAfter.{whole_after, on_same}
use Rattle.tx_nested.proofs.key.KeyFamilies.set_ttl.Goals as goal

pub invariant_of-self : goal.invariant_of-self
invariant_of-self c =
    let x = held c.args.self.now in
    record {
      whole = stays_whole x (after x (change.Ttl c.args.ttl)) _ c.args.self.now.whole
          (λ w. whole_after x (change.Ttl c.args.ttl) w c.requires tt)
          (ap (λ (rec : LockRec). with_lock x (Some rec)) c.set_ttl.ensures
          ∙ sym (on_same x c.in-Some.lock (λ (rec : LockRec). with_lock x (Some (with_ttl rec c.args.ttl)))
          c.in-Some.is));
    }

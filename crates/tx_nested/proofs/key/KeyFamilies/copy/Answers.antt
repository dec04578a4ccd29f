use Rattle.std.proofs.Common.{List, ℕ, sym, subst}
use Rattle.std.specs.Prelude.{Contains}
use Rattle.tx_nested.specs.Nested.{held}
use Rattle.tx_cells.specs.Copies.{AreFalling}
use Rattle.tx_cells.proofs.Copied.{copied}
use Rattle.tx_cells.proofs.EntryOrder.{starts_fall, starts_shown, starts_all}
use Rattle.tx_cells.proofs.Facts.{fitting}
use Rattle.tx_nested.proofs.key.KeyFamilies.copy.Goals as goal

pub records_down-requires : goal.records_down-requires
records_down-requires c = fitting (held c.args.self.now) c.args.self.now.whole

pub returns-clause-copies : goal.returns-clause-copies
returns-clause-copies c =
    let key = c.args.self.now in
    let values = key.values.entries in
    let starts = c.in_ok-values.ensures.ok in
    copied (held key) (record {
      lock = c.lock_head-lock.result;
      records = c.in_ok-records.records;
      values =
          c.in_ok-values.values;
    }) key.whole c.lock_head-lock.ensures
    c.in_ok-records.ensures.fall c.in_ok-records.ensures.all
    (subst AreFalling (sym starts) (starts_fall values c.starts.ensures.ordered))
    (λ t. (
      λ has. starts_shown values c.starts.ensures.ordered t (subst (λ (w : List ℕ). Contains w t) starts has),
      λ is. subst (λ (w : List ℕ). Contains w t) (sym starts) (starts_all values t is),
    ))

use Rattle.std.proofs.Common.{sym, subst, ◌∙◌, ℕ, Option}
use Rattle.std.specs.BTreeMap as tree
use Rattle.std.specs.Ordering.{nat_cmp}
use Rattle.tx_types.specs.declared.value.Value.{Value}
use Rattle.tx_cells.specs.Contents.{IsWhole}
use Rattle.tx_cells.specs.Afterwards.{put_on}
use Rattle.tx_nested.specs.Nested.{held}
use Rattle.tx_cells.proofs.Facts.{stays_whole}
use Rattle.tx_nested.proofs.NestedMaps.{on_key, same_gets, put_is, value_put, value_not_put}
use Rattle.tx_cells.proofs.WholeAfter.{whole_put}
use Rattle.tx_nested.proofs.key.KeyFamilies.put_lock.Goals as goal

pub invariant_of-self : goal.invariant_of-self
invariant_of-self c =
    let key = c.args.self.now in
    record {
      whole = subst (λ (f : ℕ → Option Value). ∥ IsWhole (on_key key.lock (tree.get nat_cmp key.writes) f) ∥₁)
          (sym (same_gets key.values c.insert.new.self c.in_err-insert-in-Some.ensures.err)) key.whole;
    }

pub invariant_of-self-in-Some : goal.invariant_of-self-in-Some
invariant_of-self-in-Some c =
    let key = c.args.self.now in
    let b = c.args.body.now in
    let apart = sym c.in_ok-value.ensures.ok ∙ c.in-Some.is in
    let is = put_is (held key) b c.args.new c.in_ok-rec.rec (tree.get nat_cmp c.insert.new.self) c.in_ok-rec.ensures.ok
    (value_put (tree.get nat_cmp key.values) (tree.get nat_cmp c.insert.new.self) b.start _ c.in-Some.value apart
    c.in_ok-insert-in-Some.ensures.updates.0) in
    record {
      whole = stays_whole (held key) (put_on (held key) b c.args.new) _ key.whole
          (λ w. whole_put (held key) b c.args.new w c.requires) is;
    }

pub invariant_of-self-in-None : goal.invariant_of-self-in-None
invariant_of-self-in-None c =
    let key = c.args.self.now in
    let b = c.args.body.now in
    let apart = sym c.in_ok-value.ensures.ok ∙ c.in-None.is in
    let is = put_is (held key) b c.args.new c.in_ok-rec.rec (tree.get nat_cmp key.values) c.in_ok-rec.ensures.ok
    (value_not_put (tree.get nat_cmp key.values) b.start _ apart) in
    record {
      whole = stays_whole (held key) (put_on (held key) b c.args.new) _ key.whole
          (λ w. whole_put (held key) b c.args.new w c.requires) is;
    }

use Rattle.std.proofs.Common.{◌≡◌, ap, subst, sym, ◌∙◌, List, Option, Some, None}
use Rattle.std.specs.Ordering.{nat_cmp}
use Rattle.std.specs.BTreeMap as tree
use Rattle.tx_types.specs.declared.mutation.Change.{Change}
use Rattle.tx_types.specs.declared.mutation.Fate.TheVariants.{Aborted}
use Rattle.tx_machine.specs.Machine.{Open, Done, with_row, changes_in}
use Rattle.tx_machine.specs.Representation.{version_of, row_of, TellsTable, IsKept}
use Rattle.tx_machine.proofs.CommitSteps.{no_fate}
use Rattle.tx_machine.proofs.Steps.{aborts}
use Rattle.tx_machine.proofs.machine.Machine.abort.Goals as goal

pub returns-clause-ok : goal.returns-clause-ok
returns-clause-ok c table tells =
    let begun = c.has_begun.ensures.some c.if-not-has_begun.false in
    let none : tree.get nat_cmp c.args.self.now.fates c.args.t ≡ None =
    no_fate _ _ c.if-is_some.ensures c.get.ensures.value in
    let row : table.row c.args.t ≡ Some record { changes = begun.0; state = Open } =
    tells.row c.args.t ∙ (ap (row_of (tree.get nat_cmp c.args.self.now.stages c.args.t)) none ∙ begun.1 None) in
    let made =
    aborts c.args.self.now.last (tree.get nat_cmp c.args.self.now.stages) (tree.get nat_cmp c.args.self.now.fates)
    (version_of c.args.self.now.index) (IsKept c.args.self.now.index c.args.self.now.reads) table tells
    c.args.t begun.0 row (tree.get nat_cmp c.insert.new.self) c.in_ok-insert.ensures.updates.0
    (begun.1 (Some Aborted)) in (
      made.0,
      subst
          (λ (cs : Option (List Change)).
          TellsTable c.args.self.now.last (tree.get nat_cmp c.args.self.now.stages) (tree.get nat_cmp c.insert.new.self)
          (version_of c.args.self.now.index) (IsKept c.args.self.now.index c.args.self.now.reads)
          (with_row table c.args.t cs (Done Aborted)))
          (sym (ap changes_in row)) made.1,
    )

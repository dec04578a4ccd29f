use Rattle.std.proofs.Common.{◌≡◌, ◌<◌, ◌≤◌, ◌+◌, sym, ap, subst, ◌∙◌, Some, None, arith, List}
use Rattle.std.specs.List.{Contains}
use Rattle.std.specs.Ordering.{nat_cmp}
use Rattle.std.specs.BTreeMap as tree
use Rattle.tx_types.specs.declared.mutation.Change.{Change}
use Rattle.tx_machine.specs.declared.machine.TxnStage.{TxnStage}
use Rattle.tx_machine.specs.declared.machine.TxnStage.TheVariants.{Declared}
use Rattle.tx_machine.specs.Keys.{mutation_at, IsDistinct}
use Rattle.tx_machine.specs.Representation.{Keeps, HasVersions, AddsInserts}
use Rattle.tx_machine.proofs.Commits.{on_err}
use Rattle.tx_machine.proofs.CommitSteps.{not_blocked, no_fate}
use Rattle.tx_machine.proofs.Distinct.{some_of, none_of}
use Rattle.tx_machine.proofs.CommitEnds.{kept_some, kept_all, done}
use Rattle.tx_machine.proofs.machine.Machine.commit.Goals as goal

pub returns-then-is_some-2-clause-refused : goal.returns-then-is_some-2-clause-refused
returns-then-is_some-2-clause-refused c e table tells may =
    let stage : tree.get nat_cmp c.args.self.now.stages c.args.t ≡ Some (Declared c.in-Some-Declared.set) =
    sym c.in-Some-Declared.ensures.value ∙ ap (λ (x : TxnStage). Some x) c.in-Some-Declared.field-0-is in
    let none : tree.get nat_cmp c.args.self.now.fates c.args.t ≡ None =
    no_fate _ _ c.if-is_some.ensures c.get-2.ensures.value in
    let b = some_of _ _ c.if-is_some-2.ensures c.first_block.ensures.blocked in
    not_blocked c.args.self.now.last (tree.get nat_cmp c.args.self.now.stages) c.args.self.now.fates
    c.args.self.now.index c.args.self.now.reads table tells
    c.args.t c.args.c c.in-Some-Declared.set stage none b.0.0.now b.0.1
    (subst (λ (xs : List Change). Contains xs b.0.0.now) c.as_slice.ensures b.1.0) b.1.1 may

pub returns-in_err-list_all-clause-same : goal.returns-in_err-list_all-clause-same
returns-in_err-list_all-clause-same c =
    let stage : tree.get nat_cmp c.args.self.now.stages c.args.t ≡ Some (Declared c.in-Some-Declared.set) =
    sym c.in-Some-Declared.ensures.value ∙ ap (λ (x : TxnStage). Some x) c.in-Some-Declared.field-0-is in
    let none : tree.get nat_cmp c.args.self.now.fates c.args.t ≡ None =
    no_fate _ _ c.if-is_some.ensures c.get-2.ensures.value in
    let above : c.args.t < c.args.c =
    omega (arith, c.get-start.ensures, c.get-commit.ensures, c.if-commit-start.false) in
    let upto : c.args.c ≤ c.args.self.now.last + 1 =
    omega (arith, c.get-commit.ensures, c.get-else-commit-start.ensures, c.if-commit-get.false) in
    let kept : Keeps c.args.self.now record {
      alloc = c.args.self.now.alloc;
      last = c.args.self.now.last;
      stages = c.args.self.now.stages;
      fates = c.args.self.now.fates;
      index = c.list_all.new.index;
      reads = c.args.self.now.reads;
    } = λ table tells.
    kept_some c.args.self.now.last (tree.get nat_cmp c.args.self.now.stages) c.args.self.now.fates c.args.self.now.index
    c.args.self.now.reads
    c.args.t c.args.c c.in-Some-Declared.set c.as_slice-2.result.now c.as_slice-2.ensures stage none above upto
    (λ order k m e. none_of _ _ c.if-is_some-2.ensures c.first_block.ensures.free order k m
    (ap (λ (ys : List Change). mutation_at ys k) (c.as_slice.ensures ∙ sym c.as_slice-2.ensures) ∙ e))
    table tells c.list_all.new.index c.list_all.ensures.reads c.in_err-list_all.ensures.some in
    on_err _ _ kept

pub returns-in_err-insert-clause-same : goal.returns-in_err-insert-clause-same
returns-in_err-insert-clause-same c =
    let stage : tree.get nat_cmp c.args.self.now.stages c.args.t ≡ Some (Declared c.in-Some-Declared.set) =
    sym c.in-Some-Declared.ensures.value ∙ ap (λ (x : TxnStage). Some x) c.in-Some-Declared.field-0-is in
    let none : tree.get nat_cmp c.args.self.now.fates c.args.t ≡ None =
    no_fate _ _ c.if-is_some.ensures c.get-2.ensures.value in
    let above : c.args.t < c.args.c =
    omega (arith, c.get-start.ensures, c.get-commit.ensures, c.if-commit-start.false) in
    let upto : c.args.c ≤ c.args.self.now.last + 1 =
    omega (arith, c.get-commit.ensures, c.get-else-commit-start.ensures, c.if-commit-get.false) in
    let kept : Keeps c.args.self.now record {
      alloc = c.args.self.now.alloc;
      last = c.args.self.now.last;
      stages = c.args.self.now.stages;
      fates = c.insert.new.self;
      index = c.list_all.new.index;
      reads = c.args.self.now.reads;
    } = λ table tells.
    kept_all c.args.self.now.last (tree.get nat_cmp c.args.self.now.stages) c.args.self.now.fates c.args.self.now.index
    c.args.self.now.reads
    c.args.t c.args.c c.in-Some-Declared.set c.as_slice-2.result.now c.as_slice-2.ensures stage none above upto
    (λ order k m e. none_of _ _ c.if-is_some-2.ensures c.first_block.ensures.free order k m
    (ap (λ (ys : List Change). mutation_at ys k) (c.as_slice.ensures ∙ sym c.as_slice-2.ensures) ∙ e))
    table tells c.list_all.new.index c.list_all.ensures.reads c.in_ok-list_all.ensures.all c.insert.new.self
    c.in_err-insert.ensures.err in
    on_err _ _ kept

pub returns-clause-ok : goal.returns-clause-ok
returns-clause-ok c table tells =
    let stage : tree.get nat_cmp c.args.self.now.stages c.args.t ≡ Some (Declared c.in-Some-Declared.set) =
    sym c.in-Some-Declared.ensures.value ∙ ap (λ (x : TxnStage). Some x) c.in-Some-Declared.field-0-is in
    let none : tree.get nat_cmp c.args.self.now.fates c.args.t ≡ None =
    no_fate _ _ c.if-is_some.ensures c.get-2.ensures.value in
    let above : c.args.t < c.args.c =
    omega (arith, c.get-start.ensures, c.get-commit.ensures, c.if-commit-start.false) in
    let upto : c.args.c ≤ c.args.self.now.last + 1 =
    omega (arith, c.get-commit.ensures, c.get-else-commit-start.ensures, c.if-commit-get.false) in
    done c.args.self.now.last (tree.get nat_cmp c.args.self.now.stages) c.args.self.now.fates c.args.self.now.index
    c.args.self.now.reads
    c.args.t c.args.c c.in-Some-Declared.set c.as_slice-2.result.now c.as_slice-2.ensures stage none above upto
    (λ order k m e. none_of _ _ c.if-is_some-2.ensures c.first_block.ensures.free order k m
    (ap (λ (ys : List Change). mutation_at ys k) (c.as_slice.ensures ∙ sym c.as_slice-2.ensures) ∙ e))
    table tells c.list_all.new.index c.list_all.ensures.reads c.in_ok-list_all.ensures.all c.note_inserts.new.index
    c.note_inserts.ensures.same
    (subst (λ (ys : List Change). IsDistinct ys → HasVersions c.list_all.new.index ys
    → AddsInserts c.list_all.new.index c.note_inserts.new.index ys c.args.t)
    (c.as_slice-3.ensures ∙ sym c.as_slice-2.ensures) c.note_inserts.ensures.noted)
    (tree.get nat_cmp c.insert.new.self) c.in_ok-insert.ensures.updates.0

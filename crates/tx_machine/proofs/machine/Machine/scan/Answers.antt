use Rattle.std.proofs.Common.{sym, ap, ◌∙◌, arith, Option}
use Rattle.tx_machine.specs.declared.reads.Span.{Span}
use Rattle.std.specs.Ordering.{nat_cmp}
use Rattle.std.specs.BTreeMap as tree
use Rattle.tx_machine.specs.Representation.{Keeps}
use Rattle.tx_machine.specs.Keys.{covered}
use Rattle.tx_machine.specs.Noted.{covers_of, span_covers}
use Rattle.tx_machine.proofs.Commits.{on_err}
use Rattle.tx_machine.proofs.ReadSteps.{shows_rows, sees_rows_shown, reads_more, reads_same, covers_same, covers_nothing, ends_within}
use Rattle.tx_machine.proofs.machine.Machine.scan.Goals as goal

pub returns-then-get-clause-refused : goal.returns-then-get-clause-refused
returns-then-get-clause-refused c e table tells admits = let h = c.if-get.true in let l = tells.last_is in
    omega (arith, c.get.ensures, c.get-2.ensures, admits.0)

pub returns-then-not-sees_rows-clause-refused : goal.returns-then-not-sees_rows-clause-refused
returns-then-not-sees_rows-clause-refused c e table tells admits =
    cc (
      c.if-not-sees_rows.true,
      c.sees_rows.ensures.1
          (sees_rows_shown c.args.self.now.last (tree.get nat_cmp c.args.self.now.stages) c.args.self.now.fates
          c.args.self.now.index c.args.self.now.reads table tells c.args.scan.now admits.1),
    )

pub returns-in_err-add_span-clause-same : goal.returns-in_err-add_span-clause-same
returns-in_err-add_span-clause-same c =
    let kept : Keeps c.args.self.now record {
      alloc = c.args.self.now.alloc;
      last = c.args.self.now.last;
      stages = c.args.self.now.stages;
      fates = c.args.self.now.fates;
      index = c.args.self.now.index;
      reads = c.add_span.new.self;
    } = λ table tells.
    reads_same c.args.self.now.last (tree.get nat_cmp c.args.self.now.stages) c.args.self.now.fates
    c.args.self.now.index c.args.self.now.reads table tells c.add_span.new.self c.in_err-add_span.ensures.same in
    on_err _ _ kept

pub returns-in_ok-add_span-clause-ok : goal.returns-in_ok-add_span-clause-ok
returns-in_ok-add_span-clause-ok c table tells =
    let l = tells.last_is in
    let shown = c.sees_rows.ensures.0 c.if-not-sees_rows.false in (
      (
        omega (arith, c.get.ensures, c.get-2.ensures, c.if-get.false),
        shows_rows c.args.self.now.last (tree.get nat_cmp c.args.self.now.stages) c.args.self.now.fates
            c.args.self.now.index c.args.self.now.reads table tells c.args.scan.now shown,
      ),
      reads_more c.args.self.now.last (tree.get nat_cmp c.args.self.now.stages) c.args.self.now.fates
          c.args.self.now.index c.args.self.now.reads table tells (covered c.args.scan.now) c.args.scan.now.at
          c.add_span.new.self
          (covers_same c.args.self.now.reads c.add_span.new.self (span_covers c.in-Some.span) (covered c.args.scan.now)
          c.args.scan.now.at (λ k. ap (λ (o : Option Span). covers_of o k) (sym c.in-Some.is)
          ∙ c.in_ok-span.ensures.ok shown.rising
          (ends_within c.args.self.now.index c.args.self.now.fates c.args.scan.now shown) k)
          c.in_ok-add_span.ensures.ok),
    )

pub returns-in_default-clause-ok : goal.returns-in_default-clause-ok
returns-in_default-clause-ok c table tells =
    let l = tells.last_is in
    let shown = c.sees_rows.ensures.0 c.if-not-sees_rows.false in (
      (
        omega (arith, c.get.ensures, c.get-2.ensures, c.if-get.false),
        shows_rows c.args.self.now.last (tree.get nat_cmp c.args.self.now.stages) c.args.self.now.fates
            c.args.self.now.index c.args.self.now.reads table tells c.args.scan.now shown,
      ),
      reads_more c.args.self.now.last (tree.get nat_cmp c.args.self.now.stages) c.args.self.now.fates
          c.args.self.now.index c.args.self.now.reads table tells (covered c.args.scan.now) c.args.scan.now.at
          c.args.self.now.reads
          (covers_nothing c.args.self.now.reads (covered c.args.scan.now) c.args.scan.now.at
          (λ k. ap (λ (o : Option Span). covers_of o k) (sym c.in_default.is)
          ∙ c.in_ok-span.ensures.ok shown.rising
          (ends_within c.args.self.now.index c.args.self.now.fates c.args.scan.now shown) k)),
    )

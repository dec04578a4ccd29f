use Rattle.std.proofs.Common.{arith, bytes_eq}
use Rattle.std.specs.Ordering.{nat_cmp}
use Rattle.std.specs.BTreeMap as tree
use Rattle.tx_machine.specs.Representation.{Keeps}
use Rattle.tx_machine.proofs.Commits.{on_err}
use Rattle.tx_machine.proofs.ReadSteps.{shows_sees, sees_shows, reads_more, reads_same}
use Rattle.tx_machine.proofs.machine.Machine.read.Goals as goal

pub returns-then-get-clause-refused : goal.returns-then-get-clause-refused
returns-then-get-clause-refused c e table tells admits = let h = c.if-get.true in let l = tells.last_is in
    omega (arith, c.get.ensures, c.get-2.ensures, admits.0)

pub returns-then-not-shows-clause-refused : goal.returns-then-not-shows-clause-refused
returns-then-not-shows-clause-refused c e table tells admits =
    cc (
      c.if-not-shows.true,
      c.shows.ensures.1 (sees_shows c.args.self.now.last (tree.get nat_cmp c.args.self.now.stages)
          c.args.self.now.fates c.args.self.now.index c.args.self.now.reads table tells c.args.key.now c.args.at
          c.args.found.now admits.1),
    )

pub returns-in_err-add_key-clause-same : goal.returns-in_err-add_key-clause-same
returns-in_err-add_key-clause-same c =
    let kept : Keeps c.args.self.now record {
      alloc = c.args.self.now.alloc;
      last = c.args.self.now.last;
      stages = c.args.self.now.stages;
      fates = c.args.self.now.fates;
      index = c.args.self.now.index;
      reads = c.add_key.new.self;
    } = λ table tells.
    reads_same c.args.self.now.last (tree.get nat_cmp c.args.self.now.stages) c.args.self.now.fates
    c.args.self.now.index c.args.self.now.reads table tells c.add_key.new.self c.in_err-add_key.ensures.same in
    on_err _ _ kept

pub returns-clause-ok : goal.returns-clause-ok
returns-clause-ok c table tells =
    let l = tells.last_is in (
      (
        omega (arith, c.get.ensures, c.get-2.ensures, c.if-get.false),
        shows_sees c.args.self.now.last (tree.get nat_cmp c.args.self.now.stages) c.args.self.now.fates
            c.args.self.now.index c.args.self.now.reads table tells c.args.key.now c.args.at c.args.found.now
            (c.shows.ensures.0 c.if-not-shows.false),
      ),
      reads_more c.args.self.now.last (tree.get nat_cmp c.args.self.now.stages) c.args.self.now.fates
          c.args.self.now.index c.args.self.now.reads table tells (bytes_eq c.args.key.now) c.args.at c.add_key.new.self
          c.in_ok-add_key.ensures.ok,
    )

use Rattle.std.proofs.Common.{◌<◌, ◌≤◌, ◌+◌, arith, refl}
use Rattle.std.specs.Ordering.{nat_cmp}
use Rattle.std.specs.BTreeMap as tree
use Rattle.tx_machine.proofs.CommitEnds.{may}
use Rattle.tx_machine.proofs.machine.Machine.why_commit_of.Goals as goal

pub returns-in-None-clause-ok : goal.returns-in-None-clause-ok
returns-in-None-clause-ok c table tells =
    let above : c.args.t < c.args.c =
    omega (arith, c.get-start.ensures, c.get-commit.ensures, c.if-commit-start.false) in
    let upto : c.args.c ≤ c.args.self.now.last + 1 =
    omega (arith, c.get-commit.ensures, c.get.ensures, c.if-commit-get.false) in
    may c.args.self.now.last (tree.get nat_cmp c.args.self.now.stages) c.args.self.now.fates c.args.self.now.index
    c.args.self.now.reads c.args.t c.args.c c.args.set.now c.args.set.now refl
    c.requires.declared c.requires.open_yet above upto c.in-None.ensures.free table tells

use Rattle.std.proofs.Common.{arith, sym, ◌<◌, inr}
use Rattle.std.specs.Cmp.Lexicographic.{slice_cmp}
use Rattle.std.specs.Ordering.{nat_cmp}
use Rattle.std.specs.BTreeMap as tree
use Rattle.tx_machine.proofs.Marks.{none_above, none_upto}
use Rattle.tx_machine.proofs.reads.Reads.read_from.Goals as goal

pub returns-then-cover-clause-some : goal.returns-then-cover-clause-some
returns-then-cover-clause-some c = (
  omega (arith, c.new.ensures, c.in-Some-first_above.ensures.found.0, c.spans.invariant.0),
  inr (c.in-Some-first_above.next.1.now, c.in-Some-first_above.ensures.found.1, sym c.if-cover.ensures),
)

pub returns-in_default-first_above-clause-none : goal.returns-in_default-first_above-clause-none
returns-in_default-first_above-clause-none c =
    none_above (tree.get (slice_cmp nat_cmp) c.args.self.now.points) (tree.get nat_cmp c.args.self.now.spans)
    c.args.key.now c.args.from c.spans.bound
    c.in_default.ensures.none c.spans.invariant.1
    (λ q h. c.in_default-first_above.ensures.none q (omega (arith, c.new.ensures, h)))

pub spans-preserved : goal.spans-preserved
spans-preserved c =
    let above : c.spans.bound < c.in-Some-first_above.next.0 =
    omega (arith, c.new.ensures, c.in-Some-first_above.ensures.found.0) in (
      omega (arith, c.get-bound-in-spans.ensures, above, c.spans.invariant.0),
      λ r kept ge upto.
          none_upto (tree.get (slice_cmp nat_cmp) c.args.self.now.points) (tree.get nat_cmp c.args.self.now.spans)
          c.args.key.now c.args.from c.spans.bound
          c.in_default.ensures.none c.spans.invariant.1 c.in-Some-first_above.next.0 c.in-Some-first_above.next.1.now
          c.in-Some-first_above.ensures.found.1
          (λ q up some. c.in-Some-first_above.ensures.nearest q (omega (arith, c.new.ensures, up)) some)
          (sym c.if-cover.ensures) r kept ge (omega (arith, c.get-bound-in-spans.ensures, upto)),
    )

use Rattle.std.proofs.Common.{◌<◌, [], length, take_all, subst, arith}
use Rattle.std.specs.Prelude.{Any}
use Rattle.tx_sheet.specs.Reads.{IsReading, Learns}
use Rattle.tx_sheet.proofs.MoreReads.{takings_on, all_reads}
use Rattle.tx_sheet.proofs.reads.reads_of.Goals as goal

pub takings-preserved : goal.takings-preserved
takings-preserved c =
    let xs = c.args.takings.now in
    let i = c.takings.taking-index in
    let within : i < length xs = omega (arith, c.takings-test.true) in
    takings_on c.args.keys.now xs i c.taking-item.result within c.taking-item.is c.takings.reads.items
    c.put_reads.new.reads.items c.takings.invariant c.in_ok-put_reads.ensures

pub returns : goal.returns
returns c =
    let keys = c.args.keys.now in
    let xs = c.args.takings.now in
    let i = c.takings.taking-index in
    all_reads keys xs c.takings.reads.items
    (subst (λ ys. Learns [] c.takings.reads.items (λ k f. Any (λ u. IsReading keys u k f) ys))
    (take_all i xs (omega (arith, c.takings-test.false))) c.takings.invariant)

-- The version is there, and the writer is the transaction.
use Rattle.std.proofs.Common.{◌-◌, length, arith, sym, ap, ◌∙◌, slice_index}
use Rattle.std.proofs.lemmas.Bool.{eqb-true}
use Rattle.tx_verdict.proofs.fit.is_placed.Goals as goal

pub returns : goal.returns
returns c is =
    let v = c.args.versions.now in
    let k = c.args.key in
    let ws = c.writers_of-writers.result.now in
    let e = c.writers_of-writers.ensures in
    let n = ap length e in
    let i = c.in-Some.home.now.version in
    let low = c.if-version-eq0.false in
    let high = c.if-version-writers.false in (
      i,
      (omega (arith, low), omega (arith, high, n)),
      ap (λ q. slice_index q (i - 1)) (sym e) ∙ eqb-true (slice_index ws (i - 1)) c.args.txn is,
    )

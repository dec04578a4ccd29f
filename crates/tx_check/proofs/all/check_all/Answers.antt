use Rattle.tx_check.proofs.Told.{if_err_is}
use Rattle.tx_check.proofs.Traces.{if_some}
use Rattle.tx_check.proofs.Onward.{breaks_all}
use Rattle.tx_check.proofs.all.check_all.Goals as goal

pub returns-in_err-write_out-clause-breaks : goal.returns-in_err-write_out-clause-breaks
returns-in_err-write_out-clause-breaks g c =
    let old = g.W.Write.contents c.args.writer.now in
    let new = g.W.Write.contents c.write_out.new.writer in
    let e = c.in_err-write_out.field-0.0 in
    if_err_is _ _ e c.from_residual-in_err-write_out.ensures.1
    (if_some _ (λ input all. breaks_all c.args.has_reasons input _ c.as_slice.result.now _ old new e all
    c.as_slice.ensures.value c.in_err-write_out.ensures.err c.in_err-write_out.ensures.part) c.in_ok-told.ensures)

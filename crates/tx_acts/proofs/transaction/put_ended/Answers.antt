use Rattle.std.proofs.Common.{◌++◌, codes}
use Rattle.tx_acts.specs.About.{outcome_text, process_text, number_text}
use Rattle.tx_ring.proofs.Pieces.{after, on_so}
use Rattle.tx_acts.proofs.transaction.put_ended.Goals as goal

pub returns : goal.returns
returns c =
    let x = c.args.transaction in
    let outcome = outcome_text x.outcome in
    let process = process_text c.args.history.now x.process in
    let start = number_text (codes ", start ") x.began in
    let end = number_text (codes ", end ") x.ended in
    on_so c.put_number-2.result c.put_number-2.ensures (λ e.
    after c.args.out.now.items outcome (process ++ (start ++ end)) c.in_ok-put_outcome.ensures
    (after c.put_outcome.new.out.items process (start ++ end) c.in_ok-put_known_process.ensures
    (after c.put_known_process.new.out.items start end c.in_ok-put_number.ensures e)))

use Rattle.std.proofs.Common.{Ok, Err, refl}
use Rattle.tx_client.specs.Walks.{then_walk}
use Rattle.tx_client.proofs.Sends.{sent_then}
use Rattle.tx_resolve.specs.Collection.{on_ok, raises_walk, clears_walk, collects_walk}
use Rattle.tx_resolve.proofs.Regions.{is_fault}
use Rattle.tx_resolve.proofs.collector.gc.Goals as goal

pub returns-in_err-raise_all : goal.returns-in_err-raise_all
returns-in_err-raise_all g c =
    let bounds = g.J.JournalId.bounds in
    let is = is_fault c.from_residual.result c.in_err-raise_all.field-0.0 c.from_residual.ensures.1 in
    sent_then g.S.Sender.sends bounds (raises_walk bounds c.args.safe)
    (on_ok (λ u. then_walk (clears_walk bounds c.args.safe) (on_ok (λ v. collects_walk bounds c.args.safe))))
    c.args.seat.now c.raise_all.new.seat c.raise_all.new.seat c.args.sender.now c.raise_all.new.sender
    c.raise_all.new.sender (Err c.in_err-raise_all.field-0.0) c.from_residual.result
    c.in_err-raise_all.ensures.sends (is, refl, refl)

pub returns-in_err-clear_all : goal.returns-in_err-clear_all
returns-in_err-clear_all g c =
    let bounds = g.J.JournalId.bounds in
    let is = is_fault c.from_residual-in_err-clear_all.result c.in_err-clear_all.field-0.0
    c.from_residual-in_err-clear_all.ensures.1 in
    sent_then g.S.Sender.sends bounds (raises_walk bounds c.args.safe)
    (on_ok (λ u. then_walk (clears_walk bounds c.args.safe) (on_ok (λ v. collects_walk bounds c.args.safe))))
    c.args.seat.now c.raise_all.new.seat c.clear_all.new.seat c.args.sender.now c.raise_all.new.sender
    c.clear_all.new.sender (Ok tt) c.from_residual-in_err-clear_all.result c.in_ok-raise_all.ensures.sends
    (sent_then g.S.Sender.sends bounds (clears_walk bounds c.args.safe) (on_ok (λ v. collects_walk bounds c.args.safe))
    c.raise_all.new.seat c.clear_all.new.seat c.clear_all.new.seat c.raise_all.new.sender c.clear_all.new.sender
    c.clear_all.new.sender (Err c.in_err-clear_all.field-0.0) c.from_residual-in_err-clear_all.result
    c.in_err-clear_all.ensures.sends (is, refl, refl))

pub returns : goal.returns
returns g c =
    let bounds = g.J.JournalId.bounds in
    sent_then g.S.Sender.sends bounds (raises_walk bounds c.args.safe)
    (on_ok (λ u. then_walk (clears_walk bounds c.args.safe) (on_ok (λ v. collects_walk bounds c.args.safe))))
    c.args.seat.now c.raise_all.new.seat c.collect_all.new.seat c.args.sender.now c.raise_all.new.sender
    c.collect_all.new.sender (Ok tt) c.collect_all.result c.in_ok-raise_all.ensures.sends
    (sent_then g.S.Sender.sends bounds (clears_walk bounds c.args.safe) (on_ok (λ v. collects_walk bounds c.args.safe))
    c.raise_all.new.seat c.clear_all.new.seat c.collect_all.new.seat c.raise_all.new.sender c.clear_all.new.sender
    c.collect_all.new.sender (Ok tt) c.collect_all.result c.in_ok-clear_all.ensures.sends c.collect_all.ensures)

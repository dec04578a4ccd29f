use Rattle.std.proofs.Common.{◌+◌, ℕ, length, Ok, Err, subst}
use Rattle.tx_client.specs.Walks.{Sends}
use Rattle.tx_resolve.specs.Collection.{raise_walk, raises_walk}
use Rattle.tx_resolve.proofs.Regions.{is_fault, is_region, more_regions, regions_refused}
use Rattle.tx_resolve.proofs.collector.raise_all.Goals as goal

pub returns-in_err-raise-clause-sends : goal.returns-in_err-raise-clause-sends
returns-in_err-raise-clause-sends g c =
    let bounds = g.J.JournalId.bounds in
    let within = is_region c.bounds.result.now (g.S.Sender.keys_between c.args.sender.now) bounds c.loop-n.n
    c.bounds.ensures.value (c.requires.way.between c.args.sender.now) c.loop-n-test.true in
    let sent = subst (λ (m :
    ℕ). Sends g.S.Sender.sends bounds c.loop-n.seat c.loop-n.sender (raise_walk c.args.safe m)
    (Err c.in_err-raise.field-0.0) c.raise.new.sender c.raise.new.seat) c.new.ensures
    c.in_err-raise.ensures.sends in
    regions_refused g.S.Sender.sends bounds (λ n u. raise_walk c.args.safe n) c.args.seat.now c.args.sender.now
    (raises_walk bounds c.args.safe) (length bounds + 1) c.loop-n.n c.loop-n.seat c.loop-n.sender tt within
    c.loop-n.invariant.sends
    c.from_residual.result c.in_err-raise.field-0.0
    (is_fault c.from_residual.result c.in_err-raise.field-0.0 c.from_residual.ensures.1) c.raise.new.seat
    c.raise.new.sender sent

pub loop-n-preserved : goal.loop-n-preserved
loop-n-preserved g c =
    let bounds = g.J.JournalId.bounds in
    let within = is_region c.bounds.result.now (g.S.Sender.keys_between c.args.sender.now) bounds c.loop-n.n
    c.bounds.ensures.value (c.requires.way.between c.args.sender.now) c.loop-n-test.true in
    let sent = subst (λ (m :
    ℕ). Sends g.S.Sender.sends bounds c.loop-n.seat c.loop-n.sender (raise_walk c.args.safe m) (Ok tt)
    c.raise.new.sender c.raise.new.seat) c.new.ensures c.in_ok-raise.ensures.sends in
    record {
      sends = more_regions g.S.Sender.sends bounds (λ n u. raise_walk c.args.safe n) c.args.seat.now c.args.sender.now
          (raises_walk bounds c.args.safe) (length bounds + 1) c.loop-n.n c.loop-n.seat c.loop-n.sender tt within
          c.loop-n.invariant.sends tt c.raise.new.seat c.raise.new.sender sent;
      run = c.in_ok-raise.ensures.run;
    }

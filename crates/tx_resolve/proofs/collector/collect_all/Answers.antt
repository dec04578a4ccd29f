use Rattle.std.proofs.Common.{◌+◌, ℕ, length, Ok, Err, subst}
use Rattle.tx_client.specs.Walks.{Sends}
use Rattle.tx_resolve.specs.Collection.{collect_walk, collects_walk}
use Rattle.tx_resolve.proofs.Regions.{is_fault, is_region, more_regions, regions_refused}
use Rattle.tx_resolve.proofs.collector.collect_all.Goals as goal

pub returns-in_err-counts : goal.returns-in_err-counts
returns-in_err-counts g c =
    let bounds = g.J.JournalId.bounds in
    let within = is_region c.bounds.result.now (g.S.Sender.keys_between c.args.sender.now) bounds c.loop-n.n
    c.bounds.ensures.value (c.requires.way.between c.args.sender.now) c.loop-n-test.true in
    let sent = subst (λ (m :
    ℕ). Sends g.S.Sender.sends bounds c.loop-n.seat c.loop-n.sender (collect_walk c.args.safe m c.loop-n.counts)
    (Err c.in_err-counts.field-0.0) c.collect.new.sender c.collect.new.seat) c.new.ensures
    c.in_err-counts.ensures.sends in
    regions_refused g.S.Sender.sends bounds (collect_walk c.args.safe) c.args.seat.now c.args.sender.now
    (collects_walk bounds c.args.safe) (length bounds + 1) c.loop-n.n c.loop-n.seat c.loop-n.sender c.loop-n.counts
    within c.loop-n.invariant.sends
    c.from_residual.result c.in_err-counts.field-0.0
    (is_fault c.from_residual.result c.in_err-counts.field-0.0 c.from_residual.ensures.1) c.collect.new.seat
    c.collect.new.sender sent

pub loop-n-preserved : goal.loop-n-preserved
loop-n-preserved g c =
    let bounds = g.J.JournalId.bounds in
    let within = is_region c.bounds.result.now (g.S.Sender.keys_between c.args.sender.now) bounds c.loop-n.n
    c.bounds.ensures.value (c.requires.way.between c.args.sender.now) c.loop-n-test.true in
    let sent = subst (λ (m :
    ℕ). Sends g.S.Sender.sends bounds c.loop-n.seat c.loop-n.sender (collect_walk c.args.safe m c.loop-n.counts)
    (Ok c.in_ok-counts.counts) c.collect.new.sender c.collect.new.seat) c.new.ensures
    c.in_ok-counts.ensures.sends in
    record {
      sends = more_regions g.S.Sender.sends bounds (collect_walk c.args.safe) c.args.seat.now c.args.sender.now
          (collects_walk bounds c.args.safe) (length bounds + 1) c.loop-n.n c.loop-n.seat c.loop-n.sender
          c.loop-n.counts within c.loop-n.invariant.sends c.in_ok-counts.counts c.collect.new.seat c.collect.new.sender
          sent;
      run = c.in_ok-counts.ensures.run;
    }

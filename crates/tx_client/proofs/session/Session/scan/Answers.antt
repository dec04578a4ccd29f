use Rattle.std.proofs.Common.{◌≤◌, ◌<◌, ◌∙◌, List, length, ap, arith}
use Rattle.tx_types.specs.declared.key.Key.{Key}
use Rattle.tx_client.specs.Walks.{scan_walk}
use Rattle.tx_client.proofs.Scans.{more_read, done_read, all_read}
use Rattle.tx_client.proofs.session.Session.scan.Goals as goal

pub returns-in-Done : goal.returns-in-Done
returns-in-Done g c =
    let bounds = g.J.JournalId.bounds in
    let between = c.bounds.ensures.value ∙ c.requires.way.between c.args.sender.now in
    let le : c.loop-n.n ≤ length bounds = omega (arith, c.loop-n-test.true, ap (λ (l : List Key). length l) between) in
    done_read g.S.Sender.sends bounds c.args.self.now.seat c.args.sender.now (scan_walk c.args.self.now.state bounds
    c.args.from.now c.args.to.now c.args.limit) c.args.from.now c.args.to.now c.args.limit c.loop-n.n
    c.loop-n.self.seat c.read_part.new.self.seat c.loop-n.sender c.read_part.new.sender
    c.loop-n.self.state c.read_part.new.self.state c.loop-n.rows le c.loop-n.invariant c.in-Done.result
    c.in-Done.ensures

pub loop-n-preserved : goal.loop-n-preserved
loop-n-preserved g c =
    let bounds = g.J.JournalId.bounds in
    let between = c.bounds.ensures.value ∙ c.requires.way.between c.args.sender.now in
    let le : c.loop-n.n ≤ length bounds = omega (arith, c.loop-n-test.true, ap (λ (l : List Key). length l) between) in
    more_read g.S.Sender.sends bounds c.args.self.now.seat c.args.sender.now (scan_walk c.args.self.now.state bounds
    c.args.from.now c.args.to.now c.args.limit) c.args.from.now c.args.to.now c.args.limit c.loop-n.n
    c.loop-n.self.seat c.read_part.new.self.seat c.loop-n.sender c.read_part.new.sender
    c.loop-n.self.state c.read_part.new.self.state c.loop-n.rows le c.loop-n.invariant c.in-More.more
    c.in-More.ensures

pub returns : goal.returns
returns g c =
    let bounds = g.J.JournalId.bounds in
    let between = c.bounds.ensures.value ∙ c.requires.way.between c.args.sender.now in
    let lt : length bounds < c.loop-n.n = omega (arith, c.loop-n-test.false, ap (λ (l : List Key). length l) between) in
    all_read g.S.Sender.sends bounds c.args.self.now.seat c.args.sender.now (scan_walk c.args.self.now.state bounds
    c.args.from.now c.args.to.now c.args.limit) c.args.from.now c.args.to.now
    c.args.limit c.loop-n.n c.loop-n.self.seat c.loop-n.sender c.loop-n.self.state c.loop-n.rows lt
    c.loop-n.invariant

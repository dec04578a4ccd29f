use Rattle.std.proofs.Common.{◌-◌, ◌∙◌, arith}
use Rattle.tx_cells.proofs.NewestFirst.{heads_end, heads_fall, heads_last, heads_on}
use Rattle.tx_cells.proofs.copies.records_down.Goals as goal

pub returns-in_default-clause-all : goal.returns-in_default-clause-all
returns-in_default-clause-all g c =
    heads_end (g.H.History.writes c.args.history.now) (g.H.History.writes c.records.history)
    c.records.invariant.same c.records.bound c.new.result c.new.ensures c.records.records c.records.invariant.down
    c.in_default.ensures.none

pub returns-then-get-eq0-clause-fall : goal.returns-then-get-eq0-clause-fall
returns-then-get-eq0-clause-fall g c =
    heads_fall (g.H.History.writes c.args.history.now)
    (g.H.History.writes c.records.history) c.records.invariant.same c.records.bound c.new.result c.new.ensures
    c.records.records c.records.invariant.down
    c.in-Some.entry.0 c.in-Some.entry.1 c.in-Some.ensures.found c.in-Some.ensures.nearest c.push.new.self
    c.in_ok-push.ensures.ok

pub returns-then-get-eq0-clause-all : goal.returns-then-get-eq0-clause-all
returns-then-get-eq0-clause-all g c =
    heads_last (g.H.History.writes c.args.history.now)
    (g.H.History.writes c.records.history) c.records.invariant.same c.records.bound c.new.result c.new.ensures
    c.records.records c.records.invariant.down
    c.in-Some.entry.0 c.in-Some.entry.1 c.in-Some.ensures.found
    c.in-Some.ensures.nearest c.push.new.self c.in_ok-push.ensures.ok
    (omega (arith, c.if-get-eq0.true, c.get.ensures))

pub records-preserved : goal.records-preserved
records-preserved g c =
    let w = g.H.History.writes in
    record {
      same = c.upto.ensures.same ∙ c.records.invariant.same;
      same_key = c.upto.ensures.same_key ∙ c.records.invariant.same_key;
      down = heads_on (w c.args.history.now) (w c.records.history)
          c.records.invariant.same c.records.bound c.new.result c.new.ensures c.records.records c.records.invariant.down
          c.in-Some.entry.0 c.in-Some.entry.1 c.in-Some.ensures.found c.in-Some.ensures.nearest c.push.new.self
          c.in_ok-push.ensures.ok (c.get-bound.result - 1) (omega (arith, c.get-bound.ensures))
          (omega (arith, c.if-get-eq0.false, c.get.ensures));
    }

use Rattle.std.proofs.Common.{sym, ◌∙◌}
use Rattle.std.specs.List.{Contains}
use Rattle.tx_machine.proofs.InsertReads.{leaves_more, leaves_all}
use Rattle.tx_machine.proofs.commit.note_inserts.Goals as goal

pub loop-change-preserved : goal.loop-change-preserved
loop-change-preserved c = (
  λ k. c.note_insert.ensures.same k ∙ c.loop-change.invariant.0 k,
  λ distinct has.
      let among : Contains c.args.set.now c.change-item.result =
      (c.loop-change.change-index, c.loop-change-test.true, sym c.change-item.is) in
      leaves_more c.args.index.now c.loop-change.index c.note_insert.new.index c.args.set.now c.args.t
      c.loop-change.change-index c.change-item.result c.change-item.result c.loop-change-test.true c.change-item.is
      among distinct (c.loop-change.invariant.1 distinct has)
      (c.note_insert.ensures.noted (λ none. has c.change-item.result among
      (sym (c.loop-change.invariant.0 c.change-item.result.key) ∙ none))),
)

pub returns-clause-noted : goal.returns-clause-noted
returns-clause-noted c distinct has =
    leaves_all c.args.index.now c.loop-change.index c.args.set.now c.args.t c.loop-change.change-index
    c.loop-change-test.false (c.loop-change.invariant.1 distinct has)

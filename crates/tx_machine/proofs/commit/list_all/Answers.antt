use Rattle.std.proofs.Common.{ap, ◌∙◌, ◌==◌, cond, bytes_eq, Some}
use Rattle.tx_types.specs.declared.mutation.Mutation.{Mutation}
use Rattle.tx_machine.specs.Representation.{version_of}
use Rattle.tx_types.specs.declared.mutation.Change.{Change}
use Rattle.tx_machine.specs.Representation.{put_version}
use Rattle.tx_machine.proofs.Commits.{puts_more}
use Rattle.tx_machine.proofs.commit.list_all.Goals as goal

pub loop-change-preserved : goal.loop-change-preserved
loop-change-preserved c = (
  puts_more c.args.t c.args.c c.args.set.now c.loop-change.change-index c.change-item.result
      (version_of c.args.index.now) (version_of c.loop-change.index) (version_of c.list.new.index)
      c.loop-change-test.true c.loop-change.invariant.0
      (λ k q.
      c.in_ok-list.ensures.ok k q
      ∙ (ap
      (λ (m : Mutation).
      cond (bytes_eq c.change-item.result.key k)
      (cond (c.args.c == q) (Some record { start = c.args.t; mutation = m }) (version_of c.loop-change.index k q))
      (version_of c.loop-change.index k q))
      c.in_ok-mutation.ensures.ok
      ∙ ap (λ (x : Change). put_version c.args.t c.args.c x (version_of c.loop-change.index) k q) c.change-item.is)),
  λ k. c.list.ensures.reads k ∙ c.loop-change.invariant.1 k,
)

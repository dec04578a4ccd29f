use Rattle.std.proofs.Common.{subst}
use Rattle.tx_transfer.specs.declared.progress.TransferProgress.TheVariants as progress
use Rattle.tx_transfer.specs.TransferSteps.{Requests}
use Rattle.tx_transfer.proofs.TransferSteps.{steps_more, steps_none, steps_one}
use Rattle.tx_transfer.proofs.transfer.TransferState.step.Goals as goal

pub requests-init : goal.requests-init
requests-init g c = steps_none g.J.JournalId.bounds c.args.self.now

pub requests-preserved : goal.requests-preserved
requests-preserved g c =
    let bounds = g.J.JournalId.bounds in
    let m = c.args.self.now in
    let o = c.requests.self in
    let n = c.request.new.self in
    steps_more bounds m o n progress.More c.requests.invariant
    (steps_one bounds o n progress.More (subst (λ p. Requests bounds o p n) c.in-More.is c.request.ensures))

pub returns-then-ne : goal.returns-then-ne
returns-then-ne g c =
    let bounds = g.J.JournalId.bounds in
    let n = c.request.new.self in
    steps_more bounds c.args.self.now c.requests.self n progress.More c.requests.invariant
    (steps_one bounds c.requests.self n progress.More
    (subst (λ p. Requests bounds c.requests.self p n) c.in-More.is c.request.ensures))

pub returns-in_default : goal.returns-in_default
returns-in_default g c =
    steps_more g.J.JournalId.bounds c.args.self.now c.requests.self c.request.new.self c.request.result
    c.requests.invariant (steps_one g.J.JournalId.bounds c.requests.self c.request.new.self c.request.result
    c.request.ensures)

use Rattle.std.proofs.Common.{sym, subst, ◌∙◌}
use Rattle.tx_transfer.specs.TransferSteps.{DoesNext}
use Rattle.tx_transfer.proofs.transfer.TransferState.go_on.Goals as goal

pub returns-in-ReadFrom : goal.returns-in-ReadFrom
returns-in-ReadFrom g c = subst (λ x. DoesNext g.J.JournalId.bounds x c.args.self.now c.read.result
    c.read.new.self)
    (sym (sym c.next.ensures ∙ c.in-ReadFrom.is)) c.read.ensures

pub returns-in-ReadTo : goal.returns-in-ReadTo
returns-in-ReadTo g c = subst (λ x. DoesNext g.J.JournalId.bounds x c.args.self.now c.read-in-ReadTo.result
    c.read-in-ReadTo.new.self)
    (sym (sym c.next.ensures ∙ c.in-ReadTo.is)) c.read-in-ReadTo.ensures

pub returns-in-Prewrite : goal.returns-in-Prewrite
returns-in-Prewrite g c = subst (λ x. DoesNext g.J.JournalId.bounds x c.args.self.now c.prewrite.result
    c.prewrite.new.self)
    (sym (sym c.next.ensures ∙ c.in-Prewrite.is)) c.prewrite.ensures

pub returns-in-Commit : goal.returns-in-Commit
returns-in-Commit g c = subst (λ x. DoesNext g.J.JournalId.bounds x c.args.self.now c.commit.result
    c.commit.new.self)
    (sym (sym c.next.ensures ∙ c.in-Commit.is)) c.commit.ensures

pub returns-in-Abort : goal.returns-in-Abort
returns-in-Abort g c = subst (λ x. DoesNext g.J.JournalId.bounds x c.args.self.now c.abort.result
    c.abort.new.self)
    (sym (sym c.next.ensures ∙ c.in-Abort.is)) c.abort.ensures

use Rattle.std.proofs.Common.{sym, ap, ◌∙◌, rules}
use Rattle.std.specs.List.{filter}
use Rattle.std.proofs.lemmas.Fn.{filter_same}
use Rattle.tx_latch.specs.Asked.{is_granted, newly_granted}
use Rattle.tx_latch.specs.Queues.{asked_of}
use Rattle.tx_latch.proofs.queues.Queues.remove.Goals as goal

pub returns-clause-freed : goal.returns-clause-freed
returns-clause-freed c =
    filter_same _ (is_granted (asked_of c.compact_when_sparse.new.self)) _ (λ x b f' k. search rules) _ _
    c.retain.ensures.filtered
    ∙ ap (λ t. filter (is_granted t) c.take_out-freed.result.items) c.compact_when_sparse.ensures.same
    ∙ c.take_out-freed.ensures.freed
    ∙ sym (ap (newly_granted (asked_of c.args.self.now)) c.compact_when_sparse.ensures.same)

use Rattle.std.proofs.Common.{nat_eq, None, ap}
use Rattle.std.specs.Map.{lookup}
use Rattle.std.proofs.lemmas.List.{get_or-replicate}
use Rattle.tx_latch.proofs.Read.{nothing-kept}
use Rattle.tx_latch.proofs.queues.Queues.new.Goals as goal

pub returns-clause-kept : goal.returns-clause-kept
returns-clause-kept c =
    nothing-kept c.new.result.items _ _ c.new.ensures.items (λ k. ap (lookup (nat_eq k)) c.new-2.ensures.empty)
    (λ s lt. get_or-replicate 256 s None None lt)

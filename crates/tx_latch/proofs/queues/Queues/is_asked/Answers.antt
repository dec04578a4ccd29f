use Rattle.std.proofs.Common.{nat_eq, ap, ◌∙◌}
use Rattle.std.specs.Option.{is_some}
use Rattle.std.specs.HashMap.{get}
use Rattle.tx_latch.specs.Queues.{links, position_of}
use Rattle.tx_latch.proofs.Read.{asked-read}
use Rattle.tx_latch.proofs.queues.Queues.is_asked.Goals as goal

pub returns : goal.returns
returns c =
    c.contains_key.ensures ∙ ap (λ n. is_some (get nat_eq c.args.self.now.positions n)) c.get.ensures
    ∙ asked-read (links c.args.self.now.asked.items) (position_of c.args.self.now) c.args.cid (
      c.requires.0.listed,
      c.requires.0.found,
    ) c.requires.1

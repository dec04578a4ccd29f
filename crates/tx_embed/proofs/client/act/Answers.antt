use Rattle.std.proofs.Common.{rules}
use Rattle.tx_update.proofs.CallSequences.{goes_itself}
use Rattle.tx_embed.specs.Acts.{IsWithin}
use Rattle.tx_embed.proofs.ClientActs.{IsClosed, idle_acts}
use Rattle.tx_embed.proofs.client.act.Goals as goal

pub returns-in-Begin-clause-resolver : goal.returns-in-Begin-clause-resolver
returns-in-Begin-clause-resolver g c = goes_itself c.args.resolver

pub returns-in-Abort-clause-resolver : goal.returns-in-Abort-clause-resolver
returns-in-Abort-clause-resolver g c = goes_itself c.args.resolver

pub returns-in_default-slot : goal.returns-in_default-slot
returns-in_default-slot g c =
    let within : IsWithin c.args.asked = search rules in
    let closed : IsClosed c.args.slot.now = search rules in
    record {
      acts = idle_acts g.J.JournalId.bounds c.args.asked c.args.slot.now within closed;
      resolver = goes_itself c.args.resolver;
    }

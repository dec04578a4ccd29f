use Rattle.tx_update.proofs.CallSequences.{goes_itself}
use Rattle.tx_embed.proofs.client.step.Goals as goal

pub returns-in-Put-clause-resolver : goal.returns-in-Put-clause-resolver
returns-in-Put-clause-resolver g c = goes_itself c.args.resolver.now

pub returns-in-Insert-clause-resolver : goal.returns-in-Insert-clause-resolver
returns-in-Insert-clause-resolver g c = goes_itself c.args.resolver.now

pub returns-in-Delete-clause-resolver : goal.returns-in-Delete-clause-resolver
returns-in-Delete-clause-resolver g c = goes_itself c.args.resolver.now

pub returns-in-Lock-clause-resolver : goal.returns-in-Lock-clause-resolver
returns-in-Lock-clause-resolver g c = goes_itself c.args.resolver.now

use Rattle.tx_reader.proofs.Observers.{sees_itself}
use Rattle.tx_kv.proofs.view.View.size.Goals as goal

pub returns-in_err-range-clause-resolves : goal.returns-in_err-range-clause-resolves
returns-in_err-range-clause-resolves g c = sees_itself c.args.self.now.client.now.seats.resolves

use Rattle.tx_kv.proofs.KeyOrder.{few_rise}
use Rattle.tx_kv.proofs.store.+are_rising.Goals as goal

pub returns-in-empty : goal.returns-in-empty
returns-in-empty t c = few_rise c.args.keys.now c.in-empty.len_below

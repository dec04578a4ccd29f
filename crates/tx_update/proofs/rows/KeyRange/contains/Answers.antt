use Rattle.tx_update.proofs.Topmost.{in_open_range}
use Rattle.tx_update.proofs.rows.KeyRange.contains.Goals as goal

pub returns-in-None : goal.returns-in-None
returns-in-None c =
    in_open_range c.args.self.now.from c.args.key.now c.as_bytes.result.now c.as_bytes.ensures.value
    c.as_bytes.ensures.within c.know_bytes.ensures c.args.self.now.to c.in-None.is c.le-in-None.result
    c.le-in-None.ensures

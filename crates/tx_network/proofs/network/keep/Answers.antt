use Rattle.std.proofs.Common.{Some, string_bytes}
use Rattle.std.proofs.lemmas.Map.Text.{btree_map_updates_text}
use Rattle.tx_network.proofs.network.keep.Goals as goal

pub returns-in-Ok-clause-sets : goal.returns-in-Ok-clause-sets
returns-in-Ok-clause-sets g c =
    btree_map_updates_text (string_bytes c.args.name) c.args.held.now c.insert.new.self (Some c.args.request)
    c.in-Ok.ensures.updates

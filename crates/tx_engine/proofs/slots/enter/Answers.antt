use Rattle.std.proofs.Common.{Some, bytes_eq, ap, ◌∙◌, string_bytes}
use Rattle.std.specs.Map.{update}
use Rattle.std.specs.BTreeMap.{get_by_text}
use Rattle.std.proofs.lemmas.Map.Text.{btree_map_updates_text}
use Rattle.tx_engine.proofs.slots.enter.Goals as goal

pub returns-clause-sets : goal.returns-clause-sets
returns-clause-sets c q =
    btree_map_updates_text (string_bytes c.in_ok-key.key) c.args.names.now c.insert.new.self _
    c.in_ok-insert.ensures.updates q
    ∙ ap (λ n. update bytes_eq (get_by_text c.args.names.now) n (Some c.args.k) q) c.in_ok-key.ensures.ok

use Rattle.std.proofs.Common.{Some, bytes_eq, ap, ◌∙◌, string_bytes}
use Rattle.std.specs.Map.{update}
use Rattle.std.specs.BTreeMap.{get_by_text}
use Rattle.std.proofs.lemmas.Map.Text.{btree_map_updates_text}
use Rattle.tx_workload.proofs.script.ScriptReader.begin.Goals as goal

pub returns-clause-indexes : goal.returns-clause-indexes
returns-clause-indexes g c q =
    let was = c.args.self.now.indexes in
    btree_map_updates_text (string_bytes c.in_ok-name.name) was c.insert.new.self _ c.in_ok-insert.ensures.updates q
    ∙ ap (λ n. update bytes_eq (get_by_text was) n (Some c.len-index.result) q) c.in_ok-name.ensures.ok
    ∙ ap (λ i. update bytes_eq (get_by_text was) c.args.name.now (Some i) q) c.len-index.ensures

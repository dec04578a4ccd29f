use Rattle.std.proofs.Common.{◌≡◌, ◌+◌, ◌++◌, take}
use Rattle.tx_import.specs.Numbers.{are_lists}
use Rattle.tx_import.specs.Drafts.{weight, held, GrowsDraft, FitsOps, AddsOps}
use Rattle.tx_import.proofs.draft.Draft.put_ops.Given as goal

abbrev pub invariant-loop-op : goal.invariant-loop-op
invariant-loop-op l =
    let done = take l.op-index l.said in
    AddsOps l.fn.self l.self done × GrowsDraft l.fn.self l.self × FitsOps l.self
    × (held l.self ≡ held l.fn.self + weight done) × (l.self.transactions ≡ l.fn.self.transactions)
    × (l.self.tables.processes ≡ l.fn.self.tables.processes)
    × (l.self.tables.lists.items ≡ l.fn.self.tables.lists.items ++ are_lists done)

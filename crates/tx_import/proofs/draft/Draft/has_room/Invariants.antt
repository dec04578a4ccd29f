use Rattle.std.proofs.Common.{◌≡◌, ◌+◌, take}
use Rattle.tx_import.specs.Drafts.{weight, held}
use Rattle.tx_import.proofs.draft.Draft.has_room.Given as goal

abbrev pub invariant-loop-op : goal.invariant-loop-op
invariant-loop-op l = l.room + (weight (take l.op-index l.said) + held l.self) ≡ 0xffff_ffff

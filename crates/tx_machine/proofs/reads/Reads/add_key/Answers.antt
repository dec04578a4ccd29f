use Rattle.tx_machine.proofs.Distinct.{some_of, none_of}
use Rattle.tx_machine.proofs.Marks.{adds_key_at, adds_key_again}
use Rattle.tx_machine.proofs.reads.Reads.add_key.Goals as goal

pub returns-then-is_some-clause-ok : goal.returns-then-is_some-clause-ok
returns-then-is_some-clause-ok c = let h = some_of _ _ c.if-is_some.ensures c.read_alone.ensures.some in
    adds_key_again _ _ _ _ _ h.1.1 h.1.0

pub returns-clause-ok : goal.returns-clause-ok
returns-clause-ok c =
    adds_key_at _ _ _ _ _ _ c.in_ok-clone.ensures.ok c.in_ok-insert.ensures.updates.0
    (none_of _ _ c.if-is_some.ensures c.read_alone.ensures.none)

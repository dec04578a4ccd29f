use Rattle.tx_text.proofs.ListedRows.{pair_begins, triple_begins}
use Rattle.tx_text.proofs.row_list.row_at.Goals as goal

pub returns-in-Some-clause-begins : goal.returns-in-Some-clause-begins
returns-in-Some-clause-begins c =
    pair_begins _ _ _ _ _ _ _ _ c.in_ok-open.ensures.same c.in_ok-first.ensures.begins c.in_ok-next.ensures.same
    c.in_ok-second.ensures.begins c.in-Some.ensures.same

pub returns-clause-begins : goal.returns-clause-begins
returns-clause-begins c =
    triple_begins _ _ _ _ _ _ _ _ _ _ _ c.in_ok-open.ensures.same c.in_ok-first.ensures.begins c.in_ok-next.ensures.same
    c.in_ok-second.ensures.begins c.in_ok-last.ensures.same
    c.in_ok-third.ensures.begins c.in_ok-end.ensures.same

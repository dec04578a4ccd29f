-- What is put is part of a version, or nothing is.
use Rattle.tx_verdict.proofs.fit.is_op_placed.Goals as goal

pub returns-in_default : goal.returns-in_default
returns-in_default c _ v put = absurd (c.in_default.ensures.none v put)

pub returns : goal.returns
returns c is v put = c.is_placed.ensures is

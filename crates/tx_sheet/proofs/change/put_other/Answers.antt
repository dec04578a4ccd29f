use Rattle.tx_sheet.proofs.Others.{any_is, is_any, others_in, others_out}
use Rattle.tx_sheet.proofs.change.put_other.Goals as goal

pub returns-then-has : goal.returns-then-has
returns-then-has c some h = others_in c.args.others.now some c.args.seen c.args.found.now.items h
    (any_is c.args.others.now c.args.seen (c.has.ensures.0 c.if-has.true))

pub returns : goal.returns
returns c some h = rw c.in_ok-push.ensures.items (others_out c.args.others.now some c.args.seen c.args.found.now.items h
    (λ w. cc (c.has.ensures.1 (is_any c.args.others.now c.args.seen w), c.if-has.false)))

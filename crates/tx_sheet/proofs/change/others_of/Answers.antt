use Rattle.std.proofs.Common.{◌<◌, length, take, take_all, drop, sym, subst, arith}
use Rattle.std.proofs.lemmas.List.{take_more, take-append-drop}
use Rattle.tx_sheet.specs.Changes.{AreOthers}
use Rattle.tx_sheet.proofs.Others.{others_end}
use Rattle.tx_sheet.proofs.change.others_of.Goals as goal

pub records-preserved : goal.records-preserved
records-preserved c =
    let first = take c.end_of-end.result c.args.some.now in
    let i = c.records.seen-index in
    let within : i < length first = omega (arith, c.records-test.true) in
    subst (λ l. AreOthers c.args.others.now l c.put_other.new.found.items) (sym (take_more first i _ within))
    (c.in_ok-put_other.ensures (take i first) c.records.invariant)

pub returns : goal.returns
returns c =
    let some = c.args.some.now in
    let others = c.args.others.now in
    let end = c.end_of-end.result in
    let first = take end some in
    let whole = subst (λ l. AreOthers others l c.records.found.items)
    (take_all c.records.seen-index first (omega (arith, c.records-test.false))) c.records.invariant in
    subst (λ l. AreOthers others l c.records.found.items) (take-append-drop end some)
    (others_end others first (drop end some) c.records.found.items whole c.end_of-end.ensures.known)

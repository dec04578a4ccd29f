use Rattle.std.proofs.Common.{rules, ◌≡◌, ◌∙◌, ◌<◌, ◌+◌, ◌-◌, None, length, arith, sym, ap}
use Rattle.tx_transaction.specs.declared.state.Progress.{Progress}
use Rattle.tx_transaction.specs.Buffers.{Entries, async_minimum, promised_from}
use Rattle.tx_transaction.proofs.Places.{rest, promised_empty, promised_none, promised_more, promised_stops, promised_all, promised_some}
use Rattle.tx_transaction.proofs.buffer.promised.Goals as goal

pub returns-then-len-eq0 : goal.returns-then-len-eq0
returns-then-len-eq0 c = sym (promised_empty c.args.buffer.now
    (omega (arith, c.if-len-eq0.true, c.len-len.ensures.len)))

pub returns-in_err-async_minimum : goal.returns-in_err-async_minimum
returns-in_err-async_minimum c =
    let es : Entries = c.args.buffer.now in
    let lt : c.len-len.result - 1 < length es = omega (arith, c.if-len-eq0.false, c.len-len.ensures.len) in
    let last : c.async_minimum.result ≡ None = search rules in
    let given : c.from_residual.result ≡ None = search rules in
    let none = ap (λ (p : Progress). async_minimum p.accepted) (sym c.progress_of.ensures) ∙ sym c.async_minimum.ensures
    ∙ last in
    given ∙ sym (promised_none es (c.len-len.result - 1) lt none)

pub returns-in_default : goal.returns-in_default
returns-in_default c =
    let es : Entries = c.args.buffer.now in
    let lt : c.loop-i.i < length es = omega (arith, c.len-len.ensures.len) in
    let none = ap (λ (p : Progress). async_minimum p.accepted) (sym c.progress_of-in-loop-i.ensures)
    ∙ sym c.async_minimum-in-loop-i.ensures
    ∙ c.in_default.is in
    sym (promised_some es (omega (arith, lt)) ∙ c.loop-i.invariant
    ∙ promised_stops c.loop-i.greatest c.loop-i.i es lt none)

pub loop-i-preserved : goal.loop-i-preserved
loop-i-preserved c =
    let es : Entries = c.args.buffer.now in
    let lt : c.loop-i.i < length es = omega (arith, c.len-len.ensures.len) in
    let some = ap (λ (p : Progress). async_minimum p.accepted) (sym c.progress_of-in-loop-i.ensures)
    ∙ sym c.async_minimum-in-loop-i.ensures
    ∙ c.in-Some.is in
    c.loop-i.invariant ∙ promised_more c.loop-i.greatest c.loop-i.i
    c.in-Some.minimum es lt some ∙ ap (λ n. promised_from n (rest (c.loop-i.i + 1) es))
    (sym c.later-greatest.ensures)

pub returns : goal.returns
returns c =
    let es : Entries = c.args.buffer.now in
    sym (promised_some es (omega (arith, c.if-len-eq0.false, c.len-len.ensures.len)) ∙ c.loop-i.invariant
    ∙ promised_all c.loop-i.greatest c.loop-i.i es (omega (arith, c.len-len.ensures.len)))

use Rattle.std.proofs.Common.{arith, drop, ◌+◌, subst}
use Rattle.json.specs.Token.{null}
use Rattle.json.specs.Lex.{token}
use Rattle.tx_text.specs.Scan.{Begins}
use Rattle.tx_text.proofs.Digits.{null_begins}
use Rattle.tx_text.proofs.scan.null.Goals as goal

pub returns-clause-begins : goal.returns-clause-begins
returns-clause-begins c =
    let bytes = c.as_bytes-bytes.result.now in
    let start = c.past_spaces-start.result in
    subst (λ b. Begins (drop c.args.from b) (token null) (drop (start + 4) b)) c.as_bytes-bytes.ensures.value
    (null_begins (drop c.args.from bytes) bytes start (omega arith) c.past_spaces-start.ensures.same
    c.if-bytes-start-ne110.false c.if-bytes-start-ne117.false c.if-bytes-start-ne108.false
    c.if-bytes-start-ne108-2.false
    (c.ends_word.ensures c.if-not-ends_word.false))

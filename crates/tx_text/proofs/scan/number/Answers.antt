use Rattle.std.proofs.Common.{arith, drop, sym, subst, ap, ◌∙◌}
use Rattle.std.specs.Prelude.{slice_range, ◌<◌, ◌^◌}
use Rattle.fast_float.specs.Text.{scan, IsInteger, digits_of}
use Rattle.tx_text.specs.Scan.{BeginsNumber}
use Rattle.tx_text.proofs.Digits.{number_begins, number_reads, no_sign}
use Rattle.tx_text.proofs.scan.number.Goals as goal

pub returns-clause-begins : goal.returns-clause-begins
returns-clause-begins c =
    let bytes = c.as_bytes-bytes.result.now in
    let s = c.past_spaces-start.result in
    let e = c.digits_end-end.result in
    let ends = c.ends_word.ensures c.if-not-ends_word.false in
    let parts = c.scan.ensures.parts in
    let found = c.in_ok-n.ensures in
    let integer : IsInteger (scan (slice_range bytes s e)) = subst IsInteger parts found.0.0 in
    let small : digits_of (scan (slice_range bytes s e)) < 2 ^ 64 = subst (λ p. digits_of p < 2 ^ 64) parts found.0.1 in
    let begins : BeginsNumber (drop c.args.from bytes) c.in_ok-n.n (drop e bytes) = (
      slice_range bytes s e,
      number_begins (drop c.args.from bytes) bytes s e (omega arith) (omega arith) c.past_spaces-start.ensures.same
          c.digits_end-end.ensures.digits c.digits_end-end.ensures.lexemes (omega arith) (omega arith) ends,
      number_reads (slice_range bytes s e) c.in_ok-n.n (no_sign bytes s e (omega arith) (omega arith)) integer small
          (ap digits_of (sym parts) ∙ sym found.1),
    ) in
    subst (λ b. BeginsNumber (drop c.args.from b) c.in_ok-n.n (drop e b)) c.as_bytes-bytes.ensures.value begins

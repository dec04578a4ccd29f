use Rattle.std.proofs.Common.{arith, rules, ◌≡◌, true, get_or}
use Rattle.std.specs.Char.{is_ascii_digit}
use Rattle.tx_text.proofs.Digits.{digit_on, word_on}
use Rattle.tx_text.proofs.scan.digits_end.Goals as goal

pub bytes-preserved : goal.bytes-preserved
bytes-preserved c =
    let inv = c.bytes.invariant in
    let bytes = c.args.bytes.now in
    let at = c.bytes.at in
    let is : is_ascii_digit (get_or bytes at 0) ≡ true = search rules in (
      omega arith,
      omega arith,
      digit_on bytes c.args.from at inv.0 (omega arith) is inv.2,
      let d =
          c.if-not-is_ascii_digit.ensures.cases in word_on bytes c.args.from at (omega arith) d.0 d.1 inv.3,
    )

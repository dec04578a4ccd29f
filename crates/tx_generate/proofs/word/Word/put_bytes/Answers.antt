use Rattle.std.proofs.Common.{IsUtf8, sym, subst, arith}
use Rattle.tx_generate.specs.Words.{word_text}
use Rattle.tx_generate.proofs.Words.{letter_utf8}
use Rattle.tx_generate.proofs.word.Word.put_bytes.Goals as goal

pub returns-in_err-push-in-Key-clause-text : goal.returns-in_err-push-in-Key-clause-text
returns-in_err-push-in-Key-clause-text c =
    subst (λ w. IsUtf8 (word_text w)) (sym c.in-Key.is) (letter_utf8 c.in-Key.number)

pub returns-in-Session-clause-text : goal.returns-in-Session-clause-text
returns-in-Session-clause-text c =
    subst (λ w. IsUtf8 (word_text w)) (sym c.in-Session.is) (c.put_numbered.ensures.text (omega arith))

pub returns-in-Held-clause-text : goal.returns-in-Held-clause-text
returns-in-Held-clause-text c =
    subst (λ w. IsUtf8 (word_text w)) (sym c.in-Held.is) (c.put_numbered-in-Held.ensures.text (omega arith))

pub returns-in-Value-clause-text : goal.returns-in-Value-clause-text
returns-in-Value-clause-text c =
    subst (λ w. IsUtf8 (word_text w)) (sym c.in-Value.is) (c.put_numbered-in-Value.ensures.text (omega arith))

pub returns-in-Many-clause-text : goal.returns-in-Many-clause-text
returns-in-Many-clause-text c =
    subst (λ w. IsUtf8 (word_text w)) (sym c.in-Many.is) (c.put_numbered-in-Many.ensures.text (omega arith))

pub returns-in-Long-clause-text : goal.returns-in-Long-clause-text
returns-in-Long-clause-text c =
    subst (λ w. IsUtf8 (word_text w)) (sym c.in-Long.is) c.put_long.ensures.text

pub returns-in-TooLong-clause-text : goal.returns-in-TooLong-clause-text
returns-in-TooLong-clause-text c =
    subst (λ w. IsUtf8 (word_text w)) (sym c.in-TooLong.is) c.put_long-in-TooLong.ensures.text

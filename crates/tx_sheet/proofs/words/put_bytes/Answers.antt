use Rattle.std.proofs.Common.{◌<◌, ◌≤◌, ℕ, List, arith}
use Rattle.std.specs.Str.{IsUtf8}
use Rattle.std.proofs.lemmas.Str.{IsUtf8-from_ascii}
use Rattle.std.proofs.lemmas.Str.Ascii.{IsAscii-from_all}
use Rattle.std.proofs.lemmas.List.Elements.{All-weaker}
use Rattle.tx_sheet.specs.Words.{IsWord}
use Rattle.tx_sheet.proofs.Lists.{on_ok}
use Rattle.tx_sheet.proofs.words.put_bytes.Goals as goal

-- a word is a text
word_text : (bytes : List ℕ) → IsWord bytes → IsUtf8 bytes
word_text bytes w = IsUtf8-from_ascii bytes (IsAscii-from_all bytes
    (All-weaker (λ b. (33 ≤ b) × (b ≤ 126)) (λ b. b < 128) (λ b h. omega (arith, h.1)) bytes w.2))

pub returns-in-Ok : goal.returns-in-Ok
returns-in-Ok c = rw c.in-Ok.ensures.cases.0 at c.put_shown.ensures

pub returns-in-Err : goal.returns-in-Err
returns-in-Err c = on_ok c.put_shown-in-Err.result _ _
    (λ h w. absurd (c.in-Err.ensures.cases.0 (word_text c.args.bytes.now w))) c.put_shown-in-Err.ensures

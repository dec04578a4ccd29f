-- The first line of a text, and what comes after it.
use Rattle.std.proofs.Common.{◌≡◌, ◌<◌, ℕ, ◌+◌, suc, List, [], ◌∷◌, ◌++◌, length, take, drop, get_or, sym, ap, subst, ◌∙◌, arith, drop-cons, take-append-drop, take_all}
use Rattle.std.proofs.lemmas.List.{drop_all}
use Rattle.tx_text.specs.Lines.{lines_of, NoNewline}
use Rattle.tx_text.proofs.TextLines.{lines_of-line, lines_of-last}

-- a text is its first line, a newline, and the rest
pub split : (text : List ℕ) (len : ℕ) → len < length text → get_or text len 0 ≡ 10
    → text ≡ take len text ++ 10 ∷ drop (len + 1) text
split text len within is =
    sym (take-append-drop len text)
    ∙ ap (λ r. take len text ++ r) (drop-cons text len 0 within ∙ ap (λ x. x ∷ drop (suc len) text) is)
    ∙ ap (λ k. take len text ++ 10 ∷ drop k text) (one len)
  where
    one : (k : ℕ) → suc k ≡ k + 1
    one k = omega arith

pub ended : (text : List ℕ) (len : ℕ) → len < length text → NoNewline (take len text) → get_or text len 0 ≡ 10
    → lines_of text ≡ take len text ∷ lines_of (drop (len + 1) text)
ended text len within none is =
    ap lines_of (split text len within is) ∙ lines_of-line (take len text) (drop (len + 1) text) none

pub last : (text : List ℕ) (len : ℕ) → 0 < length text → NoNewline (take len text) → len ≡ length text
    → lines_of text ≡ take len text ∷ lines_of (drop len text)
last text len some none is =
    let whole : take len text ≡ text = take_all len text (omega arith) in
    lines_of-last text (subst NoNewline whole none) some
    ∙ ap (λ l. l ∷ []) (sym whole)
    ∙ ap (λ r. take len text ∷ lines_of r) (sym (drop_all len text (omega arith)))

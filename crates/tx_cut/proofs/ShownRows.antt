-- Rows that are shown, one after another.
use Rattle.std.proofs.Common.{◌≡◌, ℕ, ◌+◌, ◌<◌, List, [], ◌∷◌, ◌++◌, Bool, length, take, get_or, sym, ap, ◌∙◌, arith}
use Rattle.std.proofs.lemmas.List.{take_more, length-take, append_assoc, append-nil}
use Rattle.tx_sheet.specs.declared.row.Row.{Row}
use Rattle.tx_cut.specs.declared.cut.Cut.{Cut}
use Rattle.tx_cut.specs.Parts.{if_shown, shown_behind}

-- one row more, behind the last
pub shown_on : (cut : Cut) (named : List Bool) (number : ℕ) (rows : List Row) (row : Row)
    → shown_behind cut named number (rows ++ row ∷ [])
    ≡ shown_behind cut named number rows ++ if_shown cut named (number + length rows + 1) row
shown_on cut named number [] row =
    append-nil (if_shown cut named (number + 1) row) ∙ ap (λ k. if_shown cut named k row) (omega arith)
shown_on cut named number (r ∷ rs) row =
    let first = if_shown cut named (number + 1) r in
    let rest = shown_behind cut named (number + 1) rs in
    ap (λ xs. first ++ xs) (shown_on cut named (number + 1) rs row
    ∙ ap (λ k. rest ++ if_shown cut named k row) (omega arith))
    ∙ sym (append_assoc first rest (if_shown cut named (number + length (r ∷ rs) + 1) row))

-- so many rows are before the next
so_many : (rows : List Row) (i : ℕ) → i < length rows → i + 1 ≡ 0 + length (take i rows) + 1
so_many rows i h = let n = length-take i rows in omega (arith, h)

-- the row at a place, behind those before it
pub shown_more : (cut : Cut) (named : List Bool) (rows : List Row) (i : ℕ) (d : Row) → i < length rows
    → shown_behind cut named 0 (take i rows) ++ if_shown cut named (i + 1) (get_or rows i d)
    ≡ shown_behind cut named 0 (take (i + 1) rows)
shown_more cut named rows i d h =
    ap (λ k. shown_behind cut named 0 (take i rows) ++ if_shown cut named k (get_or rows i d)) (so_many rows i h)
    ∙ sym (shown_on cut named 0 (take i rows) (get_or rows i d))
    ∙ ap (shown_behind cut named 0) (sym (take_more rows i d h))

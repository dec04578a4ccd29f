-- Small facts on lists, and on the lines of a text.
use Rattle.std.proofs.Common.{◌≡◌, ◌≢◌, ℕ, ◌-◌, ◌+◌, ◌<◌, ◌≤◌, ◌==◌, ◌++◌, false, List, [], ◌∷◌, length, take, drop, slice_index, length-drop, take_all, refl, sym, ap, subst, ◌∙◌, append_assoc, arith, ne_eqb, append-nil, Option, None, Some, IfSome}
use Rattle.std.specs.Io.KnownBytes.{Consumes, Keeps, IsAtEnd}
use Rattle.std.proofs.KnownBytes.{Consumes-trans}
use Rattle.tx_text.specs.declared.lines.Found.TheVariants.{Line, Long, End}
use Rattle.std.proofs.lemmas.List.{take-append-drop, drop_more}
use Rattle.std.proofs.lemmas.List.Elements.{All-head, All-tail, All-append, All-cons, All-nil}
use Rattle.tx_text.specs.Lines.{lines_of, onto_first, max_line, ReadsLine, NoNewline}

pub slice-end : (field : List ℕ) (s : ℕ) → take (length field - s) (drop s field) ≡ drop s field
slice-end field s =
    let len = length-drop s field in
    take_all (length field - s) (drop s field) (omega arith)

-- the bytes before a newline, it, and the bytes behind it
pub split_at_newline : (bytes : List ℕ) (i : ℕ) → i < length bytes → slice_index bytes i ≡ 10
    → bytes ≡ take i bytes ++ 10 ∷ drop (i + 1) bytes
split_at_newline bytes i lt is =
    sym (take-append-drop i bytes) ∙ ap (λ r. take i bytes ++ r) (drop_more bytes i 0 lt
    ∙ ap (λ x. x ∷ drop (i + 1) bytes) is)

-- a line and its newline come first
pub lines_of-line : (line rest : List ℕ) → NoNewline line → lines_of (line ++ 10 ∷ rest) ≡ line ∷ lines_of rest
lines_of-line [] rest none = refl
lines_of-line (x ∷ line) rest none =
    let tail = lines_of-line line rest (All-tail (λ y. y ≢ 10) x line none) in
    rw (ne_eqb x 10 (All-head (λ y. y ≢ 10) x line none), tail) refl

-- whatever follows, a text with some byte in front has a first line, which begins with what stands
-- before its first newline
pub lines_of-long : (line rest : List ℕ) → NoNewline line → 0 < length line
    → (first : List ℕ) × (more : List (List ℕ)) × (length line ≤ length first)
    × (lines_of (line ++ rest) ≡ first ∷ more)
lines_of-long [] rest none some = absurd (omega arith)
lines_of-long (x ∷ line) rest none some =
    begin_with (lines_of (line ++ rest)) line x (within line rest (All-tail (λ y. y ≢ 10) x line none))
    (ne_eqb x 10 (All-head (λ y. y ≢ 10) x line none)) refl
  where
    Front : List ℕ → List (List ℕ) → Type 0
    Front line [] = length line ≡ 0
    Front line (first ∷ more) = length line ≤ length first

    grown : (lines : List (List ℕ)) (line : List ℕ) (x : ℕ) → Front line lines → Front (x ∷ line) (onto_first x lines)
    grown [] line x front = omega arith
    grown (first ∷ more) line x front = omega arith

    within : (line rest : List ℕ) → NoNewline line → Front line (lines_of (line ++ rest))
    within [] rest none = empty (lines_of rest)
      where
        empty : (lines : List (List ℕ)) → Front [] lines
        empty [] = refl
        empty (first ∷ more) = omega arith
    within (x ∷ line) rest none =
        rw (ne_eqb x 10 (All-head (λ y. y ≢ 10) x line none))
        (grown (lines_of (line ++ rest)) line x (within line rest (All-tail (λ y. y ≢ 10) x line none)))

    begin_with : (lines : List (List ℕ)) (line : List ℕ) (x : ℕ) → Front line lines → (x == 10) ≡ false
        → lines_of (line ++ rest) ≡ lines
        → (first : List ℕ) × (more : List (List ℕ)) × (length (x ∷ line) ≤ length first)
        × (lines_of (x ∷ line ++ rest) ≡ first ∷ more)
    begin_with [] line x front other is = (x ∷ [], [], omega arith, rw (other, is) refl)
    begin_with (first ∷ more) line x front other is = (x ∷ first, more, omega arith, rw (other, is) refl)

-- the last line, with no newline
pub lines_of-last : (line : List ℕ) → NoNewline line → 0 < length line → lines_of line ≡ line ∷ []
lines_of-last [] none some = absurd (omega arith)
lines_of-last (x ∷ []) none some = rw (ne_eqb x 10 (All-head (λ y. y ≢ 10) x [] none)) refl
lines_of-last (x ∷ y ∷ line) none some =
    let tail = lines_of-last (y ∷ line) (All-tail (λ z. z ≢ 10) x (y ∷ line) none) (omega arith) in
    rw (ne_eqb x 10 (All-head (λ z. z ≢ 10) x (y ∷ line) none)) (ap (onto_first x) tail)

-- ---- what a read of known bytes finds

pub found_line : (a b c : Option (List ℕ)) (line : List ℕ) → NoNewline line → length line ≤ max_line → Consumes a b line
    → Consumes b c (10 ∷ []) → IfSome a (λ bytes. ReadsLine bytes c Line line)
found_line None b c line none bound first next = tt
found_line (Some x) None c line none bound first next = absurd first
found_line (Some x) (Some y) None line none bound first next = absurd next
found_line (Some x) (Some y) (Some z) line none bound first next =
    (z, refl, bound, ap lines_of (first ∙ ap (λ l. line ++ l) next) ∙ lines_of-line line z none)

pub found_last : (a b c : Option (List ℕ)) (line : List ℕ) → NoNewline line → length line ≤ max_line → 0 < length line
    → Consumes a b line → Consumes b c [] → IsAtEnd c → IfSome a (λ bytes. ReadsLine bytes c Line line)
found_last None b c line none bound some first next end = tt
found_last (Some x) None c line none bound some first next end = absurd first
found_last (Some x) (Some y) None line none bound some first next end = absurd next
found_last (Some x) (Some y) (Some z) line none bound some first next end = (
  [],
  ap Some end,
  bound,
  ap lines_of (first ∙ ap (λ l. line ++ l) (next ∙ end) ∙ append-nil line)
      ∙ lines_of-last line none some,
)

pub found_end : (a b c : Option (List ℕ)) (line : List ℕ) → length line ≡ 0 → Consumes a b line → Consumes b c []
    → IsAtEnd c → IfSome a (λ bytes. ReadsLine bytes c End line)
found_end None b c line empty first next end = tt
found_end (Some x) None c line empty first next end = absurd first
found_end (Some x) (Some y) None line empty first next end = absurd next
found_end (Some x) (Some y) (Some z) [] empty first next end = first ∙ next ∙ end
found_end (Some x) (Some y) (Some z) (w ∷ line) empty first next end = absurd (omega arith)

pub found_long : (a b : Option (List ℕ)) (line : List ℕ) → NoNewline line → max_line < length line → Consumes a b line
    → IfSome a (λ bytes. ReadsLine bytes b Long line)
found_long None b line none long first = tt
found_long (Some x) None line none long first = absurd first
found_long (Some x) (Some y) line none long first =
    let front = lines_of-long line y none (omega arith) in
    (front.0, front.1, omega (arith, front.2), ap lines_of first ∙ front.3)

pub no_newline_more : (line : List ℕ) (x : ℕ) → NoNewline line → x ≢ 10 → NoNewline (line ++ x ∷ [])
no_newline_more line x none other =
    All-append (λ y. y ≢ 10) line (x ∷ []) none (All-cons (λ y. y ≢ 10) x [] other (All-nil (λ y. y ≢ 10)))

-- ---- what is taken a part at a time

pub kept_none : (a b : Option (List ℕ)) → Keeps a b → Consumes a b []
kept_none None b k = tt
kept_none (Some x) None k = absurd k
kept_none (Some x) (Some y) k = sym k

pub ended : (a b : Option (List ℕ)) (shown : List ℕ) → IfSome a (λ xs. length shown ≡ 0 → xs ≡ []) → length shown ≡ 0
    → Keeps a b → IfSome a (λ _. IsAtEnd b)
ended None b shown e n k = tt
ended (Some x) None shown e n k = absurd k
ended (Some x) (Some y) shown e n k = k ∙ e n

end_of : (b c : Option (List ℕ)) (x bs : List ℕ) → Consumes (Some x) b bs → IfSome b (λ _. IsAtEnd c) → IsAtEnd c
end_of None c x bs p e = absurd p
end_of (Some y) c x bs p e = e

-- the rest of a line and its newline
pub rest_taken : (a b c : Option (List ℕ)) (before bs after : List ℕ) → after ≡ before ++ bs → Consumes a b before
    → Consumes b c (bs ++ 10 ∷ []) → Consumes a c (after ++ 10 ∷ [])
rest_taken a b c before bs after e p q =
    subst (Consumes a c) (sym (append_assoc before bs (10 ∷ []))
    ∙ ap (λ l. l ++ 10 ∷ []) (sym e)) (Consumes-trans a b c before (bs ++ 10 ∷ []) p q)

pub part_taken : (a b c : Option (List ℕ)) (before bs after : List ℕ) → after ≡ before ++ bs → Consumes a b before
    → Consumes b c bs → Consumes a c after
part_taken a b c before bs after e p q = subst (Consumes a c) (sym e) (Consumes-trans a b c before bs p q)

pub part_plain : (before bs after : List ℕ) → after ≡ before ++ bs → NoNewline before → NoNewline bs → NoNewline after
part_plain before bs after e p q = subst NoNewline (sym e) (All-append (λ y. y ≢ 10) before bs p q)

pub line_found : (a c : Option (List ℕ)) (line : List ℕ) → NoNewline line → length line ≤ max_line
    → Consumes a c (line ++ 10 ∷ []) → IfSome a (λ bytes. ReadsLine bytes c Line line)
line_found None c line none bound p = tt
line_found (Some x) None line none bound p = absurd p
line_found (Some x) (Some z) line none bound p =
    (z, refl, bound, ap lines_of (p ∙ append_assoc line (10 ∷ []) z) ∙ lines_of-line line z none)

pub long_found : (a c : Option (List ℕ)) (line : List ℕ) → NoNewline line → max_line < length line
    → Consumes a c (line ++ 10 ∷ []) → IfSome a (λ bytes. ReadsLine bytes c Long line)
long_found None c line none long p = tt
long_found (Some x) None line none long p = absurd p
long_found (Some x) (Some z) line none long p =
    (line, lines_of z, long, ap lines_of (p ∙ append_assoc line (10 ∷ []) z) ∙ lines_of-line line z none)

pub last_found : (a b c : Option (List ℕ)) (before line : List ℕ) → line ≡ before → NoNewline before
    → length before ≤ max_line → 0 < length line → Consumes a b before → Consumes b c [] → IfSome b (λ _. IsAtEnd c)
    → IfSome a (λ bytes. ReadsLine bytes c Line line)
last_found None b c before line e none bound some p q end = tt
last_found (Some x) b c before line e none bound some p q end =
    subst (λ l. ReadsLine x c Line l) (sym e)
    (found_last (Some x) b c before none bound (subst (λ l. 0 < length l) e some) p q (end_of b c x before p end))

pub end_found : (a b c : Option (List ℕ)) (before line : List ℕ) → line ≡ before → length line ≡ 0 → Consumes a b before
    → Consumes b c [] → IfSome b (λ _. IsAtEnd c) → IfSome a (λ bytes. ReadsLine bytes c End line)
end_found None b c before line e empty p q end = tt
end_found (Some x) b c before line e empty p q end =
    found_end (Some x) b c before (subst (λ l. length l ≡ 0) e empty) p q (end_of b c x before p end)

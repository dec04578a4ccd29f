-- No byte of a compact text is a newline: so what is written for a value is one line.
use Rattle.std.proofs.Common.{◌≡◌, ◌≢◌, ℕ, zero, suc, ◌+◌, ◌%◌, ◌^◌, ◌<◌, ◌==◌, List, [], ◌∷◌, ◌++◌, Bool, true, false, not, ◌&&◌, inl, inr, refl, sym, subst, arith}
use Rattle.std.specs.Prelude.{decimal}
use Rattle.std.proofs.lemmas.Bool.{and_parts, cases_eq, cases_lt, not-true, eqb-false}
use Rattle.std.proofs.lemmas.Fmt.{decimal_by_steps}
use Rattle.std.proofs.lemmas.List.Elements.{All-append, All-cons, All-nil}
use Rattle.json.specs.Print.{escape, escape_byte}
use Rattle.json.proofs.Printed.Strings.{escape_byte_plain}
use Rattle.serde_json.specs.Data.{Data, null, boolean, string, number, unsigned, negative, float, array, object, Items, no_items, item}
use Rattle.serde_json.specs.Written.{compact_text, items_text, comma_if}
use Rattle.tx_text.specs.Lines.{NoNewline}
use Rattle.tx_step_text.proofs.Compact.{IsPlain, ArePlain}

more : (x : ℕ) (xs : List ℕ) → x ≢ 10 → NoNewline xs → NoNewline (x ∷ xs)
more x xs other h = All-cons (λ y. y ≢ 10) x xs other h

none : NoNewline []
none = All-nil (λ y. y ≢ 10)

both : (xs ys : List ℕ) → NoNewline xs → NoNewline ys → NoNewline (xs ++ ys)
both xs ys h k = All-append (λ y. y ≢ 10) xs ys h k

-- ---- strings

abbrev has_none : List ℕ → Bool
has_none [] = true
has_none (x ∷ xs) = not (x == 10) && has_none xs

from_test : (xs : List ℕ) → has_none xs ≡ true → NoNewline xs
from_test [] e = none
from_test (x ∷ xs) e =
    let p = and_parts _ _ e in
    more x xs (eqb-false x 10 (not-true (x == 10) p.0)) (from_test xs p.1)

-- the escapes of the bytes below n have none
abbrev none_below : ℕ → Bool
none_below zero = true
none_below (suc n) = has_none (escape_byte n) && none_below n

escape_below : (n : ℕ) → none_below n ≡ true → (x : ℕ) → x < n → has_none (escape_byte x) ≡ true
escape_below zero e x h = absurd (omega arith)
escape_below (suc n) e x h =
    let p = and_parts _ _ e in
    elim (cases_eq x n) [ inl same ↦ rw same p.0 | inr other ↦ escape_below n p.1 x (omega arith) ]

all_below : none_below 93 ≡ true
unfolding escape_byte
all_below = refl

escape_one : (x : ℕ) → NoNewline (escape_byte x)
escape_one x = elim (cases_lt x 93) [
  | inl small ↦ from_test (escape_byte x) (escape_below 93 all_below x small)
  | inr big ↦
      subst NoNewline (sym (escape_byte_plain x (λ e. omega arith) (λ e. omega arith) (omega arith)))
      (more x [] (λ e. omega arith) none)
]

escape_all : (s : List ℕ) → NoNewline (escape s)
escape_all [] = none
escape_all (x ∷ s) = both (escape_byte x) (escape s) (escape_one x) (escape_all s)

-- ---- numbers

decimal_none : (n : ℕ) → n < 2 ^ 64 → NoNewline (decimal n)
decimal_none n h =
    decimal_by_steps (λ m ds. NoNewline ds)
    (λ m l. more (48 + m) [] (λ e. omega arith) none)
    (λ m ds l k. both ds ((48 + m % 10) ∷ []) k (more (48 + m % 10) [] (λ e. omega arith) none))
    n h

-- ---- values

comma_none : (later : Bool) → NoNewline (comma_if later)
comma_none true = more 44 [] (λ e. omega arith) none
comma_none false = none

mutual
  pub plain_none : (d : Data) → IsPlain d → NoNewline (compact_text d)
  plain_none (string s) h =
      more 34 (escape s ++ 34 ∷ []) (λ e. omega arith)
      (both (escape s) (34 ∷ []) (escape_all s) (more 34 [] (λ e. omega arith) none))
  plain_none (number (unsigned n)) h = decimal_none n h
  plain_none (number (negative z)) h = absurd h
  plain_none (number (float x)) h = absurd h
  plain_none null h = absurd h
  plain_none (boolean b) h = absurd h
  plain_none (array ds) h = more 91 (items_text false ds) (λ e. omega arith) (items_none ds false h)
  plain_none (object ms) h = absurd h

  items_none : (ds : Items) (later : Bool) → ArePlain ds → NoNewline (items_text later ds)
  items_none no_items later h = more 93 [] (λ e. omega arith) none
  items_none (item d ds) later h =
      both (comma_if later) (compact_text d ++ items_text true ds) (comma_none later)
      (both (compact_text d) (items_text true ds) (plain_none d h.0) (items_none ds true h.1))

-- The lexemes of the bytes of a line, one by one.
use Rattle.std.proofs.Common.{◌≡◌, ◌≢◌, ℕ, suc, ◌+◌, ◌-◌, ◌≤◌, ◌<◌, Bool, true, false, cond, List, [], ◌∷◌, ◌++◌, length, take, drop, get_or, length-drop, Option, Some, None, refl, sym, ap, subst, ◌∙◌, ne_eqb, append_assoc, arith}
use Rattle.std.proofs.lemmas.Bool.{le-ltb}
use Rattle.std.proofs.lemmas.List.{drop_more, get_or-drop}
use Rattle.std.proofs.Math.Seq.{take-suc}
use Rattle.std.specs.Prelude.{slice_range}
use Rattle.json.specs.Token.{begin_array, end_array, string}
use Rattle.json.specs.Lex.{Lexeme, token, comma, operator, space, other, Mode, between, in_string, lex, lex_byte}
use Rattle.json.specs.Text.{content, plain, prepend}
use Rattle.json.specs.Word.{is_operator, is_space}
use Rattle.tx_text.specs.Scan.{Runs, Same, Begins}

-- ---- within a string

other_class : (a b : Bool) (x : ℕ) (xs : List ℕ) (k : Mode → List Lexeme)
    → lex_byte in_string (cond a operator (cond b space other)) x xs k ≡ k in_string
other_class true b x xs k = refl
other_class false true x xs k = refl
other_class false false x xs k = refl

lex_plain : (x : ℕ) (xs : List ℕ) → x ≢ 34 → x ≢ 92 → lex in_string (x ∷ xs) ≡ lex in_string xs
unfolding lex
lex_plain x xs q b = rw (
  ne_eqb x 34 q,
  ne_eqb x 92 b,
) (other_class (is_operator x) (is_space x) x xs (λ next. lex next xs))

content_plain : (x : ℕ) (xs : List ℕ) → 32 ≤ x → x ≢ 34 → x ≢ 92
    → content plain (x ∷ xs) ≡ prepend (x ∷ []) (content plain xs)
unfolding content
content_plain x xs low q b = rw (ne_eqb x 34 q, ne_eqb x 92 b, le-ltb x 32 low) refl

prepend_more : (s : List ℕ) (x : ℕ) (o : Option (List ℕ)) → prepend s (prepend (x ∷ []) o) ≡ prepend (s ++ x ∷ []) o
prepend_more s x None = refl
prepend_more s x (Some t) = ap Some (sym (append_assoc s (x ∷ []) t))

prepend_none : (o : Option (List ℕ)) → o ≡ prepend [] o
prepend_none None = refl
prepend_none (Some t) = refl

pub runs_none : (xs : List ℕ) → Runs xs [] xs
runs_none xs = record { content = prepend_none (content plain xs); lexemes = refl }

pub runs_more : (xs s : List ℕ) (x : ℕ) (ys : List ℕ) → 32 ≤ x → x ≢ 34 → x ≢ 92 → Runs xs s (x ∷ ys)
    → Runs xs (s ++ x ∷ []) ys
runs_more xs s x ys low q b h = record {
  content = h.content ∙ ap (prepend s) (content_plain x ys low q b) ∙ prepend_more s x (content plain ys);
  lexemes = h.lexemes ∙ lex_plain x ys q b;
}

quote_ends : (ys : List ℕ) → content plain (34 ∷ ys) ≡ Some []
unfolding content
quote_ends ys = refl

quote_leaves : (ys : List ℕ) → lex in_string (34 ∷ ys) ≡ lex between ys
unfolding lex
quote_leaves ys = refl

nil_after : (s : List ℕ) → s ++ [] ≡ s
nil_after [] = refl
nil_after (x ∷ xs) = ap (λ l. x ∷ l) (nil_after xs)

string_leads : (xs : List ℕ) (s ys : List ℕ) → content plain xs ≡ Some s → lex in_string xs ≡ lex between ys
    → lex between (34 ∷ xs) ≡ token (string s) ∷ lex between ys
unfolding lex
string_leads xs s ys c l = rw (c, l) refl

-- a string between quotes is a lexeme
pub quoted_begins : (from : List ℕ) (xs s ys : List ℕ) → Same from (34 ∷ xs) → Runs xs s (34 ∷ ys)
    → Begins from (token (string s)) ys
quoted_begins from xs s ys same h =
    same ∙ string_leads xs s ys (h.content ∙ ap (prepend s) (quote_ends ys) ∙ ap Some (nil_after s)) (h.lexemes
    ∙ quote_leaves ys)

-- ---- between strings

pub space_passes : (ys : List ℕ) → Same (32 ∷ ys) ys
unfolding lex
space_passes ys = refl

pub bracket_opens : (xs ys : List ℕ) → Same xs (91 ∷ ys) → Begins xs (token begin_array) ys
unfolding lex
bracket_opens xs ys same = same

pub bracket_closes : (xs ys : List ℕ) → Same xs (93 ∷ ys) → Begins xs (token end_array) ys
unfolding lex
bracket_closes xs ys same = same

pub comma_between : (xs ys : List ℕ) → Same xs (44 ∷ ys) → Begins xs comma ys
unfolding lex
comma_between xs ys same = same

-- ---- at a place of the bytes

slice_more : (bytes : List ℕ) (from at : ℕ) → from ≤ at → at < length bytes
    → slice_range bytes from at ++ get_or bytes at 0 ∷ [] ≡ slice_range bytes from (at + 1)
slice_more bytes from at le h =
    let next : suc (at - from) ≡ at + 1 - from = omega arith in
    let position : from + (at - from) ≡ at = omega arith in
    sym (ap (λ n. take n (drop from bytes)) (sym next)
    ∙ take-suc (drop from bytes) (at - from) 0 (omega (arith, length-drop from bytes))
    ∙ ap (λ x. take (at - from) (drop from bytes) ++ x ∷ []) (get_or-drop from bytes (at - from) 0
    ∙ ap (λ n. get_or bytes n 0) position))

pub space_more : (from bytes : List ℕ) (at : ℕ) → at < length bytes → get_or bytes at 0 ≡ 32 → Same from (drop at bytes)
    → Same from (drop (at + 1) bytes)
space_more from bytes at h e same =
    same ∙ ap (lex between) (drop_more bytes at 0 h ∙ ap (λ x. x ∷ drop (at + 1) bytes) e)
    ∙ space_passes (drop (at + 1) bytes)

pub byte_next : (from bytes : List ℕ) (at x : ℕ) → at < length bytes → get_or bytes at 0 ≡ x → Same from (drop at bytes)
    → Same from (x ∷ drop (at + 1) bytes)
byte_next from bytes at x h e same =
    same ∙ ap (lex between) (drop_more bytes at 0 h ∙ ap (λ y. y ∷ drop (at + 1) bytes) e)

pub runs_next : (xs s bytes : List ℕ) (at x : ℕ) → at < length bytes → get_or bytes at 0 ≡ x → Runs xs s (drop at bytes)
    → Runs xs s (x ∷ drop (at + 1) bytes)
runs_next xs s bytes at x h e runs =
    subst (Runs xs s) (drop_more bytes at 0 h ∙ ap (λ y. y ∷ drop (at + 1) bytes) e) runs

pub run_on : (bytes : List ℕ) (from at : ℕ) → from ≤ at → at < length bytes → 32 ≤ get_or bytes at 0
    → get_or bytes at 0 ≢ 34 → get_or bytes at 0 ≢ 92
    → Runs (drop from bytes) (slice_range bytes from at) (drop at bytes)
    → Runs (drop from bytes) (slice_range bytes from (at + 1)) (drop (at + 1) bytes)
run_on bytes from at le h low q b runs =
    let more = runs_more (drop from bytes) (slice_range bytes from at) (get_or bytes at 0) (drop (at + 1) bytes) low q b
    (runs_next _ _ bytes at (get_or bytes at 0) h refl runs) in
    subst (λ s. Runs (drop from bytes) s (drop (at + 1) bytes)) (slice_more bytes from at le h) more

-- ---- a whole line

pub over : (xs bytes : List ℕ) (at : ℕ) → Same xs (93 ∷ drop at bytes) → Same (drop at bytes) []
    → Begins xs (token end_array) []
over xs bytes at closes ends = bracket_closes xs (drop at bytes) closes ∙ ap (λ ls. token end_array ∷ ls) ends

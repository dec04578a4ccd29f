-- A whole number, or null, among the lexemes of a line.
use Rattle.std.proofs.Common.{◌≡◌, ◌≢◌, ℕ, zero, suc, ◌+◌, ◌-◌, ◌≤◌, ◌<◌, ◌==◌, true, false, cond, List, ◌∷◌, length, take, drop, get_or, length-drop, Some, None, refl, sym, ap, subst, ◌∙◌, inl, inr, ne_eqb, arith}
use Rattle.std.specs.Prelude.{slice_range, ◌^◌}
use Rattle.std.specs.List.{prefix_len}
use Rattle.std.specs.Char.{is_ascii_digit}
use Rattle.std.proofs.lemmas.Bool.{lt-ltb}
use Rattle.std.proofs.lemmas.List.{drop_more, drop-drop, get_or-take, get_or-drop}
use Rattle.fast_float.specs.Text.{Parts, scan, IsInteger, digits_of}
use Rattle.json.specs.Token.{number, null}
use Rattle.json.specs.Lex.{token, between, in_word, lex}
use Rattle.json.specs.Word.{word, after_number, after_digits, after_fraction, after_exponent, number_before}
use Rattle.serde_json.specs.Data.{unsigned}
use Rattle.serde_json.specs.Read.{number_of, is_integer}
use Rattle.tx_text.specs.Scan.{Same, Begins, EndsWord}
use Rattle.std.specs.Prelude.{option_and_then}

-- what holds of the ten digits
each_digit : (P : ℕ → Type 0) → P 48 → P 49 → P 50 → P 51 → P 52 → P 53 → P 54 → P 55 → P 56 → P 57 → (d : ℕ) → d < 10
    → P (48 + d)
each_digit P a b c d e f g h i j zero lt = a
each_digit P a b c d e f g h i j (suc zero) lt = b
each_digit P a b c d e f g h i j (suc (suc zero)) lt = c
each_digit P a b c d e f g h i j (suc (suc (suc zero))) lt = d
each_digit P a b c d e f g h i j (suc (suc (suc (suc zero)))) lt = e
each_digit P a b c d e f g h i j (suc (suc (suc (suc (suc zero))))) lt = f
each_digit P a b c d e f g h i j (suc (suc (suc (suc (suc (suc zero)))))) lt = g
each_digit P a b c d e f g h i j (suc (suc (suc (suc (suc (suc (suc zero))))))) lt = h
each_digit P a b c d e f g h i j (suc (suc (suc (suc (suc (suc (suc (suc zero)))))))) lt = i
each_digit P a b c d e f g h i j (suc (suc (suc (suc (suc (suc (suc (suc (suc zero))))))))) lt = j
each_digit P a b c d e f g h i j (suc (suc (suc (suc (suc (suc (suc (suc (suc (suc n)))))))))) lt =
    absurd (omega (arith, lt))

of_digit : (P : ℕ → Type 0) → P 48 → P 49 → P 50 → P 51 → P 52 → P 53 → P 54 → P 55 → P 56 → P 57 → (x : ℕ) → 48 ≤ x
    → x ≤ 57 → P x
of_digit P a b c d e f g h i j x low high = let is : 48 + (x - 48) ≡ x = omega arith in
    subst P is (each_digit P a b c d e f g h i j (x - 48) (omega arith))

-- within a word a digit is passed over
word_passes : (x : ℕ) → 48 ≤ x → x ≤ 57 → (xs : List ℕ) → lex in_word (x ∷ xs) ≡ lex in_word xs
unfolding lex
word_passes x low high = of_digit (λ y. (xs : List ℕ) → lex in_word (y ∷ xs) ≡ lex in_word xs)
    (λ xs. refl) (λ xs. refl) (λ xs. refl) (λ xs. refl) (λ xs. refl) (λ xs. refl) (λ xs. refl) (λ xs. refl) (λ xs. refl)
    (λ xs. refl) x low high

-- a digit begins a word
word_begins : (x : ℕ) → 48 ≤ x → x ≤ 57 → (xs : List ℕ) → lex between (x ∷ xs) ≡ token (word (x ∷ xs)) ∷ lex in_word xs
unfolding lex
word_begins x low high = of_digit (λ y. (xs : List ℕ) → lex between (y ∷ xs) ≡ token (word (y ∷ xs)) ∷ lex in_word xs)
    (λ xs. refl) (λ xs. refl) (λ xs. refl) (λ xs. refl) (λ xs. refl) (λ xs. refl) (λ xs. refl) (λ xs. refl) (λ xs. refl)
    (λ xs. refl) x low high

-- what may follow a number or null here
at_end : (P : ℕ → Type 0) → P 44 → P 93 → P 32 → (y : ℕ) → EndsWord y → P y
at_end P a b c y (inl e) = subst P (sym e) a
at_end P a b c y (inr (inl e)) = subst P (sym e) b
at_end P a b c y (inr (inr e)) = subst P (sym e) c

leaves_word : (y : ℕ) → EndsWord y → (ys : List ℕ) → lex in_word (y ∷ ys) ≡ lex between (y ∷ ys)
unfolding lex
leaves_word y ends = at_end (λ z. (ys : List ℕ)
    → lex in_word (z ∷ ys) ≡ lex between (z ∷ ys)) (λ ys. refl) (λ ys. refl) (λ ys. refl) y ends

-- a number that ends so
whole_ends : (t : List ℕ) (y : ℕ) → EndsWord y → (ys : List ℕ)
    → number_before t (option_and_then after_exponent (option_and_then after_fraction (Some (y ∷ ys))))
    ≡ number (take (length t - length (y ∷ ys)) t)
whole_ends t y ends =
    at_end (λ z. (ys : List ℕ)
    → number_before t (option_and_then after_exponent (option_and_then after_fraction (Some (z ∷ ys))))
    ≡ number (take (length t - length (z ∷ ys)) t)) (λ ys. refl) (λ ys. refl) (λ ys. refl) y ends

after_digits_is : (t : List ℕ) (n : ℕ) → prefix_len is_ascii_digit t ≡ n → 0 < n → after_digits t ≡ Some (drop n t)
after_digits_is t n e some =
    ap (λ p. cond (p == 0) None (Some (drop p t))) e
    ∙ ap (λ b. cond b None (Some (drop n t))) (ne_eqb n 0 (λ z. absurd (omega (arith, z))))

-- the word that begins with a digit other than 0
word_is : (x : ℕ) → 48 ≤ x → x ≤ 57 → x ≢ 48 → (xs : List ℕ)
    → word (x ∷ xs) ≡ number_before (x
    ∷ xs) (option_and_then after_exponent (option_and_then after_fraction (after_digits (x ∷ xs))))
unfolding word after_number
word_is x low high = of_digit (λ y. y ≢ 48 → (xs : List ℕ)
    → word (y ∷ xs) ≡ number_before (y
    ∷ xs) (option_and_then after_exponent (option_and_then after_fraction (after_digits (y ∷ xs)))))
    (λ other xs. absurd (other refl)) (λ _ xs. refl) (λ _ xs. refl) (λ _ xs. refl) (λ _ xs. refl) (λ _ xs. refl)
    (λ _ xs. refl) (λ _ xs. refl) (λ _ xs. refl) (λ _ xs. refl) x low high

digits_word : (x : ℕ) → 49 ≤ x → x ≤ 57 → (xs : List ℕ) (n y : ℕ) (ys : List ℕ) → prefix_len is_ascii_digit (x ∷ xs) ≡ n
    → 0 < n → n < length (x ∷ xs) → EndsWord y → drop n (x ∷ xs) ≡ y ∷ ys
    → word (x ∷ xs) ≡ number (take n (x ∷ xs))
digits_word x low high xs n y ys digits some within ends is =
    let t = x ∷ xs in
    let long : length t - length (y ∷ ys) ≡ n = omega (arith, length-drop n t, ap length is) in
    word_is x (omega arith) high (λ z. absurd (omega (arith, z))) xs
    ∙ ap (λ o. number_before t (option_and_then after_exponent (option_and_then after_fraction o)))
    (after_digits_is t n digits some ∙ ap Some is)
    ∙ whole_ends t y ends ys ∙ ap (λ m. number (take m t)) long

digits_begin : (x : ℕ) → 49 ≤ x → x ≤ 57 → (xs : List ℕ) (n y : ℕ) (ys : List ℕ)
    → prefix_len is_ascii_digit (x ∷ xs) ≡ n → 0 < n → n < length (x ∷ xs)
    → lex in_word (x ∷ xs) ≡ lex in_word (y ∷ ys) → EndsWord y → drop n (x ∷ xs) ≡ y ∷ ys
    → Begins (x ∷ xs) (token (number (take n (x ∷ xs)))) (y ∷ ys)
digits_begin x low high xs n y ys digits some within lexed ends is =
    word_begins x (omega arith) high xs
    ∙ ap (λ w. token w ∷ lex in_word xs) (digits_word x low high xs n y ys digits some within ends is)
    ∙ ap (λ ls. token (number (take n (x ∷ xs))) ∷ ls) (sym (word_passes x (omega arith) high xs) ∙ lexed
    ∙ leaves_word y ends ys)

-- ---- at a place of the bytes

pub digit_on : (bytes : List ℕ) (from at : ℕ) → from ≤ at → at < length bytes
    → is_ascii_digit (get_or bytes at 0) ≡ true
    → prefix_len is_ascii_digit (drop from bytes) ≡ (at - from) + prefix_len is_ascii_digit (drop at bytes)
    → prefix_len is_ascii_digit (drop from bytes) ≡ (at + 1 - from) + prefix_len is_ascii_digit (drop (at + 1) bytes)
digit_on bytes from at le h is before =
    let x = get_or bytes at 0 in
    let more : prefix_len is_ascii_digit (drop at bytes) ≡ 1 + prefix_len is_ascii_digit (drop (at + 1) bytes) =
    ap (prefix_len is_ascii_digit) (drop_more bytes at 0 h)
    ∙ ap (λ b. cond b (1 + prefix_len is_ascii_digit (drop (at + 1) bytes)) 0) is in
    omega (arith, before, more)

pub word_on : (bytes : List ℕ) (from at : ℕ) → at < length bytes → 48 ≤ get_or bytes at 0 → get_or bytes at 0 ≤ 57
    → lex in_word (drop from bytes) ≡ lex in_word (drop at bytes)
    → lex in_word (drop from bytes) ≡ lex in_word (drop (at + 1) bytes)
word_on bytes from at h low high before =
    before ∙ ap (lex in_word) (drop_more bytes at 0 h) ∙ word_passes (get_or bytes at 0) low high (drop (at + 1) bytes)

pub digits_over : (bytes : List ℕ) (from at : ℕ) → at < length bytes → is_ascii_digit (get_or bytes at 0) ≡ false
    → prefix_len is_ascii_digit (drop from bytes) ≡ (at - from) + prefix_len is_ascii_digit (drop at bytes)
    → prefix_len is_ascii_digit (drop from bytes) ≡ at - from
digits_over bytes from at h is before =
    let none : prefix_len is_ascii_digit (drop at bytes) ≡ 0 =
    ap (prefix_len is_ascii_digit) (drop_more bytes at 0 h)
    ∙ ap (λ b. cond b (1 + prefix_len is_ascii_digit (drop (at + 1) bytes)) 0) is in
    omega (arith, before, none)

pub number_begins : (from bytes : List ℕ) (s e : ℕ) → s < e → e < length bytes → Same from (drop s bytes)
    → prefix_len is_ascii_digit (drop s bytes) ≡ e - s
    → lex in_word (drop s bytes) ≡ lex in_word (drop e bytes) → 49 ≤ get_or bytes s 0 → get_or bytes s 0 ≤ 57
    → EndsWord (get_or bytes e 0)
    → Begins from (token (number (slice_range bytes s e))) (drop e bytes)
number_begins from bytes s e lt within same digits lexed low high ends =
    let x = get_or bytes s 0 in
    let xs = drop (s + 1) bytes in
    let y = get_or bytes e 0 in
    let ys = drop (e + 1) bytes in
    let n = e - s in
    let first : drop s bytes ≡ x ∷ xs = drop_more bytes s 0 (omega arith) in
    let last : drop e bytes ≡ y ∷ ys = drop_more bytes e 0 within in
    let position : s + n ≡ e = omega arith in
    let rest : drop n (x ∷ xs) ≡ y ∷ ys =
    ap (drop n) (sym first) ∙ drop-drop n s bytes ∙ ap (λ k. drop k bytes) position ∙ last in
    let begun = digits_begin x low high xs n y ys (ap (prefix_len is_ascii_digit) (sym first)
    ∙ digits) (omega arith) (omega (arith, ap length first, length-drop s bytes)) (ap (lex in_word) (sym first)
    ∙ lexed ∙ ap (lex in_word) last) ends rest in
    same ∙ ap (lex between) first ∙ begun ∙ ap (λ l. token (number (take n l)) ∷ lex between (y ∷ ys)) (sym first)
    ∙ ap (λ l. token (number (slice_range bytes s e)) ∷ lex between l) (sym last)

pub no_sign : (bytes : List ℕ) (s e : ℕ) → s < e → 49 ≤ get_or bytes s 0 → get_or (slice_range bytes s e) 0 0 ≢ 45
no_sign bytes s e lt low is =
    let first : get_or (slice_range bytes s e) 0 0 ≡ get_or bytes s 0 =
    get_or-take (e - s) (drop s bytes) 0 0 (omega arith) ∙ get_or-drop s bytes 0 0
    ∙ ap (λ k. get_or bytes k 0) (omega arith) in
    absurd (omega (arith, first, is))

-- ---- its value

integer_is : (p : Parts) → IsInteger p → is_integer p ≡ true
integer_is p h = rw (lt-ltb 0 (length p.whole) h.0, h.1, h.2) refl

pub number_reads : (s : List ℕ) (n : ℕ) → get_or s 0 0 ≢ 45 → IsInteger (scan s) → digits_of (scan s) < 2 ^ 64
    → digits_of (scan s) ≡ n → number_of s ≡ Some (unsigned n)
unfolding number_of
number_reads s n sign integer small is =
    rw (
      ne_eqb (get_or s 0 0) 45 sign,
      integer_is (scan s) integer,
      lt-ltb (digits_of (scan s)) (2 ^ 64) small,
    ) (ap (λ m. Some (unsigned m)) is)

-- ---- null

null_word : (y : ℕ) → EndsWord y → (ys : List ℕ)
    → lex between (110 ∷ 117 ∷ 108 ∷ 108 ∷ y ∷ ys) ≡ token null ∷ lex between (y ∷ ys)
unfolding lex word
null_word y ends = at_end (λ z. (ys : List ℕ)
    → lex between (110 ∷ 117 ∷ 108 ∷ 108 ∷ z ∷ ys) ≡ token null
    ∷ lex between (z ∷ ys)) (λ ys. refl) (λ ys. refl) (λ ys. refl) y ends

next_is : (bytes : List ℕ) (at after x : ℕ) → after ≡ at + 1 → at < length bytes → get_or bytes at 0 ≡ x
    → drop at bytes ≡ x ∷ drop after bytes
next_is bytes at after x step within is =
    drop_more bytes at 0 within ∙ ap (λ y. y ∷ drop (at + 1) bytes) is ∙ ap (λ n. x ∷ drop n bytes) (sym step)

pub null_begins : (from bytes : List ℕ) (s : ℕ) → s + 4 < length bytes → Same from (drop s bytes)
    → get_or bytes s 0 ≡ 110 → get_or bytes (s + 1) 0 ≡ 117 → get_or bytes (s + 2) 0 ≡ 108
    → get_or bytes (s + 3) 0 ≡ 108 → EndsWord (get_or bytes (s + 4) 0)
    → Begins from (token null) (drop (s + 4) bytes)
null_begins from bytes s within same n u l k ends =
    let y = get_or bytes (s + 4) 0 in
    let ys = drop (s + 5) bytes in
    let last : drop (s + 4) bytes ≡ y ∷ ys = next_is bytes (s + 4) (s + 5) y (omega arith) within refl in
    let word_there : drop s bytes ≡ 110 ∷ 117 ∷ 108 ∷ 108 ∷ y ∷ ys =
    next_is bytes s (s + 1) 110 (omega arith) (omega arith) n ∙ ap (λ t. 110 ∷ t) (
    next_is bytes (s + 1) (s + 2) 117 (omega arith) (omega arith) u ∙ ap (λ t. 117 ∷ t) (
    next_is bytes (s + 2) (s + 3) 108 (omega arith) (omega arith) l ∙ ap (λ t. 108 ∷ t) (
    next_is bytes (s + 3) (s + 4) 108 (omega arith) (omega arith) k ∙ ap (λ t. 108 ∷ t) last))) in
    same ∙ ap (lex between) word_there ∙ null_word y ends ys ∙ ap (λ t. token null ∷ lex between t) (sym last)

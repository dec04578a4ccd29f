-- Balances as texts of decimal digits.
use Rattle.std.proofs.Common.{◌≡◌, ℕ, ◌+◌, ◌*◌, ◌-◌, ◌<◌, ◌≤◌, ◌^◌, ◌&&◌, Bool, true, false, List, length, get_or, take, refl, sym, ap, ◌∙◌, decimal, nat_lt, nat_le, rules, arith}
use Rattle.std.specs.Char.{is_ascii_digit, digit_value}
use Rattle.std.specs.List.{list_all}
use Rattle.std.specs.Str.Parse.{digits_value, AllDigits}
use Rattle.std.proofs.lemmas.Str.Parse.{IsDigitsTest, IsNumeralModel, numerals_by_value, digits_value_short, tells_digits}
use Rattle.std.proofs.lemmas.Int.Digits.{digits_value_more, digits_more}
use Rattle.std.proofs.lemmas.Fmt.{digits_value-decimal, digits_decimal, decimal_nonempty, length-decimal-le}
use Rattle.std.proofs.lemmas.Bool.{lt-ltb, le-leb, leb-true}
use Rattle.std.proofs.lemmas.List.{length-take-le, take_all}
use Rattle.std.proofs.lemmas.Str.{digit_value_digit}
use Rattle.std.proofs.lemmas.List.Sums.{AllPass-from_list_all}
use Rattle.std.proofs.lemmas.Grind.{common_steps}
use Rattle.tx_transfer.specs.Balances.{is_balance, balance_of}

digits_test : IsDigitsTest (λ ds. list_all is_ascii_digit ds ≡ true)
digits_test = search rules

own : IsNumeralModel (λ ds. list_all is_ascii_digit ds ≡ true) (digits_value 10)
own = numerals_by_value _ digits_test

-- the number of the first i digits
pub record ReadsUpTo (text : List ℕ) (i number : ℕ) : Type 0 where
  pub value : number ≡ digits_value 10 (take i text)
  pub digits : AllDigits 10 (take i text)

pub reads_none : (text : List ℕ) → ReadsUpTo text 0 0
reads_none text = record { value = search rules; digits = search rules }

in_range : (c : ℕ) → is_ascii_digit c ≡ true → (48 ≤ c) × (c ≤ 57)
in_range c e = grind (arith, common_steps)

-- a digit of a text of digits
pub digit_at : (text : List ℕ) (i : ℕ) → list_all is_ascii_digit text ≡ true → i < length text
    → (48 ≤ get_or text i 0) × (get_or text i 0 ≤ 57)
digit_at text i all lt = in_range (get_or text i 0) (AllPass-from_list_all is_ascii_digit text all i 0 lt)

pub reads_more : (text : List ℕ) (i number : ℕ)
    → list_all is_ascii_digit text ≡ true → i < length text → ReadsUpTo text i number
    → ReadsUpTo text (i + 1) (number * 10 + (get_or text i 0 - 48))
reads_more text i number all lt so =
    let d = digit_at text i all lt in
    let v : digit_value (get_or text i 0) + 48 ≡ get_or text i 0 = digit_value_digit (get_or text i 0) d in
    let ten : digit_value (get_or text i 0) < 10 = omega (arith, d.0, d.1) in
    let is : get_or text i 0 - 48 ≡ digit_value (get_or text i 0) = omega (arith, d.0) in
    record {
      value = rw (so.value, is) (sym (digits_value_more 10 text i lt));
      digits = digits_more 10 text i lt so.digits ten;
    }

-- fewer than 15 digits say less than 10^14
pub reads_less : (text : List ℕ) (i number : ℕ) → i < length text → length text ≤ 15 → ReadsUpTo text i number
    → number < 100000000000000
reads_less text i number lt few so =
    let short : length (take i text) ≤ 14 = omega (arith, length-take-le i text (omega arith)) in
    rw so.value (digits_value_short (numerals_by_value (AllDigits 10) tells_digits) (take i text) 14 so.digits short)

pub reads_all : (text : List ℕ) (i number : ℕ) → length text ≤ i → ReadsUpTo text i number
    → number ≡ digits_value 10 text
reads_all text i number end so = so.value ∙ ap (λ l. digits_value 10 l) (take_all i text end)

and_left : (a b : Bool) → (a && b) ≡ true → a ≡ true
and_left true b e = refl
and_left false b e = e

and_right : (a b : Bool) → (a && b) ≡ true → b ≡ true
and_right true b e = e
and_right false b e = absurd (cc)

pub all_of : (text : List ℕ) → is_balance text ≡ true → list_all is_ascii_digit text ≡ true
all_of text is = and_right (nat_lt 0 (length text) && nat_le (length text) 15) (list_all is_ascii_digit text) is

pub few_of : (text : List ℕ) → is_balance text ≡ true → length text ≤ 15
few_of text is = leb-true (length text) 15 (and_right (nat_lt 0 (length text))
    (nat_le (length text) 15)
    (and_left (nat_lt 0 (length text) && nat_le (length text) 15) (list_all is_ascii_digit text) is))

pub balance_less : (text : List ℕ) → is_balance text ≡ true → digits_value 10 text < 1000000000000000
balance_less text is = digits_value_short own text 15 (all_of text is) (few_of text is)

-- the text of a balance says it
pub decimal_says : (n : ℕ) → n < 1000000000000000 → balance_of (decimal n) ≡ n
decimal_says n small =
    let fits : n < 2 ^ 64 = omega arith in
    let some : nat_lt 0 (length (decimal n)) ≡ true = lt-ltb 0 (length (decimal n)) (decimal_nonempty n fits) in
    let few : nat_le (length (decimal n)) 15 ≡ true =
    le-leb (length (decimal n)) 15 (length-decimal-le 15 n (omega arith) small fits) in
    rw (some, few, digits_decimal own n fits) (digits_value-decimal own n fits)

-- A number that is counted up in its digits: mostly only the last one changes.
use Rattle.std.proofs.Common.{◌≡◌, ℕ, ◌+◌, ◌-◌, ◌<◌, ◌≤◌, List, [], ◌∷◌, ◌++◌, length, get_or, slice_set, sym, ap, ◌∙◌, append_assoc, arith, inl, inr}
use Rattle.std.specs.Prelude.{decimal, ◌^◌, ◌/◌, ◌%◌}
use Rattle.std.proofs.lemmas.Bool.{cases_lt}
use Rattle.std.proofs.lemmas.Fmt.{decimal_digit, decimal_step}
use Rattle.std.proofs.lemmas.List.{length-append}
use Rattle.std.proofs.Math.Seq.{get_or-append_seam, set-append_seam}

-- the digits before the last are those of the next number too, unless the last is a nine
record Ends (n : ℕ) : Type 0 where
  pub before : List ℕ
  pub now : decimal n ≡ before ++ (48 + n % 10) ∷ []
  pub next : n % 10 < 9 → n + 1 < 2 ^ 64 → decimal (n + 1) ≡ before ++ (48 + (n % 10 + 1)) ∷ []

ends : (n : ℕ) → n < 2 ^ 64 → Ends n
ends n h = elim (cases_lt n 10) [ inl l ↦ alone n l | inr g ↦ behind n g h ]
  where
    alone : (n : ℕ) → n < 10 → Ends n
    alone n l =
        let is : n ≡ n % 10 = omega (arith, l) in
        let more : n + 1 ≡ n % 10 + 1 = omega (arith, l) in
        record {
          before = [];
          now = decimal_digit n l ∙ ap (λ d. (48 + d) ∷ []) is;
          next = λ low big. decimal_digit (n + 1) (omega (arith, l, low)) ∙ ap (λ d. (48 + d) ∷ []) more;
        }

    behind : (n : ℕ) → 10 ≤ n → n < 2 ^ 64 → Ends n
    behind n g h = record {
      before = decimal (n / 10);
      now = decimal_step n g h;
      next = λ low big. (let front : (n + 1) / 10 ≡ n / 10 = omega (arith, low) in
          let last : (n + 1) % 10 ≡ n % 10 + 1 = omega (arith, low) in
          decimal_step (n + 1) (omega (arith, g)) big
          ∙ ap (λ d. decimal d ++ (48 + (n + 1) % 10) ∷ []) front
          ∙ ap (λ d. decimal (n / 10) ++ (48 + d) ∷ []) last);
    }

-- the last of a list
last_is : (xs ys : List ℕ) (d : ℕ) → xs ≡ ys ++ d ∷ [] → get_or xs (length xs - 1) 0 ≡ d
last_is xs ys d e =
    let at : length xs - 1 ≡ length ys = omega (arith, ap length e, length-append ys (d ∷ [])) in
    ap (λ i. get_or xs i 0) at ∙ ap (λ l. get_or l (length ys) 0) e ∙ get_or-append_seam ys d [] 0

set_last : (xs ys : List ℕ) (d y : ℕ) → xs ≡ ys ++ d ∷ [] → slice_set xs (length xs - 1) y ≡ ys ++ y ∷ []
set_last xs ys d y e =
    let at : length xs - 1 ≡ length ys = omega (arith, ap length e, length-append ys (d ∷ [])) in
    ap (λ i. slice_set xs i y) at ∙ ap (λ l. slice_set l (length ys) y) e ∙ set-append_seam ys d [] y

pub counted : (xs front : List ℕ) (n : ℕ) → n + 1 < 2 ^ 64 → xs ≡ front ++ decimal n
    → get_or xs (length xs - 1) 0 < 57
    → slice_set xs (length xs - 1) (get_or xs (length xs - 1) 0 + 1) ≡ front ++ decimal (n + 1)
counted xs front n big is low =
    let cut = ends n (omega (arith, big)) in
    let d = 48 + n % 10 in
    let split : xs ≡ (front ++ cut.before) ++ d ∷ [] =
    is ∙ ap (λ t. front ++ t) cut.now ∙ sym (append_assoc front cut.before (d ∷ [])) in
    let last : get_or xs (length xs - 1) 0 ≡ d = last_is xs (front ++ cut.before) d split in
    let small : n % 10 < 9 = omega (arith, last, low) in
    let up : d + 1 ≡ 48 + (n % 10 + 1) = omega arith in
    ap (λ x. slice_set xs (length xs - 1) (x + 1)) last
    ∙ set_last xs (front ++ cut.before) d (d + 1) split
    ∙ append_assoc front cut.before ((d + 1) ∷ [])
    ∙ ap (λ x. front ++ (cut.before ++ x ∷ [])) up
    ∙ ap (λ t. front ++ t) (sym (cut.next small big))

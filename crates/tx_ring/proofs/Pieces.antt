-- A text that is written piece by piece.
use Rattle.std.proofs.Common.{◌≡◌, ℕ, suc, ◌+◌, List, ◌++◌, Result, Ok, Err, ap, ◌∙◌, append_assoc, arith}
use Rattle.std.specs.Prelude.{OnOk}
use Rattle.tx_ring.specs.Markup.{each_of}

-- the piece of one more number, behind others
pub each_more_behind : {A : Type 0} (f : ℕ → List A) (old : List A) (n : ℕ)
    → (old ++ each_of f n) ++ f n ≡ old ++ each_of f (n + 1)
each_more_behind f old n =
    let next : suc n ≡ n + 1 = omega arith in
    append_assoc old (each_of f n) (f n) ∙ ap (λ m. old ++ each_of f m) next

-- what stands before a piece, and the piece
pub after : {x y : List ℕ} (old n a : List ℕ) → x ≡ old ++ n → y ≡ x ++ a → y ≡ old ++ (n ++ a)
after old n a first second = second ∙ ap (λ t. t ++ a) first ∙ append_assoc old n a

-- what is known of a result says more
pub on_so : {T E P Q : Type 0} (r : Result T E) → OnOk r P → (P → Q) → OnOk r Q
on_so (Ok v) p f = f p
on_so (Err e) p f = tt

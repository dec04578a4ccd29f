-- What is known of a result, and of the bytes that were read, where they are known.
use Rattle.std.proofs.Common.{◌≡◌, ℕ, List, Option, Some, None, IfSome, Result, Ok, Err, subst}
use Rattle.std.specs.Prelude.{IfOk, MatchResult}

pub if_so : {T E : Type 0} {P Q : T → Type 0} (r : Result T E) → IfOk r P → ((x : T) → P x → Q x) → IfOk r Q
if_so (Ok v) p f = f v p
if_so (Err e) p f = tt

pub if_known : {X : Type 0} {P Q : X → Type 0} (o : Option X) → ((x : X) → P x → Q x) → IfSome o P → IfSome o Q
if_known None f p = tt
if_known (Some x) f p = f x p

pub one_ok : {T E : Type 0} (P : List ℕ → T → Type 0) (Q : List ℕ → E → Type 0) (o : Option (List ℕ))
    (r : Result T E) (x : T) → r ≡ Ok x → IfSome o (λ i. MatchResult r (P i) (Q i)) → IfSome o (λ i. P i x)
one_ok P Q None r x is known = tt
one_ok P Q (Some i) r x is known = subst (λ s. MatchResult s (P i) (Q i)) is known

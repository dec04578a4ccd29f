-- Lists put together and taken apart.
use Rattle.std.proofs.Common.{◌≡◌, List, ◌++◌, length, take, drop, refl, sym, ap, ◌∙◌}
use Rattle.std.proofs.lemmas.List.{take_at, drop_at}

-- two lists that are one begin with the same, as far as their fronts are of one length
pub same_fronts : {A : Type 0} (a b x y : List A) → length a ≡ length b → a ++ x ≡ b ++ y → (a ≡ b) × (x ≡ y)
same_fronts a b x y l e = (
  sym (take_at a x (length a) refl) ∙ ap (λ (w : List _). take (length a) w) e ∙ take_at b y (length a) (sym l),
  sym (drop_at a x (length a) refl) ∙ ap (λ (w : List _). drop (length a) w) e ∙ drop_at b y (length a) (sym l),
)

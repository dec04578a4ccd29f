-- Lists, one element further.
use Rattle.std.proofs.Common.{◌≡◌, ◌<◌, ◌≤◌, ◌+◌, ◌++◌, ◌∷◌, [], ℕ, List, length, take, take_all, get_or, Result, Ok, Err, sym, subst, inl, inr, arith}
use Rattle.std.specs.Prelude.{◌⊎◌, All, Any, Contains, OnOk}
use Rattle.std.proofs.lemmas.List.{take_more}
use Rattle.std.proofs.lemmas.List.Elements.{Contains-append_left, Contains-push_cases, Contains-get_or, Contains-push, All-more, All-contains}

module _ {X : Type 0} (P : X → Type 0) where
  pub any_from : (xs : List X) (x : X) → Contains xs x → P x → Any P xs
  any_from xs x w p = (w.0, x, w.1, w.2, p)

  pub any_none : Any P [] → ⊥
  any_none h = absurd (omega (arith, h.2))

  pub any_left : (xs : List X) (y : X) → Any P xs → Any P (xs ++ y ∷ [])
  any_left xs y h = any_from (xs ++ y ∷ []) h.1 (Contains-append_left xs (y ∷ []) h.1 (h.0, h.2, h.3)) h.4

  pub any_last : (xs : List X) (y : X) → P y → Any P (xs ++ y ∷ [])
  any_last xs y p = any_from (xs ++ y ∷ []) y (Contains-push xs y) p

  pub any_cases : (xs : List X) (y : X) → Any P (xs ++ y ∷ []) → Any P xs ⊎ P y
  any_cases xs y h = elim (Contains-push_cases xs y h.1 (h.0, h.2, h.3)) [
    | inl w ↦ inl (any_from xs h.1 w h.4)
    | inr e ↦ inr (subst P (sym e) h.4)
  ]

  -- among the first of a list, one more
  pub any_more : (xs : List X) (i : ℕ) (d : X) → i < length xs → Any P (take i xs) ⊎ P (get_or xs i d)
      → Any P (take (i + 1) xs)
  any_more xs i d lt h = subst (Any P) (sym (take_more xs i d lt)) (elim h [
    | inl w ↦ any_left (take i xs) (get_or xs i d) w
    | inr p ↦ any_last (take i xs) (get_or xs i d) p
  ])

  pub any_less : (xs : List X) (i : ℕ) (d : X) → i < length xs → Any P (take (i + 1) xs)
      → Any P (take i xs) ⊎ P (get_or xs i d)
  any_less xs i d lt h = any_cases (take i xs) (get_or xs i d) (subst (Any P) (take_more xs i d lt) h)

  pub all_from : (xs : List X) → ((x : X) → Contains xs x → P x) → All P xs
  all_from xs h = λ k d lt. h (get_or xs k d) (Contains-get_or xs k d lt)

  -- an element that has it, and a list of which none has it
  pub any_here : (xs : List X) (i : ℕ) (x : X) → i < length xs → x ≡ get_or xs i x → P x → Any P xs
  any_here xs i x lt is p = any_from xs x (i, lt, sym is) p

  pub none_more : (xs : List X) (i : ℕ) (x : X) → i < length xs → x ≡ get_or xs i x → (P x → ⊥)
      → All (λ y. P y → ⊥) (take i xs) → All (λ y. P y → ⊥) (take (i + 1) xs)
  none_more xs i x lt is never all = All-more (λ y. P y → ⊥) xs i x lt all (subst (λ y. P y → ⊥) is never)

  pub none_any : (xs : List X) (i : ℕ) → length xs ≤ i → All (λ y. P y → ⊥) (take i xs) → Any P xs → ⊥
  none_any xs i over all h = All-contains (λ y. P y → ⊥) xs h.1 (subst (All (λ y. P y → ⊥)) (take_all i xs over) all)
      (h.0, h.2, h.3) h.4

-- what follows from what a call did where it was Ok
pub on_ok : {V E : Type 0} (r : Result V E) (A B : Type 0) → (A → B) → OnOk r A → OnOk r B
on_ok (Ok v) A B f a = f a
on_ok (Err e) A B f a = tt

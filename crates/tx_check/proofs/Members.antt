-- Lists of members, read one by one.
use Rattle.std.proofs.Common.{◌≡◌, ℕ, suc, ◌+◌, ◌<◌, ◌≤◌, List, [], ◌∷◌, ◌++◌, map, length, drop, get_or, Option, Some, None, option_map, refl, sym, ap, ◌∙◌, append_assoc, append-nil, drop-cons, add-one}
use Rattle.std.proofs.Math.ListN.{drop_of_length-le}
use Rattle.serde_json.specs.Data.{Data, Items, item}
use Rattle.serde_json.specs.View.{items_of}
use Rattle.tx_check.specs.MachineSteps.{all_of}

-- the members that are left, after those that were read
abbrev pub ReadSoFar : {A V : Type 0} → (Data → Option A) → (V → Data) → List V → ℕ → List A → Type 0
ReadSoFar one see items i xs =
    all_of one (items_of (map see items))
    ≡ option_map (λ more. xs ++ more) (all_of one (items_of (map see (drop i items))))

module _ {A V : Type 0} (one : Data → Option A) (see : V → Data) where
  abbrev datas : List V → Items
  datas vs = items_of (map see vs)

  -- nothing is read at first
  pub read_none : (items : List V) → ReadSoFar one see items 0 []
  read_none items = sym (same (all_of one (datas items)))
    where
      same : (o : Option (List A)) → option_map (λ more. [] ++ more) o ≡ o
      same None = refl
      same (Some xs) = refl

  next : (items : List V) (i : ℕ) (v : V) → i < length items → v ≡ get_or items i v
      → datas (drop i items) ≡ item (see v) (datas (drop (i + 1) items))
  next items i v within is =
      ap datas (drop-cons items i v within ∙ ap (λ w. w ∷ drop (suc i) items) (sym is)
      ∙ ap (λ n. v ∷ drop n items) (sym (add-one i)))

  -- one more is read
  pub read_one : (items : List V) (i : ℕ) (v : V) (x : A) (xs : List A) → i < length items → v ≡ get_or items i v
      → one (see v) ≡ Some x → ReadSoFar one see items i xs → ReadSoFar one see items (i + 1) (xs ++ x ∷ [])
  read_one items i v x xs within is found before =
      before
      ∙ ap (λ l. option_map (λ more. xs ++ more) (all_of one l)) (next items i v within is)
      ∙ rw found (more (all_of one (datas (drop (i + 1) items))))
    where
      more : (o : Option (List A))
          → option_map (λ ys. xs ++ ys) (option_map (λ ys. x ∷ ys) o) ≡ option_map (λ ys. (xs ++ x ∷ []) ++ ys) o
      more None = refl
      more (Some ys) = ap Some (sym (append_assoc xs (x ∷ []) ys))

  -- one is none of them
  pub read_bad : (items : List V) (i : ℕ) (v : V) (xs : List A) → i < length items → v ≡ get_or items i v
      → one (see v) ≡ None → ReadSoFar one see items i xs → all_of one (datas items) ≡ None
  read_bad items i v xs within is none before =
      before ∙ ap (λ l. option_map (λ more. xs ++ more) (all_of one l)) (next items i v within is) ∙ rw none refl

  -- all are read
  pub read_all : (items : List V) (i : ℕ) (xs : List A) → length items ≤ i → ReadSoFar one see items i xs
      → all_of one (datas items) ≡ Some xs
  read_all items i xs end before =
      before ∙ ap (λ l. option_map (λ more. xs ++ more) (all_of one (datas l))) (drop_of_length-le items end)
      ∙ ap Some (append-nil xs)

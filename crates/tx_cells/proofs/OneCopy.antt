-- Cells show one copy: what lies in a list whose timestamps fall determines the list.
use Rattle.std.proofs.Common.{◌≡◌, ℕ, ◌<◌, suc, inl, inr, List, [], ◌∷◌, refl, sym, ap, ◌∙◌, arith}
use Rattle.std.specs.Prelude.{Contains}
use Rattle.tx_plan.specs.Cells.{Cells}
use Rattle.tx_plan.proofs.LockRows.{contains_first, contains_cases, contains_none}
use Rattle.tx_cells.specs.declared.copies.RecordAt.{RecordAt}
use Rattle.tx_cells.specs.declared.copies.KeyVersions.{KeyVersions}
use Rattle.tx_cells.specs.Copies.{AreFalling, times_of, Copies}

contains_rest : {T : Type 0} (x : T) (xs : List T) (y : T) → Contains xs y → Contains (x ∷ xs) y
contains_rest x xs y has = (suc has.0, omega (arith, has.1), has.2)

module _ {T : Type 0} (at : T → ℕ) where
  abbrev AreBelow : ℕ → List T → Type 0
  AreBelow bound xs = (x : T) → Contains xs x → at x < bound

  -- each lies above all that follow
  abbrev Falls : List T → Type 0
  Falls [] = Unit {0}
  Falls (x ∷ xs) = AreBelow (at x) xs × Falls xs

  module _ (x y : T) (xs ys : List T) (below : AreBelow (at x) xs) (all : (z : T) → Contains (x ∷ xs) z
      → Contains (y ∷ ys) z) where
    first_same : AreBelow (at y) ys → Contains (x ∷ xs) y → x ≡ y
    first_same lower has = elim (contains_cases y ys x (all x (contains_first x xs))) [
      | inl same ↦ sym same
      | inr later ↦ elim (contains_cases x xs y has) [
        | inl same ↦ same
        | inr rest ↦
            (let up = lower x later in let down = below y rest in absurd (omega (arith, up, down)))
      ]
    ]

    rest_in : x ≡ y → (z : T) → Contains xs z → Contains ys z
    rest_in same z has = elim (contains_cases y ys z (all z (contains_rest x xs z has))) [
      | inl is ↦ (let lt = below z has in let e : at x ≡ at z = ap at (same ∙ is) in absurd (omega (arith, lt, e)))
      | inr rest ↦ rest
    ]

  same_list : (xs ys : List T) → Falls xs → Falls ys → ((z : T) → Contains xs z → Contains ys z)
      → ((z : T) → Contains ys z → Contains xs z) → xs ≡ ys
  same_list [] [] f g up down = refl
  same_list [] (y ∷ ys) f g up down = absurd (contains_none y (down y (contains_first y ys)))
  same_list (x ∷ xs) [] f g up down = absurd (contains_none x (up x (contains_first x xs)))
  same_list (x ∷ xs) (y ∷ ys) f g up down =
      let first : x ≡ y = first_same x y xs ys f.0 up g.0 (down y (contains_first y ys)) in
      let rest : xs ≡ ys = same_list xs ys f.1 g.1 (rest_in x y xs ys f.0 up first)
      (rest_in y x ys xs g.0 down (sym first)) in
      λ i. first i ∷ rest i

starts_fall : (xs : List ℕ) → AreFalling xs → Falls (λ t. t) xs
starts_fall [] fall = tt
starts_fall (x ∷ []) fall = (λ z has. absurd (contains_none z has), tt)
starts_fall (x ∷ y ∷ xs) fall =
    let later = starts_fall (y ∷ xs) fall.1 in (
      λ z has. elim (contains_cases y xs z has) [
        | inl same ↦
            (let lt = fall.0 in omega (arith, lt, same))
        | inr rest ↦
            (let lt = fall.0 in let below = later.0 z rest in omega (arith, lt, below))
      ],
      later,
    )

records_fall : (xs : List RecordAt) → AreFalling (times_of xs) → Falls (λ (x : RecordAt). x.at) xs
records_fall [] fall = tt
records_fall (x ∷ []) fall = (λ z has. absurd (contains_none z has), tt)
records_fall (x ∷ y ∷ xs) fall =
    let later = records_fall (y ∷ xs) fall.1 in (
      λ z has. elim (contains_cases y xs z has) [
        | inl same ↦ (let lt = fall.0 in let e : y.at ≡ z.at = ap (λ (r : RecordAt). r.at) same in omega (arith, lt, e))
        | inr rest ↦ (let lt = fall.0 in let below = later.0 z rest in omega (arith, lt, below))
      ],
      later,
    )

pub one_copy : (cells : Cells) (a b : KeyVersions) → Copies cells a → Copies cells b → a ≡ b
one_copy cells a b x y =
    let lock = x.lock ∙ sym y.lock in
    let records = same_list (λ (r : RecordAt). r.at) a.records b.records (records_fall a.records x.records_fall)
    (records_fall b.records y.records_fall)
    (λ r has. (y.records r.at r.head).1 ((x.records r.at r.head).0 has))
    (λ r has. (x.records r.at r.head).1 ((y.records r.at r.head).0 has)) in
    let values = same_list (λ (t : ℕ). t) a.values b.values (starts_fall a.values x.values_fall)
    (starts_fall b.values y.values_fall)
    (λ t has. (y.values t).1 ((x.values t).0 has)) (λ t has. (x.values t).1 ((y.values t).0 has)) in
    λ i. record { lock = lock i; records = records i; values = values i }

-- What changes of the maps of numbers make of the numbers of keys.
use Rattle.std.proofs.Common.{◌≡◌, ◌≢◌, ◌<◌, ◌≤◌, ◌==◌, ℕ, zero, suc, List, [], ◌∷◌, ◌++◌, length, map, get_or, set, ◌⊎◌, inl, inr, true, false, cond, bytes_eq, Option, Some, refl, sym, ap, subst, ◌∙◌}
use Rattle.std.proofs.lemmas.Bool.{cases_Bool, eqb-true, eq-eqb}
use Rattle.std.proofs.lemmas.Slice.Eq.{bytes_eq-Decides}
use Rattle.std.proofs.lemmas.List.{map-append, map-set, length-map, length-set, get_or-set_same, get_or-set_other, get_or-map, get_or_past}
use Rattle.std.proofs.lemmas.Option.{slice_get-get_or}
use Rattle.std.specs.List.{slice_get}
use Rattle.std.specs.Map.{lookup}
use Rattle.std.specs.BTreeMap as tree
use Rattle.std.specs.BTreeMap.{BTreeMap}
use Rattle.std.specs.Cmp.Lexicographic.{slice_cmp}
use Rattle.std.specs.Ordering.{nat_cmp, is_eq}
use Rattle.tx_types.specs.declared.key.Key.{Key}
use Rattle.tx_cells.specs.Numbers.{noted}
use Rattle.tx_cells.proofs.Maps.{key_is}
use Rattle.tx_flat.specs.Ceilings.{slot_of}
use Rattle.tx_flat.specs.Numbered.{number_or_none, numbers_in, numbers_among}

-- one key has this number
pub number_put : (old new : Key → Option ℕ) (j key : Key) (number : ℕ) → j ≡ key
    → ((k : Key) → new k ≡ cond (is_eq (slice_cmp nat_cmp j k)) (Some number) (old k)) → (k : Key)
    → number_or_none (new k) ≡ noted (λ q. number_or_none (old q)) key number k
number_put old new j key number is put k =
    let here = put k ∙ ap (λ i. cond (is_eq (slice_cmp nat_cmp i k)) (Some number) (old k)) is in
    elim (cases_Bool (is_eq (slice_cmp nat_cmp key k))) [
      | inl same ↦ ap number_or_none (here ∙ ap (λ b. cond b (Some number) (old k)) same)
          ∙ ap (λ b. cond b number (number_or_none (old k))) (sym (sym (key_is key k) ∙ same))
      | inr other ↦ ap number_or_none (here ∙ ap (λ b. cond b (Some number) (old k)) other)
          ∙ ap (λ b. cond b number (number_or_none (old k))) (sym (sym (key_is key k) ∙ other))
    ]

-- maps of the same entries have the same numbers
pub same_numbers : (m n : BTreeMap Key ℕ) → m.entries ≡ n.entries → numbers_in m ≡ numbers_in n
same_numbers m n e = λ i q. number_or_none (lookup (tree.is_at (slice_cmp nat_cmp q)) (e i))

-- ---- numbers in several maps, each key's in the one of its slot

abbrev zeros : Key → ℕ
zeros k = 0

-- an element that is as if it were not there
more : {X : Type 0} (xs : List X) (i : ℕ) (d : X) → get_or (xs ++ d ∷ []) i d ≡ get_or xs i d
more [] zero d = refl
more [] (suc i) d = refl
more (x ∷ xs) zero d = refl
more (x ∷ xs) (suc i) d = more xs i d

-- a map that holds nothing, behind the others
pub empty_more : (xs : List (BTreeMap Key ℕ)) (m : BTreeMap Key ℕ) → m.entries ≡ [] → (k : Key)
    → numbers_among (xs ++ m ∷ []) k ≡ numbers_among xs k
empty_more xs m e k =
    let none : numbers_in m ≡ zeros = λ i q. number_or_none (lookup (tree.is_at (slice_cmp nat_cmp q)) (e i)) in
    ap (λ (fs : List (Key → ℕ)). get_or fs (slot_of k) zeros k) (map-append numbers_in xs (m ∷ [])
    ∙ ap (λ (f : Key → ℕ). map numbers_in xs ++ f ∷ []) none)
    ∙ ap (λ (f : Key → ℕ). f k) (more (map numbers_in xs) (slot_of k) zeros)

-- a key whose slot has no map has no number
pub none_among : (xs : List (BTreeMap Key ℕ)) (key : Key) → length xs ≤ slot_of key → numbers_among xs key ≡ 0
none_among xs key past =
    ap (λ (f : Key → ℕ). f key)
    (get_or_past (map numbers_in xs) (slot_of key) zeros
    (subst (λ n. n ≤ slot_of key) (sym (length-map xs numbers_in)) past))

-- the map of one slot has changed
module _ (xs : List (BTreeMap Key ℕ)) (i : ℕ) (m n : BTreeMap Key ℕ) (within : i < length xs) (at : m
    ≡ get_or xs i m) where
  here : (k : Key) → slot_of k ≡ i → numbers_among (set xs i n) k ≡ numbers_in n k
  here k e =
      ap (λ (fs : List (Key → ℕ)). get_or fs (slot_of k) zeros k) (map-set numbers_in xs i n)
      ∙ ap (λ j. get_or (set (map numbers_in xs) i (numbers_in n)) j zeros k) e
      ∙ ap (λ (f : Key → ℕ). f k)
      (get_or-set_same (map numbers_in xs) i (numbers_in n) zeros
      (subst (λ j. i < j) (sym (length-map xs numbers_in)) within))

  pub among : (k : Key) → slot_of k ≡ i → numbers_among xs k ≡ numbers_in m k
  among k e =
      ap (λ j. get_or (map numbers_in xs) j zeros k) e
      ∙ ap (λ (f : Key → ℕ). f k) (get_or-map numbers_in xs i m zeros within)
      ∙ ap (λ (q : BTreeMap Key ℕ). numbers_in q k) (sym at)

  elsewhere : (k : Key) → slot_of k ≢ i → numbers_among (set xs i n) k ≡ numbers_among xs k
  elsewhere k other =
      ap (λ (fs : List (Key → ℕ)). get_or fs (slot_of k) zeros k) (map-set numbers_in xs i n)
      ∙ ap (λ (f : Key → ℕ). f k) (get_or-set_other (map numbers_in xs) i (slot_of k) (numbers_in n) zeros other)

  pub found_there : slice_get (set xs i n) i ≡ Some n
  found_there =
      slice_get-get_or (set xs i n) i n (subst (λ l. i < l) (sym (length-set xs i n)) within)
      ∙ ap (λ (x : BTreeMap Key ℕ). Some x) (get_or-set_same xs i n n within)

  pub placed_same : ((k : Key) → numbers_in n k ≡ numbers_in m k) → (k : Key)
      → numbers_among (set xs i n) k ≡ numbers_among xs k
  placed_same is k = elim (cases_Bool (slot_of k == i)) [
    | inl same ↦ (let e = eqb-true (slot_of k) i same in here k e ∙ is k ∙ sym (among k e))
    | inr other ↦ elsewhere k (λ e. (let alike = eq-eqb (slot_of k) i e in cc (other, alike)))
  ]

  pub placed_noted : (key : Key) (number : ℕ) → slot_of key ≡ i
      → ((k : Key) → numbers_in n k ≡ noted (numbers_in m) key number k) → (k : Key)
      → numbers_among (set xs i n) k ≡ noted (numbers_among xs) key number k
  placed_noted key number there is k = elim (cases_Bool (slot_of k == i)) [
    | inl same ↦ (let e = eqb-true (slot_of k) i same in
        here k e ∙ is k ∙ ap (cond (bytes_eq key k) number) (sym (among k e)))
    | inr other ↦ (
        let apart : slot_of k ≢ i = λ e. (let alike = eq-eqb (slot_of k) i e in cc (other, alike)) in
        elsewhere k apart ∙ not_noted (cases_Bool (bytes_eq key k)) apart
        )
  ]
    where
      not_noted : (bytes_eq key k ≡ true) ⊎ (bytes_eq key k ≡ false) → slot_of k ≢ i
          → numbers_among xs k ≡ noted (numbers_among xs) key number k
      not_noted (inl one) apart = absurd (apart (sym (ap slot_of ((bytes_eq-Decides key k).0 one)) ∙ there))
      not_noted (inr two) apart = ap (λ b. cond b number (numbers_among xs k)) (sym two)

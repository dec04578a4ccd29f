-- Keys between regions, read one by one.
use Rattle.std.proofs.Common.{◌≡◌, ℕ, suc, ◌+◌, ◌<◌, ◌≤◌, List, [], ◌∷◌, ◌++◌, length, drop, get_or, Option, Some, None, option_map, refl, sym, ap, ◌∙◌, append_assoc, append-nil, drop-cons, add-one}
use Rattle.std.proofs.Math.ListN.{drop_of_length-le}
use Rattle.serde_json.specs.Data.{item}
use Rattle.serde_json.specs.View.{view, items_view}
use Rattle.serde_json.specs.declared.value.Value.{Value}
use Rattle.tx_types.specs.declared.key.Key.{Key}
use Rattle.tx_steps.specs.Bounds.{key_in, all_keys}

-- the keys that are left, after those that were read
abbrev pub ReadSoFar : List Value → ℕ → List Key → Type 0
ReadSoFar items i ks =
    all_keys (items_view items) ≡ option_map (λ more. ks ++ more) (all_keys (items_view (drop i items)))

-- none is read at first
pub read_none : (items : List Value) → ReadSoFar items 0 []
read_none items = sym (same (all_keys (items_view items)))
  where
    same : (o : Option (List Key)) → option_map (λ more. [] ++ more) o ≡ o
    same None = refl
    same (Some ks) = refl

next : (items : List Value) (i : ℕ) (v : Value) → i < length items → v ≡ get_or items i v
    → items_view (drop i items) ≡ item (view v) (items_view (drop (i + 1) items))
next items i v within is =
    ap items_view (drop-cons items i v within ∙ ap (λ w. w ∷ drop (suc i) items) (sym is)
    ∙ ap (λ n. v ∷ drop n items) (sym (add-one i)))

-- one more is read
pub read_one : (items : List Value) (i : ℕ) (v : Value) (k : Key) (ks : List Key) → i < length items
    → v ≡ get_or items i v → key_in (view v) ≡ Some k → ReadSoFar items i ks → ReadSoFar items (i + 1) (ks ++ k ∷ [])
read_one items i v k ks within is found before =
    before
    ∙ ap (λ l. option_map (λ more. ks ++ more) (all_keys l)) (next items i v within is)
    ∙ rw found (more (all_keys (items_view (drop (i + 1) items))))
  where
    more : (o : Option (List Key))
        → option_map (λ ys. ks ++ ys) (option_map (λ ys. k ∷ ys) o) ≡ option_map (λ ys. (ks ++ k ∷ []) ++ ys) o
    more None = refl
    more (Some ys) = ap Some (sym (append_assoc ks (k ∷ []) ys))

-- one is no key
pub read_bad : (items : List Value) (i : ℕ) (v : Value) (ks : List Key) → i < length items → v ≡ get_or items i v
    → key_in (view v) ≡ None → ReadSoFar items i ks → all_keys (items_view items) ≡ None
read_bad items i v ks within is none before =
    before ∙ ap (λ l. option_map (λ more. ks ++ more) (all_keys l)) (next items i v within is) ∙ rw none refl

-- all are read
pub read_all : (items : List Value) (i : ℕ) (ks : List Key) → length items ≤ i → ReadSoFar items i ks
    → all_keys (items_view items) ≡ Some ks
read_all items i ks end before =
    before ∙ ap (λ l. option_map (λ more. ks ++ more) (all_keys (items_view l))) (drop_of_length-le items end)
    ∙ ap Some (append-nil ks)

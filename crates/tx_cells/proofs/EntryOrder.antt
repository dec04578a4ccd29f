-- Entries in the order of their timestamps, shown from the newest on.
use Rattle.std.proofs.Common.{◌≡◌, ◌⊎◌, ℕ, ◌<◌, inl, inr, List, [], ◌∷◌, ◌++◌, append_assoc, cond, Option, Some, None, refl, sym, ap, subst, ◌∙◌}
use Rattle.std.specs.Prelude.{Contains, IsSome, is_some}
use Rattle.std.specs.List.{AllByRecursion}
use Rattle.std.specs.List.Sorted.{IsStrictlySortedBy}
use Rattle.std.specs.Map.{keys_of, lookup}
use Rattle.std.specs.BTreeMap as tree
use Rattle.std.specs.Ordering.{nat_cmp, is_eq}
use Rattle.std.specs.declared.cmp.Ordering.TheVariants.{Less}
use Rattle.std.proofs.lemmas.Bool.{cases_eq, eq-eqb, cases_Bool, eqb-true}
use Rattle.std.proofs.lemmas.Cmp.{ranked}
use Rattle.std.proofs.lemmas.List.Elements.{Contains-append_left, Contains-append_right, Contains-append_cases}
use Rattle.std.specs.Cmp.{unsigned_ties}
use Rattle.tx_types.specs.declared.value.Value.{Value}
use Rattle.tx_plan.proofs.LockRows.{contains_first, contains_cases, contains_none}
use Rattle.tx_cells.specs.Copies.{AreFalling, starts_down}

abbrev InOrder : {X : Type 0} → List (ℕ × X) → Type 0
InOrder es = IsStrictlySortedBy nat_cmp (keys_of es)

abbrev get : {X : Type 0} → List (ℕ × X) → ℕ → Option X
get es q = lookup (tree.is_at (nat_cmp q)) es

-- ---- one more at the front of the entries is one more at the end

pub starts_back : (es : List (ℕ × Value)) (e : ℕ × Value) → starts_down (es ++ e ∷ []) ≡ e.0 ∷ starts_down es
starts_back [] e = refl
starts_back (f ∷ es) e = ap (λ (w : List ℕ). w ++ f.0 ∷ []) (starts_back es e)

pub starts_step : (all shown : List ℕ) (old es : List (ℕ × Value)) (e : ℕ × Value) → all ≡ shown ++ starts_down old
    → old ≡ es ++ e ∷ [] → all ≡ (shown ++ e.0 ∷ []) ++ starts_down es
starts_step all shown old es e so is =
    so ∙ ap (λ w. shown ++ starts_down w) is ∙ ap (λ (w : List ℕ). shown ++ w) (starts_back es e)
    ∙ sym (append_assoc shown (e.0 ∷ []) (starts_down es))

-- ---- they fall

abbrev Above : ℕ → List ℕ → Type 0
Above x times = AllByRecursion (λ t. x < t) times

falls_end : (times : List ℕ) (x : ℕ) → AreFalling times → Above x times → AreFalling (times ++ x ∷ [])
falls_end [] x f a = tt
falls_end (y ∷ []) x f a = (a.0, tt)
falls_end (y ∷ z ∷ times) x f a = (f.0, falls_end (z ∷ times) x f.1 a.1)

above_end : (x y : ℕ) (times : List ℕ) → Above x times → x < y → Above x (times ++ y ∷ [])
above_end x y [] a lt = (lt, tt)
above_end x y (z ∷ times) a lt = (a.0, above_end x y times a.1 lt)

less_is : (x y : ℕ) → nat_cmp x y ≡ Less → x < y
less_is x y e = ranked x y Less (sym e)

starts_above : (x : ℕ) (es : List (ℕ × Value)) → AllByRecursion (λ t. nat_cmp x t ≡ Less) (keys_of es)
    → Above x (starts_down es)
starts_above x [] a = tt
starts_above x (e ∷ es) a = above_end x e.0 (starts_down es) (starts_above x es a.1) (less_is x e.0 a.0)

pub starts_fall : (es : List (ℕ × Value)) → InOrder es → AreFalling (starts_down es)
unfolding IsStrictlySortedBy
starts_fall [] s = tt
starts_fall (e ∷ es) s = falls_end (starts_down es) e.0 (starts_fall es s.1) (starts_above e.0 es s.0)

-- ---- each is shown, and no other

none_after : {X : Type 0} (q : ℕ) (es : List (ℕ × X)) → AllByRecursion (λ t. nat_cmp q t ≡ Less) (keys_of es)
    → get es q ≡ None
none_after q [] a = refl
none_after q (e ∷ es) a = ap (λ o. cond (is_eq o) (Some e.1) (get es q)) a.0 ∙ none_after q es a.1

here : {X : Type 0} (q : ℕ) (e : ℕ × X) (es : List (ℕ × X)) → e.0 ≡ q → get (e ∷ es) q ≡ Some e.1
here q e es same = ap (λ b. cond b (Some e.1) (get es q)) (sym (unsigned_ties q e.0) ∙ eq-eqb q e.0 (sym same))

there : {X : Type 0} (q : ℕ) (e : ℕ × X) (es : List (ℕ × X)) → (e.0 ≡ q → ⊥) → get (e ∷ es) q ≡ get es q
there q e es other = elim (cases_Bool (is_eq (nat_cmp q e.0))) [
  | inl same ↦ absurd (other (sym (eqb-true q e.0 (unsigned_ties q e.0 ∙ same))))
  | inr f ↦ ap (λ b. cond b (Some e.1) (get es q)) f
]

-- what a later entry has is not at the first one's timestamp
later_other : {X : Type 0} (q : ℕ) (e : ℕ × X) (es : List (ℕ × X))
    → AllByRecursion (λ t. nat_cmp e.0 t ≡ Less) (keys_of es) → IsSome (get es q) → e.0 ≡ q → ⊥
later_other q e es a some same =
    (let none = ap (get es) (sym same) ∙ none_after e.0 es a in let f = sym some ∙ ap is_some none in cc f)

shown_end : {A : Type 0} (xs : List A) (x y : A) → Contains (xs ++ x ∷ []) y → Contains xs y ⊎ (x ≡ y)
shown_end xs x y c = elim (Contains-append_cases xs (x ∷ []) y c) [
  | inl old ↦ inl old
  | inr new ↦ elim (contains_cases x [] y new) [ inl e ↦ inr e | inr none ↦ absurd (contains_none y none) ]
]

pub starts_shown : (es : List (ℕ × Value)) → InOrder es → (t : ℕ) → Contains (starts_down es) t → IsSome (get es t)
unfolding IsStrictlySortedBy
starts_shown [] s t c = absurd (contains_none t c)
starts_shown (e ∷ es) s t c = go (starts_shown es s.1 t) (shown_end (starts_down es) e.0 t c)
  where
    go : (Contains (starts_down es) t → IsSome (get es t)) → Contains (starts_down es) t ⊎ (e.0 ≡ t)
        → IsSome (get (e ∷ es) t)
    go rest (inl old) = subst IsSome (sym (there t e es (later_other t e es s.0 (rest old)))) (rest old)
    go rest (inr same) = ap is_some (here t e es same)

pub starts_all : (es : List (ℕ × Value)) (t : ℕ) → IsSome (get es t) → Contains (starts_down es) t
starts_all [] t e = absurd (cc e)
starts_all (f ∷ es) t e = elim (cases_eq f.0 t) [
  | inl same ↦ Contains-append_right (starts_down es) (f.0 ∷ []) t
      (subst (Contains (f.0 ∷ [])) same (contains_first f.0 []))
  | inr other ↦ Contains-append_left (starts_down es) (f.0 ∷ []) t
      (starts_all es t (subst IsSome (there t f es other) e))
]

-- Records that others do not have.
use Rattle.std.proofs.Common.{◌≡◌, ◌<◌, ◌+◌, ◌++◌, ◌∷◌, [], ℕ, List, length, drop, get_or, refl, sym, subst, ap, inl, inr}
use Rattle.std.specs.Prelude.{All, Any, Contains}
use Rattle.std.proofs.lemmas.List.{drop_more}
use Rattle.std.proofs.lemmas.List.Elements.{All-nil, All-cons, All-head, All-tail, Contains-get_or}
use Rattle.tx_sheet.specs.declared.key_state.SeenRecord.{SeenRecord}
use Rattle.tx_sheet.specs.Changes.{AreOthers}

-- a record that is one, and one that is not
pub any_is : (xs : List SeenRecord) (x : SeenRecord) → Any (λ r. r ≡ x) xs → Contains xs x
any_is xs x h = subst (Contains xs) h.4 (h.0, h.2, h.3)

pub is_any : (xs : List SeenRecord) (x : SeenRecord) → Contains xs x → Any (λ r. r ≡ x) xs
is_any xs x w = (w.0, x, w.1, w.2, refl)

pub others_in : (os xs : List SeenRecord) (x : SeenRecord) (f : List SeenRecord) → AreOthers os xs f → Contains os x
    → AreOthers os (xs ++ x ∷ []) f
others_in os [] x f h is = inl (is, h)
others_in os (r ∷ rs) x f h is = elim h [
  | inl w ↦ inl (w.0, others_in os rs x f w.1 is)
  | inr w ↦ inr (w.0, w.1, w.2, others_in os rs x w.1 w.3 is)
]

pub others_out : (os xs : List SeenRecord) (x : SeenRecord) (f : List SeenRecord) → AreOthers os xs f
    → (Contains os x → ⊥) → AreOthers os (xs ++ x ∷ []) (f ++ x ∷ [])
others_out os [] x f h new = inr (new, [], ap (λ l. l ++ x ∷ []) h, refl)
others_out os (r ∷ rs) x f h new = elim h [
  | inl w ↦ inl (w.0, others_out os rs x f w.1 new)
  | inr w ↦ inr (w.0, w.1 ++ x ∷ [], ap (λ l. l ++ x ∷ []) w.2, others_out os rs x w.1 w.3 new)
]

others_none : (os ys f : List SeenRecord) → All (Contains os) ys → f ≡ [] → AreOthers os ys f
others_none os [] f all e = e
others_none os (y ∷ ys) f all e =
    inl (All-head (Contains os) y ys all, others_none os ys f (All-tail (Contains os) y ys all) e)

-- what both end with alike
pub others_end : (os xs ys f : List SeenRecord) → AreOthers os xs f → All (Contains os) ys → AreOthers os (xs ++ ys) f
others_end os [] ys f h all = others_none os ys f all h
others_end os (r ∷ rs) ys f h all = elim h [
  | inl w ↦ inl (w.0, others_end os rs ys f w.1 all)
  | inr w ↦ inr (w.0, w.1, w.2, others_end os rs ys w.1 w.3 all)
]

pub known_more : (xs os : List SeenRecord) (e l : ℕ) (d : SeenRecord) → e < length xs → l < length os
    → get_or xs e d ≡ get_or os l d → All (Contains os) (drop (e + 1) xs) → All (Contains os) (drop e xs)
known_more xs os e l d within there same all = subst (All (Contains os)) (sym (drop_more xs e d within))
    (All-cons (Contains os) (get_or xs e d) (drop (e + 1) xs)
    (subst (Contains os) (sym same) (Contains-get_or os l d there)) all)

-- none of them: all are known
pub none_new : (os xs f : List SeenRecord) → AreOthers os xs f → f ≡ [] → All (Contains os) xs
none_new os [] f h e = All-nil (Contains os)
none_new os (r ∷ rs) f h e = elim h [
  | inl w ↦ All-cons (Contains os) r rs w.0 (none_new os rs f w.1 e)
  | inr w ↦ absurd (cc (w.2, e))
]

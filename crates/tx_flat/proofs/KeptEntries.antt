-- What is left of a map of versions where entries were kept or dropped one by one.
use Rattle.std.proofs.Common.{◌≡◌, ◌≢◌, inl, inr, Bool, true, false, cond, List, [], ◌∷◌, Option, Some, None, refl, sym, ap, subst, ◌∙◌}
use Rattle.std.specs.List.{AllByRecursion}
use Rattle.std.specs.List.Sorted.{IsStrictlySortedBy}
use Rattle.std.specs.Map.{keys_of}
use Rattle.std.specs.Map.Calls.{RetainsPairs}
use Rattle.std.specs.BTreeMap as tree
use Rattle.std.specs.Ordering.{is_eq}
use Rattle.std.specs.declared.cmp.Ordering.{Ordering}
use Rattle.std.specs.declared.cmp.Ordering.TheVariants.{Less, Equal, Greater}
use Rattle.std.proofs.lemmas.Bool.{cases_Bool}
use Rattle.std.proofs.lemmas.Map.Entries.{lookup_tail}
use Rattle.std.proofs.lemmas.Map.Keys.{sorted_head, sorted_tail}
use Rattle.tx_spelling.specs.Spelt.{version_cmp, exact_versions}
use Rattle.tx_flat.proofs.Sieves.{Version, find, find_first, find_before}

pub tied : (o : Ordering) → is_eq o ≡ true → o ≡ Equal
tied Less e = absurd (cc e)
tied Equal e = refl
tied Greater e = absurd (cc e)

-- where versions that meet D were dropped, and the others kept
pub record Sifted {X : Type 0} (D : Version → Type 0) (es fs : List (Version × X)) (u : Version) : Type 0 where
  pub gone : D u → find u fs ≡ None
  pub stayed : (D u → ⊥) → find u fs ≡ find u es
  pub fewer : find u fs ≢ None → find u fs ≡ find u es

module _ {F X : Type 0} (T : F → Version → X → Bool → X → F → Type 0) (I : F → List (Version × X) → Type 0) (D : Version
    → Type 0)
    (step : (f : F) (e : Version × X) (es : List (Version × X)) (b : Bool) (w : X) (g : F) → I f (e ∷ es)
    → T f e.0 e.1 b w g → (b ≡ false → D e.0) × (b ≡ true → D e.0 → ⊥) × (w ≡ e.1) × I g es) where
  module _ (e : Version
      × X) (es rest : List (Version × X)) (w : X) (u : Version) (s :
      IsStrictlySortedBy version_cmp (keys_of (e ∷ es))) (later : Sifted D es rest u) (same : w ≡ e.1) where
    elsewhere : (b : Bool) → is_eq (version_cmp u e.0) ≡ false → Sifted D (e ∷ es) (cond b ((e.0, w) ∷ rest) rest) u
    elsewhere true other =
        let now = lookup_tail (tree.is_at (version_cmp u)) (e.0, w) rest other in
        let was = lookup_tail (tree.is_at (version_cmp u)) e es other in
        record {
          gone = λ d. now ∙ later.gone d;
          stayed = λ n. now ∙ later.stayed n ∙ sym was;
          fewer =
              λ n. now ∙ later.fewer (λ none. n (now ∙ none)) ∙ sym was;
        }
    elsewhere false other =
        let was = lookup_tail (tree.is_at (version_cmp u)) e es other in
        record { gone = later.gone; stayed = λ n. later.stayed n ∙ sym was; fewer = λ n. later.fewer n ∙ sym was }

    -- the first is none of the others
    none_later : u ≡ e.0 → find u rest ≡ None
    none_later here = go (find u rest) refl
      where
        none : find u es ≡ None
        none = find_before u es
            (subst (λ (v : Version). AllByRecursion (λ k. version_cmp v k ≡ Less) (keys_of es)) (sym here)
            (sorted_head version_cmp e.0 (keys_of es) s))

        go : (o : Option X) → find u rest ≡ o → find u rest ≡ None
        go None f = f
        go (Some y) f = later.fewer (λ gone. cc (f, gone)) ∙ none

    here_kept : u ≡ e.0 → (D e.0 → ⊥) → Sifted D (e ∷ es) ((e.0, w) ∷ rest) u
    here_kept here n =
        let now = find_first u (e.0, w) rest here ∙ ap (λ (x : X). Some x) same ∙ sym (find_first u e es here) in
        record { gone = λ d. absurd (n (subst D here d)); stayed = λ m. now; fewer = λ m. now }

    here_gone : u ≡ e.0 → D e.0 → Sifted D (e ∷ es) rest u
    here_gone here d = record {
      gone = λ x. none_later here;
      stayed = λ n. absurd (n (subst D (sym here) d));
      fewer =
          λ n. absurd (n (none_later here));
    }

    both : (b : Bool) → (b ≡ false → D e.0) → (b ≡ true → D e.0 → ⊥)
        → Sifted D (e ∷ es) (cond b ((e.0, w) ∷ rest) rest) u
    both true goes stays = elim (cases_Bool (is_eq (version_cmp u e.0))) [
      | inl here ↦ here_kept (exact_versions u e.0 (tied (version_cmp u e.0) here)) (stays refl)
      | inr other ↦ elsewhere true other
    ]
    both false goes stays = elim (cases_Bool (is_eq (version_cmp u e.0))) [
      | inl here ↦ here_gone (exact_versions u e.0 (tied (version_cmp u e.0) here)) (goes refl)
      | inr other ↦ elsewhere false other
    ]

  pub sifts : (f : F) (es fs : List (Version × X)) → I f es → IsStrictlySortedBy version_cmp (keys_of es)
      → RetainsPairs T f es fs → (u : Version) → Sifted D es fs u
  sifts f [] fs i s r u =
      subst (λ (gs : List (Version × X)). Sifted D [] gs u) (sym r)
      (record { gone = λ d. refl; stayed = λ n. refl; fewer = λ n. refl })
  sifts f (e ∷ es) fs i s r u =
      let st = step f e es r.0 r.1 r.2 i r.4 in
      subst (λ (gs : List (Version × X)). Sifted D (e ∷ es) gs u) (sym r.6)
      (both e es r.3 r.1 u s (sifts r.2 es r.3 st.3 (sorted_tail version_cmp e.0 (keys_of es) s) r.5 u) st.2 r.0 st.0
      st.1)

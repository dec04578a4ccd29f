-- No write record is above the ceiling of its key, whatever changes.
use Rattle.std.proofs.Common.{◌≡◌, ◌≢◌, ◌<◌, ◌≤◌, ℕ, ◌==◌, inl, inr, Bool, true, false, cond, List, Option, Some, None, IsSome, ltb, bytes_eq, refl, sym, ap, subst, arith, ◌∙◌}
use Rattle.std.proofs.Math.Logic.{∥∥₁_map}
use mathlib.Core.Logic.{∥∥₁_elim}
use Rattle.std.proofs.lemmas.Slice.Eq.{bytes_eq-Decides}
use Rattle.std.proofs.lemmas.Bool.{cases_Bool, eqb-true}
use Rattle.std.proofs.lemmas.Bool.Decides.{nat_tests}
use Rattle.tx_types.specs.declared.write.WriteRec.{WriteRec}
use Rattle.tx_types.specs.declared.write.WriteRec.TheVariants.{Rollback}
use Rattle.tx_plan.specs.declared.key_change.Left.{Left}
use Rattle.tx_plan.specs.declared.key_change.Left.TheVariants as left
use Rattle.tx_cells.specs.Afterwards.{after_left, marked}
use Rattle.tx_flat.proofs.FlatMaps.{Writes, on_version, off_version}
use Rattle.tx_flat.proofs.FlatChanges.{VersionChanged}

-- no record of a key is above its ceiling
abbrev pub AllBelow : (List ℕ → ℕ) → Writes → Type 0
AllBelow ceilings writes = ∥ ((key : List ℕ) (q : ℕ) → ceilings key < q → writes (key, q) ≡ None) ∥₁

apart : (c q : ℕ) → c < q → (c == q) ≡ false
apart c q below = elim (cases_Bool (c == q)) [
  | inl same ↦ (let one = eqb-true c q same in absurd (omega (arith, one, below)))
  | inr other ↦ other
]

module _ (old new : Writes) (key : List ℕ) (was now : List ℕ → ℕ) (risen : (k : List ℕ) → was k ≤ now k) where
  -- records of one key have changed, none of them above its ceiling
  still_below : ((q : ℕ) → now key < q → new (key, q) ≡ old (key, q))
      → ((k : List ℕ) → k ≢ key → (q : ℕ) → new (k, q) ≡ old (k, q)) → AllBelow was old → AllBelow now new
  still_below here others below = ∥∥₁_map below all
    where
      all : ((k : List ℕ) (q : ℕ) → was k < q → old (k, q) ≡ None) → (k : List ℕ) (q : ℕ) → now k < q
          → new (k, q) ≡ None
      all none k q above = elim (cases_Bool (bytes_eq k key)) [
        | inl same ↦ (let one = (bytes_eq-Decides k key).0 same in
            subst (λ (j : List ℕ). now j < q
            → new (j, q) ≡ None) (sym one) (λ over. here q over ∙ none key q (omega (arith, risen key, over))) above)
        | inr unlike ↦ others k (λ one. (let alike = (bytes_eq-Decides k key).1 one in cc (unlike, alike))) q
            ∙ none k q (omega (arith, risen k, above))
      ]

  -- a record was put
  pub below_put : (c : ℕ) (rec : WriteRec) → c ≤ now key → VersionChanged old new (key, c) (Some rec) → AllBelow was old
      → AllBelow now new
  below_put c rec within put =
      still_below (λ q above. on_version old new key c (Some rec) put q
      ∙ ap (λ b. cond b (Some rec) (old (key, q))) (apart c q (omega (arith, within, above))))
      (off_version old new key c (Some rec) put)

  -- a rollback was left
  pub below_left : (t : ℕ) (how : Left) → t ≤ now key
      → ((q : ℕ) → new (key, q) ≡ after_left (λ c. old (key, c)) t how q)
      → ((k : List ℕ) → k ≢ key → (q : ℕ) → new (k, q) ≡ old (k, q)) → AllBelow was old → AllBelow now new
  below_left t how within is =
      still_below (λ q above. is q ∙ unchanged how q (apart t q (omega (arith, within, above))))
    where
      unchanged : (how : Left) (q : ℕ) → (t == q) ≡ false → after_left (λ c. old (key, c)) t how q ≡ old (key, q)
      unchanged left.Already q other = refl
      unchanged left.Record q other = ap (λ b. cond b (Some (Rollback t)) (old (key, q))) other
      unchanged left.Mark q other = ap (λ b. cond b (marked (old (key, q))) (old (key, q))) other

-- nothing has changed but a ceiling
pub below_same : (writes : Writes) (was now : List ℕ → ℕ) → ((k : List ℕ) → was k ≤ now k) → AllBelow was writes
    → AllBelow now writes
below_same writes was now risen below = ∥∥₁_map below (λ none k q above. none k q (omega (arith, risen k, above)))

-- some records went
pub below_less : (old new : Writes) (ceilings : List ℕ → ℕ)
    → ((k : List ℕ) (q : ℕ) → old (k, q) ≡ None → new (k, q) ≡ None) → AllBelow ceilings old → AllBelow ceilings new
below_less old new ceilings less below = ∥∥₁_map below (λ none k q above. less k q (none k q above))

pub kept_none : (b : Bool) (old new : Option WriteRec) → new ≡ cond b old None → old ≡ None → new ≡ None
kept_none true old new is none = is ∙ none
kept_none false old new is none = is

-- above the ceiling of a key there is no record of it
pub none_past : (writes : Writes) (ceilings : List ℕ → ℕ) (key : List ℕ) (at : ℕ) → ceilings key < at
    → AllBelow ceilings writes → (q : ℕ) → at ≤ q → writes (key, q) ≡ None
none_past writes ceilings key at past below q from = go (writes (key, q)) refl
  where
    go : (o : Option WriteRec) → writes (key, q) ≡ o → o ≡ None
    go None e = refl
    go (Some rec) e = absurd
        (∥∥₁_elim below (λ p r. absurd p) (λ all. (let none = all key q (omega (arith, past, from)) in cc (e, none))))

-- each record of a key lies at its ceiling or below
pub at_most : (writes : Writes) (ceilings : List ℕ → ℕ) (key : List ℕ) (q : ℕ) → IsSome (writes (key, q))
    → AllBelow ceilings writes → q ≤ ceilings key
at_most writes ceilings key q there below = elim (cases_Bool (ltb (ceilings key) q)) [
  | inl above ↦ (let past : ceilings key < q = grind (arith, nat_tests, above) in
      let none : writes (key, q) ≡ None = none_past writes ceilings key q past below q (omega arith) in
      cc (there, none))
  | inr other ↦ grind (arith, nat_tests, other)
]

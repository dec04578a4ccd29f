-- Which records go where all below the safe point go but one that may stay.
use Rattle.std.proofs.Common.{◌≡◌, ◌≢◌, ◌⊎◌, ◌↔◌, ℕ, ◌==◌, ◌<◌, inl, inr, Bool, true, false, cond, Option, Some, None, refl, sym, ap, ◌∙◌}
use Rattle.std.specs.Prelude.{option_map}
use Rattle.std.proofs.lemmas.Bool.{cases_Bool, cases_lt, lt-ltb, le-ltb, eq-eqb, eqb-true}
use Rattle.tx_types.specs.declared.write.WriteRec.{WriteRec}
use Rattle.tx_nested.specs.Indexes.{stays, goes_below}
use Rattle.tx_plan.specs.cases.Collect.{keeps}
use Rattle.tx_plan.proofs.Collects.{keeps_above}
use Rattle.tx_cells.specs.Contents.{OnKey, cells_of, write_of}

some_or_none : (o : Option WriteRec) → (o ≡ None) ⊎ (o ≢ None)
some_or_none None = inl refl
some_or_none (Some r) = inr (λ e. cc e)

same_choice : {X : Type 0} (b : Bool) (x : X) → cond b x x ≡ x
same_choice true x = refl
same_choice false x = refl

pub stays_true : (stay : Option ℕ) (q : ℕ) → stay ≡ Some q → stays stay q ≡ true
stays_true None q e = absurd (cc e)
stays_true (Some at) q e = (let same : at ≡ q = cc e in eq-eqb at q same)

pub stays_false : (stay : Option ℕ) (q : ℕ) → (stay ≡ Some q → ⊥) → stays stay q ≡ false
stays_false None q h = refl
stays_false (Some at) q h = elim (cases_Bool (at == q)) [ inl e ↦ absurd (h (ap Some (eqb-true at q e))) | inr e ↦ e ]

-- the records that are left are those that are kept
pub tells_left : (x : OnKey) (safe : ℕ) (stay : Option ℕ)
    → ((q : ℕ) → q < safe → (cells_of x).write q ≢ None → (keeps (cells_of x).write safe q ≡ true) ↔ (stay ≡ Some q))
    → (q : ℕ) → cond (keeps (cells_of x).write safe q) (x.write q) None ≡ cond (goes_below safe stay q) None (x.write q)
tells_left x safe stay tells q = elim (some_or_none (x.write q)) [
  | inl none ↦ ap (λ o. cond (keeps (cells_of x).write safe q) o None) none
      ∙ same_choice (keeps (cells_of x).write safe q) None ∙ sym (same_choice (goes_below safe stay q) None)
      ∙ sym (ap (λ o. cond (goes_below safe stay q) None o) none)
  | inr some ↦ elim (cases_lt q safe) [
    | inl lt ↦ elim (cases_Bool (keeps (cells_of x).write safe q)) [
      | inl here ↦ (
          let s = stays_true stay q ((tells q lt (there some)).0 here) in
          let off : goes_below safe stay q ≡ false = rw (lt-ltb q safe lt, s) refl in
          ap (λ b. cond b (x.write q) None) here ∙ sym (ap (λ b. cond b None (x.write q)) off)
          )
      | inr gone ↦ (
          let s = stays_false stay q (λ e. (let back = (tells q lt (there some)).1 e in cc (gone, back))) in
          let on : goes_below safe stay q ≡ true = rw (lt-ltb q safe lt, s) refl in
          ap (λ b. cond b (x.write q) None) gone ∙ sym (ap (λ b. cond b None (x.write q)) on)
          )
    ]
    | inr ge ↦ (
        let stay_there : keeps (cells_of x).write safe q ≡ true = keeps_above (cells_of x).write safe q ge in
        let off : goes_below safe stay q ≡ false = rw (le-ltb q safe ge) refl in
        ap (λ b. cond b (x.write q) None) stay_there ∙ sym (ap (λ b. cond b None (x.write q)) off)
        )
  ]
]
  where
    there : x.write q ≢ None → (cells_of x).write q ≢ None
    there some e = go (x.write q) refl e
      where
        go : (o : Option WriteRec) → x.write q ≡ o → option_map (write_of x.value) o ≡ None → ⊥
        go None f g = some f
        go (Some r) f g = cc g

-- The values that records below a safe point keep apart go one after the other, from the
-- newest record on.
use Rattle.std.proofs.Common.{◌≡◌, ◌⊎◌, ℕ, ◌<◌, ◌≤◌, inl, inr, Bool, true, false, not, ◌&&◌, Option, Some, None, refl, sym, ap, ◌∙◌, arith}
use Rattle.std.specs.Prelude.{nat_lt}
use Rattle.std.proofs.lemmas.Bool.{cases_lt, cases_eq, lt-ltb, le-ltb}
use Rattle.tx_types.specs.declared.value.Value.{Value}
use Rattle.tx_types.specs.declared.write.CommitRec.{CommitRec}
use Rattle.tx_types.specs.declared.write.WriteRec.{WriteRec}
use Rattle.tx_types.specs.declared.write.WriteRec.TheVariants.{Commit, Rollback}
use Rattle.tx_nested.specs.Indexes.{stays, goes_below}
use Rattle.tx_cells.specs.Heads.{keeps_apart}
use Rattle.tx_cells.specs.Drops.{Records, ValuesGo, DropsValue}
use Rattle.tx_cells.proofs.Drops.{none_gone, same_gone, same_after, gone_bare, gone_apart}
use Rattle.tx_nested.proofs.Drops.{stays_true, stays_false}

-- the records from `below` on that go
abbrev pub goes_from : ℕ → ℕ → Option ℕ → ℕ → Bool
goes_from below safe stay q = not (nat_lt q below) && goes_below safe stay q

-- their values have gone
pub record SoFar (write : Records) (before : ℕ → Option Value) (safe : ℕ) (stay : Option ℕ) (below : ℕ) (after : ℕ
    → Option Value) : Type 0 where
  pub upto : below ≤ safe
  pub values : ValuesGo write (goes_from below safe stay) before after

module _ (write : Records) (before : ℕ → Option Value) (safe : ℕ) (stay : Option ℕ) where
  not_yet : (below q : ℕ) → q < below → goes_from below safe stay q ≡ false
  not_yet below q lt = ap (λ b. not b && goes_below safe stay q) (lt-ltb q below lt)

  already : (below q : ℕ) → below ≤ q → goes_from below safe stay q ≡ goes_below safe stay q
  already below q le = ap (λ b. not b && goes_below safe stay q) (le-ltb q below le)

  above : (q : ℕ) → safe ≤ q → goes_below safe stay q ≡ false
  above q le = ap (λ b. b && not (stays stay q)) (le-ltb q safe le)

  pub starts : SoFar write before safe stay safe before
  starts = record {
    upto = omega arith;
    values = none_gone write (goes_from safe safe stay) before none;
  }
    where
      none : (q : ℕ) → goes_from safe safe stay q ≡ false
      none q = elim (cases_lt q safe) [ inl lt ↦ not_yet safe q lt | inr le ↦ already safe q le ∙ above q le ]

  module _ (below : ℕ) (after : ℕ → Option Value) (so : SoFar write before safe stay below after) where
    pub ends : ((q : ℕ) → q < below → write q ≡ None) → ValuesGo write (goes_below safe stay) before after
    ends none = same_gone write (goes_from below safe stay) (goes_below safe stay) before after same so.values
      where
        same : (q : ℕ) (r : WriteRec) → write q ≡ Some r → goes_from below safe stay q ≡ goes_below safe stay q
        same q r e = elim (cases_lt q below) [
          | inl lt ↦ (let gone : write q ≡ None = none q lt in absurd (cc (e, gone)))
          | inr le ↦ already below q le
        ]

    module _ (at : ℕ) (lt : at < below) (between : (q : ℕ) → at < q → q < below → write q ≡ None) where
      same_above : (q : ℕ) (r : WriteRec) → write q ≡ Some r → (q ≡ at → ⊥)
          → goes_from below safe stay q ≡ goes_from at safe stay q
      same_above q r e other = elim (cases_lt q below) [
        | inl b ↦ elim (cases_lt q at) [
          | inl a ↦ not_yet below q b ∙ sym (not_yet at q a)
          | inr a ↦ (let n : write q ≡ None = between q (omega (arith, a, other)) b in absurd (cc (e, n)))
        ]
        | inr b ↦ already below q b ∙ sym (already at q (omega (arith, b, lt)))
      ]

      -- the record that stays is passed
      pub passes : stay ≡ Some at → SoFar write before safe stay at after
      passes is = record {
        upto = (let u = so.upto in omega (arith, u, lt));
        values = same_gone write (goes_from below safe stay) (goes_from at safe stay) before after
            (λ q r e. elim (cases_eq q at) [ inl same ↦ stayed q same | inr other ↦ same_above q r e other ]) so.values;
      }
        where
          off : goes_below safe stay at ≡ false
          off = ap (λ b. nat_lt at safe && not b) (stays_true stay at is) ∙ and_false (nat_lt at safe)
            where
              and_false : (b : Bool) → (b && false) ≡ false
              and_false true = refl
              and_false false = refl

          stayed : (q : ℕ) → q ≡ at → goes_from below safe stay q ≡ goes_from at safe stay q
          stayed q same = not_yet below q (omega (arith, same, lt))
              ∙ sym (already at q (omega (arith, same)) ∙ ap (goes_below safe stay) same ∙ off)

      -- the value of a record that goes is dropped
      module _ (goes : stay ≡ Some at → ⊥) (rest : ℕ → Option Value) (drops : DropsValue (write at) after rest) where
        on : goes_from at safe stay at ≡ true
        on = already at at (omega arith)
            ∙ ap (λ b. b && not (stays stay at)) (lt-ltb at safe (let u = so.upto in omega (arith, u, lt)))
            ∙ ap not (stays_false stay at goes)

        there : (q : ℕ) → goes_from below safe stay q ≡ true → goes_from at safe stay q ≡ true
        there q g = elim (cases_lt q below) [
          | inl b ↦ (let n = not_yet below q b in absurd (cc (n, g)))
          | inr b ↦ already at q (omega (arith, b, lt)) ∙ sym (already below q b) ∙ g
        ]

        only : (q : ℕ) (r : WriteRec) → write q ≡ Some r → goes_from at safe stay q ≡ true
            → (goes_from below safe stay q ≡ true) ⊎ (q ≡ at)
        only q r e g = elim (cases_eq q at) [ inl same ↦ inr same | inr other ↦ inl (same_above q r e other ∙ g) ]

        values_later : ValuesGo write (goes_from at safe stay) before rest
        values_later = go (write at) refl
          where
            bare_or_not : (rec : CommitRec) → write at ≡ Some (Commit rec) → (b : Bool) → keeps_apart rec.mutation ≡ b
                → ValuesGo write (goes_from at safe stay) before rest
            bare_or_not rec e true k = same_after write (goes_from at safe stay) before _ rest (drops.gone rec e k)
                (gone_apart write (goes_from below safe stay) (goes_from at safe stay) at before after so.values there
                only on rec e k)
            bare_or_not rec e false k = same_after write (goes_from at safe stay) before after rest
                (drops.stays (λ other f a. (let one : rec ≡ other = same_commit rec other (sym e ∙ f) in
                let b = ap (λ (r : CommitRec). keeps_apart r.mutation) one in cc (a, b, k))))
                (gone_bare write (goes_from below safe stay) (goes_from at safe stay) at before after so.values there
                only on
                (λ other f a. (let one : rec ≡ other = same_commit rec other (sym e ∙ f) in
                let b = ap (λ (r : CommitRec). keeps_apart r.mutation) one in cc (a, b, k))))
              where
                same_commit : (a b : CommitRec) → ◌≡◌ {A = Option WriteRec} (Some (Commit a)) (Some (Commit b)) → a ≡ b
                same_commit a b e = cc e

            none_here : ((rec : CommitRec) → write at ≡ Some (Commit rec) → ⊥)
                → ValuesGo write (goes_from at safe stay) before rest
            none_here none = same_after write (goes_from at safe stay) before after rest
                (drops.stays (λ rec f a. none rec f))
                (gone_bare write (goes_from below safe stay) (goes_from at safe stay) at before after so.values there
                only on (λ rec f a. none rec f))

            go : (o : Option WriteRec) → write at ≡ o → ValuesGo write (goes_from at safe stay) before rest
            go None e = none_here (λ rec f. cc (e, f))
            go (Some (Rollback s)) e = none_here (λ rec f. cc (e, f))
            go (Some (Commit rec)) e = bare_or_not rec e (keeps_apart rec.mutation) refl

        pub goes_on : SoFar write before safe stay at rest
        goes_on = record {
          upto = (let u = so.upto in omega (arith, u, lt));
          values = values_later;
        }

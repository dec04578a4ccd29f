-- What one read more leaves of the reads that are kept.
use Rattle.std.proofs.Common.{◌≡◌, ℕ, ◌≤◌, ◌<◌, ◌==◌, ◌⊎◌, ◌++◌, ◌||◌, inl, inr, Bool, true, false, cond, List, [], ◌∷◌, Option, Some, None, bytes_eq, refl, sym, ap, subst, ◌∙◌, arith, IsTrue}
use Rattle.std.specs.List.{list_any}
use Rattle.std.specs.Option.{unwrap_or}
use Rattle.std.specs.Cmp.Lexicographic.{slice_cmp}
use Rattle.std.specs.Ordering.{nat_cmp, is_eq}
use Rattle.std.proofs.lemmas.Map.Text.{is_eq-slice_cmp}
use Rattle.std.proofs.lemmas.List.Folds.{list_any-append}
use Rattle.std.proofs.lemmas.Bool.{cases_lt}
use Rattle.std.specs.Option.{IsSome}
use Rattle.tx_types.specs.declared.key.Key.{Key}
use Rattle.tx_machine.specs.declared.reads.Span.{Span}
use Rattle.tx_machine.specs.Noted.{KeptAt, Grows, span_covers}
use Rattle.tx_machine.proofs.Basics.{nat_test, key_test, some_same, cond_true, cond_false, nat_same}

le_refl : (n : ℕ) → n ≤ n
le_refl n = omega arith

module _ (points : Key → Option ℕ) (spans : ℕ → Option (List Span)) where
  module _ (new : Key → Option ℕ) (k : Key) (r : ℕ) (is : (q : Key)
      → new q ≡ cond (bytes_eq k q) (Some r) (points q)) (below : (s : ℕ) → points k ≡ Some s → s ≤ r) where
    key_kept : (q : Key) (s : ℕ) → KeptAt points spans q s → (u : ℕ) × (s ≤ u) × KeptAt new spans q u
    key_kept q s (inl e) = elim (key_test k q) [
      | inl t ↦ (r, below s (ap points t.1 ∙ e), inl (is q ∙ cond_true _ _ _ t.0))
      | inr t ↦ (s, le_refl s, inl (is q ∙ (cond_false _ _ _ t.0 ∙ e)))
    ]
    key_kept q s (inr x) = (s, le_refl s, inr x)

    key_only : (q : Key) (s : ℕ) → KeptAt new spans q s → KeptAt points spans q s ⊎ (IsTrue (bytes_eq k q) × (s ≡ r))
    key_only q s (inl e) = elim (key_test k q) [
      | inl t ↦ inr (t.0, sym (some_same r s (sym (cond_true _ _ _ t.0) ∙ (sym (is q) ∙ e))))
      | inr t ↦ inl (inl (sym (cond_false _ _ _ t.0) ∙ (sym (is q) ∙ e)))
    ]
    key_only q s (inr x) = inl (inr x)

    pub adds_key : Grows (KeptAt points spans) (KeptAt new spans) (bytes_eq k) r
    adds_key = record {
      kept = key_kept;
      added = λ q t. (r, le_refl r, inl (is q ∙ cond_true _ _ _ t));
      only = key_only;
    }

  key_again_added : (k q : Key) (r s : ℕ) → points k ≡ Some s → r ≤ s → IsTrue (bytes_eq k q)
      → (u : ℕ) × (r ≤ u) × KeptAt points spans q u
  key_again_added k q r s e h t = elim (key_test k q) [
    | inl x ↦ (s, h, inl (ap points (sym (x.1)) ∙ e))
    | inr x ↦ absurd (cc (t, x.0))
  ]

  -- a key that was read as high already
  pub adds_key_again : (k : Key) (r s : ℕ) → points k ≡ Some s → r ≤ s
      → Grows (KeptAt points spans) (KeptAt points spans) (bytes_eq k) r
  adds_key_again k r s e h = record {
    kept = λ q u x. (u, le_refl u, x);
    added = λ q t. key_again_added k q r s e h t;
    only = λ q u x. inl x;
  }

  or_false : (b : Bool) → (b || false) ≡ b
  or_false true = refl
  or_false false = refl

  or_right : (b : Bool) → (b || true) ≡ true
  or_right true = refl
  or_right false = refl

  or_left : (b c : Bool) → b ≡ true → (b || c) ≡ true
  or_left b c e = rw e refl

  either : (a b : Bool) → (a || b) ≡ true → (a ≡ true) ⊎ (b ≡ true)
  either true b e = inl refl
  either false b e = inr e

  module _ (new : ℕ → Option (List Span)) (span : Span) (r : ℕ) (before : List Span)
      (is : (q : ℕ) → new q ≡ cond (r == q) (Some (before ++ span ∷ [])) (spans q))
      (was : (xs : List Span) → spans r ≡ Some xs → xs ≡ before)
      (come : (k : Key) → list_any (λ x. span_covers x k) before ≡ true → KeptAt points spans k r) where
    here : (k : Key) → list_any (λ x. span_covers x k) (before ++ span ∷ []) ≡ true → KeptAt points new k r
    here k e = inr (before ++ span ∷ [], is r ∙ cond_true _ _ _ (nat_same r), e)

    covers_more : (k : Key)
        → list_any (λ x. span_covers x k) (before ++ span ∷ [])
        ≡ (list_any (λ x. span_covers x k) before || (span_covers span k || false))
    covers_more k = list_any-append (λ x. span_covers x k) before (span ∷ [])

    span_kept : (k : Key) (s : ℕ) → KeptAt points spans k s → (u : ℕ) × (s ≤ u) × KeptAt points new k u
    span_kept k s (inl e) = (s, le_refl s, inl e)
    span_kept k s (inr x) = elim (nat_test r s) [
      | inl t ↦ (
        r,
        omega (arith, t.1),
        here k (covers_more k
            ∙ or_left _ _ (ap (list_any (λ (y : Span). span_covers y k)) (sym (was x.0 (ap spans t.1 ∙ x.1))) ∙ x.2)),
      )
      | inr t ↦ (s, le_refl s, inr (x.0, is s ∙ (cond_false _ _ _ t.0 ∙ x.1), x.2))
    ]

    span_only : (k : Key) (s : ℕ) → KeptAt points new k s
        → KeptAt points spans k s ⊎ (IsTrue (span_covers span k) × (s ≡ r))
    span_only k s (inl e) = inl (inl e)
    span_only k s (inr x) = elim (nat_test r s) [
      | inr t ↦ inl (inr (x.0, sym (cond_false _ _ _ t.0) ∙ (sym (is s) ∙ x.1), x.2))
      | inl t ↦
          let same : before ++ span ∷ [] ≡ x.0 = some_same _ _ (sym (cond_true _ _ _ t.0) ∙ (sym (is s) ∙ x.1)) in
          elim (either _ _ (sym (covers_more k) ∙ (ap (list_any (λ (y : Span). span_covers y k)) same ∙ x.2))) [
            | inl e ↦ inl (subst (λ (u : ℕ). KeptAt points spans k u) t.1 (come k e))
            | inr e ↦ inr (sym (or_false (span_covers span k)) ∙ e, sym (t.1))
          ]
    ]

    pub adds_span : Grows (KeptAt points spans) (KeptAt points new) (span_covers span) r
    adds_span = record {
      kept = span_kept;
      added = λ k t. (
        r,
        le_refl r,
        here k (covers_more k
            ∙ (ap (λ (b : Bool). list_any (λ x. span_covers x k) before || (b || false)) t ∙ or_right _)),
      );
      only = span_only;
    }

-- the same, where the key's test is that of its order
pub adds_key_at : (points : Key → Option ℕ) (spans : ℕ → Option (List Span)) (new : Key → Option ℕ) (j k : Key) (r : ℕ)
    → j ≡ k → ((q : Key) → new q ≡ cond (is_eq (slice_cmp nat_cmp j q)) (Some r) (points q))
    → ((s : ℕ) → points k ≡ Some s → s < r)
    → Grows (KeptAt points spans) (KeptAt new spans) (bytes_eq k) r
adds_key_at points spans new j k r same is below =
    adds_key points spans new k r
    (λ q. is q ∙ ap (λ (b : Bool). cond b (Some r) (points q)) (is_eq-slice_cmp j q
    ∙ ap (λ (i : Key). bytes_eq i q) same))
    (λ s e. let h : s < r = below s e in omega arith)

was_there : (o : Option (List Span)) (xs : List Span) → o ≡ Some xs → xs ≡ unwrap_or o []
was_there None xs e = absurd (cc e)
was_there (Some ys) xs e = sym (some_same ys xs e)

come_from : (points : Key → Option ℕ) (spans : ℕ → Option (List Span)) (k : Key) (r : ℕ) (o : Option (List Span))
    → spans r ≡ o → list_any (λ x. span_covers x k) (unwrap_or o []) ≡ true → KeptAt points spans k r
come_from points spans k r None e t = absurd (cc t)
come_from points spans k r (Some xs) e t = inr (xs, e, t)

-- a span more at a timestamp
pub adds_span_at : (points : Key → Option ℕ) (spans new : ℕ → Option (List Span)) (span : Span) (r : ℕ)
    → ((q : ℕ) → new q ≡ cond (r == q) (Some (unwrap_or (spans r) [] ++ span ∷ [])) (spans q))
    → Grows (KeptAt points spans) (KeptAt points new) (span_covers span) r
adds_span_at points spans new span r is =
    adds_span points spans new span r (unwrap_or (spans r) []) is (λ xs e. was_there (spans r) xs e)
    (λ k e. come_from points spans k r (spans r) refl e)

module _ (points : Key → Option ℕ) (spans : ℕ → Option (List Span)) (k : Key) (from bound : ℕ)
    (alone : (r : ℕ) → points k ≡ Some r → r < from)
    (below : (r : ℕ) → KeptAt points spans k r → from ≤ r → r ≤ bound → ⊥) where
  -- where no span lies above the bound, no read at or above `from` is kept
  pub none_above : ((q : ℕ) → bound < q → spans q ≡ None) → (r : ℕ) → KeptAt points spans k r → r < from
  none_above none r (inl e) = alone r e
  none_above none r (inr x) = elim (cases_lt r from) [
    | inl lt ↦ lt
    | inr ge ↦ elim (cases_lt bound r) [
      | inl up ↦ absurd (cc (none r up, x.1))
      | inr down ↦ absurd (below r (inr x) ge down)
    ]
  ]

  -- the nearest spans above the bound do not have the key either
  pub none_upto : (at : ℕ) (xs : List Span) → spans at ≡ Some xs → ((q : ℕ) → bound < q → IsSome (spans q) → at ≤ q)
      → list_any (λ span. span_covers span k) xs ≡ false
      → (r : ℕ) → KeptAt points spans k r → from ≤ r → r ≤ at → ⊥
  none_upto at xs found nearest bare r (inl e) ge upto = let h : r < from = alone r e in absurd (omega arith)
  none_upto at xs found nearest bare r (inr x) ge upto = elim (cases_lt bound r) [
    | inr down ↦ below r (inr x) ge down
    | inl up ↦
        let h : at ≤ r = nearest r up (rw x.1 refl) in
        let same : r ≡ at = omega arith in
        let ys : x.0 ≡ xs = some_same _ _ (sym (x.1) ∙ (ap spans same ∙ found)) in
        cc (sym (x.2) ∙ (ap (list_any (λ (y : Span). span_covers y k)) ys ∙ bare))
  ]

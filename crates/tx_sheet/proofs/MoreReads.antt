-- Reads, one request further.
use Rattle.std.proofs.Common.{◌≡◌, ◌<◌, ◌+◌, ◌≤◌, ◌++◌, ◌∷◌, [], ℕ, List, Option, Some, length, take, get_or, refl, sym, subst, ◌∙◌, inl, inr, arith}
use Rattle.std.specs.Prelude.{◌⊎◌, Any, slice_get, string_bytes}
use Rattle.std.proofs.lemmas.Bool.{cases_lt}
use Rattle.std.proofs.lemmas.Option.{slice_get_within}
use Rattle.tx_types.specs.declared.key.Key.{Key}
use Rattle.tx_types.specs.declared.value.Value.{Value}
use Rattle.tx_trace.specs.declared.taken_log.Taking.{Taking}
use Rattle.tx_sheet.specs.declared.row.KeyRead.{KeyRead}
use Rattle.tx_sheet.specs.Reads.{found_by, IsReading, IsText, Tells, AreReads, Learns}
use Rattle.tx_sheet.proofs.Lists.{any_none, any_left, any_last, any_cases, any_more, any_less}

pub learns_on : (a b c : List KeyRead) (P Q : ℕ → Option Value → Type 0) → Learns a b P → Learns b c Q
    → Learns a c (λ k f. P k f ⊎ Q k f)
learns_on a b c P Q g h = record {
  kept = λ k t w. h.kept k t (g.kept k t w);
  gained = λ k f o. elim o [
    | inl p ↦ let w = g.gained k f p in (w.0, w.1, h.kept k w.0 w.2)
    | inr q ↦ h.gained k f q
  ];
  only = λ k t w. elim (h.only k t w) [
    | inl v ↦ elim (g.only k t v) [ inl o ↦ inl o | inr p ↦ inr (p.0, inl p.1, p.2) ]
    | inr q ↦ inr (q.0, inr q.1, q.2)
  ];
}

pub learns_as : (a b : List KeyRead) (P Q : ℕ → Option Value → Type 0)
    → ((k : ℕ) (f : Option Value) → P k f → Q k f) → ((k : ℕ) (f : Option Value) → Q k f → P k f)
    → Learns a b P → Learns a b Q
learns_as a b P Q to back g = record {
  kept = g.kept;
  gained = λ k f q. g.gained k f (back k f q);
  only = λ k t w. elim (g.only k t w) [ inl o ↦ inl o | inr p ↦ inr (p.0, to k p.0 p.1, p.2) ];
}

pub learns_none : (a : List KeyRead) (P : ℕ → Option Value → Type 0) → ((k : ℕ) (f : Option Value) → P k f → ⊥)
    → Learns a a P
learns_none a P never = record {
  kept = λ k t w. w;
  gained = λ k f p. absurd (never k f p);
  only = λ k t w. inl w;
}

-- what was found is told already, or is told now
module _ (place : ℕ) (found : Option Value) where
  pub told : (a : List KeyRead) (text : List ℕ) → IsText found text → Tells a place text
      → Learns a a (λ k f. (k ≡ place) × (f ≡ found))
  told a text is tells = record {
    kept = λ k t w. w;
    gained = λ k f p. (
      text,
      subst (λ g. IsText g text) (sym p.1) is,
      subst (λ n. Tells a n text) (sym p.0) tells,
    );
    only = λ k t w. inl w;
  }

  pub tells_more : (a : List KeyRead) (r : KeyRead) → r.key ≡ place → IsText found (string_bytes r.found)
      → Learns a (a ++ r ∷ []) (λ k f. (k ≡ place) × (f ≡ found))
  tells_more a r at is = record {
    kept = λ k t w. any_left (λ (x : KeyRead). (x.key ≡ k) × (string_bytes x.found ≡ t)) a r w;
    gained = λ k f p. (
      string_bytes r.found,
      subst (λ g. IsText g (string_bytes r.found)) (sym p.1) is,
      any_last (λ (x : KeyRead). (x.key ≡ k) × (string_bytes x.found ≡ string_bytes r.found)) a r
          (at ∙ sym p.0, refl),
    );
    only = λ k t w. elim (any_cases (λ (x : KeyRead). (x.key ≡ k) × (string_bytes x.found ≡ t)) a r w) [
      | inl o ↦ inl o
      | inr e ↦ inr (found, (sym e.0 ∙ at, refl), subst (IsText found) e.1 is)
    ];
  }

-- a key of which a request found this, or nothing was asked
module _ (keys : List Key) (taking : Taking) (i : ℕ) (key : Key) (at : slice_get keys i ≡ Some key) where
  cut : (k : ℕ) → k < i + 1 → (k < i) ⊎ (k ≡ i)
  cut k lt = elim (cases_lt k i) [ inl l ↦ inl l | inr l ↦ inr (omega (arith, l, lt)) ]

  here : (k : ℕ) (f : Option Value) → IsReading keys taking k f → k ≡ i
      → found_by taking.body taking.answer key ≡ Some f
  here k f r e =
      let there : slice_get keys k ≡ Some key = subst (λ n. slice_get keys n ≡ Some key) (sym e) at in
      let same : r.key ≡ key = cc (r.is, there) in
      subst (λ x. found_by taking.body taking.answer x ≡ Some f) same r.finds

  pub found_on : (a b c : List KeyRead) (said : Option (Option Value)) → said ≡ found_by taking.body taking.answer key
      → Learns a b (λ k f. IsReading keys taking k f × (k < i))
      → Learns b c (λ k f. (k ≡ i) × (said ≡ Some f))
      → Learns a c (λ k f. IsReading keys taking k f × (k < i + 1))
  found_on a b c said is g h = learns_as a c
      (λ k f. (IsReading keys taking k f × (k < i)) ⊎ ((k ≡ i) × (said ≡ Some f)))
      (λ k f. IsReading keys taking k f × (k < i + 1))
      (λ k f o. elim o [
        | inl w ↦ (w.0, omega (arith, w.1))
        | inr e ↦ (
          record {
            key = key;
            is = subst (λ n. slice_get keys n ≡ Some key) (sym e.0) at;
            finds = sym is ∙ e.1;
          },
          omega (arith, e.0),
        )
      ])
      (λ k f w. elim (cut k w.1) [ inl l ↦ inl (w.0, l) | inr e ↦ inr (e, is ∙ here k f w.0 e) ])
      (learns_on a b c (λ k f. IsReading keys taking k f × (k < i)) (λ k f. (k ≡ i) × (said ≡ Some f)) g h)

-- each of its keys
pub all_keys : (keys : List Key) (taking : Taking) (a b : List KeyRead) (n : ℕ) → length keys ≤ n
    → Learns a b (λ k f. IsReading keys taking k f × (k < n)) → Learns a b (IsReading keys taking)
all_keys keys taking a b n le g = learns_as a b (λ k f. IsReading keys taking k f × (k < n)) (IsReading keys taking)
    (λ k f w. w.0)
    (λ k f w. (w, let within : k < length keys = slice_get_within keys k w.key w.is in omega (arith, within, le)))
    g

-- one request more
pub takings_on : (keys : List Key) (xs : List Taking) (i : ℕ) (t : Taking) → i < length xs → t ≡ get_or xs i t
    → (a b : List KeyRead) → Learns [] a (λ k f. Any (λ u. IsReading keys u k f) (take i xs))
    → Learns a b (IsReading keys t)
    → Learns [] b (λ k f. Any (λ u. IsReading keys u k f) (take (i + 1) xs))
takings_on keys xs i t lt is a b g h = learns_as [] b
    (λ k f. Any (λ u. IsReading keys u k f) (take i xs) ⊎ IsReading keys t k f)
    (λ k f. Any (λ u. IsReading keys u k f) (take (i + 1) xs))
    (λ k f o. any_more (λ u. IsReading keys u k f) xs i t lt (elim o [
      | inl w ↦ inl w
      | inr e ↦ inr (subst (λ u. IsReading keys u k f) is e)
    ]))
    (λ k f w. elim (any_less (λ u. IsReading keys u k f) xs i t lt w) [
      | inl v ↦ inl v
      | inr e ↦ inr (subst (λ u. IsReading keys u k f) (sym is) e)
    ])
    (learns_on [] a b (λ k f. Any (λ u. IsReading keys u k f) (take i xs)) (IsReading keys t) g h)

pub all_reads : (keys : List Key) (takings : List Taking) (reads : List KeyRead)
    → Learns [] reads (λ k f. Any (λ taking. IsReading keys taking k f) takings) → AreReads keys takings reads
all_reads keys takings reads g = record {
  sound = λ k t w. elim (g.only k t w) [
    | inl o ↦ absurd (any_none (λ (r : KeyRead). (r.key ≡ k) × (string_bytes r.found ≡ t)) o)
    | inr p ↦ p
  ];
  all = g.gained;
}

-- Arrows, one request further.
use Rattle.std.proofs.Common.{◌≡◌, ◌<◌, ◌≤◌, ◌+◌, [], ℕ, List, Bool, true, false, Some, length, take, get_or, sym, subst, ap, ◌∙◌, inl, inr, arith}
use Rattle.std.specs.Prelude.{◌⊎◌, Any, slice_get}
use Rattle.std.proofs.lemmas.Bool.{cases_lt}
use Rattle.std.proofs.lemmas.Option.{slice_get_within}
use Rattle.tx_types.specs.declared.key.Key.{Key}
use Rattle.tx_trace.specs.declared.taken_log.Taking.{Taking}
use Rattle.tx_sheet.specs.declared.row.Change.{Change}
use Rattle.tx_sheet.specs.declared.row.Target.{Target}
use Rattle.tx_sheet.specs.Arrows.{is_locked, went, GoesTo, IsArrow, AreArrows, Gains}
use Rattle.tx_sheet.proofs.Lists.{any_more, any_less, all_from}

pub gains_on : (a b c : List Target) (P Q : Target → Type 0) → Gains a b P → Gains b c Q
    → Gains a c (λ x. P x ⊎ Q x)
gains_on a b c P Q g h = record {
  kept = λ x w. h.kept x (g.kept x w);
  gained = λ x o. elim o [ inl p ↦ h.kept x (g.gained x p) | inr q ↦ h.gained x q ];
  only = λ x w. elim (h.only x w) [
    | inl v ↦ elim (g.only x v) [ inl o ↦ inl o | inr p ↦ inr (inl p) ]
    | inr q ↦ inr (inr q)
  ];
  once = λ o. h.once (g.once o);
}

pub gains_as : (a b : List Target) (P Q : Target → Type 0) → ((x : Target) → P x → Q x) → ((x : Target) → Q x → P x)
    → Gains a b P → Gains a b Q
gains_as a b P Q to back g = record {
  kept = g.kept;
  gained = λ x q. g.gained x (back x q);
  only = λ x w. elim (g.only x w) [ inl o ↦ inl o | inr p ↦ inr (to x p) ];
  once = g.once;
}

pub gains_none : (a : List Target) (P : Target → Type 0) → ((x : Target) → P x → ⊥) → Gains a a P
gains_none a P never = record {
  kept = λ x w. w;
  gained = λ x p. absurd (never x p);
  only = λ x w. inl w;
  once = λ o. o;
}

pub arrow_is : (x : Target) (k : ℕ) (m : Bool) → x.key ≡ k → x.meets_lock ≡ m → x ≡ record { key = k; meets_lock = m }
arrow_is x k m e f = ap (λ n. record { key = n; meets_lock = x.meets_lock }) e
    ∙ ap (λ b. record { key = k; meets_lock = b }) f

-- a key to which a request went, or did not
module _ (keys : List Key) (taking : Taking) (i : ℕ) (key : Key) (at : slice_get keys i ≡ Some key) where
  -- which of two places it is
  cut : (x : Target) → x.key < i + 1 → (x.key < i) ⊎ (x.key ≡ i)
  cut x lt = elim (cases_lt x.key i) [ inl l ↦ inl l | inr l ↦ inr (omega (arith, l, lt)) ]

  same_key : (x : Target) → (g : GoesTo keys taking x) → x.key ≡ i → g.key ≡ key
  same_key x g e = let there : slice_get keys x.key ≡ Some key = subst (λ n. slice_get keys n ≡ Some key) (sym e) at in
      cc (g.is, there)

  pub went_on : (a b c : List Target) (m : Bool) → m ≡ is_locked taking.answer → went taking key ≡ true
      → Gains a b (λ x. GoesTo keys taking x × (x.key < i))
      → Gains b c (λ x. x ≡ record { key = i; meets_lock = m })
      → Gains a c (λ x. GoesTo keys taking x × (x.key < i + 1))
  went_on a b c m is goes g h = gains_as a c
      (λ x. (GoesTo keys taking x × (x.key < i)) ⊎ (x ≡ record { key = i; meets_lock = m }))
      (λ x. GoesTo keys taking x × (x.key < i + 1))
      (λ x o. elim o [
        | inl w ↦ (w.0, omega (arith, w.1))
        | inr e ↦ subst (λ y. GoesTo keys taking y × (y.key < i + 1)) (sym e)
            (record { key = key; is = at; goes = goes; meets = is }, omega arith)
      ])
      (λ x w. elim (cut x w.1) [
        | inl l ↦ inl (w.0, l)
        | inr e ↦ inr (arrow_is x i m e (w.0.meets ∙ sym is))
      ])
      (gains_on a b c (λ x. GoesTo keys taking x × (x.key < i)) (λ x. x ≡ record { key = i; meets_lock = m }) g h)

  pub not_gone : (a b : List Target) → went taking key ≡ false → Gains a b (λ x. GoesTo keys taking x × (x.key < i))
      → Gains a b (λ x. GoesTo keys taking x × (x.key < i + 1))
  not_gone a b stays g = gains_as a b (λ x. GoesTo keys taking x × (x.key < i))
      (λ x. GoesTo keys taking x × (x.key < i + 1))
      (λ x w. (w.0, omega (arith, w.1)))
      (λ x w. elim (cut x w.1) [
        | inl l ↦ (w.0, l)
        | inr e ↦
            let true_here : went taking key ≡ true = subst (λ k. went taking k ≡ true) (same_key x w.0 e) w.0.goes in
            absurd (cc (true_here, stays))
      ])
      g

-- each of its keys
pub all_keys : (keys : List Key) (taking : Taking) (a b : List Target) (n : ℕ) → length keys ≤ n
    → Gains a b (λ x. GoesTo keys taking x × (x.key < n)) → Gains a b (GoesTo keys taking)
all_keys keys taking a b n le g = gains_as a b (λ x. GoesTo keys taking x × (x.key < n)) (GoesTo keys taking)
    (λ x w. w.0)
    (λ x w. (w, let within : x.key < length keys = slice_get_within keys x.key w.key w.is in omega (arith, within, le)))
    g

-- one request more
pub takings_on : (keys : List Key) (xs : List Taking) (i : ℕ) (t : Taking) → i < length xs → t ≡ get_or xs i t
    → (a b : List Target) → Gains [] a (λ x. Any (λ u. GoesTo keys u x) (take i xs)) → Gains a b (GoesTo keys t)
    → Gains [] b (λ x. Any (λ u. GoesTo keys u x) (take (i + 1) xs))
takings_on keys xs i t lt is a b g h = gains_as [] b
    (λ x. Any (λ u. GoesTo keys u x) (take i xs) ⊎ GoesTo keys t x)
    (λ x. Any (λ u. GoesTo keys u x) (take (i + 1) xs))
    (λ x o. any_more (λ u. GoesTo keys u x) xs i t lt (elim o [
      | inl w ↦ inl w
      | inr e ↦ inr (subst (λ u. GoesTo keys u x) is e)
    ]))
    (λ x w. elim (any_less (λ u. GoesTo keys u x) xs i t lt w) [
      | inl v ↦ inl v
      | inr e ↦ inr (subst (λ u. GoesTo keys u x) (sym is) e)
    ])
    (gains_on [] a b (λ x. Any (λ u. GoesTo keys u x) (take i xs)) (GoesTo keys t) g h)

-- one change more
pub changed_on : (cs : List Change) (i : ℕ) (c : Change) → i < length cs → c ≡ get_or cs i c → (o a b : List Target)
    → Gains o a (λ x. Any (λ d. d.key ≡ x.key) (take i cs) × (x.meets_lock ≡ false))
    → Gains a b (λ x. x ≡ record { key = c.key; meets_lock = false })
    → Gains o b (λ x. Any (λ d. d.key ≡ x.key) (take (i + 1) cs) × (x.meets_lock ≡ false))
changed_on cs i c lt is o a b g h = gains_as o b
    (λ x. (Any (λ d. d.key ≡ x.key) (take i cs) × (x.meets_lock ≡ false))
    ⊎ (x ≡ record { key = c.key; meets_lock = false }))
    (λ x. Any (λ d. d.key ≡ x.key) (take (i + 1) cs) × (x.meets_lock ≡ false))
    (λ x w. elim w [
      | inl v ↦ (any_more (λ (d : Change). d.key ≡ x.key) cs i c lt (inl v.0), v.1)
      | inr e ↦ (
        any_more (λ (d : Change). d.key ≡ x.key) cs i c lt
            (inr (ap (λ (d : Change). d.key) (sym is) ∙ sym (ap (λ (y : Target). y.key) e))),
        ap (λ (y : Target). y.meets_lock) e,
      )
    ])
    (λ x w. elim (any_less (λ (d : Change). d.key ≡ x.key) cs i c lt w.0) [
      | inl v ↦ inl (v, w.1)
      | inr e ↦ inr (arrow_is x c.key false (sym e ∙ ap (λ (d : Change). d.key) (sym is)) w.1)
    ])
    (gains_on o a b (λ x. Any (λ d. d.key ≡ x.key) (take i cs) × (x.meets_lock ≡ false))
    (λ x. x ≡ record { key = c.key; meets_lock = false }) g h)

-- the arrows of all, and those of a collection
pub all_arrows : (keys : List Key) (takings : List Taking) (changes : List Change) (arrows : List Target)
    → Gains [] arrows (IsArrow keys takings changes) → AreArrows keys takings changes arrows
all_arrows keys takings changes arrows g = record {
  sound = all_from (IsArrow keys takings changes) arrows (λ x w. elim (g.only x w) [
    | inl o ↦ absurd (omega (arith, o.1))
    | inr p ↦ p
  ]);
  all = g.gained;
  once = g.once (λ i j d lt lt'. absurd (omega (arith, lt')));
}

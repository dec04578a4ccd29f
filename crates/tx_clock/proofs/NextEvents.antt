-- One transaction more of those that are held against the orders of processes and of the clock.
use Rattle.std.proofs.Common.{◌≡◌, ◌⊎◌, ℕ, ◌+◌, ◌<◌, ◌≤◌, Bool, true, false, List, [], ◌∷◌, ◌++◌, Contains, length, set, get_or, arith, inl, inr, refl, sym, ap, ◌∙◌, subst, IsTrue, Option, Some, None}
use Rattle.std.proofs.lemmas.Bool.{cases_eq}
use Rattle.std.proofs.lemmas.List.{get_or-set_same, get_or-set_other}
use Rattle.std.proofs.lemmas.List.Elements.{Contains-push, Contains-append_left}
use Rattle.tx_recording.specs.declared.recording.RecordedOutcome.TheVariants.{Ok}
use Rattle.tx_recording.specs.declared.recording.Recording.{Recording}
use Rattle.tx_recording.specs.Recordings.{txns_of, transaction_at}
use Rattle.tx_recording.specs.Explanations.{IsSession}
use Rattle.tx_clock.specs.declared.clock.ClockEvent.{ClockEvent}
use Rattle.tx_clock.specs.KeptOrder.{live_in, event_at}

none_some : (p : ℕ) → None ≡ Some p → ⊥
none_some p e = (cc)

same_some : (p q : ℕ) → Some p ≡ Some q → p ≡ q
same_some p q e = grind (arith, e)

module _ (r : Recording) (live : List Bool) (starts commits : List ℕ) where
  abbrev pub AreAbove : List ℕ → ℕ → Type 0
  AreAbove latest n = (t p : ℕ) → t < n → (transaction_at r t).process ≡ Some p → (transaction_at r t).outcome ≡ Ok
      → get_or commits t 0 ≤ get_or latest p 0

  abbrev pub AreKept : ℕ → Type 0
  AreKept n = (t u : ℕ) → u < n → IsSession r t u → IsTrue (live_in live u) → get_or commits t 0 ≤ get_or starts u 0

  pub above_none : (latest : List ℕ) (n : ℕ) → (transaction_at r n).process ≡ None → AreAbove latest n
      → AreAbove latest (n + 1)
  above_none latest n none above t p lt is ok = elim (cases_eq t n) [
    | inl same ↦ absurd (none_some p (sym none ∙ ap (λ q. (transaction_at r q).process) (sym same) ∙ is))
    | inr ne ↦ above t p (omega (arith, lt, ne)) is ok
  ]

  pub kept_none : (n : ℕ) → (transaction_at r n).process ≡ None → AreKept n → AreKept (n + 1)
  kept_none n none kept t u lt (p, before, within, of_one, of_other, ok) is_live = elim (cases_eq u n) [
    | inl same ↦ absurd (none_some p (sym none ∙ ap (λ q. (transaction_at r q).process) (sym same) ∙ of_other))
    | inr ne ↦ kept t u (omega (arith, lt, ne)) (p, before, within, of_one, of_other, ok) is_live
  ]

  pub above_next : (latest : List ℕ) (n p later : ℕ) → p < length latest → (transaction_at r n).process ≡ Some p
      → get_or latest p 0 ≤ later → ((transaction_at r n).outcome ≡ Ok → get_or commits n 0 ≤ later) → AreAbove latest n
      → AreAbove (set latest p later) (n + 1)
  above_next latest n p later within of_p upto own above t q lt is ok = elim (cases_eq t n) [
    | inl same ↦ (
        let at : q ≡ p = same_some q p (sym is ∙ ap (λ z. (transaction_at r z).process) same ∙ of_p) in
        let now = ap (λ z. get_or (set latest p later) z 0) at ∙ get_or-set_same latest p later 0 within in
        let c = ap (λ z. get_or commits z 0) same in
        let up = own (ap (λ z. (transaction_at r z).outcome) (sym same) ∙ ok) in
        omega (arith, now, c, up)
        )
    | inr ne ↦ (
        let before = above t q (omega (arith, lt, ne)) is ok in
        elim (cases_eq q p) [
          | inl at ↦ (
              let now = ap (λ z. get_or (set latest p later) z 0) at ∙ get_or-set_same latest p later 0 within in
              let old = ap (λ z. get_or latest z 0) at in
              omega (arith, now, old, before, upto)
              )
          | inr other ↦ (let now = get_or-set_other latest p q later 0 other in omega (arith, now, before))
        ]
        )
  ]

  pub kept_next : (latest : List ℕ) (n p : ℕ) → (transaction_at r n).process ≡ Some p
      → (IsTrue (live_in live n) → get_or latest p 0 ≤ get_or starts n 0) → AreAbove latest n → AreKept n
      → AreKept (n + 1)
  kept_next latest n p of_p own above kept t u lt (q, before, within, of_one, of_other, ok) is_live =
      elim (cases_eq u n) [
        | inl same ↦ (
            let at : q ≡ p = same_some q p (sym of_other ∙ ap (λ z. (transaction_at r z).process) same ∙ of_p) in
            let up = above t q (omega (arith, before, same)) of_one ok in
            let old = ap (λ z. get_or latest z 0) at in
            let P : ℕ → Type 0 = λ z. IsTrue (live_in live z) in
            let low = own (subst P same is_live) in
            let s = ap (λ z. get_or starts z 0) same in
            omega (arith, up, old, low, s)
            )
        | inr ne ↦ kept t u (omega (arith, lt, ne)) (q, before, within, of_one, of_other, ok) is_live
      ]

same_time : (a b : ℕ) → Some a ≡ Some b → a ≡ b
same_time a b e = grind (arith, e)

-- one begin more
pub begun_more : (r : Recording) (live : List Bool) (old new : List ClockEvent) (n time : ℕ)
    → new ≡ old ++ record { time = time; txn = n; ends = false } ∷ [] → (transaction_at r n).began ≡ Some time
    → ((u b : ℕ) → u < n → IsTrue (live_in live u) → (transaction_at r u).began ≡ Some b
    → Contains old record { time = b; txn = u; ends = false })
    → (u b : ℕ) → u < n + 1 → IsTrue (live_in live u) → (transaction_at r u).began ≡ Some b
    → Contains new record { time = b; txn = u; ends = false }
begun_more r live old new n time is began all u b lt is_live at = elim (cases_eq u n) [
  | inl same ↦ (
      let when : time ≡ b = same_time time b (sym began ∙ ap (λ q. (transaction_at r q).began) (sym same) ∙ at) in
      let P : ℕ → Type 0 = λ q. Contains new record { time = q; txn = u; ends = false } in
      let Q : ℕ → Type 0 = λ q. Contains new record { time = time; txn = q; ends = false } in
      subst P when (subst Q (sym same) (subst (λ q. Contains q record { time = time; txn = n; ends = false }) (sym is)
      (Contains-push old record { time = time; txn = n; ends = false })))
      )
  | inr ne ↦ subst (λ q. Contains q record { time = b; txn = u; ends = false }) (sym is)
      (Contains-append_left old (record { time = time; txn = n; ends = false } ∷ []) record {
        time = b;
        txn = u;
        ends = false;
      }
      (all u b (omega (arith, lt, ne)) is_live at))
]

-- one end more
pub ended_more : (r : Recording) (old new : List ClockEvent) (n time : ℕ)
    → new ≡ old ++ record { time = time; txn = n; ends = true } ∷ [] → (transaction_at r n).ended ≡ Some time
    → ((t e : ℕ) → t < n → (transaction_at r t).outcome ≡ Ok → (transaction_at r t).ended ≡ Some e
    → Contains old record { time = e; txn = t; ends = true })
    → (t e : ℕ) → t < n + 1 → (transaction_at r t).outcome ≡ Ok → (transaction_at r t).ended ≡ Some e
    → Contains new record { time = e; txn = t; ends = true }
ended_more r old new n time is ended all t e lt ok at = elim (cases_eq t n) [
  | inl same ↦ (
      let when : time ≡ e = same_time time e (sym ended ∙ ap (λ q. (transaction_at r q).ended) (sym same) ∙ at) in
      let P : ℕ → Type 0 = λ q. Contains new record { time = q; txn = t; ends = true } in
      let Q : ℕ → Type 0 = λ q. Contains new record { time = time; txn = q; ends = true } in
      subst P when (subst Q (sym same) (subst (λ q. Contains q record { time = time; txn = n; ends = true }) (sym is)
      (Contains-push old record { time = time; txn = n; ends = true })))
      )
  | inr ne ↦ subst (λ q. Contains q record { time = e; txn = t; ends = true }) (sym is)
      (Contains-append_left old (record { time = time; txn = n; ends = true } ∷ []) record {
        time = e;
        txn = t;
        ends = true;
      }
      (all t e (omega (arith, lt, ne)) ok at))
]

pub kept_push : (first old new : List ClockEvent) (one : ClockEvent) → new ≡ old ++ one ∷ []
    → ((e : ClockEvent) → Contains first e → Contains old e)
    → (e : ClockEvent) → Contains first e → Contains new e
kept_push first old new one is kept e there =
    subst (λ q. Contains q e) (sym is) (Contains-append_left old (one ∷ []) e (kept e there))

module _ (events : List ClockEvent) (starts commits : List ℕ) where
  abbrev pub AreEnded : ℕ → ℕ → Type 0
  AreEnded latest n = (i : ℕ) → i < n → (event_at events i).ends ≡ true
      → get_or commits (event_at events i).txn 0 ≤ latest

  abbrev pub AreBegun : ℕ → Type 0
  AreBegun n = (i j : ℕ) → i < j → j < n → (event_at events i).ends ≡ true → (event_at events j).ends ≡ false
      → get_or commits (event_at events i).txn 0 ≤ get_or starts (event_at events j).txn 0

  pub ended_next : (latest later n : ℕ) → latest ≤ later
      → ((event_at events n).ends ≡ true → get_or commits (event_at events n).txn 0 ≤ later) → AreEnded latest n
      → AreEnded later (n + 1)
  ended_next latest later n le own ended i lt is = elim (cases_eq i n) [
    | inl same ↦ (
        let up = own (ap (λ z. (event_at events z).ends) (sym same) ∙ is) in
        let c = ap (λ z. get_or commits (event_at events z).txn 0) same in
        omega (arith, up, c)
        )
    | inr ne ↦ (let up = ended i (omega (arith, lt, ne)) is in omega (arith, up, le))
  ]

  pub begun_next : (latest n : ℕ)
      → ((event_at events n).ends ≡ false → latest ≤ get_or starts (event_at events n).txn 0)
      → AreEnded latest n → AreBegun n → AreBegun (n + 1)
  begun_next latest n own ended begun i j before lt is_end is_begin = elim (cases_eq j n) [
    | inl same ↦ (
        let up = ended i (omega (arith, before, same)) is_end in
        let low = own (ap (λ z. (event_at events z).ends) (sym same) ∙ is_begin) in
        let s = ap (λ z. get_or starts (event_at events z).txn 0) same in
        omega (arith, up, low, s)
        )
    | inr ne ↦ begun i j before (omega (arith, lt, ne)) is_end is_begin
  ]

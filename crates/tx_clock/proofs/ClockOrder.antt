-- Timestamps that keep the order of the clock.
use Rattle.std.proofs.Common.{◌≡◌, ◌⊎◌, ℕ, ◌+◌, ◌<◌, ◌≤◌, Bool, true, false, List, length, get_or, Contains, arith, inl, inr, refl, sym, ap, ◌∙◌, subst, IsTrue, Option, Some, None}
use Rattle.std.proofs.lemmas.Bool.{cases_eq, cases_lt}
use Rattle.std.proofs.lemmas.List.{get_or_default, get_or_past}
use Rattle.tx_recording.specs.declared.recording.RecordedOutcome.TheVariants.{Ok, Fail}
use Rattle.tx_recording.specs.declared.recording.Recording.{Recording}
use Rattle.tx_recording.specs.declared.recording.RecordedTransaction.{RecordedTransaction}
use Rattle.tx_recording.specs.Recordings.{txns_of, transaction_at, no_transaction}
use Rattle.tx_recording.specs.Explanations.{IsEarlier}
use Rattle.tx_clock.specs.declared.clock.ClockEvent.{ClockEvent}
use Rattle.tx_clock.specs.KeptOrder.{live_in, AreEvents, KeepsEvents, KeepsPairs, event_at}

ok_fails : Fail ≡ Ok → ⊥
ok_fails e = (cc)

-- what has committed is one of the transactions
pub is_one : (r : Recording) (t : ℕ) → (transaction_at r t).outcome ≡ Ok → t < txns_of r
is_one r t is = elim (cases_lt t (txns_of r)) [
  | inl lt ↦ lt
  | inr past ↦ absurd (ok_fails
      (sym (ap (λ (q : RecordedTransaction). q.outcome) (get_or_past r.transactions.items t no_transaction past)) ∙ is))
]

none_some : (b : ℕ) → None ≡ Some b → ⊥
none_some b e = (cc)

-- what began is one of the transactions
pub began_within : (r : Recording) (u b : ℕ) → (transaction_at r u).began ≡ Some b → u < txns_of r
began_within r u b is = elim (cases_lt u (txns_of r)) [
  | inl lt ↦ lt
  | inr past ↦ absurd (none_some b
      (sym (ap (λ (q : RecordedTransaction). q.began) (get_or_past r.transactions.items u no_transaction past)) ∙ is))
]

pub clock_kept : (r : Recording) (live : List Bool) (events : List ClockEvent) (starts commits : List ℕ)
    → AreEvents r live events → KeepsEvents events starts commits → KeepsPairs (IsEarlier r) live starts commits
clock_kept r live events starts commits are keeps t u (e, b, lt, ended, began, ok) live_t live_u =
    let (i, in_i, is_end) = are.ended t e (is_one r t ok) ok ended in
    let (j, in_j, is_begin) = are.begun u b (began_within r u b began) live_u began in
    let d : ClockEvent = record { time = 0; txn = 0; ends = false } in
    let at_i : event_at events i ≡ record { time = e; txn = t; ends = true } =
    get_or_default events i d record { time = e; txn = t; ends = true } in_i ∙ is_end in
    let at_j : event_at events j ≡ record { time = b; txn = u; ends = false } =
    get_or_default events j d record { time = b; txn = u; ends = false } in_j ∙ is_begin in
    elim (cases_lt i j) [
      | inl before ↦ (
          let le = keeps i j before in_j (ap (λ (q : ClockEvent). q.ends) at_i)
          (ap (λ (q : ClockEvent). q.ends) at_j) in
          let c = ap (λ (q : ClockEvent). get_or commits q.txn 0) at_i in
          let s = ap (λ (q : ClockEvent). get_or starts q.txn 0) at_j in
          omega (arith, le, c, s)
          )
      | inr after ↦ absurd (
          let up = are.rising j i d after in_i in
          let a = ap (λ (q : ClockEvent). q.time) at_i in
          let o = ap (λ (q : ClockEvent). q.time) at_j in
          omega (arith, up, a, o, lt)
          )
    ]

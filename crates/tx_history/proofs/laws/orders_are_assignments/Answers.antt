-- Along the versions of a key the commits rise, each below the start of the next writer.
use Rattle.std.proofs.Common.{◌≡◌, ℕ, ◌+◌, ◌-◌, ◌<◌, Contains, arith, inl, inr, zero, suc, refl, sym, subst}
use Rattle.std.proofs.lemmas.Bool.{cases_lt}
use Rattle.tx_history.specs.Histories.{History, HasVersion, AreWritten, Rises}
use Rattle.tx_history.specs.declared.recorded.Read.{Read}
use Rattle.tx_history.proofs.laws.orders_are_assignments.Goals as goal

-- the next version's writer starts above
step : (h : History) (starts commits : ℕ → ℕ) → Rises h starts commits → (k i j : ℕ) → HasVersion h k i
    → HasVersion h k j
    → j ≡ i + 1 → commits (h.writer k i) < starts (h.writer k j)
step h starts commits g k i j has more e =
    let P : ℕ → Type 0 = λ q. HasVersion h k q → commits (h.writer k i) < starts (h.writer k q) in
    subst P (sym e) (λ within. g.ww k i has within) more

-- and so does that of n versions on
later : (h : History) (starts commits : ℕ → ℕ) → AreWritten h → Rises h starts commits → (k i j n : ℕ)
    → HasVersion h k i
    → HasVersion h k j → j ≡ i + 1 + n → commits (h.writer k i) < starts (h.writer k j)
later h starts commits w g k i j zero has more e = step h starts commits g k i j has more (omega (arith, e))
later h starts commits w g k i j (suc n) has more e =
    let within : HasVersion h k (i + 1 + n) = (omega arith, omega (arith, more.1, e)) in
    let before = later h starts commits w g k i (i + 1 + n) n has within refl in
    let own = g.own _ (w k (i + 1 + n) within) in
    let next = step h starts commits g k (i + 1 + n) j within more (omega (arith, e)) in
    omega (arith, before, own, next)

rises_apart : (h : History) (starts commits : ℕ → ℕ) → AreWritten h → Rises h starts commits → (k i j : ℕ)
    → HasVersion h k i
    → HasVersion h k j → i < j → commits (h.writer k i) < starts (h.writer k j)
rises_apart h starts commits w g k i j has more lt =
    later h starts commits w g k i j (j - (i + 1)) has more (omega arith)

-- the version after the one that was read, and any later one, is committed above the reader's start
rises_newest : (h : History) (starts commits : ℕ → ℕ) → AreWritten h → Rises h starts commits → (r : Read) (j : ℕ)
    → Contains h.reads r
    → HasVersion h r.key j → r.version < j → starts r.txn < commits (h.writer r.key j)
rises_newest h starts commits w g r j is has lt =
    let next : HasVersion h r.key (r.version + 1) = (omega arith, omega (arith, has.1, lt)) in
    let first = g.rw r is next in
    elim (cases_lt (r.version + 1) j) [
      | inl more ↦ (let own = g.own _ (w r.key j has) in
          let over = rises_apart h starts commits w g r.key (r.version + 1) j next has more in omega
          (arith, first, own, over))
      | inr same ↦ (let P : ℕ → Type 0 = λ q. starts r.txn < commits (h.writer r.key q) in
          subst P (omega (arith, same, lt)) first)
    ]

pub returns : goal.returns
returns c h starts commits w g = record {
  above = g.own;
  apart = λ k i j has more lt. (let less = rises_apart h starts commits w g k i j has more lt in omega (arith, less));
  seen = λ r is has. (let less = g.wr r is has in omega (arith, less));
  after = λ p is. (let less = g.after p is in omega (arith, less));
  newest = rises_newest h starts commits w g;
}

-- The words of the example runs: two keys, a value, and small facts.
use Rattle.std.proofs.Common.{◌≡◌, ◌≢◌, ℕ, ◌<◌, inl, inr, [], ◌∷◌, Option, Some, None, bytes_eq, Contains, sym, ap, subst, ◌∙◌, arith}
use Rattle.tx_types.specs.declared.key.Key.{Key}
use Rattle.tx_types.specs.declared.value.Value.{Value}
use Rattle.tx_types.specs.declared.mutation.Mutation.{Mutation}
use Rattle.tx_types.specs.declared.mutation.Mode.TheVariants as mode
use Rattle.tx_plan.specs.Cells.{Lock}
use Rattle.tx_plan.specs.Own.{OwnRollback}
use Rattle.tx_machine.specs.Keys.{mutation_at}
use Rattle.tx_core.specs.Histories.{History, drawer, set_at, is_first}
use Rattle.tx_core.specs.Decisions.{Acceptance, accepted}
use Rattle.tx_core.specs.Allowed.{MayDecide}
use Rattle.tx_core.proofs.Basics.{key_test, cond_false, some_same, is_some}

abbrev pub a : Key
a = 97 ∷ []

abbrev pub b : Key
b = 98 ∷ []

abbrev pub x : Value
x = 120 ∷ []

-- no transaction is passed by
pub none : (t : ℕ) → Contains [] t → ⊥
none t within = omega (arith, within.1)

-- no rollback stands where nothing does
pub unrolled : (t : ℕ) → OwnRollback (λ c. None) t → ⊥
unrolled t (inl e) = (cc (e))
unrolled t (inr (rec, others, e)) = (cc (others.stands))

abbrev pub start_of : Option Lock → ℕ
start_of None = 0
start_of (Some lock) = lock.start

-- the commit that decides the transaction of t, where it changes a alone and the first seat
-- drew its two numbers
pub decides_at : (t : ℕ) (h : History) (m : Mutation) (c : ℕ) (by : Acceptance)
    → set_at h t ≡ record { key = a; mutation = m } ∷ [] → accepted h t a ≡ Some by → by.lock.mode ≡ mode.TwoPhase
    → drawer h t ≡ Some 1 → drawer h c ≡ Some 1 → by.at < c
    → MayDecide h record { key = a; start = t; commit = c }
decides_at t h m c by set is two began drew later =
    record {
      primary = ap (λ s. is_first s a) set;
      accepted = λ k within. subst (λ q. accepted h t q ≢ None) (is_a k within) (is_some (accepted h t a) by is);
      two_phase = record { key = a; by = by; stands = is; two_phase = two };
      drawn = record {
        seat = 1;
        of_start = began;
        of_commit = drew;
        after = λ k one within here. subst (λ (y : Acceptance). y.at < c)
            (some_same by one (sym is ∙ subst (λ q. accepted h t q ≡ Some one) (sym (is_a k within)) here)) later;
      };
    }
  where
    is_a : (k : Key) → mutation_at (set_at h t) k ≢ None → a ≡ k
    is_a k within = elim (key_test a k) [
      | inl e ↦ e.1
      | inr e ↦ absurd (within (ap (λ s. mutation_at s k) set ∙ cond_false (bytes_eq a k) (Some m) None e.0))
    ]

pub decides : (h : History) (m : Mutation) (c : ℕ) (by : Acceptance)
    → set_at h 1 ≡ record { key = a; mutation = m } ∷ [] → accepted h 1 a ≡ Some by → by.lock.mode ≡ mode.TwoPhase
    → drawer h 1 ≡ Some 1 → drawer h c ≡ Some 1 → by.at < c
    → MayDecide h record { key = a; start = 1; commit = c }
decides = decides_at 1

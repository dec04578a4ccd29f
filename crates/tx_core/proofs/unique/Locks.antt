-- The locks below a timestamp are one list, the first of them is one lock, and what collection
-- drops counts the same in whatever order it is listed.
use Rattle.std.proofs.Common.{◌≡◌, inl, inr, ℕ, suc, ◌≤◌, Bool, List, [], ◌∷◌, length, Some, refl, sym, ap, subst, ◌∙◌, arith}
use Rattle.std.specs.Prelude.{Contains}
use Rattle.std.specs.List.{filter}
use Rattle.std.proofs.lemmas.Bool.{cases_Bool}
use Rattle.tx_types.specs.declared.key.Key.{Key}
use Rattle.tx_types.specs.declared.lock.LockInfo.{LockInfo}
use Rattle.tx_plan.specs.declared.body.LocksBelow.{LocksBelow}
use Rattle.tx_plan.specs.declared.body.Collect.{Collect}
use Rattle.tx_plan.specs.declared.answer.Answer.{Answer}
use Rattle.tx_plan.specs.declared.answer.Answer.TheVariants.{Locks, LocksRemain, Collected}
use Rattle.tx_plan.specs.Cells.{Cells, info_of, is_long}
use Rattle.tx_plan.specs.cases.LocksBelow.{AnswersLocksBelow}
use Rattle.tx_plan.specs.cases.Collect.{commit_is, AllDropped, long_values, IsFirstBelow, AnswersCollect}
use Rattle.tx_plan.proofs.KeyOrder.{ordered}
use Rattle.tx_core.proofs.unique.Cases.{one_case, same, alike, one_lock}
use Rattle.tx_core.proofs.unique.KeyLists.{contains_passing, passing_contained, Once, once_pairs, once_filter, fewer, order_once, one_list, rising_in_order}

-- ---- locks

-- the locks below a timestamp are one list
pub one_locks : (cells : Key → Cells) (q : LocksBelow) (a b : Answer) → AnswersLocksBelow cells q a
    → AnswersLocksBelow cells q b → a ≡ b
one_locks cells q a b (xs, x, is) (ys, y, also) =
    let within : (info : LockInfo) → Contains xs info → Contains ys info = λ info c. y.each info (x.stand info c) in
    let around : (info : LockInfo) → Contains ys info → Contains xs info = λ info c. x.each info (y.stand info c) in
    let right = rising_in_order (λ (i : LockInfo). i.key) ys y.rising in
    alike Locks xs ys a b
    (one_list (λ (i : LockInfo). i.key) xs ys (rising_in_order (λ (i : LockInfo). i.key) xs x.rising) right within
    (fewer ys xs (order_once (λ (i : LockInfo). i.key) ys right) around)) is also

module _ (cells : Key → Cells) (safe : ℕ) where
  -- one lock is the first
  one_first : (i j : LockInfo) → IsFirstBelow cells safe i → IsFirstBelow cells safe j → i ≡ j
  one_first i j x y =
      elim (ordered i.key j.key) [
        | inl lt ↦ absurd (y.first i x.stands lt)
        | inr n ↦ elim n [
          | inl e ↦ (let lock =
              one_lock (cells j.key).lock x.stands.lock y.stands.lock
              (subst (λ k. (cells k).lock ≡ Some x.stands.lock) e x.stands.stands) y.stands.stands in
              x.stands.told ∙ (ap (λ k. info_of k x.stands.lock) e ∙ (ap (info_of j.key) lock ∙ sym y.stands.told)))
          | inr gt ↦ absurd (x.first j y.stands gt)
        ]
      ]

  one_remains : (a b : Answer) → (i : LockInfo) × IsFirstBelow cells safe i × (a ≡ LocksRemain i)
      → (j : LockInfo) × IsFirstBelow cells safe j × (b ≡ LocksRemain j) → a ≡ b
  one_remains a b (i, x, is) (j, y, also) = alike LocksRemain i j a b (one_first i j x y) is also

  -- ---- counts

  abbrev has_value : Key × ℕ → Bool
  has_value version = commit_is is_long ((cells version.0).write version.1)

  -- the values that go are those of the places that hold one
  value_places : (versions : List (Key × ℕ)) → length (filter has_value versions) ≡ long_values cells versions
  value_places [] = refl
  value_places (x ∷ versions) =
      elim (cases_Bool (has_value x)) [
        | inl long ↦ (rw long (ap suc (value_places versions)))
        | inr short ↦ (rw short (value_places versions))
      ]

  -- of two lists of what is dropped neither is longer, nor has more values
  no_more : (xs ys : List (Key × ℕ)) → AllDropped cells safe xs → AllDropped cells safe ys
      → (length xs ≤ length ys) × (long_values cells xs ≤ long_values cells ys)
  no_more xs ys x y = (
    fewer xs ys once within,
    omega (
      arith,
      value_places xs,
      value_places ys,
      fewer (filter has_value xs) (filter has_value ys) (once_filter has_value xs once) passing,
    ),
  )
    where
      once : Once xs
      once = once_pairs xs x.once

      within : (version : Key × ℕ) → Contains xs version → Contains ys version
      within version c = (y.each version).1 ((x.each version).0 c)

      passing : (version : Key × ℕ) → Contains (filter has_value xs) version → Contains (filter has_value ys) version
      passing version c = let both = passing_contained has_value xs version c in
          contains_passing has_value ys version (within version both.0) both.1

  one_count : (a b : Answer)
      → (xs : List (Key × ℕ)) × AllDropped cells safe xs × (a ≡ Collected (length xs) (long_values cells xs))
      → (ys : List (Key × ℕ)) × AllDropped cells safe ys × (b ≡ Collected (length ys) (long_values cells ys)) → a ≡ b
  one_count a b (xs, x, is) (ys, y, also) =
      let less = no_more xs ys x y in
      let more = no_more ys xs y x in
      let records : length xs ≡ length ys = omega (arith, less.0, more.0) in
      let values : long_values cells xs ≡ long_values cells ys = omega (arith, less.1, more.1) in
      cc (is, also, records, values)

pub one_collect : (cells : Key → Cells) (safe : ℕ) (q : Collect) (a b : Answer) → AnswersCollect cells safe q a
    → AnswersCollect cells safe q b → a ≡ b
one_collect cells safe q a b =
    one_case (same _ a b)
    (one_case (one_remains cells q.safe a b)
    (one_count cells q.safe a b))

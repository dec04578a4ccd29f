-- What a run of the machine keeps.
use Rattle.std.proofs.Common.{◌≡◌, ℕ, ◌≤◌, ◌⊎◌, inl, inr, false, List, [], ◌∷◌, Option, Some, None, Contains, refl, sym, ap, subst, ◌∙◌, arith}
use Rattle.tx_types.specs.declared.key.Key.{Key}
use Rattle.tx_types.specs.declared.value.Value.{Value}
use Rattle.tx_types.specs.declared.mutation.Change.{Change}
use Rattle.tx_types.specs.declared.mutation.Fate.TheVariants.{Committed, Aborted}
use Rattle.tx_machine.specs.declared.step.Step.{Step}
use Rattle.tx_machine.specs.declared.step.Step.TheVariants as step
use Rattle.tx_machine.specs.Machine.{State, Open, Done, Table, IsRead, Admits, with_row, changes_in, after, table_of, IsRun}
use Rattle.tx_machine.proofs.Snapshots.{ended_stays, read_next}
use Rattle.tx_core.specs.Truth.{HasEnded}
use Rattle.tx_core.proofs.Basics.{nat_test, nat_same, key_same}
use Rattle.tx_core.proofs.unique.KeyLists.{contains_none, contains_first, contains_next, contains_cases}

-- a step of a list is its newest, or stood before
here_or_before : (P : List Step → Step → Type 0) (s : Step) (steps : List Step) (y : Step) → Contains (s ∷ steps) y
    → P (y ∷ steps) y → (Contains steps y → P (s ∷ steps) y) → P (s ∷ steps) y
here_or_before P s steps y has here before = elim (contains_cases s steps y has) [
  | inl e ↦ subst (λ z. P (z ∷ steps) y) (sym e) here
  | inr old ↦ before old
]

-- what does not stand in a list is not its newest, and did not stand before
module _ (s : Step) (steps : List Step) (y : Step) (none : Contains (s ∷ steps) y → ⊥) where
  not_here : s ≡ y → ⊥
  not_here e = none (subst (λ z. Contains (z ∷ steps) y) (sym e) (contains_first y steps))

  not_before : Contains steps y → ⊥
  not_before has = none (contains_next s steps y has)

-- ---- sets

-- the transaction that started at t has declared this set
abbrev pub HasSet : Table → ℕ → List Change → Type 0
HasSet table t set = changes_in (table.row t) ≡ Some set

set_row : (table : Table) (t u : ℕ) (set : List Change) (changes : Option (List Change)) (state : State)
    → HasSet table t set → (u ≡ t → changes ≡ Some set) → HasSet (with_row table u changes state) t set
set_row table t u set changes state has same = elim (nat_test u t) [
  | inl y ↦ rw y.0 (same y.1)
  | inr y ↦ rw y.0 has
]

set_next : (table : Table) (t : ℕ) (set : List Change) (s : Step) → Admits table s → HasSet table t set
    → HasSet (after table s) t set
set_next table t set (step.Draw n) may has = has
set_next table t set (step.Begin u) may has = set_row table t u set None Open has (λ same.
    (let is = ap (λ q. changes_in (table.row q)) same ∙ has in let none = ap changes_in may.1 in
    absurd (cc (is, none))))
set_next table t set (step.Declare u other) may has = set_row table t u set (Some other) Open has (λ same.
    (let is = ap (λ q. changes_in (table.row q)) same ∙ has in let none = ap changes_in may.0 in
    absurd (cc (is, none))))
set_next table t set (step.Commit u c) may has =
    set_row table t u set (changes_in (table.row u)) (Done (Committed c)) has
    (λ same. ap (λ q. changes_in (table.row q)) same ∙ has)
set_next table t set (step.Abort u) may has =
    set_row table t u set (changes_in (table.row u)) (Done Aborted) has
    (λ same. ap (λ q. changes_in (table.row q)) same ∙ has)
set_next table t set (step.Read k r found) may has = has
set_next table t set (step.Scan s) may has = has
set_next table t set (step.Answer u fate) may has = has

-- what was declared stays
pub kept_set : (steps : List Step) (t : ℕ) (set : List Change) → IsRun steps → Contains steps (step.Declare t set)
    → HasSet (table_of steps) t set
kept_set [] t set run has = absurd (contains_none (step.Declare t set) has)
kept_set (s ∷ steps) t set run has =
    here_or_before (λ ys y. HasSet (table_of ys) t set) s steps (step.Declare t set) has (rw (nat_same t) refl)
    (λ old. set_next (table_of steps) t set s run.1 (kept_set steps t set run.0 old))

-- a set that stands was declared
pub was_declared : (steps : List Step) (t : ℕ) (set : List Change) → HasSet (table_of steps) t set
    → Contains steps (step.Declare t set)
was_declared [] t set has = absurd (cc (has))
was_declared (s ∷ steps) t set has = elim (go s has) [
  | inl e ↦ subst (λ y. Contains (y ∷ steps) (step.Declare t set)) (sym e) (contains_first (step.Declare t set) steps)
  | inr before ↦ contains_next s steps (step.Declare t set) (was_declared steps t set before)
]
  where
    go : (y : Step) → HasSet (after (table_of steps) y) t set
        → (y ≡ step.Declare t set) ⊎ HasSet (table_of steps) t set
    go (step.Draw n) is = inr is
    go (step.Begin u) is = elim (nat_test u t) [
      | inl y ↦ (let none : None ≡ Some set = rw y.0 at is in absurd (cc (none)))
      | inr y ↦ inr (rw y.0 at is)
    ]
    go (step.Declare u other) is = elim (nat_test u t) [
      | inl y ↦ (let same : Some other ≡ Some set = rw y.0 at is in let at = y.1 in inl (cc (same, at)))
      | inr y ↦ inr (rw y.0 at is)
    ]
    go (step.Commit u c) is = elim (nat_test u t) [
      | inl y ↦ (let same : HasSet (table_of steps) u set = rw y.0 at is in
          inr (subst (λ q. HasSet (table_of steps) q set) y.1 same))
      | inr y ↦ inr (rw y.0 at is)
    ]
    go (step.Abort u) is = elim (nat_test u t) [
      | inl y ↦ (let same : HasSet (table_of steps) u set = rw y.0 at is in
          inr (subst (λ q. HasSet (table_of steps) q set) y.1 same))
      | inr y ↦ inr (rw y.0 at is)
    ]
    go (step.Read k r found) is = inr is
    go (step.Scan r) is = inr is
    go (step.Answer u fate) is = inr is

-- ---- ends and reads

pub kept_end : (steps : List Step) (t c : ℕ) → IsRun steps → Contains steps (step.Commit t c)
    → HasEnded (table_of steps) t (Committed c)
kept_end [] t c run has = absurd (contains_none (step.Commit t c) has)
kept_end (s ∷ steps) t c run has =
    here_or_before (λ ys y. HasEnded (table_of ys) t (Committed c)) s steps (step.Commit t c) has
    (changes_in ((table_of steps).row t), rw (nat_same t) refl)
    (λ old. ended_stays (s ∷ []) steps run t (Committed c) (kept_end steps t c run.0 old))

pub kept_read : (steps : List Step) (k : Key) (r : ℕ) (found : Option Value) → Contains steps (step.Read k r found)
    → IsRead (table_of steps).reads k r
kept_read [] k r found has = absurd (contains_none (step.Read k r found) has)
kept_read (s ∷ steps) k r found has =
    here_or_before (λ ys y. IsRead (table_of ys).reads k r) s steps (step.Read k r found) has
    (inl (key_same k, refl)) (λ old. read_next (table_of steps) s k r (kept_read steps k r found old))

-- ---- numbers

-- the last number is no less than each that was drawn
last_next : (table : Table) (n : ℕ) (s : Step) → Admits table s → n ≤ table.last → n ≤ (after table s).last
last_next table n (step.Draw m) may low = omega (arith, may, low)
last_next table n (step.Begin u) may low = low
last_next table n (step.Declare u other) may low = low
last_next table n (step.Commit u c) may low = low
last_next table n (step.Abort u) may low = low
last_next table n (step.Read j q found) may low = low
last_next table n (step.Scan s) may low = low
last_next table n (step.Answer u fate) may low = low

pub kept_last : (steps : List Step) (n : ℕ) → IsRun steps → Contains steps (step.Draw n) → n ≤ (table_of steps).last
kept_last [] n run has = absurd (contains_none (step.Draw n) has)
kept_last (s ∷ steps) n run has =
    here_or_before (λ ys y. n ≤ (table_of ys).last) s steps (step.Draw n) has (omega arith)
    (λ old. last_next (table_of steps) n s run.1 (kept_last steps n run.0 old))

-- it is one of them, so at most what bounds these
pub last_upto : (steps : List Step) (n : ℕ) → ((m : ℕ) → Contains steps (step.Draw m) → m ≤ n)
    → (table_of steps).last ≤ n
last_upto [] n upto = omega arith
last_upto (s ∷ steps) n upto =
    go s (λ m e. upto m (subst (λ y. Contains (y ∷ steps) (step.Draw m)) (sym e) (contains_first (step.Draw m) steps)))
    (last_upto steps n (λ m has. upto m (contains_next s steps (step.Draw m) has)))
  where
    go : (y : Step) → ((m : ℕ) → y ≡ step.Draw m → m ≤ n) → (table_of steps).last ≤ n
        → (after (table_of steps) y).last ≤ n
    go (step.Draw m) here before = here m refl
    go (step.Begin u) here before = before
    go (step.Declare u set) here before = before
    go (step.Commit u c) here before = before
    go (step.Abort u) here before = before
    go (step.Read j q found) here before = before
    go (step.Scan r) here before = before
    go (step.Answer u fate) here before = before

-- a number that no step draws is not drawn
undrawn_next : (table : Table) (n : ℕ) (s : Step) → (s ≡ step.Draw n → ⊥) → table.drawn n ≡ false
    → (after table s).drawn n ≡ false
undrawn_next table n (step.Draw m) other not_yet = elim (nat_test m n) [
  | inl y ↦ absurd (other (ap step.Draw y.1))
  | inr y ↦ rw y.0 not_yet
]
undrawn_next table n (step.Begin u) other not_yet = not_yet
undrawn_next table n (step.Declare u set) other not_yet = not_yet
undrawn_next table n (step.Commit u c) other not_yet = not_yet
undrawn_next table n (step.Abort u) other not_yet = not_yet
undrawn_next table n (step.Read j q found) other not_yet = not_yet
undrawn_next table n (step.Scan s) other not_yet = not_yet
undrawn_next table n (step.Answer u fate) other not_yet = not_yet

pub undrawn : (steps : List Step) (n : ℕ) → (Contains steps (step.Draw n) → ⊥) → (table_of steps).drawn n ≡ false
undrawn [] n none = refl
undrawn (s ∷ steps) n none =
    undrawn_next (table_of steps) n s (not_here s steps (step.Draw n) none)
    (undrawn steps n (not_before s steps (step.Draw n) none))

-- ---- beginnings

-- what never began has no row
none_row : (table : Table) (t u : ℕ) (changes : Option (List Change)) (state : State) → table.row t ≡ None
    → (u ≡ t → ⊥) → (with_row table u changes state).row t ≡ None
none_row table t u changes state none other = elim (nat_test u t) [
  | inl y ↦ absurd (other y.1)
  | inr y ↦ rw y.0 none
]

none_next : (table : Table) (t : ℕ) (s : Step) → Admits table s → (s ≡ step.Begin t → ⊥) → table.row t ≡ None
    → (after table s).row t ≡ None
none_next table t (step.Draw m) may other none = none
none_next table t (step.Begin u) may other none =
    none_row table t u None Open none (λ same. other (ap step.Begin same))
none_next table t (step.Declare u set) may other none = none_row table t u (Some set) Open none (λ same.
    (let some = may.0 in let there = ap table.row same in cc (some, there, none)))
none_next table t (step.Commit u c) may other none =
    none_row table t u (changes_in (table.row u)) (Done (Committed c)) none (λ same.
    (let some = may.opened in let there = ap table.row same in cc (some, there, none)))
none_next table t (step.Abort u) may other none =
    none_row table t u (changes_in (table.row u)) (Done Aborted) none (λ same.
    (let some = may.1 in let there = ap table.row same in cc (some, there, none)))
none_next table t (step.Read j q found) may other none = none
none_next table t (step.Scan r) may other none = none
none_next table t (step.Answer u fate) may other none = none

pub never_began : (steps : List Step) (t : ℕ) → IsRun steps → (Contains steps (step.Begin t) → ⊥)
    → (table_of steps).row t ≡ None
never_began [] t run none = refl
never_began (s ∷ steps) t run none =
    none_next (table_of steps) t s run.1 (not_here s steps (step.Begin t) none)
    (never_began steps t run.0 (not_before s steps (step.Begin t) none))

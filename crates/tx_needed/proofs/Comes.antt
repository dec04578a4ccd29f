-- What the histories may ask, and how their transactions begin.
use Rattle.std.proofs.Common.{◌≡◌, ◌≢◌, ℕ, ◌<◌, inl, inr, true, false, List, [], ◌∷◌, Option, Some, None, bytes_eq, Contains, refl, sym, ap, subst, ◌∙◌, arith}
use Rattle.tx_types.specs.declared.key.Key.{Key}
use Rattle.tx_types.specs.declared.mutation.Change.{Change}
use Rattle.tx_types.specs.declared.mutation.Mutation.{Mutation}
use Rattle.tx_types.specs.declared.mutation.Mode.TheVariants as mode
use Rattle.tx_plan.specs.declared.body.Body.{Body}
use Rattle.tx_plan.specs.declared.body.Prewrite.{Prewrite}
use Rattle.tx_plan.specs.declared.body.Commit.{Commit}
use Rattle.tx_plan.specs.declared.body.BatchRollback.{BatchRollback}
use Rattle.tx_plan.specs.declared.body.CheckSecondaryLocks.{CheckSecondaryLocks}
use Rattle.tx_plan.specs.declared.body.CheckTxnStatus.{CheckTxnStatus}
use Rattle.tx_plan.specs.declared.answer.Answer.{Answer}
use Rattle.tx_plan.specs.Cells.{Region}
use Rattle.tx_machine.specs.Keys.{mutation_at, IsDistinct}
use Rattle.tx_core.specs.declared.event.Declaration.{Declaration}
use Rattle.tx_core.specs.declared.event.Event.TheVariants.{Drawn}
use Rattle.tx_core.specs.Histories.{History, last, drawer, began, declared, answered, set_at, is_first}
use Rattle.tx_core.specs.Decisions.{Acceptance, accepted, AllAccepted}
use Rattle.tx_core.specs.Allowed.{AllowsPrewrite, DrewAfterAll, MayDecide, AllowsBatchRollback, AllowsCheckTxnStatus, AllowsCheckSecondaryLocks}
use Rattle.tx_core.specs.Worlds.{MayDeclare, IsWorldRun}
use Rattle.tx_core.specs.Legal.{IsLegalPrewrite, IsLegalDecision}
use Rattle.tx_core.proofs.Basics.{nat_same, key_test, key_same, cond_false, is_some}
use Rattle.tx_core.proofs.unique.KeyLists.{contains_none, contains_cases}
use Rattle.tx_needed.specs.Needed.{IsRunBy}
use Rattle.tx_needed.proofs.Words.{a, b, only, both, starts, begins, primary_of, says}

-- ---- beginnings

-- a seat draws a start, begins there, draws a number and declares a set
pub record MayBegin (h : History) (seat : ℕ) (d : Declaration) : Type 0 where
  pub low : last h < d.start
  pub next : d.start < d.drawn
  pub unbegun : began h d.start ≡ false
  pub unanswered : answered h d.start ≡ false
  pub undeclared : declared h d.start ≡ None
  pub some : d.changes ≢ []
  pub distinct : IsDistinct d.changes

module _ (h : History) (seat : ℕ) (d : Declaration) (may : MayBegin h seat d) where
  drew_start : drawer (Drawn seat d.start ∷ h) d.start ≡ Some seat
  drew_start = rw (nat_same d.start) refl

  began_start : began (starts seat d.start h) d.start ≡ true
  began_start = rw (nat_same d.start) refl

  pub may_declare : MayDeclare (Drawn seat d.drawn ∷ starts seat d.start h) d
  may_declare = record {
    begun = began_start;
    unanswered = may.unanswered;
    once = may.undeclared;
    some = may.some;
    distinct = may.distinct;
    drew = inl (refl, began_start, drew_start);
  }

  pub begins_run : (bounds : List Key) → IsWorldRun bounds h → IsWorldRun bounds (begins seat d h)
  begins_run bounds run =
      ((((run, may.low), ((λ none. (cc (drew_start, none))), may.unbegun)), may.next), may_declare)

  -- also where answers leave something else
  pub begins_by : (leaves : Region → Body → Answer → Region) → IsRunBy leaves [] h → IsRunBy leaves [] (begins seat d h)
  begins_by leaves run =
      ((((run, may.low), ((λ none. (cc (drew_start, none))), may.unbegun)), may.next), may_declare)

-- it begins on one key, or on both
pub on_one_key : {h : History} {seat : ℕ} {d : Declaration} (k : Key) (m : Mutation) → d.changes ≡ only k m
    → last h < d.start
    → d.start < d.drawn → began h d.start ≡ false → answered h d.start ≡ false → declared h d.start ≡ None
    → MayBegin h seat d
on_one_key k m set low next unbegun unanswered undeclared = record {
  low = low;
  next = next;
  unbegun = unbegun;
  unanswered = unanswered;
  undeclared = undeclared;
  some = λ none. (cc (set, none));
  distinct = subst IsDistinct (sym set) (refl, tt);
}

pub on_both_keys : {seat : ℕ} {d : Declaration} → d.changes ≡ both → 0 < d.start → d.start < d.drawn
    → MayBegin [] seat d
on_both_keys set low next = record {
  low = low;
  next = next;
  unbegun = refl;
  unanswered = refl;
  undeclared = refl;
  some = λ none. (cc (set, none));
  distinct = subst IsDistinct (sym set) (refl, (refl, tt));
}

-- ---- reads

-- who passes by no one, and who passes by one
pub nobody : (P : ℕ → Type 0) (t : ℕ) → Contains [] t → P t
nobody P t has = absurd (contains_none t has)

pub of_one : (P : ℕ → Type 0) (u : ℕ) → P u → (t : ℕ) → Contains (u ∷ []) t → P t
of_one P u may t has = elim (contains_cases u [] t has) [
  | inl same ↦ subst P same may
  | inr none ↦ absurd (contains_none t none)
]

-- ---- prewrites

-- one that says what was declared
pub as_declared : (h : History) (d : Declaration) (k : Key) (m : Mutation) → declared h d.start ≡ Some d
    → mutation_at d.changes k ≡ Some m → AllowsPrewrite h (says d k m)
as_declared h d k m stands does = record {
  of = d;
  stands = stands;
  mutation = does;
  primary = first d.changes does;
  mode = refl;
  max_commit = refl;
  floor = refl;
  ttl = refl;
  others = refl;
}
  where
    first : (set : List Change) → mutation_at set k ≡ Some m → is_first set (primary_of set) ≡ true
    first [] e = absurd (cc (e))
    first (c ∷ cs) e = key_same c.key

pub legally : {h : History} {q : Prewrite} → AllowsPrewrite h q → IsLegalPrewrite h q
legally may = record { of = may.of; stands = may.stands; mutation = may.mutation; mode = may.mode }

-- ---- commits

-- the keys of a set
pub key_of_one : (P : Key → Type 0) (m : Mutation) (k : Key) → mutation_at (only a m) k ≢ None → P a → P k
key_of_one P m k within at_a = elim (key_test a k) [
  | inl e ↦ subst P e.1 at_a
  | inr e ↦ absurd (within (cond_false (bytes_eq a k) (Some m) None e.0))
]

pub key_of_both : (P : Key → Type 0) (k : Key) → mutation_at both k ≢ None → P a → P b → P k
key_of_both P k within at_a at_b = elim (key_test a k) [
  | inl e ↦ subst P e.1 at_a
  | inr e ↦ elim (key_test b k) [
    | inl f ↦ subst P f.1 at_b
    | inr f ↦ absurd (within (rw (e.0, f.0) refl))
  ]
]

-- the last number at an acceptance, if there is one
abbrev pub at_of : Option Acceptance → ℕ
at_of None = 0
at_of (Some by) = by.at

-- the first seat drew the start, and then a number above each acceptance
pub drew_after : (h : History) (c : ℕ) → drawer h 1 ≡ Some 1 → drawer h c ≡ Some 1
    → ((k : Key) → mutation_at (set_at h 1) k ≢ None → at_of (accepted h 1 k) < c) → DrewAfterAll h 1 c
drew_after h c starts ends below = record {
  seat = 1;
  of_start = starts;
  of_commit = ends;
  after = λ k by within here. (let low = below k within in omega (arith, ap at_of here, low));
}

-- where the set is of one key
module _ (h : History) (m : Mutation) (set : set_at h 1 ≡ only a m) where
  pub accepted_a : accepted h 1 a ≢ None → AllAccepted h 1
  accepted_a some k within =
      key_of_one (λ j. accepted h 1 j ≢ None) m k (λ none. within (ap (λ s. mutation_at s k) set ∙ none)) some

  pub drew_after_a : (c : ℕ) → drawer h 1 ≡ Some 1 → drawer h c ≡ Some 1 → at_of (accepted h 1 a) < c
      → DrewAfterAll h 1 c
  drew_after_a c starts ends low = drew_after h c starts ends
      (λ k within. key_of_one (λ j. at_of (accepted h 1 j) < c) m k
      (λ none. within (ap (λ s. mutation_at s k) set ∙ none)) low)

  pub decides_a : (c : ℕ) (by : Acceptance) → accepted h 1 a ≡ Some by → by.lock.mode ≡ mode.TwoPhase
      → drawer h 1 ≡ Some 1 → drawer h c ≡ Some 1 → at_of (accepted h 1 a) < c
      → MayDecide h record { key = a; start = 1; commit = c }
  decides_a c by stands two starts ends low = record {
    primary = ap (λ s. is_first s a) set;
    accepted = accepted_a (is_some (accepted h 1 a) by stands);
    two_phase = record { key = a; by = by; stands = stands; two_phase = two };
    drawn = drew_after_a c starts ends low;
  }

-- where it is of both
module _ (h : History) (set : set_at h 1 ≡ both) where
  within_both : (k : Key) → mutation_at (set_at h 1) k ≢ None → mutation_at both k ≢ None
  within_both k within none = within (ap (λ s. mutation_at s k) set ∙ none)

  pub drew_after_both : (c : ℕ) → drawer h 1 ≡ Some 1 → drawer h c ≡ Some 1 → at_of (accepted h 1 a) < c
      → at_of (accepted h 1 b) < c → DrewAfterAll h 1 c
  drew_after_both c starts ends low_a low_b = drew_after h c starts ends
      (λ k within. key_of_both (λ j. at_of (accepted h 1 j) < c) k (within_both k within) low_a low_b)

  pub decides_both : (c : ℕ) (by : Acceptance) → accepted h 1 a ≡ Some by → by.lock.mode ≡ mode.TwoPhase
      → accepted h 1 b ≢ None → drawer h 1 ≡ Some 1 → drawer h c ≡ Some 1 → at_of (accepted h 1 a) < c
      → at_of (accepted h 1 b) < c → MayDecide h record { key = a; start = 1; commit = c }
  decides_both c by stands two other starts ends low_a low_b = record {
    primary = ap (λ s. is_first s a) set;
    accepted = λ k within. key_of_both (λ j. accepted h 1 j ≢ None) k (within_both k within)
        (is_some (accepted h 1 a) by stands) other;
    two_phase = record { key = a; by = by; stands = stands; two_phase = two };
    drawn = drew_after_both c starts ends low_a low_b;
  }

pub legal_decision : {h : History} {q : Commit} → MayDecide h q → IsLegalDecision h q
legal_decision may = record {
  primary = may.primary;
  complete = may.accepted;
  two_phase = may.two_phase;
  drawn = λ none. (let drew = may.drawn.of_commit in cc (none, drew));
  after = may.drawn.after;
}

-- ---- rollbacks and checks

-- a rollback of the primary of what was declared two-phase
pub of_primary : {h : History} {q : BatchRollback} (d : Declaration) → declared h q.start ≡ Some d
    → d.mode ≡ mode.TwoPhase → is_first d.changes q.key ≡ true → AllowsBatchRollback h q
of_primary d stands two first = record { of = d; stands = stands; may = inr (two, first) }

-- a check of a secondary lock on a key of what was declared
pub of_its_keys : {h : History} {q : CheckSecondaryLocks} (d : Declaration) → declared h q.start ≡ Some d
    → d.mode ≡ mode.Async → mutation_at d.changes q.key ≢ None → AllowsCheckSecondaryLocks h q
of_its_keys d stands async within = record { of = d; stands = stands; async = async; within = within }

-- a check of a primary that is not forced
pub unforced : {h : History} {q : CheckTxnStatus} → is_first (set_at h q.start) q.key ≡ true
    → q.force_sync_commit ≡ false → AllowsCheckTxnStatus h q
unforced first free = record { primary = first; forced = λ e. (cc (e, free)) }

-- A collection drops a committed delete and a rollback, both below the safe point; the
-- late prewrite of the rolled-back transaction, which its rollback no longer refuses, is
-- refused for its start.
use Rattle.std.proofs.Common.{◌≡◌, ◌≢◌, ℕ, ◌<◌, zero, suc, inl, inr, List, [], ◌∷◌, length, Option, Some, None, Contains, refl, sym, ap, subst, arith}
use Rattle.std.specs.List.{slice_index_or}
use Rattle.tx_types.specs.declared.key.Key.{Key}
use Rattle.tx_types.specs.declared.lock.LockInfo.{LockInfo}
use Rattle.tx_types.specs.declared.mutation.Mutation.TheVariants.{Put, Delete}
use Rattle.tx_types.specs.declared.mutation.Mode.TheVariants as mode
use Rattle.tx_plan.specs.declared.body.Body.TheVariants.{Prewrite, Commit, BatchRollback, RaiseSafe, Collect}
use Rattle.tx_plan.specs.declared.answer.Answer.TheVariants.{Prewritten, Committed, RolledBack, Raised, Collected, BelowSafePoint}
use Rattle.tx_plan.specs.Cells.{Write, CommitOf, Rollback}
use Rattle.tx_plan.specs.Own.{OwnCommit}
use Rattle.tx_plan.specs.cases.Collect.{IsDropped, AllDropped, CountsDropped}
use Rattle.tx_plan.specs.cases.LocksBelow.{IsLockBelow}
use Rattle.tx_machine.specs.declared.step.Step.TheVariants as step
use Rattle.tx_core.specs.declared.event.Declaration.{Declaration}
use Rattle.tx_core.specs.declared.event.Taken.{Taken}
use Rattle.tx_core.specs.declared.event.Event.TheVariants.{Drawn, Began, Declared, Took}
use Rattle.tx_core.specs.Histories.{History, left}
use Rattle.tx_core.specs.Worlds.{IsWorldRun, MayTake}
use Rattle.tx_core.specs.Shadow.{shadow}
use Rattle.tx_core.proofs.Basics.{key_test, nat_test}
use Rattle.tx_core.proofs.seats.Stays.{upto_last}
use Rattle.tx_core.proofs.examples.Words.{a, x, unrolled, decides}
use Rattle.tx_core.specs.Happens.{Happens, DropsRecord}

abbrev deletes : Declaration
deletes = record {
  start = 1;
  changes = record { key = a; mutation = Delete } ∷ [];
  mode = mode.TwoPhase;
  ttl =
      10;
  max_commit = None;
  drawn = 2;
}

abbrev puts : Declaration
puts = record {
  start = 4;
  changes = record { key = a; mutation = Put x } ∷ [];
  mode = mode.TwoPhase;
  ttl =
      10;
  max_commit = None;
  drawn = 5;
}

abbrev lock : Taken
lock = record {
  region = 0;
  body =
      Prewrite record {
        key = a;
        mutation = Delete;
        start = 1;
        primary = a;
        mode = mode.TwoPhase;
        max_commit = None;
        floor
            = 0;
        ttl = 10;
        others = [];
      };
  loaded = 2;
  answer = Prewritten 0;
}

abbrev commit : Taken
commit = record {
  region = 0;
  body = Commit record { key = a; start = 1; commit = 3 };
  loaded = 3;
  answer =
      Committed 3;
}

abbrev roll : Taken
roll = record { region = 0; body = BatchRollback record { key = a; start = 4 }; loaded = 5; answer = RolledBack }

abbrev raise : Taken
raise = record { region = 0; body = RaiseSafe record { region = 0; safe = 6 }; loaded = 6; answer = Raised }

abbrev collect : Taken
collect = record { region = 0; body = Collect record { region = 0; safe = 6 }; loaded = 6; answer = Collected 2 0 }

abbrev lock_late : Taken
lock_late = record {
  region = 0;
  body =
      Prewrite record {
        key = a;
        mutation = Put x;
        start = 4;
        primary = a;
        mode = mode.TwoPhase;
        max_commit = None;
        floor
            = 0;
        ttl = 10;
        others = [];
      };
  loaded = 6;
  answer = BelowSafePoint 6;
}

abbrev first : History
first = Declared deletes ∷ Drawn 1 2 ∷ Began 1 ∷ Drawn 1 1 ∷ []

abbrev drawn : History
drawn = Drawn 1 3 ∷ Took lock ∷ first

abbrev second : History
second = Declared puts ∷ Drawn 2 5 ∷ Began 4 ∷ Drawn 2 4 ∷ Took commit ∷ drawn

abbrev full : History
full = Took raise ∷ Drawn 1 6 ∷ Took roll ∷ second

first_run : IsWorldRun [] first
first_run = (
  (((tt, omega arith), (λ e. (cc (e)), refl)), omega arith),
  record {
    begun = refl;
    unanswered = refl;
    once = refl;
    some = λ e. (cc (e));
    distinct = (refl, tt);
    drew = inl (refl, refl, refl);
  },
)

locks : MayTake [] first lock
locks = record {
  region = omega arith;
  allowed = record {
    of = deletes;
    stands = refl;
    mutation = refl;
    primary = refl;
    mode = refl;
    max_commit = refl;
    floor
        = refl;
    ttl = refl;
    others = refl;
  };
  holds = refl;
  loaded = upto_last first;
  answers = inr (
    λ h. omega arith,
    inr (
      λ h. omega arith,
      inr (
        λ lock own. (cc (own.stands)),
        inr (
          unrolled 1,
          inr (
            λ c own. (cc (own.stands)),
            inr (λ lock e. (cc (e)), inr (λ some. (cc (some.stands)), inr (λ ins. ins.0, inr (λ e. (cc (e)), refl)))),
          ),
        ),
      ),
    ),
  );
}

commits : MayTake [] drawn commit
commits = record {
  region = omega arith;
  allowed = inr (decides drawn Delete 3 _ refl refl refl refl refl (omega arith));
  holds = refl;
  loaded = upto_last drawn;
  answers = inr (
    λ h. omega arith,
    inl (_, record { stands = refl; own = refl }, inr (λ h. omega arith, inr (λ rec h. (cc (h.stands)), refl))),
  );
}

second_run : IsWorldRun [] second
second_run = (
  ((((((first_run, locks), omega arith), commits), omega arith), (λ e. (cc (e)), refl)), omega arith),
  record {
    begun = refl;
    unanswered = refl;
    once = refl;
    some = λ e. (cc (e));
    distinct = (refl, tt);
    drew = inl (refl, refl, refl);
  },
)

-- the start in a record, if it is a commit's
abbrev start_in : Option Write → ℕ
start_in None = 0
start_in (Some Rollback) = 0
start_in (Some (CommitOf rec)) = rec.start

rolls : MayTake [] second roll
rolls = record {
  region = omega arith;
  allowed = record { of = puts; stands = refl; may = inr (refl, refl) };
  holds = refl;
  loaded = upto_last second;
  answers = inr (λ h. omega arith, inr (λ lock own. (cc (own.stands)), inr (λ c own. never c own, refl)));
}
  where
    never : (c : ℕ) → OwnCommit ((left second 0).cells a).write 4 c → ⊥
    never c own = elim (nat_test 3 c) [
      | inl here ↦ (let at : OwnCommit ((left second 0).cells a).write 4 3 =
          subst (OwnCommit ((left second 0).cells a).write 4) (sym here.1) own in
          omega (arith, ap start_in at.stands, at.own))
      | inr other ↦ (let at : None ≡ Some (CommitOf own.rec) = rw other.0 at own.stands in cc (at))
    ]

raises : MayTake [] (Drawn 1 6 ∷ Took roll ∷ second) raise
raises = record {
  region = omega arith;
  allowed = tt;
  holds = refl;
  loaded =
      upto_last (Drawn 1 6 ∷ Took roll ∷ second);
  answers =
      inr (λ h. omega (arith, h), inr (λ h. omega (arith, h), refl));
}

-- ---- what goes

abbrev versions : List (Key × ℕ)
versions = (a, 3) ∷ (a, 4) ∷ []

abbrev Drops : Key × ℕ → Type 0
Drops = IsDropped (left full 0).cells 6

all_dropped : AllDropped (left full 0).cells 6 versions
all_dropped = record {
  once = once;
  each =
      λ version. (λ c. drops version c.0 c.1 c.2, λ d. within version.0 version.1 d);
}
  where
    once : (i j : ℕ) (d : Key × ℕ) → i < j → j < length versions
        → slice_index_or versions i d ≢ slice_index_or versions j d
    once zero zero d low high e = omega (arith, low)
    once zero (suc zero) d low high e = omega (arith, ap (λ (p : Key × ℕ). p.1) e)
    once zero (suc (suc j)) d low high e = omega (arith, high)
    once (suc i) zero d low high e = omega (arith, low)
    once (suc i) (suc zero) d low high e = omega (arith, low)
    once (suc i) (suc (suc j)) d low high e = omega (arith, high)

    drops : (version : Key × ℕ) (n : ℕ) → n < length versions → slice_index_or versions n version ≡ version
        → Drops version
    drops version zero low e = subst Drops e (λ none. (cc (none)), refl)
    drops version (suc zero) low e = subst Drops e (λ none. (cc (none)), refl)
    drops version (suc (suc n)) low e = absurd (omega (arith, low))

    within : (k : Key) (q : ℕ) → Drops (k, q) → Contains versions (k, q)
    within k q d =
        elim (key_test a k) [
          | inl e ↦ elim (nat_test 3 q) [
            | inl three ↦ (0, omega arith, λ i. (e.1 i, three.1 i))
            | inr no3 ↦ elim (nat_test 4 q) [
              | inl four ↦ (1, omega arith, λ i. (e.1 i, four.1 i))
              | inr no4 ↦ (let at : Drops (a, q) = subst (λ j. Drops (j, q)) (sym e.1) d in
                  absurd (at.0 (rw (no4.0, no3.0) refl)))
            ]
          ]
          | inr e ↦ absurd (d.0 (rw e.0 refl))
        ]

-- both records, and no value apart
pub counts_both : CountsDropped (left full 0).cells 6 (Collected 2 0)
counts_both = (versions, all_dropped, refl)

collects : MayTake [] full collect
collects = record {
  region = omega arith;
  allowed = tt;
  holds = refl;
  loaded = upto_last full;
  answers = inr (λ other. other refl, inr (λ some. unlocked some.0 some.1, (2, 0, refl)));
}
  where
    unlocked : (info : LockInfo) → IsLockBelow (left full 0).cells 6 info → ⊥
    unlocked info is = elim (key_test a info.key) [
      | inl e ↦ (let at : ((left full 0).cells a).lock ≡ Some is.lock =
          subst (λ j. ((left full 0).cells j).lock ≡ Some is.lock) (sym e.1) is.stands in cc (at))
      | inr e ↦ (let at : None ≡ Some is.lock = rw e.0 at is.stands in cc (at))
    ]

abbrev collected : History
collected = Took collect ∷ full

late : MayTake [] collected lock_late
late = record {
  region = omega arith;
  allowed = record {
    of = puts;
    stands = refl;
    mutation = refl;
    primary = refl;
    mode = refl;
    max_commit = refl;
    floor =
        refl;
    ttl = refl;
    others = refl;
  };
  holds = refl;
  loaded = upto_last collected;
  answers = inl (omega arith, refl);
}

pub rollback_is_collected : IsWorldRun [] (Took lock_late ∷ collected)
rollback_is_collected = (((((second_run, rolls), omega arith), raises), collects), late)

-- neither record is left
pub none_left : (((left collected 0).cells a).write 3 ≡ None) × (((left collected 0).cells a).write 4 ≡ None)
none_left = (refl, refl)

pub shadow_of_it : shadow (Took lock_late ∷ collected) ≡ step.Draw 6 ∷ step.Abort 4 ∷ step.Declare 4 puts.changes
    ∷ step.Draw 5 ∷ step.Begin 4 ∷ step.Draw 4 ∷ step.Commit 1 3 ∷ step.Draw 3 ∷ step.Declare 1 deletes.changes
    ∷ step.Draw 2 ∷ step.Begin 1 ∷ step.Draw 1 ∷ []
shadow_of_it = refl

pub drops_record : Happens DropsRecord
drops_record = (
  [],
  full,
  collect,
  (((((second_run, rolls), omega arith), raises), collects)),
  record { b = _; asked = refl; key = a; at = 3; there = λ e. (cc (e)); gone = refl },
)

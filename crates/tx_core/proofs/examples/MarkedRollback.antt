-- A rollback stands where an async commit goes: the commit record keeps it as a mark, which still
-- refuses the late prewrite.
use Rattle.std.proofs.Common.{◌≡◌, inl, inr, [], ◌∷◌, None, refl, ap, arith}
use Rattle.tx_types.specs.declared.mutation.Mutation.TheVariants.{Put}
use Rattle.tx_types.specs.declared.mutation.Mode.TheVariants as mode
use Rattle.tx_plan.specs.declared.body.Body.TheVariants.{Prewrite, Commit, BatchRollback}
use Rattle.tx_plan.specs.declared.answer.Answer.TheVariants.{Prewritten, Committed, RolledBack, AlreadyRolledBack}
use Rattle.tx_machine.specs.declared.step.Step.TheVariants as step
use Rattle.tx_core.specs.declared.event.Declaration.{Declaration}
use Rattle.tx_core.specs.declared.event.Taken.{Taken}
use Rattle.tx_core.specs.declared.event.Event.TheVariants.{Drawn, Began, Declared, Took}
use Rattle.tx_core.specs.Histories.{History}
use Rattle.tx_core.specs.Worlds.{IsWorldRun, MayTake}
use Rattle.tx_core.specs.Shadow.{shadow}
use Rattle.tx_core.proofs.seats.Stays.{upto_last}
use Rattle.tx_core.proofs.examples.Words.{a, x, unrolled, start_of}
use Rattle.tx_core.specs.Happens.{Happens, OverlapsRollback}

abbrev first_set : Declaration
first_set = record {
  start = 1;
  changes = record { key = a; mutation = Put x } ∷ [];
  mode = mode.Async;
  ttl =
      10;
  max_commit = None;
  drawn = 2;
}

abbrev second_set : Declaration
second_set = record {
  start = 3;
  changes = record { key = a; mutation = Put x } ∷ [];
  mode = mode.TwoPhase;
  ttl =
      10;
  max_commit = None;
  drawn = 4;
}

abbrev lock_first : Taken
lock_first = record {
  region = 0;
  body =
      Prewrite record {
        key = a;
        mutation = Put x;
        start = 1;
        primary = a;
        mode = mode.Async;
        max_commit = None;
        floor =
            3;
        ttl = 10;
        others = [];
      };
  loaded = 2;
  answer = Prewritten 3;
}

abbrev pub roll_second : Taken
roll_second = record { region = 0; body = BatchRollback record { key = a; start = 3 }; loaded = 4; answer = RolledBack }

abbrev pub commit_first : Taken
commit_first = record {
  region = 0;
  body = Commit record { key = a; start = 1; commit = 3 };
  loaded = 4;
  answer =
      Committed 3;
}

abbrev lock_second : Taken
lock_second = record {
  region = 0;
  body =
      Prewrite record {
        key = a;
        mutation = Put x;
        start = 3;
        primary = a;
        mode = mode.TwoPhase;
        max_commit = None;
        floor
            = 0;
        ttl = 10;
        others = [];
      };
  loaded = 4;
  answer = AlreadyRolledBack;
}

abbrev first_declared : History
first_declared = Declared first_set ∷ Drawn 1 2 ∷ Began 1 ∷ Drawn 1 1 ∷ []

abbrev pub both_declared : History
both_declared = Declared second_set ∷ Drawn 2 4 ∷ Began 3 ∷ Drawn 2 3 ∷ Took lock_first ∷ first_declared

abbrev marked_run : History
marked_run = Took lock_second ∷ Took commit_first ∷ Took roll_second ∷ both_declared

first_ok : IsWorldRun [] first_declared
first_ok = (
  (((tt, omega arith), (λ e. (cc (e)), refl)), omega arith),
  record {
    begun = refl;
    unanswered = refl;
    once = refl;
    some = λ e. (cc (e));
    distinct = (refl, tt);
    drew = inl (refl, refl, refl);
  },
)

locks_first : MayTake [] first_declared lock_first
locks_first = record {
  region = omega arith;
  allowed = record {
    of = first_set;
    stands = refl;
    mutation = refl;
    primary = refl;
    mode = refl;
    max_commit =
        refl;
    floor = refl;
    ttl = refl;
    others = refl;
  };
  holds = refl;
  loaded = upto_last first_declared;
  answers = inr (
    λ h. omega arith,
    inr (
      λ h. omega arith,
      inr (
        λ lock own. (cc (own.stands)),
        inr (
          unrolled 1,
          inr (
            λ c own. (cc (own.stands)),
            inr (
              λ lock e. (cc (e)),
              inr (
                λ some. (cc (some.stands)),
                inr (λ ins. ins.0, inl (refl, (3, (omega arith, omega arith), inl (tt, refl)))),
              ),
            ),
          ),
        ),
      ),
    ),
  );
}

pub both_ok : IsWorldRun [] both_declared
both_ok = (
  ((((first_ok, locks_first), omega arith), (λ e. (cc (e)), refl)), omega arith),
  record {
    begun = refl;
    unanswered = refl;
    once = refl;
    some = λ e. (cc (e));
    distinct = (refl, tt);
    drew = inl (refl, refl, refl);
  },
)

pub rolls_second : MayTake [] both_declared roll_second
rolls_second = record {
  region = omega arith;
  allowed = record { of = second_set; stands = refl; may = inr (refl, refl) };
  holds = refl;
  loaded = upto_last both_declared;
  answers = inr (
    λ h. omega arith,
    inr (λ lock own. omega (arith, ap start_of own.stands, own.own), inr (λ c own. (cc (own.stands)), refl)),
  );
}

pub commits_first : MayTake [] (Took roll_second ∷ both_declared) commit_first
commits_first = record {
  region = omega arith;
  allowed = inl refl;
  holds = refl;
  loaded = upto_last (Took roll_second ∷ both_declared);
  answers = inr (
    λ h. omega arith,
    inl (
      _,
      record { stands = refl; own = refl },
      inr (λ low. omega (arith, low), inr (λ rec others. (cc (others.stands)), refl)),
    ),
  );
}

late_second : MayTake [] (Took commit_first ∷ Took roll_second ∷ both_declared) lock_second
late_second = record {
  region = omega arith;
  allowed = record {
    of = second_set;
    stands = refl;
    mutation = refl;
    primary = refl;
    mode = refl;
    max_commit =
        refl;
    floor = refl;
    ttl = refl;
    others = refl;
  };
  holds = refl;
  loaded = upto_last (Took commit_first ∷ Took roll_second ∷ both_declared);
  answers = inr (
    λ h. omega arith,
    inr (
      λ h. omega arith,
      inr (
        λ lock own. (cc (own.stands)),
        inl (inr (_, record { stands = refl; other = λ same. omega (arith, same) }, refl), refl),
      ),
    ),
  );
}

pub rollback_is_marked : IsWorldRun [] marked_run
rollback_is_marked = (((both_ok, rolls_second), commits_first), late_second)

pub shadow_of_marked : shadow marked_run ≡ step.Abort 3 ∷ step.Declare 3 second_set.changes ∷ step.Draw 4 ∷ step.Begin 3
    ∷ step.Draw 3 ∷ step.Commit 1 3 ∷ step.Declare 1 first_set.changes ∷ step.Draw 2 ∷ step.Begin 1 ∷ step.Draw 1 ∷ []
shadow_of_marked = refl

pub overlaps_rollback : Happens OverlapsRollback
overlaps_rollback = (
  [],
  Took roll_second ∷ both_declared,
  commit_first,
  ((both_ok, rolls_second), commits_first),
  record { b = _; asked = refl; committed = refl; aborted = refl; rec = _; is = refl; marked = refl },
)

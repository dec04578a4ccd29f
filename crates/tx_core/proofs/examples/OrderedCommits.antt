-- Two async transactions on two keys, of which one declares after the other was answered: the
-- number that it draws then is the floor of its minimum, so it commits above the other, though it
-- began before and nothing was read.
use Rattle.std.proofs.Common.{◌≡◌, inl, inr, [], ◌∷◌, None, refl, arith}
use Rattle.tx_types.specs.declared.mutation.Mutation.TheVariants.{Put}
use Rattle.tx_types.specs.declared.mutation.Mode.TheVariants as mode
use Rattle.tx_types.specs.declared.mutation.Fate.TheVariants as fate
use Rattle.tx_plan.specs.declared.body.Body.TheVariants.{Prewrite}
use Rattle.tx_plan.specs.declared.answer.Answer.TheVariants.{Prewritten}
use Rattle.tx_machine.specs.Machine.{Done}
use Rattle.tx_core.specs.declared.event.Declaration.{Declaration}
use Rattle.tx_core.specs.declared.event.Taken.{Taken}
use Rattle.tx_core.specs.declared.event.Outcome.TheVariants as outcome
use Rattle.tx_core.specs.declared.event.Event.TheVariants.{Drawn, Began, Declared, Answered, Took}
use Rattle.tx_core.specs.Histories.{History}
use Rattle.tx_core.specs.Decisions.{decided}
use Rattle.tx_core.specs.Laws.{DecidedBefore}
use Rattle.tx_core.specs.Worlds.{IsWorldRun, MayTake}
use Rattle.tx_core.proofs.seats.Stays.{upto_last}
use Rattle.tx_core.proofs.examples.Words.{a, b, x, unrolled}

abbrev first_set : Declaration
first_set = record {
  start = 1;
  changes = record { key = a; mutation = Put x } ∷ [];
  mode = mode.Async;
  ttl =
      10;
  max_commit = None;
  drawn = 3;
}

abbrev second_set : Declaration
second_set = record {
  start = 2;
  changes = record { key = b; mutation = Put x } ∷ [];
  mode = mode.Async;
  ttl =
      10;
  max_commit = None;
  drawn = 5;
}

abbrev lock_first : Taken
lock_first = record {
  region = 0;
  body =
      Prewrite record {
        key = a;
        mutation = Put x;
        start = 1;
        primary = a;
        mode = mode.Async;
        max_commit = None;
        floor =
            4;
        ttl = 10;
        others = [];
      };
  loaded = 3;
  answer = Prewritten 4;
}

abbrev lock_second : Taken
lock_second = record {
  region = 0;
  body =
      Prewrite record {
        key = b;
        mutation = Put x;
        start = 2;
        primary = b;
        mode = mode.Async;
        max_commit = None;
        floor =
            6;
        ttl = 10;
        others = [];
      };
  loaded = 5;
  answer = Prewritten 6;
}

abbrev begins : History
begins = Declared first_set ∷ Drawn 1 3 ∷ Began 2 ∷ Drawn 2 2 ∷ Began 1 ∷ Drawn 1 1 ∷ []

abbrev answers_first : History
answers_first = Declared second_set ∷ Drawn 2 5 ∷ Answered 1 (outcome.Committed 4) ∷ Took lock_first ∷ begins

begins_run : IsWorldRun [] begins
begins_run = (
  (((((tt, omega arith), (λ e. (cc (e)), refl)), omega arith), (λ e. (cc (e)), refl)), omega arith),
  record {
    begun = refl;
    unanswered = refl;
    once = refl;
    some = λ e. (cc (e));
    distinct = (refl, tt);
    drew = inl (refl, refl, refl);
  },
)

locks_first : MayTake [] begins lock_first
locks_first = record {
  region = omega arith;
  allowed = record {
    of = first_set;
    stands = refl;
    mutation = refl;
    primary = refl;
    mode = refl;
    max_commit =
        refl;
    floor = refl;
    ttl = refl;
    others = refl;
  };
  holds = refl;
  loaded = upto_last begins;
  answers = inr (
    λ h. omega arith,
    inr (
      λ h. omega arith,
      inr (
        λ lock own. (cc (own.stands)),
        inr (
          unrolled 1,
          inr (
            λ c own. (cc (own.stands)),
            inr (
              λ lock e. (cc (e)),
              inr (
                λ some. (cc (some.stands)),
                inr (λ ins. ins.0, inl (refl, (4, (omega arith, omega arith), inl (tt, refl)))),
              ),
            ),
          ),
        ),
      ),
    ),
  );
}

answers_first_run : IsWorldRun [] answers_first
answers_first_run = (
  (((begins_run, locks_first), (refl, refl, inr refl)), omega arith),
  record {
    begun = refl;
    unanswered = refl;
    once = refl;
    some = λ e. (cc (e));
    distinct = (refl, tt);
    drew = inl (refl, refl, refl);
  },
)

locks_second : MayTake [] answers_first lock_second
locks_second = record {
  region = omega arith;
  allowed = record {
    of = second_set;
    stands = refl;
    mutation = refl;
    primary = refl;
    mode = refl;
    max_commit =
        refl;
    floor = refl;
    ttl = refl;
    others = refl;
  };
  holds = refl;
  loaded = upto_last answers_first;
  answers = inr (
    λ h. omega arith,
    inr (
      λ h. omega arith,
      inr (
        λ lock own. (cc (own.stands)),
        inr (
          unrolled 2,
          inr (
            λ c own. (cc (own.stands)),
            inr (
              λ lock e. (cc (e)),
              inr (
                λ some. (cc (some.stands)),
                inr (λ ins. ins.0, inl (refl, (6, (omega arith, omega arith), inl (tt, refl)))),
              ),
            ),
          ),
        ),
      ),
    ),
  );
}

pub ordered_commits : IsWorldRun [] (Took lock_second ∷ answers_first)
ordered_commits = (answers_first_run, locks_second)

pub decided_before_the_draw : DecidedBefore (Took lock_second ∷ answers_first) 5 1 4
decided_before_the_draw = inl (refl, refl)

-- its start and the reads alone would give 3
pub second_commits_above : decided (Took lock_second ∷ answers_first) 2 ≡ Done (fate.Committed 6)
second_commits_above = refl

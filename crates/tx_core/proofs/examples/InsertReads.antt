-- The check of an insert that passes is a read at its start: it raises what was read, so that an
-- async transaction that started before commits above it, though the insert itself is rolled back.
use Rattle.std.proofs.Common.{◌≡◌, ℕ, ◌==◌, inl, inr, cond, [], ◌∷◌, Some, None, refl, arith}
use Rattle.tx_types.specs.declared.mutation.Mutation.TheVariants.{Put, Insert}
use Rattle.tx_types.specs.declared.mutation.Mode.TheVariants as mode
use Rattle.tx_types.specs.declared.mutation.Fate.TheVariants as fate
use Rattle.tx_plan.specs.declared.body.Body.TheVariants.{Prewrite, BatchRollback}
use Rattle.tx_plan.specs.declared.answer.Answer.TheVariants.{Prewritten, RolledBack}
use Rattle.tx_plan.specs.Cells.{CommitRecord, CommitOf, Rollback}
use Rattle.tx_machine.specs.Machine.{Done}
use Rattle.tx_machine.specs.declared.step.Step.TheVariants as step
use Rattle.tx_core.specs.declared.event.Declaration.{Declaration}
use Rattle.tx_core.specs.declared.event.Taken.{Taken}
use Rattle.tx_core.specs.declared.event.Event.TheVariants.{Drawn, Began, Declared, Took}
use Rattle.tx_core.specs.Histories.{History}
use Rattle.tx_core.specs.Decisions.{decided}
use Rattle.tx_core.specs.Worlds.{IsWorldRun, MayTake}
use Rattle.tx_core.specs.Shadow.{shadow}
use Rattle.tx_core.proofs.Basics.{chosen}
use Rattle.tx_core.proofs.seats.Stays.{upto_last}
use Rattle.tx_core.proofs.examples.Words.{a, x, unrolled}

abbrev puts : Declaration
puts = record {
  start = 1;
  changes = record { key = a; mutation = Put x } ∷ [];
  mode = mode.Async;
  ttl = 10;
  max_commit
      = None;
  drawn = 2;
}

abbrev inserts : Declaration
inserts = record {
  start = 3;
  changes = record { key = a; mutation = Insert x } ∷ [];
  mode = mode.TwoPhase;
  ttl =
      10;
  max_commit = None;
  drawn = 4;
}

abbrev insert : Taken
insert = record {
  region = 0;
  body =
      Prewrite record {
        key = a;
        mutation = Insert x;
        start = 3;
        primary = a;
        mode = mode.TwoPhase;
        max_commit =
            None;
        floor = 0;
        ttl = 10;
        others = [];
      };
  loaded = 4;
  answer = Prewritten 0;
}

abbrev roll : Taken
roll = record { region = 0; body = BatchRollback record { key = a; start = 3 }; loaded = 4; answer = RolledBack }

abbrev put : Taken
put = record {
  region = 0;
  body =
      Prewrite record {
        key = a;
        mutation = Put x;
        start = 1;
        primary = a;
        mode = mode.Async;
        max_commit = None;
        floor =
            3;
        ttl = 10;
        others = [];
      };
  loaded = 4;
  answer = Prewritten 4;
}

abbrev declares : History
declares = Declared inserts ∷ Drawn 2 4 ∷ Began 3 ∷ Drawn 2 3 ∷ Declared puts ∷ Drawn 1 2 ∷ Began 1 ∷ Drawn 1 1 ∷ []

declares_run : IsWorldRun [] declares
declares_run = (
  (
    (
      (
        (
          (((tt, omega arith), (λ e. (cc (e)), refl)), omega arith),
          record {
            begun = refl;
            unanswered = refl;
            once = refl;
            some = λ e. (cc (e));
            distinct = (refl, tt);
            drew = inl (refl, refl, refl);
          },
        ),
        omega arith,
      ),
      (λ e. (cc (e)), refl),
    ),
    omega arith,
  ),
  record {
    begun = refl;
    unanswered = refl;
    once = refl;
    some = λ e. (cc (e));
    distinct = (refl, tt);
    drew = inl (refl, refl, refl);
  },
)

inserted : MayTake [] declares insert
inserted = record {
  region = omega arith;
  allowed = record {
    of = inserts;
    stands = refl;
    mutation = refl;
    primary = refl;
    mode = refl;
    max_commit = refl;
    floor
        = refl;
    ttl = refl;
    others = refl;
  };
  holds = refl;
  loaded = upto_last declares;
  answers = inr (
    λ h. omega arith,
    inr (
      λ h. omega arith,
      inr (
        λ lock own. (cc (own.stands)),
        inr (
          unrolled 3,
          inr (
            λ c own. (cc (own.stands)),
            inr (
              λ lock e. (cc (e)),
              inr (λ some. (cc (some.stands)), inr (λ found. (cc (found.1.1.stands)), inr (λ e. (cc (e)), refl))),
            ),
          ),
        ),
      ),
    ),
  );
}

rolled : MayTake [] (Took insert ∷ declares) roll
rolled = record {
  region = omega arith;
  allowed = record { of = inserts; stands = refl; may = inr (refl, refl) };
  holds = refl;
  loaded = upto_last (Took insert ∷ declares);
  answers = inr (λ h. omega arith, inl (_, record { stands = refl; own = refl }, refl));
}

no_commit : (c : ℕ) (rec : CommitRecord) → cond (3 == c) (Some Rollback) None ≡ Some (CommitOf rec) → ⊥
no_commit c rec e = elim (chosen (3 == c) (Some Rollback) None (Some (CommitOf rec)) e) [
  | inl y ↦ (cc (y.1))
  | inr y ↦ (cc (y.1))
]

prewrites : MayTake [] (Took roll ∷ Took insert ∷ declares) put
prewrites = record {
  region = omega arith;
  allowed = record {
    of = puts;
    stands = refl;
    mutation = refl;
    primary = refl;
    mode = refl;
    max_commit = refl;
    floor =
        refl;
    ttl = refl;
    others = refl;
  };
  holds = refl;
  loaded = upto_last (Took roll ∷ Took insert ∷ declares);
  answers = inr (
    λ h. omega arith,
    inr (
      λ h. omega arith,
      inr (
        λ lock own. (cc (own.stands)),
        inr (
          λ own. elim own [ inl e ↦ (cc (e)) | inr y ↦ (cc (y.1.stands)) ],
          inr (
            λ c own. no_commit c own.rec own.stands,
            inr (
              λ lock e. (cc (e)),
              inr (
                λ some. no_commit some.at some.rec some.stands,
                inr (λ ins. ins.0, inl (refl, (4, (omega arith, omega arith), inl (tt, refl)))),
              ),
            ),
          ),
        ),
      ),
    ),
  );
}

pub insert_reads : IsWorldRun [] (Took put ∷ Took roll ∷ Took insert ∷ declares)
insert_reads = (((declares_run, inserted), rolled), prewrites)

-- without the read it would be 3, the start of the insert that saw no value
pub decided_above_the_check : decided (Took put ∷ Took roll ∷ Took insert ∷ declares) 1 ≡ Done (fate.Committed 4)
decided_above_the_check = refl

pub shadow_of_it : shadow (Took put ∷ Took roll ∷ Took insert ∷ declares) ≡ step.Commit 1 4 ∷ step.Abort 3
    ∷ step.Read a 3 None ∷ step.Declare 3 inserts.changes ∷ step.Draw 4 ∷ step.Begin 3 ∷ step.Draw 3
    ∷ step.Declare 1 puts.changes ∷ step.Draw 2 ∷ step.Begin 1 ∷ step.Draw 1 ∷ []
shadow_of_it = refl

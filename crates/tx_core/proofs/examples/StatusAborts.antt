-- A status check that finds nothing of a transaction aborts it: the rollback that it leaves refuses
-- the late prewrite, and the session answers that the transaction is aborted.
use Rattle.std.proofs.Common.{◌≡◌, inl, inr, true, false, [], ◌∷◌, None, refl, arith}
use Rattle.tx_types.specs.declared.mutation.Mutation.TheVariants.{Put}
use Rattle.tx_types.specs.declared.mutation.Mode.TheVariants as mode
use Rattle.tx_types.specs.declared.mutation.Fate.TheVariants as fate
use Rattle.tx_plan.specs.declared.body.Body.TheVariants.{Prewrite, CheckTxnStatus}
use Rattle.tx_plan.specs.declared.answer.Answer.TheVariants.{RolledBack, AlreadyRolledBack}
use Rattle.tx_machine.specs.Machine.{Done}
use Rattle.tx_machine.specs.declared.step.Step.TheVariants as step
use Rattle.tx_core.specs.declared.event.Declaration.{Declaration}
use Rattle.tx_core.specs.declared.event.Taken.{Taken}
use Rattle.tx_core.specs.declared.event.Outcome.TheVariants as outcome
use Rattle.tx_core.specs.declared.event.Event.TheVariants.{Drawn, Began, Declared, Answered, Took}
use Rattle.tx_core.specs.Histories.{History}
use Rattle.tx_core.specs.Decisions.{decided}
use Rattle.tx_core.specs.Worlds.{IsWorldRun, MayTake}
use Rattle.tx_core.specs.Shadow.{shadow}
use Rattle.tx_core.proofs.seats.Stays.{upto_last}
use Rattle.tx_core.proofs.examples.Words.{a, x, unrolled}
use Rattle.tx_core.specs.Happens.{Happens, AbortsByStatus}

abbrev put : Declaration
put = record {
  start = 1;
  changes = record { key = a; mutation = Put x } ∷ [];
  mode = mode.TwoPhase;
  ttl =
      10;
  max_commit = None;
  drawn = 2;
}

abbrev check : Taken
check = record {
  region = 0;
  body =
      CheckTxnStatus record {
        key = a;
        start = 1;
        caller = 3;
        current = 5;
        rollback_if_not_exist = true;
        force_sync_commit
            = false;
      };
  loaded = 3;
  answer = RolledBack;
}

abbrev prewrite_late : Taken
prewrite_late = record {
  region = 0;
  body =
      Prewrite record {
        key = a;
        mutation = Put x;
        start = 1;
        primary = a;
        mode = mode.TwoPhase;
        max_commit = None;
        floor
            = 0;
        ttl = 10;
        others = [];
      };
  loaded = 3;
  answer = AlreadyRolledBack;
}

abbrev puts : History
puts = Drawn 2 3 ∷ Declared put ∷ Drawn 1 2 ∷ Began 1 ∷ Drawn 1 1 ∷ []

abbrev late : History
late = Took prewrite_late ∷ Took check ∷ puts

puts_run : IsWorldRun [] puts
puts_run = (
  (
    (((tt, omega arith), (λ e. (cc (e)), refl)), omega arith),
    record {
      begun = refl;
      unanswered = refl;
      once = refl;
      some = λ e. (cc (e));
      distinct = (refl, tt);
      drew = inl (refl, refl, refl);
    },
  ),
  omega arith,
)

checks : MayTake [] puts check
checks = record {
  region = omega arith;
  allowed = record { primary = refl; forced = λ e. (cc (e)) };
  holds = refl;
  loaded = upto_last puts;
  answers = inr (
    λ h. omega arith,
    inr (
      λ h. omega arith,
      inr (λ lock own. (cc (own.stands)), inr (λ c own. (cc (own.stands)), inr (unrolled 1, inl (refl, refl)))),
    ),
  );
}

refused : MayTake [] (Took check ∷ puts) prewrite_late
refused = record {
  region = omega arith;
  allowed = record {
    of = put;
    stands = refl;
    mutation = refl;
    primary = refl;
    mode = refl;
    max_commit = refl;
    floor =
        refl;
    ttl = refl;
    others = refl;
  };
  holds = refl;
  loaded = upto_last (Took check ∷ puts);
  answers = inr (λ h. omega arith, inr (λ h. omega arith, inr (λ lock own. (cc (own.stands)), inl (inl refl, refl))));
}

pub status_aborts : IsWorldRun [] (Answered 1 outcome.Aborted ∷ late)
status_aborts = (
  ((puts_run, checks), refused),
  (refl, refl, record { by = prewrite_late; among = inl refl; of = refl; tells = refl }),
)

-- the status check decides it, not the refused prewrite
pub decided_by_the_check : decided (Took check ∷ puts) 1 ≡ Done fate.Aborted
decided_by_the_check = refl

pub shadow_of_it : shadow (Answered 1 outcome.Aborted ∷ late) ≡ step.Answer 1 fate.Aborted ∷ step.Abort 1 ∷ step.Draw 3
    ∷ step.Declare 1 put.changes ∷ step.Draw 2 ∷ step.Begin 1 ∷ step.Draw 1 ∷ []
shadow_of_it = refl

pub aborts_by_status : Happens AbortsByStatus
aborts_by_status = (
  [],
  puts,
  check,
  (puts_run, checks),
  record { b = _; asked = refl; decides = record { before = refl; now = refl } },
)

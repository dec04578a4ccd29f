-- A key is put in two phases, and then read.
use Rattle.std.proofs.Common.{◌≡◌, ℕ, ◌<◌, ◌==◌, inl, inr, false, cond, [], ◌∷◌, Some, None, refl, arith}
use Rattle.tx_types.specs.declared.mutation.Mutation.TheVariants.{Put}
use Rattle.tx_types.specs.declared.mutation.Mode.TheVariants as mode
use Rattle.tx_types.specs.declared.mutation.Fate.TheVariants as fate
use Rattle.tx_plan.specs.declared.body.Body.TheVariants.{Get, Prewrite, Commit}
use Rattle.tx_plan.specs.declared.answer.Answer.TheVariants.{Found, Prewritten, Committed}
use Rattle.tx_machine.specs.declared.step.Step.TheVariants as step
use Rattle.tx_core.specs.declared.event.Declaration.{Declaration}
use Rattle.tx_core.specs.declared.event.Taken.{Taken}
use Rattle.tx_core.specs.declared.event.Outcome.TheVariants as outcome
use Rattle.tx_core.specs.declared.event.Event.TheVariants.{Drawn, Began, Declared, Answered, Took}
use Rattle.tx_core.specs.Histories.{History}
use Rattle.tx_core.specs.Worlds.{IsWorldRun, MayTake}
use Rattle.tx_core.specs.Shadow.{shadow}
use Rattle.tx_core.proofs.seats.Stays.{upto_last}
use Rattle.tx_core.proofs.examples.Words.{a, x, none, unrolled, decides}
use Rattle.std.proofs.lemmas.Bool.{eqb-true}
use Rattle.tx_plan.specs.Cells.{CommitRecord, CommitOf}
use Rattle.tx_core.proofs.Basics.{chosen}
use Rattle.tx_core.specs.Happens.{Happens, CommitsInTwoPhases}

abbrev put : Declaration
put = record {
  start = 1;
  changes = record { key = a; mutation = Put x } ∷ [];
  mode = mode.TwoPhase;
  ttl =
      10;
  max_commit = None;
  drawn = 2;
}

abbrev prewrite_put : Taken
prewrite_put = record {
  region = 0;
  body =
      Prewrite record {
        key = a;
        mutation = Put x;
        start = 1;
        primary = a;
        mode = mode.TwoPhase;
        max_commit = None;
        floor
            = 0;
        ttl = 10;
        others = [];
      };
  loaded = 2;
  answer = Prewritten 0;
}

abbrev commit_put : Taken
commit_put = record {
  region = 0;
  body = Commit record { key = a; start = 1; commit = 3 };
  loaded = 3;
  answer =
      Committed 3;
}

abbrev get_put : Taken
get_put = record { region = 0; body = Get record { key = a; at = 4; bypass = [] }; loaded = 4; answer = Found x }

abbrev puts : History
puts = Declared put ∷ Drawn 1 2 ∷ Began 1 ∷ Drawn 1 1 ∷ []

abbrev drawn : History
drawn = Drawn 1 3 ∷ Took prewrite_put ∷ puts

abbrev committed : History
committed = Drawn 2 4 ∷ Answered 1 (outcome.Committed 3) ∷ Took commit_put ∷ drawn

puts_run : IsWorldRun [] puts
puts_run = (
  (((tt, omega arith), (λ e. (cc (e)), refl)), omega arith),
  record {
    begun = refl;
    unanswered = refl;
    once = refl;
    some = λ e. (cc (e));
    distinct = (refl, tt);
    drew = inl (refl, refl, refl);
  },
)

put_prewrites : MayTake [] puts prewrite_put
put_prewrites = record {
  region = omega arith;
  allowed = record {
    of = put;
    stands = refl;
    mutation = refl;
    primary = refl;
    mode = refl;
    max_commit = refl;
    floor =
        refl;
    ttl = refl;
    others = refl;
  };
  holds = refl;
  loaded = upto_last puts;
  answers = inr (
    λ h. omega arith,
    inr (
      λ h. omega arith,
      inr (
        λ lock own. (cc (own.stands)),
        inr (
          unrolled 1,
          inr (
            λ c own. (cc (own.stands)),
            inr (λ lock e. (cc (e)), inr (λ some. (cc (some.stands)), inr (λ ins. ins.0, inr (λ e. (cc (e)), refl)))),
          ),
        ),
      ),
    ),
  );
}

put_commits : MayTake [] drawn commit_put
put_commits = record {
  region = omega arith;
  allowed = inr (decides drawn (Put x) 3 _ refl refl refl refl refl (omega arith));
  holds = refl;
  loaded = upto_last drawn;
  answers = inr (
    λ h. omega arith,
    inl (_, record { stands = refl; own = refl }, inr (λ h. omega arith, inr (λ rec h. (cc (h.stands)), refl))),
  );
}

put_gets : MayTake [] committed get_put
put_gets = record {
  region = omega arith;
  allowed = λ t within. absurd (none t within);
  holds = refl;
  loaded = upto_last committed;
  answers = inr (
    λ h. omega arith,
    inr (
      λ h. omega arith,
      inr (
        λ lock b. (cc (b.stands)),
        (
          Some x,
          refl,
          record {
            at = 3;
            rec = _;
            stands = refl;
            puts = refl;
            upto = omega arith;
            newest =
                λ c rec e seen low high. only c rec e low;
          },
        ),
      ),
    ),
  );
}
  where
    only : (c : ℕ) (rec : CommitRecord)
        → cond (3 == c) (Some (CommitOf record { mutation = Put x; start = 1; overlapped_rollback = false })) None
        ≡ Some (CommitOf rec) → 3 < c → ⊥
    only c rec e low = elim
        (chosen (3 == c) (Some (CommitOf record { mutation = Put x; start = 1; overlapped_rollback = false })) None
        (Some (CommitOf rec)) e) [ inl y ↦ omega (arith, eqb-true 3 c y.0) | inr y ↦ (cc (y.1)) ]

pub commit_then_read : IsWorldRun [] (Took get_put ∷ committed)
commit_then_read = (
  (
    (
      (((puts_run, put_prewrites), omega arith), put_commits),
      (refl, refl, inl record { by = commit_put; among = inl refl; of = refl; tells = refl }),
    ),
    omega arith,
  ),
  put_gets,
)

pub shadow_of_the_read : shadow (Took get_put ∷ committed) ≡ step.Read a 4 (Some x) ∷ step.Draw 4
    ∷ step.Answer 1 (fate.Committed 3) ∷ step.Commit 1 3 ∷ step.Draw 3 ∷ step.Declare 1 put.changes ∷ step.Draw 2
    ∷ step.Begin 1 ∷ step.Draw 1 ∷ []
shadow_of_the_read = refl

pub commits_in_two_phases : Happens CommitsInTwoPhases
commits_in_two_phases = (
  [],
  drawn,
  commit_put,
  (((puts_run, put_prewrites), omega arith), put_commits),
  record {
    of = put;
    stands = refl;
    two_phase = refl;
    asked = (_, refl);
    decides = (3, record { before = refl; now = refl });
  },
)

-- An async transaction falls back: a read has raised its minimum above the greatest commit
-- timestamp that it may promise, so its lock is a two-phase one, nothing is decided, and the commit
-- of its primary at a number drawn after that decides.
use Rattle.std.proofs.Common.{◌≡◌, inl, inr, [], ◌∷◌, Some, None, refl, arith}
use Rattle.tx_types.specs.declared.mutation.Mutation.TheVariants.{Put}
use Rattle.tx_types.specs.declared.mutation.Mode.TheVariants as mode
use Rattle.tx_types.specs.declared.mutation.Fate.TheVariants as fate
use Rattle.tx_plan.specs.declared.body.Body.TheVariants.{Get, Prewrite, Commit}
use Rattle.tx_plan.specs.declared.answer.Answer.TheVariants.{Nothing, Prewritten, Committed}
use Rattle.tx_machine.specs.Machine.{Done}
use Rattle.tx_core.specs.declared.event.Declaration.{Declaration}
use Rattle.tx_core.specs.declared.event.Taken.{Taken}
use Rattle.tx_core.specs.declared.event.Event.TheVariants.{Drawn, Began, Declared, Took}
use Rattle.tx_core.specs.Histories.{History}
use Rattle.tx_core.specs.Decisions.{decided}
use Rattle.tx_core.specs.Worlds.{IsWorldRun, MayTake}
use Rattle.tx_core.proofs.seats.Stays.{upto_last}
use Rattle.tx_core.proofs.examples.Words.{a, x, none, unrolled, decides}
use Rattle.tx_core.specs.Happens.{Happens, CommitsAfterFallBack}

abbrev bounded : Declaration
bounded = record {
  start = 1;
  changes = record { key = a; mutation = Put x } ∷ [];
  mode = mode.Async;
  ttl =
      10;
  max_commit = Some 3;
  drawn = 2;
}

abbrev get_none : Taken
get_none = record { region = 0; body = Get record { key = a; at = 3; bypass = [] }; loaded = 3; answer = Nothing }

abbrev prewrite : Taken
prewrite = record {
  region = 0;
  body =
      Prewrite record {
        key = a;
        mutation = Put x;
        start = 1;
        primary = a;
        mode = mode.Async;
        max_commit = Some 3;
        floor =
            3;
        ttl = 10;
        others = [];
      };
  loaded = 3;
  answer = Prewritten 0;
}

abbrev commit : Taken
commit = record {
  region = 0;
  body = Commit record { key = a; start = 1; commit = 4 };
  loaded = 4;
  answer =
      Committed 4;
}

abbrev begun : History
begun = Began 3 ∷ Drawn 2 3 ∷ Declared bounded ∷ Drawn 1 2 ∷ Began 1 ∷ Drawn 1 1 ∷ []

abbrev bounded_run : History
bounded_run = Took get_none ∷ begun

begun_ok : IsWorldRun [] begun
begun_ok = (
  (
    (
      (((tt, omega arith), (λ e. (cc (e)), refl)), omega arith),
      record {
        begun = refl;
        unanswered = refl;
        once = refl;
        some = λ e. (cc (e));
        distinct = (refl, tt);
        drew = inl (refl, refl, refl);
      },
    ),
    omega arith,
  ),
  (λ e. (cc (e)), refl),
)

reads_none : MayTake [] begun get_none
reads_none = record {
  region = omega arith;
  allowed = λ t within. absurd (none t within);
  holds = refl;
  loaded = upto_last begun;
  answers = inr (
    λ h. omega arith,
    inr (λ h. omega arith, inr (λ lock b. (cc (b.stands)), (None, refl, λ v f. (cc (f.stands))))),
  );
}

bounded_ok : IsWorldRun [] bounded_run
bounded_ok = (begun_ok, reads_none)

promises_nothing : MayTake [] bounded_run prewrite
promises_nothing = record {
  region = omega arith;
  allowed = record {
    of = bounded;
    stands = refl;
    mutation = refl;
    primary = refl;
    mode = refl;
    max_commit = refl;
    floor
        = refl;
    ttl = refl;
    others = refl;
  };
  holds = refl;
  loaded = upto_last bounded_run;
  answers = inr (
    λ h. omega arith,
    inr (
      λ h. omega arith,
      inr (
        λ lock own. (cc (own.stands)),
        inr (
          unrolled 1,
          inr (
            λ c own. (cc (own.stands)),
            inr (
              λ lock e. (cc (e)),
              inr (
                λ some. (cc (some.stands)),
                inr (λ ins. ins.0, inl (refl, (4, (omega arith, omega arith), inr (λ low. omega (arith, low), refl)))),
              ),
            ),
          ),
        ),
      ),
    ),
  );
}

abbrev fallen : History
fallen = Drawn 1 4 ∷ Took prewrite ∷ bounded_run

commits : MayTake [] fallen commit
commits = record {
  region = omega arith;
  allowed = inr (decides fallen (Put x) 4 _ refl refl refl refl refl (omega arith));
  holds = refl;
  loaded = upto_last fallen;
  answers = inr (
    λ h. omega arith,
    inl (_, record { stands = refl; own = refl }, inr (λ h. omega arith, inr (λ rec h. (cc (h.stands)), refl))),
  );
}

pub falls_back : IsWorldRun [] (Took commit ∷ fallen)
falls_back = (((bounded_ok, promises_nothing), omega arith), commits)

pub undecided_until_the_primary : decided fallen 1 ≡ decided [] 1
undecided_until_the_primary = refl

pub decided_by_the_primary : decided (Took commit ∷ fallen) 1 ≡ Done (fate.Committed 4)
decided_by_the_primary = refl

pub commits_after_fall_back : Happens CommitsAfterFallBack
commits_after_fall_back = (
  [],
  fallen,
  commit,
  falls_back,
  record {
    of = bounded;
    stands = refl;
    async = refl;
    fell_back = record { key = a; by = _; stands = refl; two_phase = refl };
    asked = (_, refl);
    decides = (4, record { before = refl; now = refl });
  },
)

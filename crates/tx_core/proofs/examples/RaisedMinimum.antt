-- An async commit whose minimum a read has raised; its prewrite decides it, and its session may
-- answer so at once.
use Rattle.std.proofs.Common.{◌≡◌, inl, inr, [], ◌∷◌, None, refl, arith}
use Rattle.tx_types.specs.declared.mutation.Mutation.TheVariants.{Put}
use Rattle.tx_types.specs.declared.mutation.Mode.TheVariants as mode
use Rattle.tx_types.specs.declared.mutation.Fate.TheVariants as fate
use Rattle.tx_plan.specs.declared.body.Body.TheVariants.{Get, Prewrite, Commit}
use Rattle.tx_plan.specs.declared.answer.Answer.TheVariants.{Nothing, Prewritten, Committed}
use Rattle.tx_machine.specs.Machine.{Done}
use Rattle.tx_machine.specs.declared.step.Step.TheVariants as step
use Rattle.tx_core.specs.declared.event.Declaration.{Declaration}
use Rattle.tx_core.specs.declared.event.Taken.{Taken}
use Rattle.tx_core.specs.declared.event.Outcome.TheVariants as outcome
use Rattle.tx_core.specs.declared.event.Event.TheVariants.{Drawn, Began, Declared, Answered, Took}
use Rattle.tx_core.specs.Histories.{History}
use Rattle.tx_core.specs.Decisions.{decided}
use Rattle.tx_core.specs.Worlds.{IsWorldRun, MayTake}
use Rattle.tx_core.specs.Shadow.{shadow}
use Rattle.tx_core.proofs.seats.Stays.{upto_last}
use Rattle.tx_core.proofs.examples.Words.{a, x, none, unrolled}

abbrev raised : Declaration
raised = record {
  start = 1;
  changes = record { key = a; mutation = Put x } ∷ [];
  mode = mode.Async;
  ttl =
      10;
  max_commit = None;
  drawn = 2;
}

abbrev get_none : Taken
get_none = record { region = 0; body = Get record { key = a; at = 3; bypass = [] }; loaded = 3; answer = Nothing }

abbrev prewrite_async : Taken
prewrite_async = record {
  region = 0;
  body =
      Prewrite record {
        key = a;
        mutation = Put x;
        start = 1;
        primary = a;
        mode = mode.Async;
        max_commit = None;
        floor =
            3;
        ttl = 10;
        others = [];
      };
  loaded = 3;
  answer = Prewritten 4;
}

abbrev commit_async : Taken
commit_async = record {
  region = 0;
  body = Commit record { key = a; start = 1; commit = 4 };
  loaded = 3;
  answer =
      Committed 4;
}

abbrev starts : History
starts = Drawn 2 3 ∷ Declared raised ∷ Drawn 1 2 ∷ Began 1 ∷ Drawn 1 1 ∷ []

abbrev declares : History
declares = Took get_none ∷ Began 3 ∷ starts

abbrev ends : History
ends = Answered 1 (outcome.Committed 4) ∷ Took commit_async ∷ Took prewrite_async ∷ declares

starts_run : IsWorldRun [] starts
starts_run = (
  (
    (((tt, omega arith), (λ e. (cc (e)), refl)), omega arith),
    record {
      begun = refl;
      unanswered = refl;
      once = refl;
      some = λ e. (cc (e));
      distinct = (refl, tt);
      drew = inl (refl, refl, refl);
    },
  ),
  omega arith,
)

reads : MayTake [] (Began 3 ∷ starts) get_none
reads = record {
  region = omega arith;
  allowed = λ t within. absurd (none t within);
  holds = refl;
  loaded = upto_last (Began 3 ∷ starts);
  answers = inr (
    λ h. omega arith,
    inr (λ h. omega arith, inr (λ lock b. (cc (b.stands)), (None, refl, λ v f. (cc (f.stands))))),
  );
}

declared_run : IsWorldRun [] declares
declared_run = ((starts_run, (λ e. (cc (e)), refl)), reads)

prewrites : MayTake [] declares prewrite_async
prewrites = record {
  region = omega arith;
  allowed = record {
    of = raised;
    stands = refl;
    mutation = refl;
    primary = refl;
    mode = refl;
    max_commit = refl;
    floor
        = refl;
    ttl = refl;
    others = refl;
  };
  holds = refl;
  loaded = upto_last declares;
  answers = inr (
    λ h. omega arith,
    inr (
      λ h. omega arith,
      inr (
        λ lock own. (cc (own.stands)),
        inr (
          unrolled 1,
          inr (
            λ c own. (cc (own.stands)),
            inr (
              λ lock e. (cc (e)),
              inr (
                λ some. (cc (some.stands)),
                inr (λ ins. ins.0, inl (refl, (4, (omega arith, omega arith), inl (tt, refl)))),
              ),
            ),
          ),
        ),
      ),
    ),
  );
}

commits : MayTake [] (Took prewrite_async ∷ declares) commit_async
commits = record {
  region = omega arith;
  allowed = inl refl;
  holds = refl;
  loaded = upto_last (Took prewrite_async ∷ declares);
  answers = inr (
    λ h. omega arith,
    inl (_, record { stands = refl; own = refl }, inr (λ h. omega arith, inr (λ rec h. (cc (h.stands)), refl))),
  );
}

pub read_raises_minimum : IsWorldRun [] ends
read_raises_minimum = (
  ((declared_run, prewrites), commits),
  (refl, refl, inl record { by = commit_async; among = inl refl; of = refl; tells = refl }),
)

-- its commit is decided by the prewrite, and answered from the acceptances alone
pub decided_by_prewrite : decided (Took prewrite_async ∷ declares) 1 ≡ Done (fate.Committed 4)
decided_by_prewrite = refl

pub answered_from_acceptances : IsWorldRun [] (Answered 1 (outcome.Committed 4) ∷ Took prewrite_async ∷ declares)
answered_from_acceptances = ((declared_run, prewrites), (refl, refl, inr refl))

pub shadow_of_it : shadow ends ≡ step.Answer 1 (fate.Committed 4) ∷ step.Commit 1 4 ∷ step.Read a 3 None ∷ step.Begin 3
    ∷ step.Draw 3 ∷ step.Declare 1 raised.changes ∷ step.Draw 2 ∷ step.Begin 1 ∷ step.Draw 1 ∷ []
shadow_of_it = refl

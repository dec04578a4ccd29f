-- What a region takes: requests for its own keys, and no number that is above the last one.
use Rattle.std.proofs.Common.{inl, inr, List, [], ◌∷◌, None, refl, arith}
use Rattle.tx_types.specs.declared.key.Key.{Key}
use Rattle.tx_types.specs.declared.mutation.Mutation.TheVariants.{Put}
use Rattle.tx_plan.specs.declared.answer.Answer.TheVariants as reply
use Rattle.tx_machine.specs.declared.step.Step.TheVariants as step
use Rattle.tx_core.specs.declared.event.Taken.{Taken}
use Rattle.tx_core.specs.declared.event.Event.TheVariants.{Drawn, Took}
use Rattle.tx_core.specs.Histories.{History}
use Rattle.tx_core.specs.Worlds.{MayTake}
use Rattle.tx_core.proofs.unique.KeyLists.{contains_first}
use Rattle.tx_needed.specs.Needed.{IsNeeded}
use Rattle.tx_needed.specs.Rules.{LoadsAhead, Misroutes}
use Rattle.tx_needed.proofs.Unexplained.{misses_put, commits_under_read}
use Rattle.tx_needed.proofs.Words.{a, b, x, async_a, two_phase_a, asks, took, prewrites, commits, gets}
use Rattle.tx_needed.proofs.Cells.{unwritten}
use Rattle.tx_needed.proofs.Tables.{comes, locks_two_phase, commits_lock}
use Rattle.tx_needed.proofs.Comes.{begins_run, nobody, as_declared, decides_a}
use Rattle.tx_needed.proofs.Needs.{within}
use Rattle.tx_needed.proofs.histories.OneKey.{begins_async, declared_async, committed_3, committed_3_run, declared_two, declared_two_run}

-- ---- a seat has loaded 5, reads there, and then the transaction commits at 3

abbrev gets_ahead : Taken
gets_ahead = record { region = 0; body = gets a 5 []; loaded = 5; answer = reply.Nothing }

abbrev ahead : History
ahead = Took gets_ahead ∷ declared_two

abbrev drawn_3 : History
drawn_3 = Drawn 1 3 ∷ took (prewrites two_phase_a a) (reply.Prewritten 0) ahead

pub loaded : IsNeeded LoadsAhead
loaded =
    within (took (commits a 1 3) (reply.Committed 3) drawn_3)
    (inr (
      inr (
        inr (
          inl (
            declared_two_run,
            record {
              legal = nobody _;
              holds = refl;
              answers = inr (
                λ low. omega (arith, low),
                inr (
                  λ high. omega (arith, high),
                  inr (
                    λ lock blocks. (let some = blocks.stands in cc (some)),
                    (None, refl, λ v finds. (cc (finds.stands))),
                  ),
                ),
              );
            },
          ),
          comes (locks_two_phase (as_declared ahead two_phase_a a (Put x) refl refl) (unwritten refl (λ c. refl))
              (omega arith) (omega arith) refl),
        ),
        omega arith,
      ),
      comes (commits_lock _ (inr (decides_a drawn_3 (Put x) refl 3 _ refl refl refl refl (omega arith))) refl refl
          (omega arith) (omega arith) tt),
    ))
    (commits_under_read drawn_3 (asks drawn_3 (commits a 1 3) (reply.Committed 3)) 1 3 a (Put x) 5 None refl refl refl
    tt (omega arith) (inr (inr (inl (inl (contains_first (step.Read a 5 None) []))))))

-- ---- a key of the first of two regions is read in the second

abbrev two_regions : List Key
two_regions = b ∷ []

abbrev drawn_for : History
drawn_for = Drawn 2 3 ∷ committed_3

abbrev gets_elsewhere : Taken
gets_elsewhere = record { region = 1; body = gets a 3 []; loaded = 3; answer = reply.Nothing }

pub misrouted : IsNeeded Misroutes
misrouted = record {
  bounds = two_regions;
  events = Took gets_elsewhere ∷ drawn_for;
  run = inl (
    (
      (
        begins_run [] 1 async_a begins_async two_regions tt,
        record {
          region = omega arith;
          allowed = as_declared declared_async async_a a (Put x) refl refl;
          holds = refl;
          loaded = omega arith;
          answers = locked.answers;
        },
      ),
      omega arith,
    ),
    record {
      legal = nobody _;
      loaded = omega arith;
      answers = inr (
        λ low. omega (arith, low),
        inr (
          λ high. omega (arith, high),
          inr (λ lock blocks. (let some = blocks.stands in cc (some)), (None, refl, λ v finds. (cc (finds.stands)))),
        ),
      );
    },
  );
  unexplained = misses_put drawn_for (Took gets_elsewhere) 1 3 a x refl refl (λ table true. true.0);
}
  where
    locked : MayTake [] declared_async (asks declared_async (prewrites async_a a) (reply.Prewritten 3))
    locked = committed_3_run.1

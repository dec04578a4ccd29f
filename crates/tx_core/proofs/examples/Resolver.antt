-- A resolver finishes an async transaction whose session is gone, over two regions: the primary
-- alone promised 3, a read has raised the other region, so its late prewrite promises 4, and 4 is
-- where the transaction is committed.
use Rattle.std.proofs.Common.{◌≡◌, ℕ, ◌≤◌, ◌==◌, inl, inr, true, false, cond, List, [], ◌∷◌, Some, None, refl, arith}
use Rattle.tx_types.specs.declared.mutation.Mutation.TheVariants.{Put}
use Rattle.tx_types.specs.declared.mutation.Mode.TheVariants as mode
use Rattle.tx_types.specs.declared.mutation.Fate.TheVariants as fate
use Rattle.tx_plan.specs.declared.body.Body.TheVariants.{Get, Prewrite, CheckTxnStatus, CheckSecondaryLocks, ResolveLock}
use Rattle.tx_plan.specs.declared.answer.Answer.TheVariants.{Nothing, Prewritten, KeyIsLocked, Locked, Missing, Resolved}
use Rattle.tx_machine.specs.Machine.{Done}
use Rattle.tx_machine.specs.declared.step.Step.TheVariants as step
use Rattle.tx_core.specs.declared.event.Declaration.{Declaration}
use Rattle.tx_core.specs.declared.event.Taken.{Taken}
use Rattle.tx_core.specs.declared.event.Event.TheVariants.{Drawn, Began, Declared, Took}
use Rattle.tx_core.specs.Histories.{History}
use Rattle.tx_core.specs.Decisions.{decided}
use Rattle.tx_core.specs.Worlds.{IsWorldRun, MayTake}
use Rattle.tx_core.specs.Shadow.{shadow}
use Rattle.tx_core.proofs.seats.Stays.{upto_last}
use Rattle.tx_core.proofs.examples.Words.{a, b, x, none, unrolled}
use Rattle.tx_plan.specs.Cells.{Lock, CommitRecord, CommitOf, info_of}
use Rattle.tx_types.specs.declared.key.Key.{Key}
use Rattle.tx_core.proofs.Basics.{nat_test}
use Rattle.tx_core.specs.Happens.{Happens, CommitsByLatePrewrite, AbortsBySecondary}

-- one bound: keys below b, and keys from b on
abbrev cut : List Key
cut = b ∷ []

abbrev two_keys : Declaration
two_keys = record {
  start = 1;
  changes =
      record { key = a; mutation = Put x } ∷ record { key = b; mutation = Put x } ∷ [];
  mode = mode.Async;
  ttl =
      10;
  max_commit = None;
  drawn = 2;
}

abbrev lock_a : Lock
lock_a = record { mutation = Put x; mode = mode.Async; secondaries = b ∷ []; start = 1; min = 3; ttl = 10; primary = a }

abbrev lock_b : Lock
lock_b = record { mutation = Put x; mode = mode.Async; secondaries = []; start = 1; min = 4; ttl = 10; primary = a }

abbrev prewrite_a : Taken
prewrite_a = record {
  region = 0;
  body =
      Prewrite record {
        key = a;
        mutation = Put x;
        start = 1;
        primary = a;
        mode = mode.Async;
        max_commit = None;
        floor =
            3;
        ttl = 10;
        others = b ∷ [];
      };
  loaded = 2;
  answer = Prewritten 3;
}

abbrev get_b : Taken
get_b = record { region = 1; body = Get record { key = b; at = 3; bypass = [] }; loaded = 3; answer = Nothing }

abbrev prewrite_b : Taken
prewrite_b = record {
  region = 1;
  body =
      Prewrite record {
        key = b;
        mutation = Put x;
        start = 1;
        primary = a;
        mode = mode.Async;
        max_commit = None;
        floor =
            3;
        ttl = 10;
        others = [];
      };
  loaded = 2;
  answer = Prewritten 4;
}

abbrev get_a : Taken
get_a = record {
  region = 0;
  body = Get record { key = a; at = 3; bypass = [] };
  loaded = 3;
  answer =
      KeyIsLocked (info_of a lock_a);
}

abbrev check_a : Taken
check_a = record {
  region = 0;
  body =
      CheckTxnStatus record {
        key = a;
        start = 1;
        caller = 3;
        current = 100;
        rollback_if_not_exist =
            true;
        force_sync_commit = false;
      };
  loaded = 3;
  answer = Locked (info_of a lock_a);
}

abbrev check_b : Taken
check_b = record {
  region = 1;
  body = CheckSecondaryLocks record { key = b; start = 1 };
  loaded = 3;
  answer =
      Locked (info_of b lock_b);
}

abbrev resolve_a : Taken
resolve_a = record {
  region = 0;
  body = ResolveLock record { key = a; start = 1; fate = fate.Committed 4 };
  loaded =
      3;
  answer = Resolved;
}

abbrev get_again : Taken
get_again = record { region = 0; body = Get record { key = a; at = 3; bypass = [] }; loaded = 3; answer = Nothing }

abbrev begun : History
begun = Declared two_keys ∷ Drawn 1 2 ∷ Began 1 ∷ Drawn 1 1 ∷ []

abbrev locked_a : History
locked_a = Began 3 ∷ Drawn 2 3 ∷ Took prewrite_a ∷ begun

abbrev locked_both : History
locked_both = Took prewrite_b ∷ Took get_b ∷ locked_a

abbrev asked : History
asked = Took check_b ∷ Took check_a ∷ Took get_a ∷ locked_both

begun_run : IsWorldRun cut begun
begun_run = (
  (((tt, omega arith), (λ e. (cc (e)), refl)), omega arith),
  record {
    begun = refl;
    unanswered = refl;
    once = refl;
    some = λ e. (cc (e));
    distinct = (refl, (refl, tt));
    drew =
        inl (refl, refl, refl);
  },
)

takes_prewrite_a : MayTake cut begun prewrite_a
takes_prewrite_a = record {
  region = omega arith;
  allowed = record {
    of = two_keys;
    stands = refl;
    mutation = refl;
    primary = refl;
    mode = refl;
    max_commit =
        refl;
    floor = refl;
    ttl = refl;
    others = refl;
  };
  holds = refl;
  loaded = upto_last begun;
  answers = inr (
    λ h. omega arith,
    inr (
      λ h. omega arith,
      inr (
        λ lock own. (cc (own.stands)),
        inr (
          unrolled 1,
          inr (
            λ c own. (cc (own.stands)),
            inr (
              λ lock e. (cc (e)),
              inr (
                λ some. (cc (some.stands)),
                inr (λ ins. ins.0, inl (refl, (3, (omega arith, omega arith), inl (tt, refl)))),
              ),
            ),
          ),
        ),
      ),
    ),
  );
}

locked_a_run : IsWorldRun cut locked_a
locked_a_run = (((begun_run, takes_prewrite_a), omega arith), (λ e. (cc (e)), refl))

takes_get_b : MayTake cut locked_a get_b
takes_get_b = record {
  region = omega arith;
  allowed = λ t within. absurd (none t within);
  holds = refl;
  loaded = upto_last locked_a;
  answers = inr (
    λ h. omega arith,
    inr (λ h. omega arith, inr (λ lock y. (cc (y.stands)), (None, refl, λ v f. (cc (f.stands))))),
  );
}

-- the number that its region loaded is an old one
takes_prewrite_b : MayTake cut (Took get_b ∷ locked_a) prewrite_b
takes_prewrite_b = record {
  region = omega arith;
  allowed = record {
    of = two_keys;
    stands = refl;
    mutation = refl;
    primary = refl;
    mode = refl;
    max_commit =
        refl;
    floor = refl;
    ttl = refl;
    others = refl;
  };
  holds = refl;
  loaded = omega arith;
  answers = inr (
    λ h. omega arith,
    inr (
      λ h. omega arith,
      inr (
        λ lock own. (cc (own.stands)),
        inr (
          unrolled 1,
          inr (
            λ c own. (cc (own.stands)),
            inr (
              λ lock e. (cc (e)),
              inr (
                λ some. (cc (some.stands)),
                inr (λ ins. ins.0, inl (refl, (4, (omega arith, omega arith), inl (tt, refl)))),
              ),
            ),
          ),
        ),
      ),
    ),
  );
}

locked_both_run : IsWorldRun cut locked_both
locked_both_run = ((locked_a_run, takes_get_b), takes_prewrite_b)

pub undecided_before : decided (Took get_b ∷ locked_a) 1 ≡ decided [] 1
undecided_before = refl

pub decided_by_the_late_prewrite : decided locked_both 1 ≡ Done (fate.Committed 4)
decided_by_the_late_prewrite = refl

takes_get_a : MayTake cut locked_both get_a
takes_get_a = record {
  region = omega arith;
  allowed = λ t within. absurd (none t within);
  holds = refl;
  loaded = upto_last locked_both;
  answers = inr (
    λ h. omega arith,
    inr (
      λ h. omega arith,
      inl (lock_a, record { stands = refl; visible = tt; below = omega arith; met = none 1 }, refl),
    ),
  );
}

takes_check_a : MayTake cut (Took get_a ∷ locked_both) check_a
takes_check_a = record {
  region = omega arith;
  allowed = record { primary = refl; forced = λ e. (cc (e)) };
  holds = refl;
  loaded = upto_last (Took get_a ∷ locked_both);
  answers = inr (
    λ h. omega arith,
    inr (λ h. omega arith, inl (lock_a, record { stands = refl; own = refl }, inl ((refl, refl), refl))),
  );
}

takes_check_b : MayTake cut (Took check_a ∷ Took get_a ∷ locked_both) check_b
takes_check_b = record {
  region = omega arith;
  allowed = record { of = two_keys; stands = refl; async = refl; within = λ e. (cc (e)) };
  holds = refl;
  loaded = upto_last (Took check_a ∷ Took get_a ∷ locked_both);
  answers = inr (λ h. omega arith, inl (lock_b, record { stands = refl; own = refl }, refl));
}

asked_run : IsWorldRun cut asked
asked_run = (((locked_both_run, takes_get_a), takes_check_a), takes_check_b)

takes_resolve_a : MayTake cut asked resolve_a
takes_resolve_a = record {
  region = omega arith;
  allowed = refl;
  holds = refl;
  loaded = upto_last asked;
  answers = inr (
    λ h. omega arith,
    inl (
      lock_a,
      record { stands = refl; own = refl },
      inr (λ low. omega (arith, low), inr (λ rec others. (cc (others.stands)), refl)),
    ),
  );
}

takes_get_again : MayTake cut (Took resolve_a ∷ asked) get_again
takes_get_again = record {
  region = omega arith;
  allowed = λ t within. absurd (none t within);
  holds = refl;
  loaded = upto_last (Took resolve_a ∷ asked);
  answers = inr (
    λ h. omega arith,
    inr (λ h. omega arith, inr (λ lock y. (cc (y.stands)), (None, refl, λ v f. above f.at f.rec f.stands f.upto))),
  );
}
  where
    above : (c : ℕ) (rec : CommitRecord)
        → cond (4 == c) (Some (CommitOf record { mutation = Put x; start = 1; overlapped_rollback = false })) None
        ≡ Some (CommitOf rec) → c ≤ 3 → ⊥
    above c rec e low = elim (nat_test 4 c) [
      | inl y ↦ omega (arith, y.1, low)
      | inr y ↦ (let at : None ≡ Some (CommitOf rec) = rw y.0 at e in cc (at))
    ]

pub resolver_finishes : IsWorldRun cut (Took get_again ∷ Took resolve_a ∷ asked)
resolver_finishes = ((asked_run, takes_resolve_a), takes_get_again)

pub shadow_of_it : shadow (Took get_again ∷ Took resolve_a ∷ asked) ≡ step.Read a 3 None ∷ step.Commit 1 4
    ∷ step.Read b 3 None ∷ step.Begin 3 ∷ step.Draw 3 ∷ step.Declare 1 two_keys.changes ∷ step.Draw 2 ∷ step.Begin 1
    ∷ step.Draw 1 ∷ []
shadow_of_it = refl

pub late_prewrite_commits : Happens CommitsByLatePrewrite
late_prewrite_commits = (
  cut,
  Took get_b ∷ locked_a,
  prewrite_b,
  locked_both_run,
  record {
    of = two_keys;
    stands = refl;
    async = refl;
    asked = (_, refl);
    commit = 4;
    decides = record { before = refl; now = refl };
    primary = a;
    first = refl;
    by = _;
    accepted = refl;
    above = omega arith;
  },
)

-- ---- where the secondary lock is missing

abbrev check_missing : Taken
check_missing = record {
  region = 1;
  body = CheckSecondaryLocks record { key = b; start = 1 };
  loaded = 3;
  answer = Missing;
}

takes_check_missing : MayTake cut locked_a check_missing
takes_check_missing = record {
  region = omega arith;
  allowed = record { of = two_keys; stands = refl; async = refl; within = λ e. (cc (e)) };
  holds = refl;
  loaded = upto_last locked_a;
  answers = inr (λ h. omega arith, inr (λ lock own. (cc (own.stands)), inr (λ c own. (cc (own.stands)), refl)));
}

pub aborts_by_secondary : Happens AbortsBySecondary
aborts_by_secondary = (
  cut,
  locked_a,
  check_missing,
  (locked_a_run, takes_check_missing),
  record { b = _; asked = refl; decides = record { before = refl; now = refl } },
)

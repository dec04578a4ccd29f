-- A reader meets a lock, has it pushed above its timestamp, and passes; so the commit at the number
-- that was drawn before is refused, and goes at a later one.
use Rattle.std.proofs.Common.{◌≡◌, ℕ, ◌<◌, zero, suc, inl, inr, false, [], ◌∷◌, Option, None, Contains, refl, ap, subst, arith}
use Rattle.tx_types.specs.declared.mutation.Mutation.TheVariants.{Put}
use Rattle.tx_types.specs.declared.mutation.Mode.TheVariants as mode
use Rattle.tx_plan.specs.declared.body.Body.TheVariants.{Get, Prewrite, Commit, CheckTxnStatus}
use Rattle.tx_plan.specs.declared.answer.Answer.TheVariants.{Nothing, Prewritten, Committed, KeyIsLocked, Locked, CommitTsExpired}
use Rattle.tx_machine.specs.declared.step.Step.TheVariants as step
use Rattle.tx_core.specs.declared.event.Declaration.{Declaration}
use Rattle.tx_core.specs.declared.event.Taken.{Taken}
use Rattle.tx_core.specs.declared.event.Event.TheVariants.{Drawn, Began, Declared, Took}
use Rattle.tx_core.specs.Histories.{History}
use Rattle.tx_core.specs.Worlds.{IsWorldRun, MayTake}
use Rattle.tx_core.specs.Shadow.{shadow}
use Rattle.tx_core.proofs.seats.Stays.{upto_last}
use Rattle.tx_core.proofs.examples.Words.{a, x, none, unrolled, start_of, decides}
use Rattle.std.specs.List.{slice_index_or}
use Rattle.tx_plan.specs.Cells.{Lock, info_of}
use Rattle.tx_core.specs.Allowed.{MayPass}
use Rattle.tx_core.specs.Happens.{Happens, PushesMinimum}

abbrev put : Declaration
put = record {
  start = 1;
  changes = record { key = a; mutation = Put x } ∷ [];
  mode = mode.TwoPhase;
  ttl =
      10;
  max_commit = None;
  drawn = 2;
}

abbrev prewrite_put : Taken
prewrite_put = record {
  region = 0;
  body =
      Prewrite record {
        key = a;
        mutation = Put x;
        start = 1;
        primary = a;
        mode = mode.TwoPhase;
        max_commit = None;
        floor
            = 0;
        ttl = 10;
        others = [];
      };
  loaded = 2;
  answer = Prewritten 0;
}

-- the lock that it puts, and the same pushed above 4
abbrev locked_at : ℕ → Lock
locked_at m = record {
  mutation = Put x;
  mode = mode.TwoPhase;
  secondaries = [];
  start = 1;
  min = m;
  ttl = 10;
  primary =
      a;
}

abbrev get_blocked : Taken
get_blocked = record {
  region = 0;
  body = Get record { key = a; at = 4; bypass = [] };
  loaded = 4;
  answer =
      KeyIsLocked (info_of a (locked_at 2));
}

abbrev pushes : Taken
pushes = record {
  region = 0;
  body =
      CheckTxnStatus record {
        key = a;
        start = 1;
        caller = 4;
        current = 5;
        rollback_if_not_exist =
            false;
        force_sync_commit = false;
      };
  loaded = 4;
  answer = Locked (info_of a (locked_at 5));
}

abbrev get_past : Taken
get_past = record { region = 0; body = Get record { key = a; at = 4; bypass = 1 ∷ [] }; loaded = 4; answer = Nothing }

abbrev commit_low : Taken
commit_low = record {
  region = 0;
  body = Commit record { key = a; start = 1; commit = 3 };
  loaded = 4;
  answer =
      CommitTsExpired 5;
}

abbrev commit_high : Taken
commit_high = record {
  region = 0;
  body = Commit record { key = a; start = 1; commit = 5 };
  loaded = 5;
  answer =
      Committed 5;
}

abbrev puts : History
puts = Declared put ∷ Drawn 1 2 ∷ Began 1 ∷ Drawn 1 1 ∷ []

abbrev reader : History
reader = Began 4 ∷ Drawn 2 4 ∷ Drawn 1 3 ∷ Took prewrite_put ∷ puts

abbrev pushed : History
pushed = Took pushes ∷ Took get_blocked ∷ reader

abbrev passed : History
passed = Took get_past ∷ pushed

abbrev again : History
again = Drawn 1 5 ∷ Took commit_low ∷ passed

puts_run : IsWorldRun [] puts
puts_run = (
  (((tt, omega arith), (λ e. (cc (e)), refl)), omega arith),
  record {
    begun = refl;
    unanswered = refl;
    once = refl;
    some = λ e. (cc (e));
    distinct = (refl, tt);
    drew = inl (refl, refl, refl);
  },
)

put_prewrites : MayTake [] puts prewrite_put
put_prewrites = record {
  region = omega arith;
  allowed = record {
    of = put;
    stands = refl;
    mutation = refl;
    primary = refl;
    mode = refl;
    max_commit = refl;
    floor =
        refl;
    ttl = refl;
    others = refl;
  };
  holds = refl;
  loaded = upto_last puts;
  answers = inr (
    λ h. omega arith,
    inr (
      λ h. omega arith,
      inr (
        λ lock own. (cc (own.stands)),
        inr (
          unrolled 1,
          inr (
            λ c own. (cc (own.stands)),
            inr (λ lock e. (cc (e)), inr (λ some. (cc (some.stands)), inr (λ ins. ins.0, inr (λ e. (cc (e)), refl)))),
          ),
        ),
      ),
    ),
  );
}

reader_run : IsWorldRun [] reader
reader_run = (((((puts_run, put_prewrites), omega arith), omega arith), (λ e. (cc (e)), refl)))

blocked : MayTake [] reader get_blocked
blocked = record {
  region = omega arith;
  allowed = λ t within. absurd (none t within);
  holds = refl;
  loaded = upto_last reader;
  answers = inr (
    λ h. omega arith,
    inr (
      λ h. omega arith,
      inl (locked_at 2, record { stands = refl; visible = tt; below = omega arith; met = none 1 }, refl),
    ),
  );
}

pushing : MayTake [] (Took get_blocked ∷ reader) pushes
pushing = record {
  region = omega arith;
  allowed = record { primary = refl; forced = λ e. (cc (e)) };
  holds = refl;
  loaded = upto_last (Took get_blocked ∷ reader);
  answers = inr (
    λ h. omega arith,
    inr (
      λ h. omega arith,
      inl (
        locked_at 2,
        record { stands = refl; own = refl },
        inr (λ both. (cc (both.0)), inr (λ low. omega (arith, low), inl (omega arith, refl))),
      ),
    ),
  );
}

one_only : (t : ℕ) → Contains (1 ∷ []) t → 1 ≡ t
one_only t c = go c.0 c.1 c.2
  where
    go : (n : ℕ) → n < 1 → slice_index_or (1 ∷ []) n t ≡ t → 1 ≡ t
    go zero low e = e
    go (suc n) low e = absurd (omega (arith, low))

was_shown : MayPass pushed 4 1
was_shown = inr (inr (
  5,
  record {
    by = pushes;
    among = inl refl;
    info = info_of a (locked_at 5);
    told = (0, omega arith, refl);
    primary =
        refl;
    own = refl;
    min = refl;
  },
  omega arith,
))

passes : MayTake [] pushed get_past
passes = record {
  region = omega arith;
  allowed = λ t within. subst (MayPass pushed 4) (one_only t within) was_shown;
  holds = refl;
  loaded = upto_last pushed;
  answers = inr (
    λ h. omega arith,
    inr (
      λ h. omega arith,
      inr (
        λ lock b. b.met (0, omega arith, ap (λ (o : Option Lock). start_of o) b.stands),
        (None, refl, λ v f. (cc (f.stands))),
      ),
    ),
  );
}

expires : MayTake [] passed commit_low
expires = record {
  region = omega arith;
  allowed = inr (decides passed (Put x) 3 _ refl refl refl refl refl (omega arith));
  holds = refl;
  loaded = upto_last passed;
  answers = inr (λ h. omega arith, inl (locked_at 5, record { stands = refl; own = refl }, inl (omega arith, refl)));
}

commits_high : MayTake [] again commit_high
commits_high = record {
  region = omega arith;
  allowed = inr (decides again (Put x) 5 _ refl refl refl refl refl (omega arith));
  holds = refl;
  loaded = upto_last again;
  answers = inr (
    λ h. omega arith,
    inl (
      locked_at 5,
      record { stands = refl; own = refl },
      inr (λ low. omega (arith, low), inr (λ rec y. (cc (y.stands)), refl)),
    ),
  );
}

-- a reader at 4 passes the pushed lock, so its transaction does not commit at 3, but at 5
pub push_then_pass : IsWorldRun [] (Took commit_high ∷ again)
push_then_pass = ((((((reader_run, blocked), pushing), passes), expires), omega arith), commits_high)

pub shadow_of_push : shadow (Took commit_high ∷ again) ≡ step.Commit 1 5 ∷ step.Draw 5 ∷ step.Read a 4 None
    ∷ step.Begin 4 ∷ step.Draw 4 ∷ step.Draw 3 ∷ step.Declare 1 put.changes ∷ step.Draw 2 ∷ step.Begin 1 ∷ step.Draw 1
    ∷ []
shadow_of_push = refl

pub pushes_minimum : Happens PushesMinimum
pushes_minimum = (
  [],
  Took get_blocked ∷ reader,
  pushes,
  ((reader_run, blocked), pushing),
  record {
    b = _;
    asked = refl;
    before = locked_at 2;
    was = refl;
    after = locked_at 5;
    is = refl;
    raised = omega arith;
  },
)

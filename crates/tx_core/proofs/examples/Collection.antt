-- A collection after which a read below it is refused, and one at the safe point reads
-- what it read before.
use Rattle.std.proofs.Common.{◌≡◌, ℕ, ◌<◌, ◌≤◌, inl, inr, [], ◌∷◌, Some, None, refl, sym, subst, arith}
use Rattle.tx_plan.specs.declared.body.Body.TheVariants.{Get, RaiseSafe, Collect}
use Rattle.tx_plan.specs.declared.answer.Answer.TheVariants.{Found, Raised, Collected, BelowSafePoint}
use Rattle.tx_core.specs.declared.event.Taken.{Taken}
use Rattle.tx_core.specs.declared.event.Event.TheVariants.{Took}
use Rattle.tx_core.specs.Histories.{History}
use Rattle.tx_core.specs.Worlds.{IsWorldRun, MayTake}
use Rattle.tx_core.proofs.seats.Stays.{upto_last}
use Rattle.tx_core.proofs.examples.Words.{a, x, none}
use Rattle.tx_types.specs.declared.lock.LockInfo.{LockInfo}
use Rattle.tx_plan.specs.Cells.{CommitRecord, CommitOf}
use Rattle.tx_types.specs.Keys.{IsVisible}
use Rattle.tx_plan.specs.cases.LocksBelow.{IsLockBelow}
use Rattle.tx_core.specs.Histories.{left}
use Rattle.tx_core.proofs.Basics.{key_test}
use Rattle.tx_core.proofs.examples.MarkedRollback.{commit_first, roll_second, both_declared, both_ok, rolls_second, commits_first}
use Rattle.tx_core.specs.Happens.{Happens, ReadsBesideCollection}

abbrev committed_run : History
committed_run = Took commit_first ∷ Took roll_second ∷ both_declared

abbrev raise : Taken
raise = record { region = 0; body = RaiseSafe record { region = 0; safe = 4 }; loaded = 4; answer = Raised }

abbrev collect : Taken
collect = record { region = 0; body = Collect record { region = 0; safe = 4 }; loaded = 4; answer = Collected 0 0 }

abbrev get_low : Taken
get_low = record {
  region = 0;
  body = Get record { key = a; at = 3; bypass = [] };
  loaded = 4;
  answer =
      BelowSafePoint 4;
}

abbrev get_high : Taken
get_high = record { region = 0; body = Get record { key = a; at = 4; bypass = [] }; loaded = 4; answer = Found x }

raises : MayTake [] committed_run raise
raises = record {
  region = omega arith;
  allowed = tt;
  holds = refl;
  loaded = upto_last committed_run;
  answers =
      inr (λ h. omega (arith, h), inr (λ h. omega (arith, h), refl));
}

abbrev raised_run : History
raised_run = Took raise ∷ committed_run

collects : MayTake [] raised_run collect
collects = record {
  region = omega arith;
  allowed = tt;
  holds = refl;
  loaded = upto_last raised_run;
  answers = inr (
    λ other. other refl,
    inr (
      λ some. unlocked some.0 some.1,
      (0, 0, refl),
    ),
  );
}
  where
    unlocked : (info : LockInfo) → IsLockBelow (left raised_run 0).cells 4 info → ⊥
    unlocked info is = elim (key_test a info.key) [
      | inl e ↦ (let at : ((left raised_run 0).cells a).lock ≡ Some is.lock =
          subst (λ j. ((left raised_run 0).cells j).lock ≡ Some is.lock) (sym e.1) is.stands in cc (at))
      | inr e ↦ (let at : None ≡ Some is.lock = rw e.0 at is.stands in cc (at))
    ]

abbrev collected_run : History
collected_run = Took collect ∷ raised_run

reads_low : MayTake [] collected_run get_low
reads_low = record {
  region = omega arith;
  allowed = λ t within. absurd (none t within);
  holds = refl;
  loaded =
      upto_last collected_run;
  answers = inl (omega arith, refl);
}

reads_high : MayTake [] (Took get_low ∷ collected_run) get_high
reads_high = record {
  region = omega arith;
  allowed = λ t within. absurd (none t within);
  holds = refl;
  loaded = upto_last (Took get_low ∷ collected_run);
  answers = inr (
    λ h. omega (arith, h),
    inr (
      λ h. omega (arith, h),
      inr (
        λ lock b. (cc (b.stands)),
        (Some x, refl, record { at = 3; rec = _; stands = refl; puts = refl; upto = omega arith; newest = only }),
      ),
    ),
  );
}
  where
    only : (c : ℕ) (rec : CommitRecord) → ((left collected_run 0).cells a).write c ≡ Some (CommitOf rec)
        → IsVisible rec.mutation → 3 < c → c ≤ 4 → ⊥
    only c rec e seen low high =
        (let four : 4 ≡ c = omega (arith, low, high) in
        (let at : ((left collected_run 0).cells a).write 4 ≡ Some (CommitOf rec) =
        subst (λ n. ((left collected_run 0).cells a).write n ≡ Some (CommitOf rec)) (sym four) e in cc (at)))

pub collection_refuses_reads_below : IsWorldRun [] (Took get_high ∷ Took get_low ∷ collected_run)
collection_refuses_reads_below = ((((rollback_committed, raises), collects), reads_low), reads_high)
  where
    rollback_committed : IsWorldRun [] (Took commit_first ∷ Took roll_second ∷ both_declared)
    rollback_committed = ((both_ok, rolls_second), commits_first)

pub reads_beside_collection : Happens ReadsBesideCollection
reads_beside_collection = (
  [],
  Took get_low ∷ collected_run,
  get_high,
  collection_refuses_reads_below,
  record {
    b = _;
    asked = refl;
    found = x;
    answer = refl;
    collected = refl;
    low = get_low;
    before = inl refl;
    refused = (refl, refl);
  },
)

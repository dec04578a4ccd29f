-- A scan meets a lock that is below its timestamp.
use Rattle.std.proofs.Common.{◌&&◌, inl, inr, [], ◌∷◌, IsTrue, refl, arith}
use Rattle.std.proofs.lemmas.Bool.{and_parts}
use Rattle.tx_types.specs.declared.key.Key.{Key}
use Rattle.tx_types.specs.declared.mutation.Mutation.TheVariants.{Put}
use Rattle.tx_types.specs.declared.mutation.Mode.TheVariants as mode
use Rattle.tx_types.specs.Keys.{key_le, key_lt}
use Rattle.tx_plan.proofs.KeyOrder.{lt_itself, le_lt}
use Rattle.tx_plan.specs.declared.body.Scan as scan_body
use Rattle.tx_plan.specs.declared.body.Body.TheVariants.{Scan}
use Rattle.tx_plan.specs.declared.answer.Answer.TheVariants.{Prewritten, KeyIsLocked}
use Rattle.tx_plan.specs.Cells.{Lock, info_of}
use Rattle.tx_core.specs.declared.event.Taken.{Taken}
use Rattle.tx_core.specs.declared.event.Event.TheVariants.{Drawn, Took}
use Rattle.tx_core.specs.Histories.{History}
use Rattle.tx_core.specs.Worlds.{IsWorldRun, MayTake}
use Rattle.tx_core.proofs.seats.Stays.{upto_last}
use Rattle.tx_core.proofs.examples.Words.{a, b, x, none}
use Rattle.tx_core.proofs.examples.OneKey.{begins, lock_key, begins_run, locks}
use Rattle.tx_core.specs.Happens.{Happens, ScanMeetsLock}

abbrev lock : Lock
lock = record { mutation = Put x; mode = mode.TwoPhase; secondaries = []; start = 1; min = 2; ttl = 10; primary = a }

abbrev range : scan_body.Scan
range = record { from = a; to = b; at = 3; limit = 2; bypass = [] }

abbrev pub scan : Taken
scan = record { region = 0; body = Scan range; loaded = 3; answer = KeyIsLocked (info_of a lock) }

abbrev pub locked : History
locked = Drawn 2 3 ∷ Took (lock_key 1 (Put x) (Prewritten 0)) ∷ begins 1 (Put x) []

locked_run : IsWorldRun [] locked
locked_run = (
  (
    begins_run 1 (Put x) [] tt (omega arith) refl refl refl,
    locks (begins 1 (Put x) []) 1 (Put x) refl refl refl refl (λ c rec e. (cc (e))) refl (λ fresh. absurd fresh.0),
  ),
  omega arith,
)

-- no key of the range lies before a
none_before : (k : Key) → IsTrue (key_le a k && key_lt k a) → ⊥
none_before k both =
    let parts = and_parts (key_le a k) (key_lt k a) both in
    lt_itself a (le_lt a k a parts.0 parts.1)

meets : MayTake [] locked scan
meets = record {
  region = omega arith;
  allowed = λ t within. absurd (none t within);
  holds = λ k within. refl;
  loaded = upto_last locked;
  answers = inr (
    λ h. omega (arith, h),
    inr (
      λ h. omega (arith, h),
      inl record {
        key = a;
        lock = lock;
        rows = [];
        answer = refl;
        inside = refl;
        blocks = record { stands = refl; visible = tt; below = omega arith; met = none 1 };
        before = record {
          rising = tt;
          inside = λ k v e. absurd (cc (e));
          free = λ k lock within blocks. absurd (none_before k within);
          read = λ k within. absurd (none_before k within);
        };
        below = omega arith;
      },
    ),
  );
}

pub scan_meets_lock : IsWorldRun [] (Took scan ∷ locked)
scan_meets_lock = (locked_run, meets)

pub scan_meets : Happens ScanMeetsLock
scan_meets = ([], locked, scan, scan_meets_lock, record { b = range; asked = refl; info = _; answer = refl })

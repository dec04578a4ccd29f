-- How many requests each call sends.
use Rattle.std.proofs.Common.{◌≡◌, ◌<◌, ◌≤◌, ◌+◌, ◌-◌, ◌*◌, inl, inr, ℕ, zero, suc, List, [], ◌∷◌, ◌++◌, length, nat_lt, Option, Some, None, Result, Ok, Err, refl, sym, subst, arith, ◌&&◌, cond, Bool, true, false, ap}
use Rattle.std.proofs.Math.Nat.{suc-mul}
use Rattle.std.proofs.lemmas.Bool.{cases_Bool}
use Rattle.tx_types.specs.declared.key.Key.{Key}
use Rattle.tx_types.specs.declared.fault.Fault.{Fault}
use Rattle.tx_types.specs.declared.lock.LockInfo.{LockInfo}
use Rattle.tx_types.specs.declared.mutation.Fate.{Fate}
use Rattle.tx_types.specs.declared.mutation.Fate.TheVariants as fate
use Rattle.tx_types.specs.declared.mutation.KeyValue.{KeyValue}
use Rattle.tx_types.specs.declared.mutation.Mode.{Mode}
use Rattle.tx_types.specs.declared.mutation.Mode.TheVariants.{TwoPhase, Async}
use Rattle.tx_types.specs.declared.mutation.Mutation.{Mutation}
use Rattle.tx_types.specs.declared.mutation.Mutation.TheVariants as mutation
use Rattle.tx_types.specs.Keys.{key_lt}
use Rattle.tx_plan.specs.declared.answer.Answer.{Answer}
use Rattle.tx_plan.specs.declared.answer.Answer.TheVariants as answer
use Rattle.tx_transaction.specs.declared.state.Due.{Due}
use Rattle.tx_transaction.specs.declared.state.Miss.{Miss}
use Rattle.tx_transaction.specs.declared.state.Phase.{Phase}
use Rattle.tx_transaction.specs.Buffers.{buffered}
use Rattle.tx_transaction.specs.Returns.{Response}
use Rattle.tx_transaction.specs.Sessions.{SessionState, after_read}
use Rattle.tx_client.specs.declared.resolved.Status.{Status}
use Rattle.tx_client.specs.declared.resolved.Status.TheVariants as status
use Rattle.tx_client.specs.declared.resolved.WaitCause.TheVariants as cause
use Rattle.tx_client.specs.Walks.{Walk, then_walk, due_walk, heartbeat_walk, get_by, get_walk, lesser, greater, part_by, part_walk, scan_after, scan_from, scan_walk}
use Rattle.tx_resolve.specs.Resolution.{is_over, lets_pass, is_async, rests_by, standing_by, primary_by, settle_walk, other_by, further, others_walk, after_forced, forced_walk, after_others, after_primary, resolve_walk}
use Rattle.tx_resolve.specs.BlockedReads.{read_walk}
use Rattle.tx_resolve.specs.declared.collector.Counts.{Counts}
use Rattle.tx_resolve.specs.Collection.{on_ok, in_regions, listed_by, raise_walk, locks_walk, clear_walk, collect_walk, raises_walk, clears_walk, collects_walk, gc_walk}
use Rattle.tx_progress.specs.Requests.{AtMost, AnyResponse, Lists}
use Rattle.tx_progress.proofs.WalkCounts.{at_most, few_then}

one : 0 < 1
one = omega arith

-- ---- a session

pub phases_few : (s : SessionState) (x : Phase) (due : Option Due) → AtMost AnyResponse 1 (due_walk s x due)
phases_few s x None = tt
phases_few s x (Some due) = ((one, λ c so. tt), tt)

pub heartbeat_few : (s : SessionState) (ttl : ℕ) → AtMost AnyResponse 1 (heartbeat_walk s ttl)
heartbeat_few s ttl = ((one, λ c so. tt), tt)

get_few_by : (s : SessionState) (k : Key) (o : Option Mutation) → AtMost AnyResponse 1 (get_by s k o)
get_few_by s k (Some (mutation.Put v)) = (tt, tt)
get_few_by s k (Some (mutation.Insert v)) = (tt, tt)
get_few_by s k (Some mutation.Delete) = tt
get_few_by s k _ = ((one, λ c so. tt), tt)

pub get_few : (s : SessionState) (k : Key) → AtMost AnyResponse 1 (get_walk s k)
get_few s k = get_few_by s k (buffered s.buffer k)

-- ---- a scan

-- what follows the answer to the read of a part
answer_few : (s : SessionState) (limit : ℕ) (rows : List KeyValue) (n : ℕ)
    (on : SessionState → List KeyValue → Walk (SessionState × Result Answer Miss))
    → ((t : SessionState) (all : List KeyValue) → AtMost AnyResponse n (on t all)) → (c : Response)
    → AtMost AnyResponse (n + 1 - 1) (scan_after (after_read s c) (part_by limit rows c) on)
answer_few s limit rows n on few (Ok (answer.Rows found)) =
    elim (cases_Bool (nat_lt (length (rows ++ found)) limit)) [
      | inl e ↦ rw e (at_most AnyResponse n (n + 1 - 1) (on _ _) (omega arith) (few _ _))
      | inr e ↦ rw e tt
    ]
answer_few s limit rows n on few _ = tt

part_few : (s : SessionState) (from to : Key) (limit : ℕ) (rows : List KeyValue) (n : ℕ)
    (on : SessionState → List KeyValue → Walk (SessionState × Result Answer Miss))
    → ((t : SessionState) (all : List KeyValue) → AtMost AnyResponse n (on t all))
    → AtMost AnyResponse (n + 1) (then_walk (part_walk s from to limit rows) (λ x. scan_after x.0 x.1 on))
part_few s from to limit rows n on few =
    elim (cases_Bool (key_lt from to)) [
      | inl e ↦ rw e ((omega arith, λ c so. answer_few s limit rows n on few c), tt)
      | inr e ↦ rw e (at_most AnyResponse n (n + 1) (on s rows) (omega arith) (few s rows), tt)
    ]

from_few : (from to : Key) (limit : ℕ) (low : Key) (bounds : List Key) (s : SessionState) (rows : List KeyValue)
    → AtMost AnyResponse (length bounds + 1) (scan_from from to limit low bounds s rows)
from_few from to limit low [] s rows =
    at_most AnyResponse (0 + 1) (length {A = Key} [] + 1) (scan_from from to limit low [] s rows) (omega arith)
    (part_few s (greater from low) to limit rows 0 _ (λ t all. tt))
from_few from to limit low (bound ∷ bounds) s rows =
    at_most AnyResponse (length bounds + 1 + 1) (length (bound ∷ bounds) + 1)
    (scan_from from to limit low (bound ∷ bounds) s rows) (omega arith)
    (part_few s (greater from low) (lesser to bound) limit rows (length bounds + 1) _
    (from_few from to limit bound bounds))

pub scan_few : (s : SessionState) (bounds : List Key) (from to : Key) (limit : ℕ)
    → AtMost AnyResponse (length bounds + 1) (scan_walk s bounds from to limit)
scan_few s bounds from to limit = from_few from to limit from bounds s []

-- ---- a resolver

module _ (locks most : ℕ) where
  settle_few : (met : LockInfo) (end : Fate) (n : ℕ) → 1 ≤ n → AtMost (Lists locks most) n (settle_walk met end)
  settle_few met end n le = ((omega (arith, le), λ c so. tt), tt)

  -- ---- a check that was forced

  rests_forced : (met info : LockInfo) (o : Option Status)
      → AtMost (Lists locks most) 1 (after_forced met (standing_by info o))
  rests_forced met info None = tt
  rests_forced met info (Some found) = tt

  after_forced_few : (met : LockInfo) (who : _) (c : Response)
      → AtMost (Lists locks most) 1 (after_forced met (primary_by who c))
  after_forced_few met who (Ok (answer.Locked info)) = rests_forced met info (rests_by who info)
  after_forced_few met who (Ok (answer.Committed c)) = settle_few met (fate.Committed c) 1 (omega arith)
  after_forced_few met who (Ok answer.RolledBack) = settle_few met fate.Aborted 1 (omega arith)
  after_forced_few met who _ = tt

  forced_few : (met : LockInfo) (who : _) (n : ℕ) → 2 ≤ n → AtMost (Lists locks most) n (forced_walk met who)
  forced_few met who n le = (
    (
      omega (arith, le),
      λ c so. at_most (Lists locks most) 1 (n - 1) (after_forced met (primary_by who c)) (omega (arith, le))
          (after_forced_few met who c),
    ),
    tt,
  )

  -- ---- the other keys

  module _ (met : LockInfo) (n : ℕ) (le : 2 ≤ n) where
    mode_few : (who : _) (info : LockInfo) (least : ℕ) (more : ℕ → Walk _)
        → ((least : ℕ) → AtMost (Lists locks most) n (then_walk (more least) (after_others met who)))
        → (m : Mode) → info.mode ≡ m
        → AtMost (Lists locks most) n
        (then_walk (further least more (other_by (Ok (answer.Locked info)))) (after_others met who))
    mode_few who info least more few TwoPhase e = rw e (forced_few met who n le)
    mode_few who info least more few Async e = rw e (few _)

    other_few : (who : _) (least : ℕ) (more : ℕ → Walk _)
        → ((least : ℕ) → AtMost (Lists locks most) n (then_walk (more least) (after_others met who))) → (c : Response)
        → AtMost (Lists locks most) n (then_walk (further least more (other_by c)) (after_others met who))
    other_few who least more few (Ok (answer.Locked info)) =
        mode_few who info least more few info.mode refl
    other_few who least more few (Ok (answer.Committed c)) =
        settle_few met (fate.Committed c) n (omega (arith, le))
    other_few who least more few (Ok answer.Missing) = settle_few met fate.Aborted n (omega (arith, le))
    other_few who least more few _ = tt

  others_few : (met : LockInfo) (who : _) (keys : List Key) (least n : ℕ) → length keys + 2 ≤ n
      → AtMost (Lists locks most) n (then_walk (others_walk met.start keys least) (after_others met who))
  others_few met who [] least n le = settle_few met (fate.Committed least) n (omega (arith, le))
  others_few met who (key ∷ keys) least n le = (
    (
      omega (arith, le),
      λ c so. other_few met (n - 1) (omega (arith, le)) who least (others_walk met.start keys)
          (λ most. others_few met who keys most (n - 1) (omega (arith, le))) c,
    ),
    tt,
  )

  -- ---- the primary

  standing_few : (met : LockInfo) (who : _) (info : LockInfo) → length info.secondaries ≤ most → (o : Option Status)
      → AtMost (Lists locks most) (most + 2) (after_primary met who (standing_by info o))
  standing_few met who info few None = others_few met who info.secondaries info.min (most + 2) (omega (arith, few))
  standing_few met who info few (Some found) = tt

  two_phase_few : (met : LockInfo) (who : _) (info : LockInfo) (b : Bool) (x y : Status)
      → AtMost (Lists locks most) (most + 2) (after_primary met who (standing_by info (cond b (Some x) (Some y))))
  two_phase_few met who info true x y = tt
  two_phase_few met who info false x y = tt

  primary_few : (met : LockInfo) (who : _) (info : LockInfo) → (info.mode ≡ Async → length info.secondaries ≤ most)
      → (m : Mode) → info.mode ≡ m
      → AtMost (Lists locks most) (most + 2) (after_primary met who (standing_by info (rests_by who info)))
  primary_few met who info few Async e = standing_few met who info (few e) (rests_by who info)
  primary_few met who info few TwoPhase e =
      subst (λ o. AtMost (Lists locks most) (most + 2) (after_primary met who (standing_by info o)))
      (sym (ap (λ m. cond (lets_pass who info.min) (Some (status.Pushed info.min))
      (cond (is_async m && is_over who info) None (Some (status.Waiting cause.Live)))) e))
      (two_phase_few met who info (lets_pass who info.min) (status.Pushed info.min) (status.Waiting cause.Live))

  pub after_primary_few : (met : LockInfo) (who : _) (c : Response) → Lists locks most c
      → AtMost (Lists locks most) (most + 2) (after_primary met who (primary_by who c))
  after_primary_few met who (Ok (answer.Locked info)) few =
      primary_few met who info few info.mode refl
  after_primary_few met who (Ok (answer.Committed c)) few =
      settle_few met (fate.Committed c) (most + 2) (omega arith)
  after_primary_few met who (Ok answer.RolledBack) few =
      settle_few met fate.Aborted (most + 2) (omega arith)
  after_primary_few met who _ few = tt

  resolve_few : (met : LockInfo) (who : _) → AtMost (Lists locks most) (most + 3) (resolve_walk met who)
  resolve_few met who = (
    (
      omega arith,
      λ c so. at_most (Lists locks most) (most + 2) (most + 3 - 1) (after_primary met who (primary_by who c))
          (omega arith) (after_primary_few met who c so),
    ),
    tt,
  )

  pub read_few : (met : LockInfo) (at now : ℕ) → AtMost (Lists locks most) (most + 3) (read_walk met at now)
  read_few met at now = search (resolve_few)

  -- ---- a collector

  resolve_then : {R : Type 0} (met : LockInfo) (who : _) (n : ℕ) (next : Status → Walk R)
      → ((found : Status) → AtMost (Lists locks most) n (next found))
      → AtMost (Lists locks most) (most + 3 + n) (then_walk (resolve_walk met who) next)
  resolve_then met who n next few =
      few_then (Lists locks most) (most + 3) n (resolve_walk met who) next (resolve_few met who) few

  first_few : (info : LockInfo) (infos : List LockInfo) (n : ℕ)
      → ((found : Status) → AtMost (Lists locks most) n (locks_walk infos))
      → AtMost (Lists locks most) (most + 3 + n) (locks_walk (info ∷ infos))
  first_few info infos n few = search (resolve_then, few)

  locks_few : (infos : List LockInfo) (n : ℕ) → length infos ≤ n
      → AtMost (Lists locks most) (n * (most + 3)) (locks_walk infos)
  locks_few [] n le = tt
  locks_few (info ∷ infos) zero le = absurd (omega (arith, le))
  locks_few (info ∷ infos) (suc n) le =
      at_most (Lists locks most) (most + 3 + n * (most + 3)) (suc n * (most + 3)) (locks_walk (info ∷ infos))
      (omega (arith, suc-mul n (most + 3)))
      (first_few info infos (n * (most + 3)) (λ found. locks_few infos n (omega (arith, le))))

  on_ok_few : {A B : Type 0} (n : ℕ) (next : A → Walk (Result B Fault))
      → ((a : A) → AtMost (Lists locks most) n (next a)) → (r : Result A Fault)
      → AtMost (Lists locks most) n (on_ok next r)
  on_ok_few n next few (Ok a) = few a
  on_ok_few n next few (Err why) = tt

  regions_few : {A : Type 0} (each : ℕ → A → Walk (Result A Fault)) (m : ℕ)
      → ((n : ℕ) (a : A) → AtMost (Lists locks most) m (each n a)) → (count n : ℕ) (a : A)
      → AtMost (Lists locks most) (count * m) (in_regions each count n a)
  regions_few each m few zero n a = tt
  regions_few each m few (suc count) n a =
      at_most (Lists locks most) (m + count * m) (suc count * m) (in_regions each (suc count) n a)
      (omega (arith, suc-mul count m))
      (few_then (Lists locks most) m (count * m) (each n a) (on_ok (in_regions each count (suc n))) (few n a)
      (on_ok_few (count * m) (in_regions each count (suc n)) (λ b. regions_few each m few count (suc n) b)))

  raise_few : (safe n : ℕ) → AtMost (Lists locks most) 1 (raise_walk safe n)
  raise_few safe n = (one, λ c so. tt)

  collect_few : (safe n : ℕ) (counts : Counts) → AtMost (Lists locks most) 1 (collect_walk safe n counts)
  collect_few safe n counts = (one, λ c so. tt)

  listed_few : (n : ℕ) → locks * (most + 3) ≤ n → (c : Response) → Lists locks most c
      → AtMost (Lists locks most) n (on_ok locks_walk (listed_by c))
  listed_few n le (Ok (answer.Locks infos)) few =
      at_most (Lists locks most) (locks * (most + 3)) n (locks_walk infos) le (locks_few infos locks few)
  listed_few n le _ few = tt

  clear_few : (safe n : ℕ) → AtMost (Lists locks most) (locks * (most + 3) + 1) (clear_walk safe n)
  clear_few safe n = (omega arith, listed_few (locks * (most + 3) + 1 - 1) (omega arith))

  -- so many regions, three times
  sum_up : (r x : ℕ) → r * 1 + (r * (x + 1) + r * 1) ≤ r * (x + 3)
  sum_up zero x = omega arith
  sum_up (suc r) x = omega (arith, sum_up r x, suc-mul r 1, suc-mul r (x + 1), suc-mul r (x + 3))

  gc_by : (bounds : List Key) (safe r x : ℕ) → r ≡ length bounds + 1 → x ≡ locks * (most + 3)
      → AtMost (Lists locks most) (r * (x + 3)) (gc_walk bounds safe)
  gc_by bounds safe r x e f =
      at_most (Lists locks most) (r * 1 + (r * (x + 1) + r * 1)) (r * (x + 3)) (gc_walk bounds safe) (sum_up r x)
      (few_then (Lists locks most) (r * 1) (r * (x + 1) + r * 1) (raises_walk bounds safe)
      (on_ok (λ u. then_walk (clears_walk bounds safe) (on_ok (λ v. collects_walk bounds safe)))) raises
      (on_ok_few (r * (x + 1) + r * 1) _
      (λ u. few_then (Lists locks most) (r * (x + 1)) (r * 1) (clears_walk bounds safe)
      (on_ok (λ v. collects_walk bounds safe)) clears (on_ok_few (r * 1) _ (λ v. collects)))))
    where
      raises : AtMost (Lists locks most) (r * 1) (raises_walk bounds safe)
      raises = subst (λ m. AtMost (Lists locks most) (m * 1) (raises_walk bounds safe)) (sym e)
          (regions_few (λ n u. raise_walk safe n) 1 (λ n u. raise_few safe n) (length bounds + 1) 0 tt)

      clears : AtMost (Lists locks most) (r * (x + 1)) (clears_walk bounds safe)
      clears = subst (λ (m : ℕ × ℕ). AtMost (Lists locks most) (m.0 * (m.1 + 1)) (clears_walk bounds safe))
          (λ j. (sym e j, sym f j))
          (regions_few (λ n u. clear_walk safe n) (locks * (most + 3) + 1) (λ n u. clear_few safe n)
          (length bounds + 1) 0 tt)

      collects : AtMost (Lists locks most) (r * 1) (collects_walk bounds safe)
      collects = subst (λ m. AtMost (Lists locks most) (m * 1) (collects_walk bounds safe)) (sym e)
          (regions_few (collect_walk safe) 1 (collect_few safe) (length bounds + 1) 0 _)

  pub gc_few : (bounds : List Key) (safe : ℕ)
      → AtMost (Lists locks most) ((length bounds + 1) * (locks * (most + 3) + 3)) (gc_walk bounds safe)
  gc_few bounds safe = gc_by bounds safe (length bounds + 1) (locks * (most + 3)) refl refl

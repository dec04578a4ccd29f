-- What a read finds by what it was answered, and where another comes before it.
use Rattle.std.proofs.Common.{◌≡◌, ◌∙◌, inl, inr, ℕ, List, Option, Result, Ok, Err, IfOk, IfErr, IsTrue, refl, sym, subst}
use Rattle.tx_types.specs.declared.key.Key.{Key}
use Rattle.tx_types.specs.declared.fault.Fault.TheVariants as fault
use Rattle.tx_types.specs.declared.value.Value.{Value}
use Rattle.tx_types.specs.declared.lock.LockInfo.{LockInfo}
use Rattle.tx_types.specs.declared.mutation.KeyValue.{KeyValue}
use Rattle.tx_types.specs.declared.mutation.Mutation.{Mutation}
use Rattle.tx_types.specs.Keys.{is_between}
use Rattle.tx_plan.specs.declared.answer.Answer.{Answer}
use Rattle.tx_plan.specs.declared.answer.Answer.TheVariants as answer
use Rattle.tx_plan.specs.declared.answer.Answer.TheVariants.{KeyIsLocked}
use Rattle.tx_core.specs.Histories.{History}
use Rattle.tx_core.specs.Worlds.{IsWorldRun}
use Rattle.tx_core.proofs.seats.Beginnings.{begins_all}
use Rattle.tx_transaction.specs.declared.state.Miss.{Miss}
use Rattle.tx_transaction.specs.declared.state.Miss.TheVariants as miss
use Rattle.tx_transaction.specs.Buffers.{Entries, buffered}
use Rattle.tx_client.specs.Calls.{Seated}
use Rattle.tx_client.specs.declared.resolved.WaitCause.{WaitCause}
use Rattle.tx_update.specs.declared.stops.Stop.{Stop}
use Rattle.tx_update.specs.declared.stops.Stop.TheVariants as stop
use Rattle.tx_update.specs.Reads.{Finds, AnswersRead, AnswersReadOn, AnswersScan, IsGetAnswer, IsScanAnswer, IsReadMiss}
use Rattle.tx_update.specs.Stops.{IsReadStop, IsStopOfRefusal, NamesKey, stop_of_miss}
use Rattle.tx_update.proofs.CallSequences.{follows_more, goes_begins}
use Rattle.tx_update.proofs.ReadReplies.{answered_on}
use Rattle.tx_update.proofs.ReadStops.{told_stops}
use Rattle.tx_embed.specs.Reads.{OnlyReads, FindsFirst, LooksAt, Gets, LooksFrom, LocksWithin, NamesWithin, Nexts}

-- what is found in each run from now on is found now
pub if_read_now : (bounds : List Key) (entered : Option Mutation) (h : History) → IsWorldRun bounds h → (start : ℕ)
    (key : Key) (r : Result Answer Miss) → IfOk r (AnswersReadOn bounds entered h start key)
    → IfOk r (AnswersRead entered h start key)
if_read_now bounds entered h run start key (Ok a) reads = reads.later h (begins_all h) run
if_read_now bounds entered h run start key (Err why) reads = tt

pub reads_more : (a b c : Seated) → OnlyReads a b → OnlyReads b c → OnlyReads a c
reads_more a b c p q = (follows_more a b c p.0 q.0, q.1 ∙ p.1)

module _ (loses : ℕ → Type 0) where
  -- why a read without an answer stops
  miss_stops : (h : History) (start : ℕ) (m : Miss) → IsReadMiss loses start m
      → IsReadStop loses h start (stop_of_miss m)
  miss_stops h start miss.Lost is = is
  miss_stops h start miss.Fault is = refl

  miss_names : (key : Key) (m : Miss) → NamesKey key (stop_of_miss m)
  miss_names key miss.Lost = tt
  miss_names key miss.Fault = tt

  -- a read of a key without an answer
  pub gets_miss : (old new : Seated) (key : Key) (m : Miss) (s : Stop) → s ≡ stop_of_miss m
      → LooksAt loses old key (Err m) new → Gets loses old key (Err s) new
  gets_miss old new key m s is (reads, answers, may, missed) = (
    reads,
    tt,
    subst (IsReadStop loses new.seat.events old.state.start) (sym is)
        (miss_stops new.seat.events old.state.start m missed),
    subst (NamesKey key) (sym is) (miss_names key m),
  )

  -- one with an answer
  pub gets_value : (old new : Seated) (key : Key) (a : Answer) (r : Result (Option Value) Stop)
      → LooksAt loses old key (Ok a) new
      → IfOk r (λ found. (entered : Option Mutation) (h : History) (start : ℕ) (k : Key)
      → AnswersRead entered h start k a → Finds entered h start k found)
      → IfErr r (λ s. (h : History) (start : ℕ) → IsGetAnswer h start key a → IsReadStop (λ _. ⊥) h start s)
      → IfErr r (NamesKey key) → Gets loses old key r new
  gets_value old new key a (Ok found) (reads, answers, may, missed) finds stops names = (
    reads,
    finds (buffered old.state.buffer key) new.seat.events old.state.start key answers,
    tt,
    tt,
  )
  gets_value old new key a (Err s) (reads, answers, may, missed) finds stops names = (
    reads,
    tt,
    told_stops loses new.seat.events old.state.start s (stops new.seat.events old.state.start may),
    names,
  )

  -- one that comes after others
  pub gets_after : (a b c : Seated) (key : Key) (r : Result (Option Value) Stop) → OnlyReads a b → Gets loses b key r c
      → Gets loses a key r c
  gets_after a b c key r p (reads, finds, stops, names) = (
    reads_more a b c p reads,
    subst (λ (n : ℕ). IfOk r (Finds (buffered a.state.buffer key) c.seat.events n key)) p.0.start
        (subst (λ (es : Entries). IfOk r (Finds (buffered es key) c.seat.events b.state.start key)) p.1 finds),
    subst (λ (n : ℕ). IfErr r (IsReadStop loses c.seat.events n)) p.0.start stops,
    names,
  )

  -- the lock that was told of still stands in the way
  pub gets_waits : (old new : Seated) (key told : Key) (info : LockInfo) (why : WaitCause) → OnlyReads old new
      → told ≡ key → IsGetAnswer old.seat.events old.state.start key (KeyIsLocked info)
      → Gets loses old key (Err (stop.Waits told why)) new
  gets_waits old new key told info why reads is (own, was) = (
    reads,
    tt,
    (
      info,
      own ∙ sym is,
      answered_on old.seat.events new.seat.events
          (goes_begins old.seat new.seat reads.0.seat) old.state.start (KeyIsLocked info) was,
    ),
    is,
  )

  -- memory was refused
  pub gets_refused : (old new : Seated) (key : Key) (s : Stop) → OnlyReads old new
      → s ≡ stop.Refused fault.OutOfMemory
      → Gets loses old key (Err s) new
  gets_refused old new key s reads is = (
    reads,
    tt,
    subst (IsReadStop loses new.seat.events old.state.start) (sym is) refl,
    subst (NamesKey key) (sym is) tt,
  )

  -- ---- the first row of a range

  miss_within : (from to : Key) (m : Miss) → NamesWithin from to (stop_of_miss m)
  miss_within from to miss.Lost = tt
  miss_within from to miss.Fault = tt

  pub nexts_miss : (old new : Seated) (from to : Key) (m : Miss) (s : Stop) → s ≡ stop_of_miss m
      → LooksFrom loses old from to (Err m) new → Nexts loses old from to (Err s) new
  nexts_miss old new from to m s is (reads, answers, may, missed, locks) = (
    reads,
    tt,
    subst (IsReadStop loses new.seat.events old.state.start) (sym is)
        (miss_stops new.seat.events old.state.start m missed),
    subst (NamesWithin from to) (sym is) (miss_within from to m),
  )

  pub nexts_row : (old new : Seated) (from to : Key) (a : Answer) (r : Result (Option KeyValue) Stop)
      → LooksFrom loses old from to (Ok a) new
      → IfOk r (λ found. (h : History) (start : ℕ) (from to : Key) → AnswersScan h start from to 1 a
      → FindsFirst h start from to found)
      → IfErr r (λ s. (h : History) (start : ℕ) → IsScanAnswer h start a → IsReadStop (λ _. ⊥) h start s)
      → IfErr r (λ s. (from to : Key) → LocksWithin from to a → NamesWithin from to s)
      → Nexts loses old from to r new
  nexts_row old new from to a (Ok found) (reads, answers, may, missed, locks) finds stops within =
      (reads, finds new.seat.events old.state.start from to answers, tt, tt)
  nexts_row old new from to a (Err s) (reads, answers, may, missed, locks) finds stops within = (
    reads,
    tt,
    told_stops loses new.seat.events old.state.start s (stops new.seat.events old.state.start may),
    within from to locks,
  )

  pub nexts_after : (a b c : Seated) (from to : Key) (r : Result (Option KeyValue) Stop) → OnlyReads a b
      → Nexts loses b from to r c → Nexts loses a from to r c
  nexts_after a b c from to r p (reads, finds, stops, within) = (
    reads_more a b c p reads,
    subst (λ (n : ℕ). IfOk r (FindsFirst c.seat.events n from to)) p.0.start finds,
    subst (λ (n : ℕ). IfErr r (IsReadStop loses c.seat.events n)) p.0.start stops,
    within,
  )

  pub nexts_waits : (old new : Seated) (from to told : Key) (info : LockInfo) (why : WaitCause) → OnlyReads old new
      → told ≡ info.key → IsScanAnswer old.seat.events old.state.start (KeyIsLocked info)
      → LocksWithin from to (KeyIsLocked info) → Nexts loses old from to (Err (stop.Waits told why)) new
  nexts_waits old new from to told info why reads is was locks = (
    reads,
    tt,
    (
      info,
      sym is,
      answered_on old.seat.events new.seat.events (goes_begins old.seat new.seat reads.0.seat)
          old.state.start (KeyIsLocked info) was,
    ),
    subst (λ (k : Key). IsTrue (is_between from to k)) (sym is) locks,
  )

  pub nexts_refused : (old new : Seated) (from to : Key) (s : Stop) → OnlyReads old new
      → s ≡ stop.Refused fault.OutOfMemory → Nexts loses old from to (Err s) new
  nexts_refused old new from to s reads is = (
    reads,
    tt,
    subst (IsReadStop loses new.seat.events old.state.start) (sym is) refl,
    subst (NamesWithin from to) (sym is) tt,
  )

-- a refusal that tells of a lock of the range stops by a key of it
pub refusal_within : (a : Answer) (s : Stop) → IsStopOfRefusal a s → (from to : Key) → LocksWithin from to a
    → NamesWithin from to s
refusal_within (KeyIsLocked info) s (inl is) from to locks = subst (NamesWithin from to) (sym is) locks
refusal_within (KeyIsLocked info) s (inr is) from to locks = subst (NamesWithin from to) (sym is) tt
refusal_within (answer.BelowSafePoint safe) s is from to locks = subst (NamesWithin from to) (sym is) tt
refusal_within (answer.FutureTimestamp last) s is from to locks = subst (NamesWithin from to) (sym is) tt
refusal_within a s is from to locks = subst (NamesWithin from to) (sym is) tt

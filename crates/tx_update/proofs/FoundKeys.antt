-- What reads of one key and of several find, now and in each run from then on.
use Rattle.std.proofs.Common.{◌≡◌, ℕ, List, [], ◌∷◌, ◌++◌, Option, Some, None, Result, Ok, Err, IfOk, IfSome, sym, subst, Vec, Global}
use Rattle.tx_types.specs.declared.key.Key.{Key}
use Rattle.tx_types.specs.declared.value.Value.{Value}
use Rattle.tx_types.specs.declared.mutation.Mutation.{Mutation}
use Rattle.tx_plan.specs.declared.answer.Answer.{Answer}
use Rattle.tx_core.specs.Histories.{History, Begins}
use Rattle.tx_core.specs.Worlds.{IsWorldRun}
use Rattle.tx_core.proofs.seats.Beginnings.{begins_all, begins_more}
use Rattle.tx_transaction.specs.Buffers.{Entries, buffered}
use Rattle.tx_transaction.specs.declared.state.Miss.{Miss}
use Rattle.tx_client.specs.Calls.{Seated}
use Rattle.tx_update.specs.declared.stops.Stop.{Stop}
use Rattle.tx_update.specs.Reads.{AnswersRead, AnswersReadOn, Finds, FindsEach, FindsEachOn, FindsOn}

-- what an answer finds, it finds in each run from then on
pub if_found_on : {E : Type 0} (bounds : List Key) (entered : Option Mutation) (known : History) (start : ℕ)
    (key : Key) (a : Answer) (r : Result (Option Value) E)
    → IfOk r (λ found. (entered : Option Mutation) (h : History) (start : ℕ) (k : Key) → AnswersRead entered h start k a
    → Finds entered h start k found)
    → AnswersReadOn bounds entered known start key a → IfOk r (FindsOn bounds entered known start key)
if_found_on bounds entered known start key a (Ok found) says reads =
    λ h begins run. says entered h start key (reads.later h begins run)
if_found_on bounds entered known start key a (Err e) says reads = tt

-- what a read was answered, it was answered after a lock was looked at that was not in its way
pub if_read_on : (bounds : List Key) (entered : Option Mutation) (start : ℕ) (key : Key)
    (response : Result Answer Miss) (old new : Seated) (r : Result (Option Answer) Stop)
    → IfOk response (AnswersReadOn bounds entered old.seat.events start key)
    → IfOk r (λ found. IfSome found (λ a. (response ≡ Ok a) × (new ≡ old)))
    → IfOk r (λ found. IfSome found (AnswersReadOn bounds entered new.seat.events start key))
if_read_on bounds entered start key response old new (Ok (Some a)) reads (same, is) =
    subst (λ (s : Seated). AnswersReadOn bounds entered s.seat.events start key a) (sym is)
    (subst (λ (x : Result Answer Miss). IfOk x (AnswersReadOn bounds entered old.seat.events start key)) same reads)
if_read_on bounds entered start key response old new (Ok None) reads same = tt
if_read_on bounds entered start key response old new (Err why) reads same = tt

-- what is found in each run is found now
pub if_found_now : {E : Type 0} (bounds : List Key) (entered : Option Mutation) (h : History) → IsWorldRun bounds h
    → (start : ℕ) (key : Key) (r : Result (Option Value) E) → IfOk r (FindsOn bounds entered h start key)
    → IfOk r (Finds entered h start key)
if_found_now bounds entered h run start key (Ok found) finds = finds h (begins_all h) run
if_found_now bounds entered h run start key (Err e) finds = tt

pub if_each_now : {E : Type 0} (bounds : List Key) (entries : Entries) (h : History) → IsWorldRun bounds h
    → (start : ℕ) (keys : List Key) (r : Result (Vec (Option Value) Global) E)
    → IfOk r (λ found. FindsEachOn bounds entries h start keys found.items)
    → IfOk r (λ found. FindsEach entries h start keys found.items)
if_each_now bounds entries h run start keys (Ok found) each = each h (begins_all h) run
if_each_now bounds entries h run start keys (Err e) each = tt

-- ---- one more value behind those of the keys before it

each_more : (entries : Entries) (h : History) (start : ℕ) (ks : List Key) (os : List (Option Value)) (k : Key)
    (o : Option Value)
    → FindsEach entries h start ks os → Finds (buffered entries k) h start k o
    → FindsEach entries h start (ks ++ k ∷ []) (os ++ o ∷ [])
each_more entries h start [] [] k o each found = (found, tt)
each_more entries h start (x ∷ ks) (y ∷ os) k o each found =
    (each.0, each_more entries h start ks os k o each.1 found)
each_more entries h start [] (y ∷ os) k o each found = absurd each
each_more entries h start (x ∷ ks) [] k o each found = absurd each

pub each_on : (bounds : List Key) (entries : Entries) (old new : History) → Begins old new → (start : ℕ)
    (ks : List Key) (os : List (Option Value)) (k : Key) (o : Option Value)
    → FindsEachOn bounds entries old start ks os → FindsOn bounds (buffered entries k) new start k o
    → FindsEachOn bounds entries new start (ks ++ k ∷ []) (os ++ o ∷ [])
each_on bounds entries old new begins start ks os k o each found h later run =
    each_more entries h start ks os k o (each h (begins_more old new h begins later) run) (found h later run)

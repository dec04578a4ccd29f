-- What each run shows at a timestamp is seen there now, and why reads there stop.
use Rattle.std.proofs.Common.{◌≡◌, ◌≤◌, arith, ℕ, List, [], ◌∷◌, ◌++◌, Option, Result, Ok, Err, IfErr, IfOk, subst, Vec, Global}
use Rattle.tx_types.specs.declared.key.Key.{Key}
use Rattle.tx_types.specs.declared.value.Value.{Value}
use Rattle.tx_machine.specs.Machine.{Sees, table_of}
use Rattle.tx_core.specs.Histories.{History, Begins}
use Rattle.tx_core.specs.Shadow.{shadow}
use Rattle.tx_core.specs.Worlds.{IsWorldRun}
use Rattle.tx_core.proofs.seats.Beginnings.{begins_all, begins_more}
use Rattle.tx_types.specs.declared.fault.Fault.TheVariants as fault
use Rattle.tx_update.specs.declared.stops.Stop.{Stop}
use Rattle.tx_update.specs.declared.stops.Stop.TheVariants as stop
use Rattle.tx_plan.specs.declared.answer.Answer.{Answer}
use Rattle.tx_transaction.specs.declared.state.Miss.{Miss}
use Rattle.tx_transaction.specs.declared.state.Miss.TheVariants.{Fault as Short}
use Rattle.tx_reader.specs.Readers.{IsKeyAnswer, ReadsOn}
use Rattle.tx_update.specs.Reads.{SeesOn}
use Rattle.tx_update.specs.Stops.{NamesKey}
use Rattle.tx_kv.specs.Views.{IsViewStop, SeesEach, SeesEachOn}

abbrev pub SeenAt : History → ℕ → Key → Option Value → Type 0
SeenAt h at k found = Sees (table_of (shadow h)).row k at found

pub seen_now : (bounds : List Key) (known : History) → IsWorldRun bounds known
    → (at : ℕ) (k : Key) (found : Option Value)
    → SeesOn bounds known at k found → SeenAt known at k found
seen_now bounds known run at k found sees = sees known (begins_all known) run

pub if_seen_now : {E : Type 0} (bounds : List Key) (known : History) → IsWorldRun bounds known
    → (at : ℕ) (k : Key) (r : Result (Option Value) E) → IfOk r (SeesOn bounds known at k) → IfOk r (SeenAt known at k)
if_seen_now bounds known run at k (Ok found) sees = seen_now bounds known run at k found sees
if_seen_now bounds known run at k (Err e) sees = tt

-- ---- several keys

-- one more value behind those of the keys before it
each_more : (h : History) (at : ℕ) (ks : List Key) (os : List (Option Value)) (k : Key) (o : Option Value)
    → SeesEach h at ks os → SeenAt h at k o → SeesEach h at (ks ++ k ∷ []) (os ++ o ∷ [])
each_more h at [] [] k o each sees = (sees, tt)
each_more h at (x ∷ ks) (y ∷ os) k o each sees = (each.0, each_more h at ks os k o each.1 sees)
each_more h at [] (y ∷ os) k o each sees = absurd each
each_more h at (x ∷ ks) [] k o each sees = absurd each

-- in each run from then on
pub each_on : (bounds : List Key) (old new : History) → Begins old new → (at : ℕ) (ks : List Key)
    (os : List (Option Value)) (k : Key) (o : Option Value) → SeesEachOn bounds old at ks os → SeesOn bounds new at k o
    → SeesEachOn bounds new at (ks ++ k ∷ []) (os ++ o ∷ [])
each_on bounds old new begins at ks os k o each sees h later run =
    each_more h at ks os k o (each h (begins_more old new h begins later) run) (sees h later run)

-- ---- why a read stops

-- of a client that had seen less
pub stops_less : (h : History) (m n at : ℕ) → m ≤ n → (s : Stop) → IsViewStop h n at s → IsViewStop h m at s
stops_less h m n at le (stop.Waits key why) is = is
stops_less h m n at le stop.BelowSafePoint is = is
stops_less h m n at le (stop.Refused (fault.FutureTimestamp last)) (from, below, was) =
    (omega (arith, le, from), below, was)
stops_less h m n at le (stop.Refused f) is = is
stops_less h m n at le s is = absurd is

pub if_stops_less : {X : Type 0} (h : History) (m n at from : ℕ) → m ≤ n → at ≡ from → (r : Result X Stop)
    → IfErr r (IsViewStop h n at) → IfErr r (IsViewStop h m from)
if_stops_less h m n at from le same (Ok x) is = tt
if_stops_less h m n at from le same (Err s) is =
    subst (λ k. IsViewStop h m k s) same (stops_less h m n at le s is)

-- ---- what a read of a key says of each run, timestamp and key, it says of one

pub found_of : {E : Type 0} (answered : Result Answer Miss) (bounds : List Key) (h : History) (at : ℕ) (key : Key)
    (r : Result (Option Value) E)
    → IfOk r (λ found. (bounds : List Key) (h : History) (at : ℕ) (key : Key) → IfOk answered (ReadsOn bounds h at key)
    → SeesOn bounds h at key found)
    → IfOk answered (ReadsOn bounds h at key) → IfOk r (SeesOn bounds h at key)
found_of answered bounds h at key (Ok found) says reads = says bounds h at key reads
found_of answered bounds h at key (Err e) says reads = tt

abbrev Says : Result Answer Miss → Stop → Type 0
Says answered s = (h : History) (seen at : ℕ) (key : Key) → IfOk answered (IsKeyAnswer h seen at key)
    → IfErr answered (λ m. m ≡ Short) → IsViewStop h seen at s × NamesKey key s

pub stops_of : {X : Type 0} (answered : Result Answer Miss) (h : History) (seen at : ℕ) (key : Key) (r : Result X Stop)
    → IfErr r (Says answered) → IfOk answered (IsKeyAnswer h seen at key) → IfErr answered (λ m. m ≡ Short)
    → IfErr r (IsViewStop h seen at)
stops_of answered h seen at key (Ok x) says may short = tt
stops_of answered h seen at key (Err s) says may short = (says h seen at key may short).0

pub names_of : {X : Type 0} (answered : Result Answer Miss) (h : History) (seen at : ℕ) (key : Key) (r : Result X Stop)
    → IfErr r (Says answered) → IfOk answered (IsKeyAnswer h seen at key) → IfErr answered (λ m. m ≡ Short)
    → IfErr r (NamesKey key)
names_of answered h seen at key (Ok x) says may short = tt
names_of answered h seen at key (Err s) says may short = (says h seen at key may short).1

pub if_each_now : {E : Type 0} (bounds : List Key) (h : History) → IsWorldRun bounds h → (at : ℕ) (keys : List Key)
    (r : Result (Vec (Option Value) Global) E) → IfOk r (λ found. SeesEachOn bounds h at keys found.items)
    → IfOk r (λ found. SeesEach h at keys found.items)
if_each_now bounds h run at keys (Ok found) each = each h (begins_all h) run
if_each_now bounds h run at keys (Err e) each = tt

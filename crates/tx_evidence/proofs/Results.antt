-- What walks come to, by what was answered on the way.
use Rattle.std.proofs.Common.{◌≡◌, ◌⊎◌, inl, inr, ℕ, zero, suc, ◌+◌, ◌-◌, ◌&&◌, nat_lt, max, Bool, true, false, cond, List, [], ◌∷◌, ◌++◌, length, Option, Some, None, Result, Ok, Err, refl, sym, ap, ◌∙◌, append_assoc, append-nil}
use Rattle.tx_types.specs.declared.key.Key.{Key}
use Rattle.tx_types.specs.declared.lock.LockInfo.{LockInfo}
use Rattle.tx_types.specs.declared.fault.Fault.{Fault}
use Rattle.tx_types.specs.declared.fault.Fault.TheVariants as fault
use Rattle.tx_types.specs.declared.mutation.KeyValue.{KeyValue}
use Rattle.tx_types.specs.declared.mutation.Mutation.{Mutation}
use Rattle.tx_types.specs.declared.mutation.Mutation.TheVariants as mutation
use Rattle.tx_types.specs.declared.mutation.Fate.{Fate}
use Rattle.tx_types.specs.declared.mutation.Fate.TheVariants as fate
use Rattle.tx_types.specs.Keys.{key_lt}
use Rattle.tx_types.specs.declared.mutation.Mode.{Mode}
use Rattle.tx_types.specs.declared.mutation.Mode.TheVariants.{TwoPhase, Async}
use Rattle.tx_plan.specs.declared.body.Body.{Body}
use Rattle.tx_plan.specs.declared.answer.Answer.{Answer}
use Rattle.tx_plan.specs.declared.answer.Answer.TheVariants as answer
use Rattle.tx_core.specs.declared.event.Event.TheVariants.{Took}
use Rattle.tx_core.specs.Histories.{History, Begins}
use Rattle.tx_core.proofs.seats.Beginnings.{begins_all, begins_more}
use Rattle.tx_core.proofs.seats.Stays.{among_on}
use Rattle.tx_transaction.specs.declared.state.Miss.{Miss}
use Rattle.tx_transaction.specs.declared.state.Phase.{Phase}
use Rattle.tx_transaction.specs.declared.state.Due.{Due}
use Rattle.tx_transaction.specs.Buffers.{buffered}
use Rattle.tx_transaction.specs.Returns.{Response, returned}
use Rattle.tx_transaction.specs.Sessions.{SessionState, read_of, scan_of, heartbeat_of, after_response, after_read}
use Rattle.tx_client.specs.declared.resolved.Status.TheVariants as status
use Rattle.tx_client.specs.declared.resolved.WaitCause.TheVariants as cause
use Rattle.tx_client.specs.Facts.{WasAnswered, RespondsSo}
use Rattle.tx_client.specs.Walks.{Walk, asks, grows, ends, then_walk, due_walk, heartbeat_walk, get_by, get_walk, enough, part_by, part_walk, scan_after, scan_from, scan_walk, greater, lesser}
use Rattle.tx_resolve.specs.declared.collector.Counts.{Counts}
use Rattle.tx_resolve.specs.Resolution.{caller_of, is_over, lets_pass, is_async, other_by, further, check_of, settle_of, standing_by, primary_by, status_of, settled_by, settle_walk, others_walk, after_forced, forced_walk, after_others, expired_walk, after_primary, resolve_walk}
use Rattle.tx_resolve.specs.BlockedReads.{read_walk}
use Rattle.tx_resolve.specs.Collection.{on_ok, in_regions, raised_by, listed_by, collected_by, raise_walk, list_walk, locks_walk, clear_walk, collect_walk, gc_walk}
use Rattle.tx_steps.specs.declared.call.Call.TheVariants as call
use Rattle.tx_steps.specs.declared.step.Step.TheVariants as step
use Rattle.tx_steps.specs.declared.delivery.Delivery.{Delivery}
use Rattle.tx_steps.specs.Steps.{Text}
use Rattle.tx_evidence.specs.Tells.{Entered, joined, IsOwn, WasRead, AllScanned, WasGiven, WasFound, TellsAnswer}
use Rattle.tx_evidence.specs.Buffers.{AllBy}
use Rattle.tx_evidence.proofs.Buffers.{ByOption, all_with, by_buffered}

-- whatever is answered on its way, this holds of what a walk comes to
abbrev pub Comes : {R : Type 0} → (History → R → Type 0) → History → Walk R → Type 0
Comes Q h (ends r) = Q h r
Comes Q h (grows more short) = Comes Q h more × Comes Q h short
Comes Q h (asks b more) = (c : Response) (l : History) → Begins h l → RespondsSo l b c → Comes Q l (more c)

pub comes_then : {A B : Type 0} (P : History → A → Type 0) (Q : History → B → Type 0) (w : Walk A) (next : A → Walk B)
    (h : History) → Comes P h w → ((l : History) (a : A) → Begins h l → P l a → Comes Q l (next a))
    → Comes Q h (then_walk w next)
comes_then P Q (ends r) next h c on = on h r (begins_all h) c
comes_then P Q (grows more short) next h c on =
    (comes_then P Q more next h c.0 on, comes_then P Q short next h c.1 on)
comes_then P Q (asks b more) next h c on = λ r l begins was.
    comes_then P Q (more r) next l (c r l begins was) (λ m a later p. on m a (begins_more h l m begins later) p)

either_comes : {R : Type 0} (Q : History → R → Type 0) (h : History) (b : Bool) (x y : Walk R) → Comes Q h x
    → Comes Q h y → Comes Q h (cond b x y)
either_comes Q h true x y p q = p
either_comes Q h false x y p q = q

abbrev pub Any : {R : Type 0} → History → R → Type 0
Any h r = Unit {0}

pub comes_any : {R : Type 0} (w : Walk R) (h : History) → Comes Any h w
comes_any (ends r) h = tt
comes_any (grows more short) h = (comes_any more h, comes_any short h)
comes_any (asks b more) h = λ c l begins was. comes_any (more c) l

-- what was answered stays so
pub answered_on : (l h : History) → Begins l h → (b : Body) (a : Answer) → WasAnswered l b a → WasAnswered h b a
answered_on l h begins b a was = record {
  by = was.by;
  among = among_on l h begins (Took was.by) was.among;
  asked = was.asked;
  told = was.told;
}

-- ---- a session's calls

-- this holds of an answer, where there is one
abbrev pub Told : (History → Answer → Type 0) → History → Result Answer Miss → Type 0
Told A h (Ok a) = A h a
Told A h (Err m) = Unit {0}

abbrev pub ToldMay : (History → Answer → Type 0) → History → Result (Option Answer) Miss → Type 0
ToldMay A h (Ok None) = Unit {0}
ToldMay A h (Ok (Some a)) = A h a
ToldMay A h (Err m) = Unit {0}

module _ (entered : Entered) (name : Text) where
  -- and its buffer is still as it was entered
  abbrev pub Keeps : {R : Type 0} → (History → R → Type 0) → History → SessionState × R → Type 0
  Keeps Q h x = AllBy (entered name) x.0.buffer × Q h x.1

  abbrev pub Kept : SessionState → Type 0
  Kept s = AllBy (entered name) s.buffer

  -- ---- what is due

  pub due_comes : (h : History) (s : SessionState) → Kept s → (x : Phase) (o : Option Due)
      → Comes (Keeps (ToldMay WasGiven)) h (due_walk s x o)
  due_comes h s all x None = (all, tt)
  due_comes h s all x (Some due) = (λ c l begins was. came l c was, (all, tt))
    where
      came : (l : History) (c : Response) → RespondsSo l due.body c
          → Keeps (ToldMay WasGiven) l (after_response s x due.index c, returned c)
      came l (Err why) was = (all_with (entered name) s.buffer due.index _ all, tt)
      came l (Ok a) was = (all_with (entered name) s.buffer due.index _ all, (due.body, was))

  pub heartbeat_comes : (h : History) (s : SessionState) → Kept s → (ttl : ℕ)
      → Comes (Keeps (ToldMay WasGiven)) h (heartbeat_walk s ttl)
  heartbeat_comes h s all ttl = (λ c l begins was. came l c was, (all, tt))
    where
      came : (l : History) (c : Response) → RespondsSo l (heartbeat_of s ttl) c
          → Keeps (ToldMay WasGiven) l (s, returned c)
      came l (Err why) was = (all, tt)
      came l (Ok a) was = (all, (heartbeat_of s ttl, was))

  -- ---- a get

  abbrev pub Got : Key → History → Answer → Type 0
  Got key h a = IsOwn entered name key a ⊎ WasRead h key a

  looks_comes : (h : History) (s : SessionState) → Kept s → (key : Key) (c : Response) → RespondsSo h (read_of s key) c
      → Keeps (Told (Got key)) h (after_read s c, c)
  looks_comes h s all key (Err why) was = (all, tt)
  looks_comes h s all key (Ok a) was = (all, inr (s.start, s.bypass, was))

  got_comes : (h : History) (s : SessionState) → Kept s → (key : Key) (o : Option Mutation)
      → ByOption (entered name) key o → Comes (Keeps (Told (Got key))) h (get_by s key o)
  got_comes h s all key None by = (λ c l begins was. looks_comes l s all key c was, (all, tt))
  got_comes h s all key (Some (mutation.Put v)) by = ((all, inl by), (all, tt))
  got_comes h s all key (Some (mutation.Insert v)) by = ((all, inl by), (all, tt))
  got_comes h s all key (Some mutation.Delete) by = (all, inl by)
  got_comes h s all key (Some mutation.Lock) by = (λ c l begins was. looks_comes l s all key c was, (all, tt))

  pub get_comes : (h : History) (s : SessionState) → Kept s → (key : Key)
      → Comes (Keeps (Told (Got key))) h (get_walk s key)
  get_comes h s all key = got_comes h s all key (buffered s.buffer key) (by_buffered (entered name) s.buffer key all)

-- ---- a scan

-- rows of scans at this timestamp
abbrev Scanned : History → ℕ → List KeyValue → Type 0
Scanned h at rows = (parts : List (List KeyValue)) × (rows ≡ joined parts) × AllScanned h at parts

pub all_scanned_on : (l h : History) → Begins l h → (at : ℕ) (parts : List (List KeyValue)) → AllScanned l at parts
    → AllScanned h at parts
all_scanned_on l h begins at [] all = tt
all_scanned_on l h begins at (rows ∷ parts) all =
    ((all.0.0, all.0.1, answered_on l h begins _ _ all.0.2), all_scanned_on l h begins at parts all.1)

all_scanned_push : (h : History) (at : ℕ) (parts : List (List KeyValue)) (rows : List KeyValue) → AllScanned h at parts
    → AllScanned h at (rows ∷ []) → AllScanned h at (parts ++ rows ∷ [])
all_scanned_push h at [] rows all one = one
all_scanned_push h at (first ∷ parts) rows all one = (all.0, all_scanned_push h at parts rows all.1 one)

joined_push : (parts : List (List KeyValue)) (rows : List KeyValue) → joined (parts ++ rows ∷ []) ≡ joined parts ++ rows
joined_push [] rows = append-nil rows
joined_push (first ∷ parts) rows = ap (λ rs. first ++ rs) (joined_push parts rows)
    ∙ sym (append_assoc first (joined parts) rows)

scanned_more : (l h : History) → Begins l h → (at : ℕ) (rows found : List KeyValue) → Scanned l at rows
    → AllScanned h at (found ∷ []) → Scanned h at (rows ++ found)
scanned_more l h begins at rows found x one = (
  x.0 ++ found ∷ [],
  ap (λ rs. rs ++ found) x.1 ∙ sym (joined_push x.0 found),
  all_scanned_push h at x.0 found (all_scanned_on l h begins at x.0 x.2) one,
)

module _ (bounds : List Key) (entered : Entered) (name : Text) (from to : Key) (limit : ℕ) (delivery : Delivery Text)
  where
    abbrev pub ScanTold : History → Answer → Type 0
    ScanTold h a = TellsAnswer bounds entered h (step.Send name (call.Scan from to limit) delivery) a

    abbrev Scans : History → SessionState × Result Answer Miss → Type 0
    Scans h x = Keeps entered name (Told ScanTold) h x

    module _ (at : ℕ) where
      -- what goes on by more rows
      abbrev GoesOn : History → (SessionState → List KeyValue → Walk (SessionState × Result Answer Miss)) → Type 0
      GoesOn h on = (s : SessionState) → AllBy (entered name) s.buffer → s.start ≡ at → (rows : List KeyValue)
          → Scanned h at rows → Comes Scans h (on s rows)

      -- whatever goes on by a part's rows, the scan does by that part
      abbrev PartOf : {A : Type 0} → (A → (SessionState → List KeyValue → Walk (SessionState × Result Answer Miss))
          → Walk (SessionState × Result Answer Miss)) → History → A → Type 0
      PartOf after h x = (on : SessionState → List KeyValue → Walk (SessionState × Result Answer Miss)) → GoesOn h on
          → Comes Scans h (after x on)

      module _ (h : History) (s : SessionState) (all : AllBy (entered name) s.buffer) (start : s.start ≡ at)
          (rows : List KeyValue) (before : Scanned h at rows) where
        enough_rows : (l : History) (all_rows : List KeyValue) → Scanned l at all_rows
            → (on : SessionState → List KeyValue → Walk (SessionState × Result Answer Miss)) → GoesOn l on
            → (t : SessionState) → AllBy (entered name) t.buffer → t.start ≡ at
            → Comes Scans l (scan_after t (enough limit all_rows) on)
        enough_rows l all_rows x on more t kept from_there = go (nat_lt (length all_rows) limit) refl
          where
            go : (b : Bool) → nat_lt (length all_rows) limit ≡ b
                → Comes Scans l (scan_after t (enough limit all_rows) on)
            go true is = rw is (more t kept from_there all_rows x)
            go false is = rw is (kept, (at, x.0, x.1, x.2))

        looked : (low high : Key) (n : ℕ) (l : History) → Begins h l → (c : Response)
            → RespondsSo l (scan_of s low high n) c
            → (on : SessionState → List KeyValue → Walk (SessionState × Result Answer Miss)) → GoesOn l on
            → Comes Scans l (scan_after (after_read s c) (part_by limit rows c) on)
        looked low high n l begins (Err why) was on more = (all, tt)
        looked low high n l begins (Ok (answer.Rows found)) was on more =
            enough_rows l (rows ++ found) (scanned_more h l begins at rows found before
            ((record { from = low; to = high; at = s.start; limit = n; bypass = s.bypass }, start, was), tt))
            on more (after_read s (Ok (answer.Rows found))) all start
        looked low high n l begins (Ok a) was on more = (all, (scan_of s low high n, was))

        part_comes : (low high : Key)
            → Comes (PartOf (λ x on. scan_after x.0 x.1 on)) h (part_walk s low high limit rows)
        part_comes low high = (
          either_comes (PartOf (λ x on. scan_after x.0 x.1 on)) h (key_lt low high) _ _
              (λ c l begins was. looked low high (limit - length rows) l begins c was)
              (λ on more. more s all start rows before),
          (λ on more. (all, tt)),
        )

      from_comes : (low : Key) (between : List Key) (h : History) (s : SessionState) → AllBy (entered name) s.buffer
          → s.start ≡ at → (rows : List KeyValue) → Scanned h at rows
          → Comes Scans h (scan_from from to limit low between s rows)
      from_comes low [] h s all start rows before =
          comes_then (PartOf (λ x on. scan_after x.0 x.1 on)) Scans (part_walk s (greater from low) to limit rows) _ h
          (part_comes h s all start rows before (greater from low) to)
          (λ l x begins p. p _ (λ t kept from_there more found. (kept, (at, found.0, found.1, found.2))))
      from_comes low (bound ∷ between) h s all start rows before =
          comes_then (PartOf (λ x on. scan_after x.0 x.1 on)) Scans
          (part_walk s (greater from low) (lesser to bound) limit rows) _ h
          (part_comes h s all start rows before (greater from low) (lesser to bound))
          (λ l x begins p. p (scan_from from to limit bound between)
          (λ t kept from_there more found. from_comes bound between l t kept from_there more found))

    pub scan_comes : (h : History) (s : SessionState) → AllBy (entered name) s.buffer
        → Comes (Keeps entered name (Told ScanTold)) h (scan_walk s bounds from to limit)
    scan_comes h s all = from_comes s.start from bounds h s all refl [] ([], refl, tt)

-- ---- resolving

-- for whom a lock is resolved
abbrev domain : {A B : Type 0} → (A → B) → Type 0
domain {A} {B} f = A

abbrev Who : Type 0
Who = domain caller_of

module _ (met : LockInfo) (who : Who) where
  settled_so : (h : History) (end : Fate) → WasAnswered h (settle_of met end) answer.Resolved
      → WasFound h (status_of end)
  settled_so h (fate.Committed c) was =
      (record { key = met.key; start = met.start; fate = fate.Committed c }, refl, was)
  settled_so h fate.Aborted was = (record { key = met.key; start = met.start; fate = fate.Aborted }, refl, was)

  settle_came : (h : History) (end : Fate) (c : Response) → RespondsSo h (settle_of met end) c
      → WasFound h (settled_by end c)
  settle_came h end (Ok answer.Resolved) was = settled_so h end was
  settle_came h end _ was = tt

  settle_comes : (h : History) (end : Fate) → Comes WasFound h (settle_walk met end)
  settle_comes h end = (λ c l begins was. settle_came l end c was, tt)

  forced_rests : (h : History) (info : LockInfo) → WasAnswered h (check_of met who true) (answer.Locked info)
      → (b d : Bool) → Comes WasFound h (after_forced met (standing_by info
      (cond b (Some (status.Pushed info.min)) (cond d None (Some (status.Waiting cause.Live))))))
  forced_rests h info was true d = (_, info, refl, was)
  forced_rests h info was false true = tt
  forced_rests h info was false false = tt

  forced_came : (h : History) (c : Response) → RespondsSo h (check_of met who true) c
      → Comes WasFound h (after_forced met (primary_by who c))
  forced_came h (Ok (answer.Locked info)) was =
      forced_rests h info was (lets_pass who info.min) (is_async info.mode && is_over who info)
  forced_came h (Ok (answer.Committed c)) was = settle_comes h (fate.Committed c)
  forced_came h (Ok answer.RolledBack) was = settle_comes h fate.Aborted
  forced_came h _ was = tt

  forced_comes : (h : History) → Comes WasFound h (forced_walk met who)
  forced_comes h = (λ c l begins was. forced_came l c was, tt)

  -- what other keys come to
  others_came : (keys : List Key) (most : ℕ) (h : History)
      → Comes (λ l o. Comes WasFound l (after_others met who o)) h (others_walk met.start keys most)
  others_came [] most h = settle_comes h (fate.Committed most)
  others_came (key ∷ keys) most h = (λ c l begins was. on l c (λ m. others_came keys m l), tt)
    where
      by_mode : (l : History) (info : LockInfo) (m : Mode) → ((n : ℕ) → Comes (λ p o. Comes WasFound p
          (after_others met who o)) l (others_walk met.start keys n)) → Comes (λ p o. Comes WasFound p
          (after_others met who o)) l (further most (others_walk met.start keys)
          (other_by (Ok (answer.Locked (record info { mode = m })))))
      by_mode l info TwoPhase more = forced_comes l
      by_mode l info Async more = more (max most info.min)

      on : (l : History) (c : Response) → ((n : ℕ) → Comes (λ p o. Comes WasFound p (after_others met who o)) l
          (others_walk met.start keys n)) → Comes (λ p o. Comes WasFound p (after_others met who o)) l
          (further most (others_walk met.start keys) (other_by c))
      on l (Ok (answer.Locked info)) more = by_mode l info info.mode more
      on l (Ok (answer.Committed c)) more = settle_comes l (fate.Committed c)
      on l (Ok answer.Missing) more = settle_comes l fate.Aborted
      on l _ more = tt

  expired_comes : (h : History) (info : LockInfo) → Comes WasFound h (expired_walk met who info)
  expired_comes h info = comes_then (λ l o. Comes WasFound l (after_others met who o)) WasFound
      (others_walk met.start info.secondaries info.min) (after_others met who) h
      (others_came info.secondaries info.min h) (λ l o begins p. p)

  rests : (h : History) (info : LockInfo) → WasAnswered h (check_of met who false) (answer.Locked info)
      → (b d : Bool) → Comes WasFound h (after_primary met who (standing_by info
      (cond b (Some (status.Pushed info.min)) (cond d None (Some (status.Waiting cause.Live))))))
  rests h info was true d = (_, info, refl, was)
  rests h info was false true = expired_comes h info
  rests h info was false false = tt

  primary_came : (h : History) (c : Response) → RespondsSo h (check_of met who false) c
      → Comes WasFound h (after_primary met who (primary_by who c))
  primary_came h (Ok (answer.Locked info)) was =
      rests h info was (lets_pass who info.min) (is_async info.mode && is_over who info)
  primary_came h (Ok (answer.Committed c)) was = settle_comes h (fate.Committed c)
  primary_came h (Ok answer.RolledBack) was = settle_comes h fate.Aborted
  primary_came h _ was = tt

  pub for_comes : (h : History) → Comes WasFound h (resolve_walk met who)
  for_comes h = (λ c l begins was. primary_came l c was, tt)

pub resolve_comes : (met : LockInfo) (at now : ℕ) (h : History) → Comes WasFound h (read_walk met at now)
resolve_comes met at now h = search (for_comes)

-- ---- collecting

-- a refusal that a region gave
abbrev pub WasRefused : History → Fault → Type 0
WasRefused h (fault.BelowSafePoint safe) = WasGiven h (answer.BelowSafePoint safe)
WasRefused h (fault.FutureTimestamp last) = WasGiven h (answer.FutureTimestamp last)
WasRefused h (fault.LocksRemain met) = WasGiven h (answer.LocksRemain met)
WasRefused h _ = Unit {0}

abbrev pub ByFault : {A : Type 0} → History → Result A Fault → Type 0
ByFault h (Ok a) = Unit {0}
ByFault h (Err f) = WasRefused h f

then_ok : {A B : Type 0} (w : Walk (Result A Fault)) (next : A → Walk (Result B Fault)) (h : History)
    → Comes ByFault h w → ((l : History) (a : A) → Comes ByFault l (next a))
    → Comes ByFault h (then_walk w (on_ok next))
then_ok {A} {B} w next h c on = comes_then ByFault ByFault w (on_ok next) h c (λ l r begins by. go l r by)
  where
    go : (l : History) (r : Result A Fault) → ByFault l r → Comes ByFault l (on_ok next r)
    go l (Ok a) by = on l a
    go l (Err f) by = by

regions_come : {A : Type 0} (each : ℕ → A → Walk (Result A Fault))
    → ((n : ℕ) (a : A) (h : History) → Comes ByFault h (each n a)) → (count n : ℕ) (a : A) (h : History)
    → Comes ByFault h (in_regions each count n a)
regions_come each on zero n a h = tt
regions_come each on (suc count) n a h = then_ok (each n a) (in_regions each count (suc n)) h (on n a h)
    (λ l b. regions_come each on count (suc n) b l)

raise_came : (h : History) (b : Body) (c : Response) → RespondsSo h b c → ByFault h (raised_by c)
raise_came h b (Ok (answer.BelowSafePoint safe)) was = (b, was)
raise_came h b (Ok (answer.FutureTimestamp last)) was = (b, was)
raise_came h b (Ok answer.Raised) was = tt
raise_came h b _ was = tt

list_came : (h : History) (b : Body) (c : Response) → RespondsSo h b c → ByFault h (listed_by c)
list_came h b (Ok (answer.Locks infos)) was = tt
list_came h b _ was = tt

collect_came : (h : History) (b : Body) (counts : Counts) (c : Response) → RespondsSo h b c
    → ByFault h (collected_by counts c)
collect_came h b counts (Ok (answer.LocksRemain info)) was = (b, was)
collect_came h b counts (Ok (answer.BelowSafePoint safe)) was = (b, was)
collect_came h b counts (Ok (answer.Collected records values)) was = tt
collect_came h b counts _ was = tt

one_lock : (info : LockInfo) (who : Who) (more : Walk (Result (Unit {0}) Fault)) (h : History)
    → ((l : History) → Comes ByFault l more) → Comes ByFault h (then_walk (resolve_walk info who) (λ status. more))
one_lock info who more h on = comes_then Any ByFault (resolve_walk info who) (λ status. more) h
    (comes_any (resolve_walk info who) h) (λ l found begins any. on l)

locks_come : (infos : List LockInfo) (h : History) → Comes ByFault h (locks_walk infos)
locks_come [] h = tt
locks_come (info ∷ infos) h =
    let more : (l : History) → Comes ByFault l (locks_walk infos) = λ l. locks_come infos l in search (one_lock, more)

pub gc_comes : (bounds : List Key) (safe : ℕ) (h : History) → Comes ByFault h (gc_walk bounds safe)
gc_comes bounds safe h =
    then_ok _ _ h (regions_come (λ n u. raise_walk safe n) (λ n u l. λ c m begins was. raise_came m _ c was)
    (length bounds
    + 1) 0 tt h)
    (λ l u. then_ok _ _ l (regions_come (λ n v. clear_walk safe n) (λ n v m. then_ok (list_walk safe n) locks_walk m
    (λ c p begins was. list_came p _ c was) (λ p infos. locks_come infos p)) (length bounds + 1) 0 tt l)
    (λ m v. regions_come (collect_walk safe) (λ n counts p. λ c q begins was. collect_came q _ counts c was)
    (length bounds + 1) 0 _ m))

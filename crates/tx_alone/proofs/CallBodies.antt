-- What the walk of a call may ask: keys of a region, and ranges that are not empty.
use Rattle.std.proofs.Common.{◌≡◌, ℕ, ◌-◌, ◌&&◌, ◌++◌, nat_lt, true, false, Bool, inl, inr, List, [], ◌∷◌, length, Option, Some, None, Result, Ok, Err, refl, sym}
use Rattle.std.specs.Prelude.{IfSome}
use Rattle.tx_types.specs.Keys.{key_lt}
use Rattle.tx_types.specs.Lengths.{is_key}
use Rattle.tx_types.specs.declared.key.Key.{Key}
use Rattle.tx_types.specs.declared.mutation.Fate.{Fate}
use Rattle.tx_types.specs.declared.mutation.Fate.TheVariants as fate
use Rattle.tx_types.specs.declared.mutation.KeyValue.{KeyValue}
use Rattle.tx_types.specs.declared.mutation.Mode.{Mode}
use Rattle.tx_types.specs.declared.mutation.Mode.TheVariants.{Async, TwoPhase}
use Rattle.tx_types.specs.declared.mutation.Mutation.{Mutation}
use Rattle.tx_types.specs.declared.mutation.Mutation.TheVariants as mutation
use Rattle.tx_plan.proofs.KeyOrder.{le_itself}
use Rattle.tx_plan.specs.Cells.{Cells}
use Rattle.tx_plan.specs.Tables.{Case, CaseOf}
use Rattle.tx_plan.specs.cases.Prewrite.{AnswersPrewrite, IsWithin}
use Rattle.tx_plan.specs.declared.answer.Answer.{Answer}
use Rattle.tx_plan.specs.declared.answer.Answer.TheVariants as answer
use Rattle.tx_plan.specs.declared.body.Body.{Body}
use Rattle.tx_plan.specs.declared.body.Body.TheVariants as request
use Rattle.tx_plan.specs.declared.body.Prewrite.{Prewrite as PrewriteBody}
use Rattle.tx_core.specs.Histories.{History}
use Rattle.tx_transaction.specs.declared.state.Due.{Due}
use Rattle.tx_transaction.specs.declared.state.Miss.{Miss}
use Rattle.tx_transaction.specs.declared.state.Phase.{Phase}
use Rattle.tx_transaction.specs.declared.state.Phase.TheVariants as phase
use Rattle.tx_transaction.specs.declared.state.Terms.{Terms}
use Rattle.tx_transaction.specs.Buffers.{buffered, first_index, not_empty}
use Rattle.tx_transaction.specs.Sessions.{SessionState, abort_by, abort_of, abort_open, can_abort, can_commit, check_at, commit_at, commit_by, commit_drawn, commit_if, due_abort, due_commit, due_prewrite, has_primary, is_declared, prewrite_at, prewrite_of, rollback_at, scan_of, after_read}
use Rattle.tx_client.specs.Walks.{Walk, asks, grows, ends, then_walk, due_walk, get_by, get_walk, greater, heartbeat_walk, enough, lesser, part_by, part_walk, scan_after, scan_from, scan_walk}
use Rattle.tx_steps.specs.declared.call.Call.{Call}
use Rattle.tx_steps.specs.declared.call.Call.TheVariants as call
use Rattle.tx_steps.specs.declared.delivery.Delivery.{Delivery}
use Rattle.tx_steps.specs.declared.step.Step.TheVariants as step
use Rattle.tx_steps.specs.Steps.{Text}
use Rattle.tx_ops.specs.Calls.{allowed_call, call_walk, read_call}
use Rattle.tx_alone.specs.Turns.{Table, AnyMinimum, IsTwoPhase, LeastMinimum}
use Rattle.tx_alone.proofs.StoreWalks.{MayAsk, AllAsk}

-- what a region may answer to a request stands in this table
abbrev pub Suits : Table → Body → Type 0
Suits May body = (h : History) (n : ℕ) (a : Answer) → AnyMinimum h n body a → May h n body a

-- a request to which the tables leave a region one answer
abbrev pub has_one : Body → Bool
has_one (request.Prewrite b) = false
has_one (request.Collect b) = false
has_one _ = true

-- where a prewrite is asked for, it suits this table
abbrev pub SuitsPrewrite : Table → SessionState → Call Text → Type 0
SuitsPrewrite May s call.Prewrite = (terms : Terms) (i : ℕ) → s.declared ≡ Some terms
    → Suits May (prewrite_of s terms i).body
SuitsPrewrite May s _ = Unit {0}

module _ (May : Table) (bounds : List Key) (suit : (body : Body) → has_one body ≡ true → Suits May body) where
  -- ---- one walk after another

  then_ask : {A B : Type 0} (w : Walk A) (next : A → Walk B) → AllAsk May bounds w
      → ((x : A) → AllAsk May bounds (next x)) → AllAsk May bounds (then_walk w next)
  then_ask (ends r) next all on = on r
  then_ask (grows more short) next all on = (then_ask more next all.0 on, then_ask short next all.1 on)
  then_ask (asks body more) next all on = (all.0, λ c. then_ask (more c) next (all.1 c) on)

  -- ---- a scan

  -- a range that is not empty lies in the region of its first key
  range_ask : (s : SessionState) (from to : Key) (limit : ℕ) → key_lt from to ≡ true
      → MayAsk May bounds (scan_of s from to limit)
  range_ask s from to limit some = record {
    memory = refl;
    placed = λ n holds. sym (holds from (λ i. le_itself from i && some i));
    suits = suit (scan_of s from to limit) refl;
  }

  -- who goes on from a state with the rows so far
  abbrev OnRows : Type 0
  OnRows = SessionState → List KeyValue → Walk (SessionState × Result Answer Miss)

  after_ask : (s : SessionState) (limit : ℕ) (rows : List KeyValue) (r : Result Answer Miss) (on : OnRows)
      → ((t : SessionState) (all : List KeyValue) → AllAsk May bounds (on t all))
      → AllAsk May bounds (scan_after s (part_by limit rows r) on)
  after_ask s limit rows (Ok (answer.Rows found)) on all = by (nat_lt (length (rows ++ found)) limit) refl
    where
      by : (b : Bool) → nat_lt (length (rows ++ found)) limit ≡ b
          → AllAsk May bounds (scan_after s (enough limit (rows ++ found)) on)
      by true e = rw e (all s (rows ++ found))
      by false e = rw e tt
  after_ask s limit rows (Ok _) on all = tt
  after_ask s limit rows (Err why) on all = tt

  part_ask : (s : SessionState) (from to : Key) (limit : ℕ) (rows : List KeyValue) (on : OnRows)
      → ((t : SessionState) (all : List KeyValue) → AllAsk May bounds (on t all))
      → AllAsk May bounds (then_walk (part_walk s from to limit rows) (λ x. scan_after x.0 x.1 on))
  part_ask s from to limit rows on all = by (key_lt from to) refl
    where
      by : (b : Bool) → key_lt from to ≡ b
          → AllAsk May bounds (then_walk (part_walk s from to limit rows) (λ x. scan_after x.0 x.1 on))
      by true e = rw e (
        (range_ask s from to (limit - length rows) e, λ c. after_ask (after_read s c) limit rows c on all),
        tt,
      )
      by false e = rw e (all s rows, tt)

  scan_ask : (from to : Key) (limit : ℕ) (low : Key) (left : List Key) (s : SessionState) (rows : List KeyValue)
      → AllAsk May bounds (scan_from from to limit low left s rows)
  scan_ask from to limit low [] s rows =
      part_ask s (greater from low) to limit rows (λ t all. ends (t, Ok (answer.Rows all))) (λ t all. tt)
  scan_ask from to limit low (bound ∷ left) s rows =
      part_ask s (greater from low) (lesser to bound) limit rows (scan_from from to limit bound left)
      (scan_ask from to limit bound left)

  -- ---- the other calls

  module _ (s : SessionState) where
    get_ask : (key : Key) (o : Option Mutation) → AllAsk May bounds (get_by s key o)
    get_ask key None = ((record { memory = refl; placed = λ n is. sym is; suits = suit _ refl }, λ c. tt), tt)
    get_ask key (Some (mutation.Put v)) = (tt, tt)
    get_ask key (Some (mutation.Insert v)) = (tt, tt)
    get_ask key (Some mutation.Delete) = tt
    get_ask key (Some mutation.Lock) =
        ((record { memory = refl; placed = λ n is. sym is; suits = suit _ refl }, λ c. tt), tt)

    heartbeat_ask : (ttl : ℕ) → AllAsk May bounds (heartbeat_walk s ttl)
    heartbeat_ask ttl = ((record { memory = refl; placed = λ n is. sym is; suits = suit _ refl }, λ c. tt), tt)

    -- what is due may be asked
    abbrev IsAsked : Option Due → Type 0
    IsAsked o = IfSome o (λ (d : Due). MayAsk May bounds d.body)

    due_ask : (x : Phase) (o : Option Due) → IsAsked o → AllAsk May bounds (due_walk s x o)
    due_ask x None may = tt
    due_ask x (Some d) may = ((may, λ c. tt), tt)

    module _ (prewrites : (terms : Terms) (i : ℕ) → s.declared ≡ Some terms
        → Suits May (prewrite_of s terms i).body) where
      prewrite_ask : (o : Option Terms) (i : Option ℕ) → s.declared ≡ o → IsAsked (prewrite_at s o i)
      prewrite_ask None i is = tt
      prewrite_ask (Some terms) None is = tt
      prewrite_ask (Some terms) (Some i) is =
          record { memory = refl; placed = λ n here. sym here; suits = prewrites terms i is }

    committed : (c : ℕ) (i : Option ℕ) → IsAsked (commit_at s c i)
    committed c None = tt
    committed c (Some i) = record { memory = refl; placed = λ n is. sym is; suits = suit _ refl }

    drawn : (o : Option ℕ) → IsAsked (commit_drawn s o)
    drawn None = tt
    drawn (Some c) = record { memory = refl; placed = λ n is. sym is; suits = suit _ refl }

    by_fate : (o : Option Fate) → IsAsked (commit_by s o)
    by_fate None = drawn s.drawn
    by_fate (Some (fate.Committed c)) = committed c (first_index phase.Commit s.buffer)
    by_fate (Some fate.Aborted) = tt

    commit_ask : (b : Bool) → IsAsked (commit_if s b)
    commit_ask false = tt
    commit_ask true = by_fate s.decision

    rolled : (i : Option ℕ) → IsAsked (rollback_at s i)
    rolled None = tt
    rolled (Some i) = record { memory = refl; placed = λ n is. sym is; suits = suit _ refl }

    checked : (i : Option ℕ) → IsAsked (check_at s i)
    checked None = tt
    checked (Some i) = record { memory = refl; placed = λ n is. sym is; suits = suit _ refl }

    by_mode : (m : Mode) → IsAsked (abort_of s m)
    by_mode TwoPhase = rolled (Some 0)
    by_mode Async = checked (first_index phase.Prewrite s.buffer)

    by_terms : (o : Option Terms) (b : Bool) → IsAsked (abort_open s o b)
    by_terms None b = tt
    by_terms (Some terms) false = tt
    by_terms (Some terms) true = by_mode terms.mode

    abort_ask : (o : Option Fate) → IsAsked (abort_by s o)
    abort_ask None = by_terms s.declared (not_empty s.buffer)
    abort_ask (Some (fate.Committed c)) = tt
    abort_ask (Some fate.Aborted) = rolled (first_index phase.Abort s.buffer)

    -- ---- the walk of a call

    read_ask : (is : Bool) (w : Walk (SessionState × Result Answer Miss)) → AllAsk May bounds w
        → AllAsk May bounds (read_call is s w)
    read_ask false w all = tt
    read_ask true w all = (then_ask w _ all (λ x. tt), tt)

    allowed_ask : (is : Bool) (w : Walk (SessionState × Result (Option Answer) Miss)) → AllAsk May bounds w
        → AllAsk May bounds (allowed_call is s w)
    allowed_ask false w all = tt
    allowed_ask true w all = then_ask w _ all (λ x. tt)

    pub call_ask : (what : Call Text) → SuitsPrewrite May s what → AllAsk May bounds (call_walk bounds s what)
    call_ask (call.Get key) prewrites = read_ask (is_key key) (get_walk s key) (get_ask key (buffered s.buffer key))
    call_ask (call.Scan from to limit) prewrites =
        read_ask (is_key from && is_key to) (scan_walk s bounds from to limit)
        (scan_ask from to limit from bounds s [])
    call_ask call.Prewrite prewrites =
        allowed_ask (is_declared s) _ (due_ask phase.Prewrite (due_prewrite s)
        (prewrite_ask prewrites s.declared (first_index phase.Prewrite s.buffer) refl))
    call_ask call.Commit prewrites =
        allowed_ask (can_commit s) _ (due_ask phase.Commit (due_commit s) (commit_ask (has_primary s)))
    call_ask call.Abort prewrites =
        allowed_ask (can_abort s) _ (due_ask phase.Abort (due_abort s) (abort_ask s.decision))
    call_ask (call.Heartbeat ttl) prewrites = allowed_ask (has_primary s) _ (heartbeat_ask ttl)

-- ---- the tables

-- whatever the minimum
pub any_suits : (body : Body) → Suits AnyMinimum body
any_suits body h n a may = may

-- what has one answer
pub least_suits : (body : Body) → has_one body ≡ true → Suits LeastMinimum body
least_suits (request.Get b) one h n a may = may
least_suits (request.Scan b) one h n a may = may
least_suits (request.Prewrite b) one h n a may = absurd (cc (one))
least_suits (request.Commit b) one h n a may = may
least_suits (request.BatchRollback b) one h n a may = may
least_suits (request.TxnHeartBeat b) one h n a may = may
least_suits (request.CheckTxnStatus b) one h n a may = may
least_suits (request.CheckSecondaryLocks b) one h n a may = may
least_suits (request.ResolveLock b) one h n a may = may
least_suits (request.RaiseSafe b) one h n a may = may
least_suits (request.LocksBelow b) one h n a may = may
least_suits (request.Collect b) one h n a may = absurd (cc (one))

-- where none of a chain of cases holds, the answer is the last one's
else_case : (C P Q R : Type 0) → (Q → R) → Case C P Q → Case C P R
else_case C P Q R on (inl x) = inl x
else_case C P Q R on (inr x) = inr (x.0, on x.1)

else_of : {X : Type 0} (C P : X → Type 0) (Q R : Type 0) → (Q → R) → CaseOf C P Q → CaseOf C P R
else_of C P Q R on (inl x) = inl x
else_of C P Q R on (inr x) = inr (x.0, on x.1)

-- an async lock is promised a minimum
abbrev Promises : PrewriteBody → Answer → (ℕ → Type 0) → Type 0
Promises b a May = (m : ℕ) × May m × Case (IsWithin b.max_commit m) (a ≡ answer.Prewritten m) (a ≡ answer.Prewritten 0)

-- a prewrite of a two-phase commit promises no minimum
two_phase : (cells : Cells) (safe loaded : ℕ) (May Then : ℕ → Type 0) (b : PrewriteBody) (a : Answer)
    → b.mode ≡ TwoPhase → AnswersPrewrite cells safe loaded May b a → AnswersPrewrite cells safe loaded Then b a
two_phase cells safe loaded May Then b a two =
    else_case _ _ _ _ (else_case _ _ _ _ (else_of _ _ _ _ (else_case _ _ _ _ (else_of _ _ _ _ (else_of _ _ _ _
    (else_case _ _ _ _ (else_case _ _ _ _ last)))))))
  where
    last : Case (b.mode ≡ Async) (Promises b a May) (a ≡ answer.Prewritten 0)
        → Case (b.mode ≡ Async) (Promises b a Then) (a ≡ answer.Prewritten 0)
    last (inl x) = absurd (cc (x.0, two))
    last (inr x) = inr x

-- a request that is such a prewrite
abbrev IsPlain : Body → Type 0
IsPlain (request.Prewrite b) = b.mode ≡ TwoPhase
IsPlain _ = ⊥

plain_suits : (body : Body) → IsPlain body → Suits LeastMinimum body
plain_suits (request.Prewrite b) two h n a may = two_phase _ _ _ _ _ b a two may
plain_suits _ two h n a may = absurd two

-- the requests of a step's walk suit the tables with the least minimum
pub call_suits : (name : Text) (what : Call Text) (delivery : Delivery Text) (s : SessionState)
    → IsTwoPhase (step.Send name what delivery) s → SuitsPrewrite LeastMinimum s what
call_suits name call.Prewrite delivery s two = λ terms i is. plain_suits (prewrite_of s terms i).body (two terms is)
call_suits name (call.Get key) delivery s two = tt
call_suits name (call.Scan from to limit) delivery s two = tt
call_suits name call.Commit delivery s two = tt
call_suits name call.Abort delivery s two = tt
call_suits name (call.Heartbeat ttl) delivery s two = tt

pub any_prewrites : (s : SessionState) (what : Call Text) → SuitsPrewrite AnyMinimum s what
any_prewrites s call.Prewrite = λ terms i is. any_suits (prewrite_of s terms i).body
any_prewrites s _ = tt

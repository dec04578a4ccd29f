-- What a session's reads find.
use Rattle.std.proofs.Common.{◌≡◌, inl, inr, ℕ, List, Option, Some, None, Result, Ok, Err, IfOk, refl, sym, ap, subst}
use Rattle.tx_types.specs.declared.key.Key.{Key}
use Rattle.tx_types.specs.declared.value.Value.{Value}
use Rattle.tx_types.specs.declared.mutation.KeyValue.{KeyValue}
use Rattle.tx_types.specs.declared.mutation.Mutation.{Mutation}
use Rattle.tx_types.specs.declared.mutation.Mutation.TheVariants as mutation
use Rattle.tx_types.specs.Keys.{AreRising, is_scanned}
use Rattle.tx_plan.specs.declared.body.Body.{Body}
use Rattle.tx_plan.specs.declared.answer.Answer.{Answer}
use Rattle.tx_plan.specs.declared.answer.Answer.TheVariants as answer
use Rattle.tx_machine.specs.Machine.{SeesRows, table_of}
use Rattle.tx_core.specs.Histories.{History, Begins}
use Rattle.tx_core.specs.Shadow.{shadow}
use Rattle.tx_core.specs.Worlds.{IsWorldRun}
use Rattle.tx_core.proofs.seats.Beginnings.{begins_all}
use Rattle.tx_journal.specs.Known.{Known}
use Rattle.tx_journal.specs.Replies.{Asked}
use Rattle.tx_journal.specs.Senders.{Reached, IsSender}
use Rattle.tx_transaction.specs.declared.state.Miss.{Miss}
use Rattle.tx_transaction.specs.declared.state.Miss.TheVariants as miss
use Rattle.tx_transaction.specs.Buffers.{buffered}
use Rattle.tx_transaction.specs.Sessions.{SessionState, read_of, after_read}
use Rattle.tx_transaction.specs.Returns.{Response}
use Rattle.tx_client.specs.Calls.{Seated}
use Rattle.tx_client.specs.Facts.{WasAnswered, RespondsSo}
use Rattle.tx_client.specs.Learns.{response_by, response_of, Learns}
use Rattle.tx_client.specs.Walks.{Sends, get_by, get_walk, scan_walk}
use Rattle.tx_client.proofs.Calls.{came_told}
use Rattle.tx_laws.specs.Scans.{scan_at}
use Rattle.tx_laws.specs.Told.{Says}
use Rattle.tx_laws.proofs.LaterReads.{answer_seen}
use Rattle.tx_laws.proofs.Scanned.{sees_whole}
use Rattle.tx_laws.specs.Rows.{AreRowsOf}
use Rattle.tx_update.specs.Reads.{Finds, AnswersRead, AnswersReadOn, AnswersScan, SeesOn, TellsPage}
use Rattle.tx_update.proofs.ReadReplies.{was_on}

-- what a call came to, a state and a result
abbrev Came : Type 0
Came = SessionState × Result Answer Miss

abbrev answered : Result Answer Miss → Answer → Answer
answered (Ok a) other = a
answered (Err why) other = other

-- a call that came to this answer came to no other
same_end : (after t : SessionState) (a b : Answer) → ◌≡◌ {A = Came} (after, Ok a) (t, Ok b) → a ≡ b
same_end after t a b e = ap (λ (x : Came). answered x.1 a) e

missed_end : (after t : SessionState) (a : Answer) (why : Miss) → ◌≡◌ {A = Came} (after, Ok a) (t, Err why) → ⊥
missed_end after t a why e =
    let same : Ok a ≡ Err why = ap (λ (x : Came). x.1) e in
    cc (same)

module _ (bounds : List Key) (h : History) (run : IsWorldRun bounds h) (s : SessionState) (key : Key) where
  -- a region's answer to the read of a key is what the machine sees there
  seen_by : (entered : Option Mutation) → ((found : Option Value) → Finds None h s.start key found
      → Finds entered h s.start key found)
      → (a : Answer) → WasAnswered h (read_of s key) a → AnswersRead entered h s.start key a
  seen_by entered same (answer.Found v) was =
      same (Some v) (answer_seen bounds h run was.by was.among key s.start (Some v)
      (subst (λ b. Says b was.by.answer key s.start (Some v)) (sym was.asked)
      (subst (λ a. Says (read_of s key) a key s.start (Some v)) (sym was.told) (refl, refl, refl))))
  seen_by entered same answer.Nothing was =
      same None (answer_seen bounds h run was.by was.among key s.start None
      (subst (λ b. Says b was.by.answer key s.start None) (sym was.asked)
      (subst (λ a. Says (read_of s key) a key s.start None) (sym was.told) (refl, refl, refl))))
  seen_by entered same a was = tt

-- an answer stays given
responds_on : (l h : History) → Begins l h → (b : Body) (c : Response) → RespondsSo l b c → RespondsSo h b c
responds_on l h begins b (Err why) told = tt
responds_on l h begins b (Ok a) told = was_on l h begins b a told

module _ {S : Type 0} (bounds : List Key) (fits : S → Asked → Type 0) (sends : S → Asked → Reached → S → Type 0)
    (keys_between : S → List Key) (way : IsSender bounds fits sends keys_between) (k new : Known) (a b : S)
    (s after : SessionState) (key : Key) (r : Answer) (h : History) (run : IsWorldRun bounds h) where
  module _ (entered : Option Mutation) (same : (found : Option Value) → Finds None h s.start key found
      → Finds entered h s.start key found) where
    by_response : (c : Response) → RespondsSo h (read_of s key) c
        → ◌≡◌ {A = Came} (after, Ok r) (after_read s c, c) → AnswersRead entered h s.start key r
    by_response (Err why) told e = absurd (missed_end after s r why e)
    by_response (Ok x) told e =
        subst (AnswersRead entered h s.start key) (sym (same_end after (after_read s (Ok x)) r x e))
        (seen_by bounds h run s key entered same x told)

    by_reached : (then_known : Known) → Begins then_known.events h → (mid : S) (reached : Reached)
        → sends a (record { by = k.events; body = read_of s key }) reached mid → Learns bounds k reached then_known
        → ◌≡◌ {A = Came} (after, Ok r) (after_read s (response_of reached), response_of reached)
        → AnswersRead entered h s.start key r
    by_reached then_known begins mid (Err l) sent learns e = absurd (missed_end after s r miss.Lost e)
    by_reached then_known begins mid (Ok g) sent learns e =
        by_response (response_by g.answer)
        (responds_on then_known.events h begins (read_of s key) (response_by g.answer)
        (came_told bounds g (read_of s key) then_known.events learns.4
        (ap (λ (q : Asked). q.body) (way.answers a mid (record { by = k.events; body = read_of s key }) g sent))
        learns.3)) e

  by_entered : (entered : Option Mutation) → Begins new.events h
      → Sends sends bounds k a (get_by s key entered) (after, Ok r) b new
      → AnswersRead entered h s.start key r
  by_entered (Some (mutation.Put v)) begins sent = elim sent [
    | inl short ↦ absurd (missed_end after s r miss.Fault short.0)
    | inr more ↦ subst (AnswersRead (Some (mutation.Put v)) h s.start key)
        (sym (same_end after s r (answer.Found v) more.0)) refl
  ]
  by_entered (Some (mutation.Insert v)) begins sent = elim sent [
    | inl short ↦ absurd (missed_end after s r miss.Fault short.0)
    | inr more ↦ subst (AnswersRead (Some (mutation.Insert v)) h s.start key)
        (sym (same_end after s r (answer.Found v) more.0)) refl
  ]
  by_entered (Some mutation.Delete) begins sent =
      subst (AnswersRead (Some mutation.Delete) h s.start key) (sym (same_end after s r answer.Nothing sent.0)) refl
  by_entered (Some mutation.Lock) begins sent = elim sent [
    | inl short ↦ absurd (missed_end after s r miss.Fault short.0)
    | inr more ↦ (let (reached, mid, then_known, did, learns, rest) = more in
        by_reached (Some mutation.Lock) (λ found is. is) then_known
        (subst (λ (y : Known). Begins y.events h) rest.2 begins) mid reached did learns rest.0)
  ]
  by_entered None begins sent = elim sent [
    | inl short ↦ absurd (missed_end after s r miss.Fault short.0)
    | inr more ↦ (let (reached, mid, then_known, did, learns, rest) = more in
        by_reached None (λ found is. is) then_known (subst (λ (y : Known). Begins y.events h) rest.2 begins) mid
        reached did learns rest.0)
  ]

  -- what a session's read of a key finds, in a run that begins with what is known then
  pub get_finds : Begins new.events h → Sends sends bounds k a (get_walk s key) (after, Ok r) b new
      → AnswersRead (buffered s.buffer key) h s.start key r
  get_finds begins sent = by_entered (buffered s.buffer key) begins sent

-- what a session's scan finds
pub scan_finds : {S : Type 0} (bounds : List Key) (fits : S → Asked → Type 0) (sends : S → Asked → Reached → S → Type 0)
    (keys_between : S → List Key) → AreRising bounds → IsSender bounds fits sends keys_between
    → (k new : Known) (a b : S) (s after : SessionState) (from to : Key) (limit : ℕ) (r : Answer)
    → IsWorldRun bounds new.events → Sends sends bounds k a (scan_walk s bounds from to limit) (after, Ok r) b new
    → AnswersScan new.events s.start from to limit r
scan_finds bounds fits sends keys_between rising way k new a b s after from to limit (answer.Rows rows) run sent =
    sees_whole bounds fits sends keys_between rising way k new a b s after from to limit rows new.events sent
    (begins_all new.events) run
scan_finds bounds fits sends keys_between rising way k new a b s after from to limit r run sent = tt

-- rows that each run from then on shows are those of their range
pub page_told : (bounds : List Key) (known : History) → IsWorldRun bounds known
    → (start : ℕ) (from to : Key) (limit : ℕ)
    → (rows : List KeyValue)
    → ((h : History) → Begins known h → IsWorldRun bounds h
    → SeesRows (table_of (shadow h)).row (scan_at start from to limit rows))
    → AreRowsOf (is_scanned from to limit rows) (SeesOn bounds known start) rows
page_told bounds known run start from to limit rows sees =
    let now = sees known (begins_all known) run in record {
      rising = now.rising;
      within = now.within;
      each = λ k inside h begins later. (sees h begins later).each k inside;
    }

-- what a session's scan tells, in each run from then on
pub scan_tells : {S : Type 0} (bounds : List Key) (fits : S → Asked → Type 0) (sends : S → Asked → Reached → S → Type 0)
    (keys_between : S → List Key) → AreRising bounds → IsSender bounds fits sends keys_between
    → (k new : Known) (a b : S) (s after : SessionState) (from to : Key) (limit : ℕ) (r : Answer)
    → IsWorldRun bounds new.events → Sends sends bounds k a (scan_walk s bounds from to limit) (after, Ok r) b new
    → TellsPage bounds new.events s.start from to limit r
scan_tells bounds fits sends keys_between rising way k new a b s after from to limit (answer.Rows rows) run sent =
    page_told bounds new.events run s.start from to limit rows
    (λ h begins later. sees_whole bounds fits sends keys_between rising way k new a b s after from to limit rows h sent
    begins later)
scan_tells bounds fits sends keys_between rising way k new a b s after from to limit r run sent = tt

-- ---- the calls of a session that runs: it began at this start, and its model is this

module _ {S : Type 0} (bounds : List Key) (fits : S → Asked → Type 0) (sends : S → Asked → Reached → S → Type 0)
    (keys_between : S → List Key) (way : IsSender bounds fits sends keys_between) (old view new : Seated) (start : ℕ)
    (view_is : old ≡ view) (start_is : old.state.start ≡ start) (a b : S) where
  pub if_get_finds : (key : Key) (r : Result Answer Miss)
      → Sends sends bounds old.seat a (get_walk old.state key) (new.state, r) b new.seat
      → IfOk r (AnswersReadOn bounds (buffered view.state.buffer key) new.seat.events start key)
  if_get_finds key (Ok x) sent = record {
    later = λ h begins run.
        subst (λ (s : Seated). AnswersRead (buffered s.state.buffer key) h start key x) view_is
        (subst (λ n. AnswersRead (buffered old.state.buffer key) h n key x) start_is
        (get_finds bounds fits sends keys_between way old.seat new.seat a b old.state new.state key x h run begins
        sent));
  }
  if_get_finds key (Err why) sent = tt

  pub if_scan_finds : AreRising bounds → IsWorldRun bounds new.seat.events → (from to : Key) (limit : ℕ)
      → (r : Result Answer Miss)
      → Sends sends bounds old.seat a (scan_walk old.state bounds from to limit) (new.state, r) b new.seat
      → IfOk r (AnswersScan new.seat.events start from to limit)
  if_scan_finds rising run from to limit (Ok x) sent =
      subst (λ n. AnswersScan new.seat.events n from to limit x) start_is
      (scan_finds bounds fits sends keys_between rising way old.seat new.seat a b old.state new.state from to limit x
      run
      sent)
  if_scan_finds rising run from to limit (Err why) sent = tt

  pub if_scan_tells : AreRising bounds → IsWorldRun bounds new.seat.events → (from to : Key) (limit : ℕ)
      → (r : Result Answer Miss)
      → Sends sends bounds old.seat a (scan_walk old.state bounds from to limit) (new.state, r) b new.seat
      → IfOk r (TellsPage bounds new.seat.events start from to limit)
  if_scan_tells rising run from to limit (Ok x) sent =
      subst (λ n. TellsPage bounds new.seat.events n from to limit x) start_is
      (scan_tells bounds fits sends keys_between rising way old.seat new.seat a b old.state new.state from to limit x
      run
      sent)
  if_scan_tells rising run from to limit (Err why) sent = tt

-- What a line of a live session is told was done, or answered to just what it asked.
use Rattle.std.proofs.Common.{◌≡◌, ◌&&◌, inl, inr, ℕ, Bool, true, false, not, if◌then◌else◌, List, [], ◌++◌, Option, Some, None, Result, Ok, Err, refl, sym, ap, subst, ◌∙◌}
use Rattle.tx_types.specs.Lengths.{is_key}
use Rattle.tx_types.specs.declared.fault.Cause.{Cause}
use Rattle.tx_types.specs.declared.fault.Cause.TheVariants.{Order}
use Rattle.tx_types.specs.declared.key.Key.{Key}
use Rattle.tx_types.specs.declared.mutation.Mutation.{Mutation}
use Rattle.tx_types.specs.declared.mutation.Mutation.TheVariants as mutation
use Rattle.tx_plan.specs.declared.answer.Answer.{Answer}
use Rattle.tx_plan.specs.declared.answer.Answer.TheVariants as answer
use Rattle.tx_core.specs.Histories.{History}
use Rattle.tx_journal.specs.Known.{Known}
use Rattle.tx_transaction.specs.declared.state.Due.{Due}
use Rattle.tx_transaction.specs.declared.state.Miss.{Miss}
use Rattle.tx_transaction.specs.declared.state.Miss.TheVariants as miss
use Rattle.tx_transaction.specs.declared.state.Phase.{Phase}
use Rattle.tx_transaction.specs.declared.state.Phase.TheVariants as phase
use Rattle.tx_transaction.specs.declared.state.Terms.{Terms}
use Rattle.tx_transaction.specs.Buffers.{Entries, buffered, inserted, is_full, locked, put_over, touched}
use Rattle.tx_transaction.specs.Returns.{Response, returned}
use Rattle.tx_transaction.specs.Sessions.{SessionState, after_read, after_response, can_abort, can_commit, can_draw, due_abort, due_commit, due_prewrite, has_primary, heartbeat_of, is_declared, read_of}
use Rattle.tx_client.specs.declared.resolved.Status.{Status}
use Rattle.tx_client.specs.Calls.{Seated}
use Rattle.tx_client.specs.Facts.{RespondsSo, WasAnswered}
use Rattle.tx_client.specs.Walks.{Walk, ends, due_walk, get_by, get_walk, heartbeat_walk, scan_walk}
use Rattle.tx_evidence.proofs.Results.{Comes, comes_then}
use Rattle.tx_evidence.proofs.Sends.{sends_comes}
use Rattle.tx_steps.specs.Steps.{Text}
use Rattle.tx_steps.specs.declared.call.Call.{Call}
use Rattle.tx_steps.specs.declared.call.Call.TheVariants as call
use Rattle.tx_steps.specs.declared.delivery.Delivery.{Delivery}
use Rattle.tx_steps.specs.declared.op.Op.{Op}
use Rattle.tx_steps.specs.declared.op.Op.TheVariants as op
use Rattle.tx_steps.specs.declared.step.Step.{Step}
use Rattle.tx_steps.specs.declared.step.Step.TheVariants as step
use Rattle.tx_ops.specs.Acts.{Declares, DrawsIf}
use Rattle.tx_ops.specs.Calls.{Said, allowed_call, call_walk, missed_reply, read_call, read_reply, sent_reply}
use Rattle.tx_ops.specs.Edits.{Edit, Edited, changes, deletes, enters, grown, inserts, inserts_by, is_refused, is_value, later_of, locks, puts, says, stops}
use Rattle.tx_reply.specs.declared.reply.ScriptReply.{ScriptReply}
use Rattle.tx_reply.specs.declared.reply.ScriptReply.TheVariants as reply
use Rattle.tx_store.specs.Stores.{Replies}
use Rattle.tx_transfer.specs.Acts.{Acts, found_of, status_said}
use Rattle.tx_transfer.specs.Replies.{said_of}
use Rattle.tx_transfer.specs.declared.plain_reply.PlainReply.{PlainReply}
use Rattle.tx_workload.specs.declared.reply.LineAnswer.{LineAnswer}
use Rattle.tx_workload.specs.declared.reply.LineAnswer.TheVariants.{Plain}
use Rattle.tx_run.specs.Played.{Makes, Standing, Turns, live}
use Rattle.tx_run_laws.specs.Acts.{Enters, IsBuffered, IsDeclared, IsDone, IsReplyTo, IsScanned, IsSent}
use Rattle.tx_run_laws.proofs.LineCases.{TurnCases, turn_by}
use Rattle.tx_run_laws.proofs.ScanWalks.{Reads, scan_comes}

-- ---- a line of a live session that stays live made its step

module _ (bounds : List Key) where
  abbrev Made : Step Text → Standing → LineAnswer → Standing → Type 0
  Made what (live s) (Plain said) (live t) = Makes bounds what s (said_of said) t
  Made what from answer to = Unit {0}

  made_cases : TurnCases bounds Made
  made_cases = record {
    begun = λ name k p s named is begun. tt;
    not_begun = λ name k p l not. tt;
    finished = λ name s start o l is finish records. tt;
    unfinished = λ name s cause l left. tt;
    stopped = λ name s p l is left. tt;
    moved = λ name what k answer l told. tt;
    fault = λ what k answer l is none same. tt;
    made = λ what s answer t stay makes. makes;
  }

  live_makes : (what : Step Text) (s t : Seated) (said : Result PlainReply Cause)
      → Turns bounds what (live s) (Plain said) (live t) → Makes bounds what s (said_of said) t
  live_makes what s t said turns = turn_by bounds Made made_cases what (live s) (Plain said) (live t) turns

-- ---- an edit

module _ (refused : List Bool) (s : SessionState) (key : List ℕ) (fits : Bool) (more : Edit) where
  -- what an edit comes to that is not refused
  abbrev Picked : Bool → Bool → Bool → Bool → Edit
  Picked a b c d = if a then stops Order else (if b then says reply.KeyLength refused
      else (if c then says reply.ValueLength refused else (if d then says reply.TooManyKeys refused else more)))

  picked_enters : (a b c d : Bool) (es : Entries) (left : List Bool) → Picked a b c d ≡ enters es left
      → more ≡ enters es left
  picked_enters true b c d es left is = absurd (cc (is))
  picked_enters false true c d es left is = absurd (cc (is))
  picked_enters false false true d es left is = absurd (cc (is))
  picked_enters false false false true es left is = absurd (cc (is))
  picked_enters false false false false es left is = is

  picked_fine : (a b c d : Bool) (left : List Bool) → Picked a b c d ≡ says reply.Fine left
      → more ≡ says reply.Fine left
  picked_fine true b c d left is = absurd (cc (is))
  picked_fine false true c d left is = absurd (cc (is))
  picked_fine false false true d left is = absurd (cc (is))
  picked_fine false false false true left is = absurd (cc (is))
  picked_fine false false false false left is = is

  changes_enters : (es : Entries) (left : List Bool) → changes refused s key fits more ≡ enters es left
      → more ≡ enters es left
  changes_enters es left is =
      picked_enters (is_declared s) (not (is_key key)) (not fits) (is_full s.buffer key) es left is

  changes_fine : (left : List Bool) → changes refused s key fits more ≡ says reply.Fine left
      → more ≡ says reply.Fine left
  changes_fine left is = picked_fine (is_declared s) (not (is_key key)) (not fits) (is_full s.buffer key) left is

entries_in : Edit → Entries → Entries
entries_in (enters es left) other = es
entries_in (says said left) other = other
entries_in (stops cause) other = other

same_entries : (a b : Entries) (x y : List Bool) → enters a x ≡ enters b y → a ≡ b
unfolding entries_in
same_entries a b x y is = ap (λ (e : Edit). entries_in e a) is

module _ (refused : List Bool) (buffer : Entries) where
  grown_by : (b : Bool) (es : Entries) (left : List Bool)
      → (if b then says reply.OutOfMemory (later_of refused) else enters buffer (later_of refused)) ≡ enters es left
      → buffer ≡ es
  grown_by true es left is = absurd (cc (is))
  grown_by false es left is = same_entries buffer es (later_of refused) left is

  grown_fine_by : (b : Bool) (left : List Bool)
      → (if b then says reply.OutOfMemory (later_of refused) else enters buffer (later_of refused))
      ≡ says reply.Fine left → ⊥
  grown_fine_by true left is = cc (is)
  grown_fine_by false left is = cc (is)

  grown_enters : (es : Entries) (left : List Bool) → grown refused buffer ≡ enters es left → buffer ≡ es
  grown_enters es left is = grown_by (is_refused refused) es left is

  grown_fine : (left : List Bool) → grown refused buffer ≡ says reply.Fine left → ⊥
  grown_fine left is = grown_fine_by (is_refused refused) left is

inserted_enters : (refused : List Bool) (s : SessionState) (o : Option Entries) (es : Entries) (left : List Bool)
    → inserts_by refused s o ≡ enters es left → o ≡ Some es
inserted_enters refused s None es left is = absurd (cc (is))
inserted_enters refused s (Some buffer) es left is = ap Some (grown_enters refused buffer es left is)

inserted_fine : (refused : List Bool) (s : SessionState) (o : Option Entries) (left : List Bool)
    → inserts_by refused s o ≡ says reply.Fine left → ⊥
inserted_fine refused s None left is = cc (is)
inserted_fine refused s (Some buffer) left is = grown_fine refused buffer left is

-- an edit that is told to be done entered a buffer
edit_done : (e : List Bool → SessionState → Edit) (s t : Seated) (it : ScriptReply) → it ≡ reply.Fine
    → ((refused left : List Bool) → e refused s.state ≡ says reply.Fine left → ⊥) → Edited e (Ok it) s t
    → (refused : List Bool) × (e refused s.state ≡ enters t.state.buffer []) × Enters s t.state.buffer t
edit_done e s t it fine never (refused, inl (same, told)) =
    absurd (never (refused ++ []) [] (told [] ∙ ap (λ (r : ScriptReply). says r []) fine))
edit_done e s t it fine never (refused, inr (done, is, entered)) = (refused ++ [], entered [], is)

enters_as : (s t : Seated) (es : Entries) → es ≡ t.state.buffer → Enters s t.state.buffer t → Enters s es t
enters_as s t es same is = subst (λ (x : Entries). Enters s x t) (sym same) is

module _ (bounds : List Key) (name : Text) (s t : Seated) (resolver after : Known) (it : ScriptReply)
    (fine : it ≡ reply.Fine) where
  declare_done : (already : Bool) (terms : Terms) → Declares bounds already s terms (Ok it) t
      → IsDeclared bounds s terms t
  declare_done true terms (is, same) = absurd (cc (is))
  declare_done false terms (inl (is, fits, state, records, placed)) = (fits, state, records)
  declare_done false terms (inr (inl (is, exceeds, same))) = absurd (cc (is, fine))
  declare_done false terms (inr (inr (is, fits, some, ticks, same))) = absurd (cc (is, fine))

  draw_done : (may : Bool) → DrawsIf bounds may s (Ok it) t → ⊥
  draw_done false (is, same) = cc (is)
  draw_done true (inl (c, is, state, draws)) = cc (is, fine)
  draw_done true (inr (is, ticks, same)) = cc (is, fine)

  found_done : (found : Option Status) → Ok it ≡ status_said found → ⊥
  found_done None is = cc (is)
  found_done (Some status) is = cc (is, fine)

  acts_done : (what : Op Text) → Acts bounds what s resolver (Ok it) t after → IsDone bounds what s t
  acts_done (op.Put key value) acts =
      let es = touched s.state.buffer key (put_over (buffered s.state.buffer key) value) in
      let fits = is_value value in
      let e = edit_done (λ refused x. puts refused x key value) s t it fine
      (λ refused left is. grown_fine refused es left
      (changes_fine refused s.state key fits (grown refused es) left is)) acts.0 in
      enters_as s t es (grown_enters e.0 es t.state.buffer []
      (changes_enters e.0 s.state key fits (grown e.0 es) t.state.buffer [] e.1)) e.2
  acts_done (op.Insert key value) acts =
      let o = inserted s.state.buffer key value in
      let fits = is_value value in
      let e = edit_done (λ refused x. inserts refused x key value) s t it fine
      (λ refused left is. inserted_fine refused s.state o left
      (changes_fine refused s.state key fits (inserts_by refused s.state o) left is)) acts.0 in (
        t.state.buffer,
        inserted_enters e.0 s.state o t.state.buffer []
            (changes_enters e.0 s.state key fits (inserts_by e.0 s.state o) t.state.buffer [] e.1),
        e.2,
      )
  acts_done (op.Delete key) acts =
      let es = touched s.state.buffer key mutation.Delete in
      let e = edit_done (λ refused x. deletes refused x key) s t it fine
      (λ refused left is. grown_fine refused es left
      (changes_fine refused s.state key true (grown refused es) left is)) acts.0 in
      enters_as s t es (grown_enters e.0 es t.state.buffer []
      (changes_enters e.0 s.state key true (grown e.0 es) t.state.buffer [] e.1)) e.2
  acts_done (op.Lock key) acts =
      let es = locked s.state.buffer key in
      let e = edit_done (λ refused x. locks refused x key) s t it fine
      (λ refused left is. grown_fine refused es left
      (changes_fine refused s.state key true (grown refused es) left is)) acts.0 in
      enters_as s t es (grown_enters e.0 es t.state.buffer []
      (changes_enters e.0 s.state key true (grown e.0 es) t.state.buffer [] e.1)) e.2
  acts_done (op.Declare mode ttl most) acts =
      declare_done (is_declared s.state) (record { mode = mode; ttl = ttl; max_commit = most }) acts.0
  acts_done op.Draw acts = draw_done (can_draw s.state) acts.0
  acts_done (op.Resolve now) acts = found_done (found_of acts.0) acts.1
  acts_done op.Finish acts = absurd (cc (acts.0.0))
  acts_done op.Stop acts = absurd (cc (acts.0.0))

pub act_done : (bounds : List Key) (name : Text) (what : Op Text) (s t : Seated) (p : PlainReply)
    → Turns bounds (step.Act name what) (live s) (Plain (Ok p)) (live t) → p.reply ≡ reply.Fine
    → IsDone bounds what s t
act_done bounds name what s t p turns fine =
    let made = live_makes bounds (step.Act name what) s t (Ok p) turns in
    acts_done bounds name s t made.0 made.1 p.reply fine what made.2

-- ---- a call

-- what is answered, where something is
abbrev Answers : (History → Answer → Type 0) → History → Said → Type 0
Answers A h (Ok (reply.Answered a)) = A h a
Answers A h said = Unit {0}

abbrev Sent : (History → Answer → Type 0) → History → SessionState × Result (Option Answer) Miss → Type 0
Sent A h (s, Ok (Some a)) = A h a
Sent A h (s, Ok None) = Unit {0}
Sent A h (s, Err m) = Unit {0}

abbrev Told : (History → Answer → Type 0) → History → SessionState × Said → Type 0
Told A h x = Answers A h x.1

module _ (A : History → Answer → Type 0) where
  missed_answers : (h : History) (m : Miss) → Answers A h (Ok (missed_reply m))
  missed_answers h miss.Lost = tt
  missed_answers h miss.Fault = tt

  read_answers : (h : History) (x : SessionState × Result Answer Miss) → Reads A h x
      → Answers A h (Ok (read_reply x.1))
  read_answers h (s, Ok a) reads = reads
  read_answers h (s, Err m) reads = missed_answers h m

  sent_answers : (h : History) (x : SessionState × Result (Option Answer) Miss) → Sent A h x
      → Answers A h (Ok (sent_reply x.1))
  sent_answers h (s, Ok (Some a)) sent = sent
  sent_answers h (s, Ok None) sent = tt
  sent_answers h (s, Err m) sent = missed_answers h m

  read_comes : (h : History) (b : Bool) (s : SessionState) (w : Walk (SessionState × Result Answer Miss))
      → Comes (Reads A) h w → Comes (Told A) h (read_call b s w)
  read_comes h false s w comes = tt
  read_comes h true s w comes = (
    comes_then (Reads A) (Told A) w (λ x. ends (x.0, Ok (read_reply x.1))) h comes
        (λ l x begins reads. read_answers l x reads),
    tt,
  )

  sent_comes : (h : History) (b : Bool) (s : SessionState) (w : Walk (SessionState × Result (Option Answer) Miss))
      → Comes (Sent A) h w → Comes (Told A) h (allowed_call b s w)
  sent_comes h false s w comes = tt
  sent_comes h true s w comes =
      comes_then (Sent A) (Told A) w (λ x. ends (x.0, Ok (sent_reply x.1))) h comes
      (λ l x begins sent. sent_answers l x sent)

abbrev Got : SessionState → Key → History → Answer → Type 0
Got s key h a = IsReplyTo h s (call.Get key) a

module _ (s : SessionState) (key : Key) where
  looked : (h : History) (c : Response) → RespondsSo h (read_of s key) c → Reads (Got s key) h (after_read s c, c)
  looked h (Ok a) was = inr was
  looked h (Err why) was = tt

  got_by : (h : History) (o : Option Mutation) → buffered s.buffer key ≡ o
      → Comes (Reads (Got s key)) h (get_by s key o)
  got_by h None at = (λ c l begins was. looked l c was, tt)
  got_by h (Some (mutation.Put v)) at =
      (inl (subst (λ (o : Option Mutation). IsBuffered o (answer.Found v)) (sym at) refl), tt)
  got_by h (Some (mutation.Insert v)) at =
      (inl (subst (λ (o : Option Mutation). IsBuffered o (answer.Found v)) (sym at) refl), tt)
  got_by h (Some mutation.Delete) at = inl (subst (λ (o : Option Mutation). IsBuffered o answer.Nothing) (sym at) refl)
  got_by h (Some mutation.Lock) at = (λ c l begins was. looked l c was, tt)

due_comes : (h : History) (s : SessionState) (x : Phase) (o : Option Due)
    → Comes (Sent (λ l a. IsSent l o a)) h (due_walk s x o)
due_comes h s x None = tt
due_comes h s x (Some due) = (λ c l begins was. came l c was, tt)
  where
    came : (l : History) (c : Response) → RespondsSo l due.body c
        → Sent (λ l a. IsSent l (Some due) a) l (after_response s x due.index c, returned c)
    came l (Ok a) was = was
    came l (Err why) was = tt

heartbeat_comes : (h : History) (s : SessionState) (ttl : ℕ)
    → Comes (Sent (λ l a. WasAnswered l (heartbeat_of s ttl) a)) h (heartbeat_walk s ttl)
heartbeat_comes h s ttl = (λ c l begins was. came l c was, tt)
  where
    came : (l : History) (c : Response) → RespondsSo l (heartbeat_of s ttl) c
        → Sent (λ l a. WasAnswered l (heartbeat_of s ttl) a) l (s, returned c)
    came l (Ok a) was = was
    came l (Err why) was = tt

module _ (bounds : List Key) (h : History) (s : SessionState) where
  call_comes : (what : Call Text) → Comes (Told (λ l a. IsReplyTo l s what a)) h (call_walk bounds s what)
  call_comes (call.Get key) =
      read_comes (Got s key) h (is_key key) s (get_walk s key) (got_by s key h (buffered s.buffer key) refl)
  call_comes (call.Scan from to limit) = read_comes (λ l a. IsScanned l s.start a) h (is_key from && is_key to) s
      (scan_walk s bounds from to limit) (scan_comes bounds from to limit h s)
  call_comes call.Prewrite = sent_comes (λ l a. IsSent l (due_prewrite s) a) h (is_declared s) s
      (due_walk s phase.Prewrite (due_prewrite s)) (due_comes h s phase.Prewrite (due_prewrite s))
  call_comes call.Commit = sent_comes (λ l a. IsSent l (due_commit s) a) h (can_commit s) s
      (due_walk s phase.Commit (due_commit s)) (due_comes h s phase.Commit (due_commit s))
  call_comes call.Abort = sent_comes (λ l a. IsSent l (due_abort s) a) h (can_abort s) s
      (due_walk s phase.Abort (due_abort s)) (due_comes h s phase.Abort (due_abort s))
  call_comes (call.Heartbeat ttl) = sent_comes (λ l a. WasAnswered l (heartbeat_of s ttl) a) h (has_primary s) s
      (heartbeat_walk s ttl) (heartbeat_comes h s ttl)

pub call_answered : (bounds : List Key) (name : Text) (what : Call Text) (delivery : Delivery Text) (s t : Seated)
    (p : PlainReply) (a : Answer) → Turns bounds (step.Send name what delivery) (live s) (Plain (Ok p)) (live t)
    → p.reply ≡ reply.Answered a → IsReplyTo t.seat.events s.state what a
call_answered bounds name what delivery s t p a turns is =
    let sent = live_makes bounds (step.Send name what delivery) s t (Ok p) turns in
    let told = sends_comes (Replies {S = Unit {0}}) bounds (Told (λ l x. IsReplyTo l s.state what x))
    (λ x y q g one. one) (call_walk bounds s.state what) s.seat t.seat tt tt (t.state, Ok p.reply)
    (call_comes bounds s.seat.events s.state what) sent in
    subst (λ (r : ScriptReply). Answers (λ l x. IsReplyTo l s.state what x) t.seat.events (Ok r)) is told

-- Over a way that loses nothing no call is told that a reply was lost.
use Rattle.std.proofs.Common.{◌≡◌, ◌&&◌, ◌++◌, ℕ, Bool, true, false, List, [], ◌∷◌, length, nat_lt, Option, Some, None, Result, Ok, Err, refl}
use Rattle.std.specs.Prelude.{IfOk}
use Rattle.tx_types.specs.declared.key.Key.{Key}
use Rattle.tx_types.specs.declared.mutation.KeyValue.{KeyValue}
use Rattle.tx_types.specs.declared.mutation.Mutation.{Mutation}
use Rattle.tx_types.specs.declared.mutation.Mutation.TheVariants as mutation
use Rattle.tx_types.specs.Keys.{key_lt}
use Rattle.tx_types.specs.Lengths.{is_key}
use Rattle.tx_plan.specs.declared.answer.Answer.{Answer}
use Rattle.tx_plan.specs.declared.answer.Answer.TheVariants as answer
use Rattle.tx_journal.specs.Known.{Known}
use Rattle.tx_journal.specs.Replies.{Asked}
use Rattle.tx_journal.specs.Senders.{Reached}
use Rattle.tx_transaction.specs.declared.state.Due.{Due}
use Rattle.tx_transaction.specs.declared.state.Miss.{Miss}
use Rattle.tx_transaction.specs.declared.state.Miss.TheVariants as miss
use Rattle.tx_transaction.specs.declared.state.Phase.{Phase}
use Rattle.tx_transaction.specs.declared.state.Phase.TheVariants as phase
use Rattle.tx_transaction.specs.Buffers.{buffered}
use Rattle.tx_transaction.specs.Returns.{Response, returned}
use Rattle.tx_transaction.specs.Sessions.{SessionState, is_declared, can_commit, can_abort, has_primary, due_prewrite, due_commit, due_abort, after_read}
use Rattle.tx_client.specs.Learns.{response_of}
use Rattle.tx_client.specs.Walks.{Walk, ends, then_walk, Sends, due_walk, heartbeat_walk, get_by, get_walk, part_by, enough, part_walk, scan_after, scan_from, scan_walk, greater, lesser}
use Rattle.tx_steps.specs.Steps.{Text}
use Rattle.tx_steps.specs.declared.call.Call.{Call}
use Rattle.tx_steps.specs.declared.call.Call.TheVariants as call
use Rattle.tx_reply.specs.declared.reply.ScriptReply.{ScriptReply}
use Rattle.tx_reply.specs.declared.reply.ScriptReply.TheVariants as reply
use Rattle.tx_ops.specs.Calls.{Said, read_reply, sent_reply, call_walk}
use Rattle.tx_ops.proofs.CallEnds.{AllEnds, sends_end, read_ends, allowed_ends}

-- a reply came
abbrev pub Came : {T : Type 0} → Result T Miss → Type 0
Came (Err miss.Lost) = ⊥
Came _ = Unit {0}

-- every end of a walk does
abbrev AllCome : {T : Type 0} → Walk (SessionState × Result T Miss) → Type 0
AllCome {T} w = AllEnds Came (λ (x : SessionState × Result T Miss). Came x.1) w

returned_comes : (c : Response) → Came c → Came (returned c)
returned_comes (Err miss.Lost) came = came
returned_comes (Err miss.Fault) came = tt
returned_comes (Ok a) came = tt

module _ (s : SessionState) where
  due_comes : (x : Phase) (o : Option Due) → AllCome (due_walk s x o)
  due_comes x None = tt
  due_comes x (Some due) = (returned_comes, tt)

  heartbeat_comes : (ttl : ℕ) → AllCome (heartbeat_walk s ttl)
  heartbeat_comes ttl = (returned_comes, tt)

  get_comes : (k : Key) (o : Option Mutation) → AllCome (get_by s k o)
  get_comes k (Some (mutation.Put v)) = (tt, tt)
  get_comes k (Some (mutation.Insert v)) = (tt, tt)
  get_comes k (Some mutation.Delete) = tt
  get_comes k (Some mutation.Lock) = ((λ c came. came), tt)
  get_comes k None = ((λ c came. came), tt)

-- ---- a scan

-- who goes on from a state with the rows so far
abbrev OnRows : Type 0
OnRows = SessionState → List KeyValue → Walk (SessionState × Result Answer Miss)

abbrev GoesOn : OnRows → Type 0
GoesOn on = (t : SessionState) (rows : List KeyValue) → AllCome (on t rows)

after_comes : (t : SessionState) (limit : ℕ) (rows : List KeyValue) (r : Result Answer Miss) (on : OnRows) → GoesOn on
    → Came r → AllCome (scan_after t (part_by limit rows r) on)
after_comes t limit rows (Ok (answer.Rows found)) on all come = by (nat_lt (length (rows ++ found)) limit) refl
  where
    by : (b : Bool) → nat_lt (length (rows ++ found)) limit ≡ b
        → AllCome (scan_after t (enough limit (rows ++ found)) on)
    by true e = rw e (all t (rows ++ found))
    by false e = rw e tt
after_comes t limit rows (Ok _) on all come = come
after_comes t limit rows (Err m) on all come = come

part_comes : (t : SessionState) (low high : Key) (limit : ℕ) (rows : List KeyValue) (on : OnRows) → GoesOn on
    → AllCome (then_walk (part_walk t low high limit rows) (λ x. scan_after x.0 x.1 on))
part_comes t low high limit rows on all = by (key_lt low high) refl
  where
    by : (b : Bool) → key_lt low high ≡ b
        → AllCome (then_walk (part_walk t low high limit rows) (λ x. scan_after x.0 x.1 on))
    by true e = rw e (
      (λ c came. after_comes (after_read t c) limit rows c on all came),
      tt,
    )
    by false e = rw e (all t rows, tt)

scan_comes : (from to : Key) (limit : ℕ) (low : Key) (bounds : List Key) → GoesOn (scan_from from to limit low bounds)
scan_comes from to limit low [] t rows =
    part_comes t (greater from low) to limit rows (λ u all. ends (u, Ok (answer.Rows all))) (λ u all. tt)
scan_comes from to limit low (bound ∷ bounds) t rows =
    part_comes t (greater from low) (lesser to bound) limit rows (scan_from from to limit bound bounds)
    (scan_comes from to limit bound bounds)

-- ---- the calls

-- a line is told something else
abbrev pub IsAnswered : ScriptReply → Type 0
IsAnswered reply.Lost = ⊥
IsAnswered _ = Unit {0}

read_answered : (r : Result Answer Miss) → Came r → IsAnswered (read_reply r)
read_answered (Ok a) come = tt
read_answered (Err miss.Lost) come = come
read_answered (Err miss.Fault) come = tt

sent_answered : (r : Result (Option Answer) Miss) → Came r → IsAnswered (sent_reply r)
sent_answered (Ok None) come = tt
sent_answered (Ok (Some a)) come = tt
sent_answered (Err miss.Lost) come = come
sent_answered (Err miss.Fault) come = tt

abbrev Answers : Walk (SessionState × Said) → Type 0
Answers w = AllEnds Came (λ (x : SessionState × Said). IfOk x.1 IsAnswered) w

call_comes : (bounds : List Key) (s : SessionState) (what : Call Text) → Answers (call_walk bounds s what)
call_comes bounds s (call.Get key) = read_ends Came IsAnswered Came Came read_answered sent_answered tt tt
    (is_key key) s (get_walk s key) (get_comes s key (buffered s.buffer key))
call_comes bounds s (call.Scan from to limit) =
    read_ends Came IsAnswered Came Came read_answered sent_answered tt tt (is_key from && is_key to) s
    (scan_walk s bounds from to limit) (scan_comes from to limit from bounds s [])
call_comes bounds s call.Prewrite = allowed_ends Came IsAnswered Came Came read_answered sent_answered tt tt
    (is_declared s) s (due_walk s phase.Prewrite (due_prewrite s)) (due_comes s phase.Prewrite (due_prewrite s))
call_comes bounds s call.Commit = allowed_ends Came IsAnswered Came Came read_answered sent_answered tt tt
    (can_commit s) s (due_walk s phase.Commit (due_commit s)) (due_comes s phase.Commit (due_commit s))
call_comes bounds s call.Abort = allowed_ends Came IsAnswered Came Came read_answered sent_answered tt tt
    (can_abort s) s (due_walk s phase.Abort (due_abort s)) (due_comes s phase.Abort (due_abort s))
call_comes bounds s (call.Heartbeat ttl) = allowed_ends Came IsAnswered Came Came read_answered sent_answered tt
    tt (has_primary s) s (heartbeat_walk s ttl) (heartbeat_comes s ttl)

-- a call over a way that loses nothing is never told that a reply was lost
pub call_answered : {S : Type 0} (sends : S → Asked → Reached → S → Type 0) (bounds : List Key) (old new : Known)
    (from to : S) (s t : SessionState) (what : Call Text) (said : Said)
    → Sends sends bounds old from (call_walk bounds s what) (t, said) to new
    → ((a b : S) (q : Asked) (r : Reached) → sends a q r b → Came (response_of r)) → IfOk said IsAnswered
call_answered sends bounds old new from to s t what said sent comes =
    sends_end sends bounds Came comes (λ (x : SessionState × Said). IfOk x.1 IsAnswered) (call_walk bounds s what)
    old new from to (t, said) (call_comes bounds s what) sent

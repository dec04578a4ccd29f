-- What a call may come to.
use Rattle.std.proofs.Common.{◌≡◌, inl, inr, ◌&&◌, Bool, true, false, List, Option, Some, None, Result, Ok, Err, refl, sym, ap, subst, ◌∙◌}
use Rattle.std.specs.Prelude.{◌⊎◌, IfOk}
use Rattle.tx_types.specs.declared.key.Key.{Key}
use Rattle.tx_types.specs.declared.fault.Cause.{Cause}
use Rattle.tx_types.specs.declared.fault.Cause.TheVariants.{Order}
use Rattle.tx_types.specs.Lengths.{is_key}
use Rattle.tx_plan.specs.declared.answer.Answer.{Answer}
use Rattle.tx_journal.specs.Known.{Known}
use Rattle.tx_journal.specs.Replies.{Asked}
use Rattle.tx_journal.specs.Senders.{Reached}
use Rattle.tx_transaction.specs.declared.state.Miss.{Miss}
use Rattle.tx_transaction.specs.declared.state.Miss.TheVariants as miss
use Rattle.tx_transaction.specs.Returns.{Response}
use Rattle.tx_transaction.specs.Sessions.{SessionState, is_declared, can_commit, can_abort, has_primary}
use Rattle.tx_client.specs.Learns.{response_of}
use Rattle.tx_client.specs.Walks.{Walk, asks, grows, ends, then_walk, Sends}
use Rattle.tx_steps.specs.Steps.{Text}
use Rattle.tx_steps.specs.declared.call.Call.{Call}
use Rattle.tx_steps.specs.declared.call.Call.TheVariants as call
use Rattle.tx_reply.specs.declared.reply.ScriptReply.{ScriptReply}
use Rattle.tx_reply.specs.declared.reply.ScriptReply.TheVariants as reply
use Rattle.tx_ops.specs.Calls.{Said, read_reply, sent_reply, read_call, allowed_call, call_walk}

-- ---- a walk whose every end is so, by what may come of its requests

abbrev pub AllEnds : {R : Type 0} → (Response → Type 0) → (R → Type 0) → Walk R → Type 0
AllEnds may P (ends r) = P r
AllEnds may P (grows more short) = AllEnds may P more × AllEnds may P short
AllEnds may P (asks body more) = (c : Response) → may c → AllEnds may P (more c)

-- one walk after another
pub then_ends : {A B : Type 0} (may : Response → Type 0) (Q : A → Type 0) (P : B → Type 0) (w : Walk A)
    (next : A → Walk B)
    → AllEnds may Q w → ((x : A) → Q x → AllEnds may P (next x)) → AllEnds may P (then_walk w next)
then_ends may Q P (ends r) next all on = on r all
then_ends may Q P (grows more short) next all on =
    (then_ends may Q P more next all.0 on, then_ends may Q P short next all.1 on)
then_ends may Q P (asks body more) next all on = λ c is. then_ends may Q P (more c) next (all c is) on

-- nothing is said of an end
pub all_end : {R : Type 0} (may : Response → Type 0) (w : Walk R) → AllEnds may (λ r. Unit {0}) w
all_end may (ends r) = tt
all_end may (grows more short) = (all_end may more, all_end may short)
all_end may (asks body more) = λ c is. all_end may (more c)

module _ {S R : Type 0} (sends : S → Asked → Reached → S → Type 0) (bounds : List Key) (may : Response → Type 0)
    (comes : (a b : S) (q : Asked) (r : Reached) → sends a q r b → may (response_of r)) (P : R → Type 0) where
  -- it comes to one of its ends
  pub sends_end : (w : Walk R) (old new : Known) (from to : S) (r : R) → AllEnds may P w
      → Sends sends bounds old from w r to new → P r
  sends_end (ends x) old new from to r all sent = subst P (sym sent.0) all
  sends_end (grows more short) old new from to r all (inl sent) = sends_end short old new from to r all.1 sent
  sends_end (grows more short) old new from to r all (inr sent) = sends_end more old new from to r all.0 sent
  sends_end (asks body more) old new from to r all (reached, mid, then, sent, learns, rest) =
      sends_end (more (response_of reached)) then new mid to r
      (all (response_of reached) (comes from mid (record { by = old.events; body = body }) reached sent)) rest

-- anything may come of a request
abbrev pub Any : Response → Type 0
Any c = Unit {0}

-- ---- what is told

-- what is so of the replies of a call is so of what it says
module _ (may : Response → Type 0) (P : ScriptReply → Type 0) (read : Result Answer Miss → Type 0)
    (sent : Result (Option Answer) Miss → Type 0) (read_so : (r : Result Answer Miss) → read r → P (read_reply r))
    (sent_so : (r : Result (Option Answer) Miss) → sent r → P (sent_reply r)) (short : P reply.OutOfMemory)
    (keys : P reply.KeyLength) where
  abbrev pub EndsSo : SessionState × Said → Type 0
  EndsSo x = IfOk x.1 P

  pub read_ends : (is : Bool) (s : SessionState) (w : Walk (SessionState × Result Answer Miss))
      → AllEnds may (λ (x : SessionState × Result Answer Miss). read x.1) w → AllEnds may EndsSo (read_call is s w)
  read_ends false s w all = keys
  read_ends true s w all = (
    then_ends may (λ (x : SessionState × Result Answer Miss). read x.1) EndsSo w
        (λ x. ends (x.0, Ok (read_reply x.1))) all (λ x is. read_so x.1 is),
    short,
  )

  pub allowed_ends : (is : Bool) (s : SessionState) (w : Walk (SessionState × Result (Option Answer) Miss))
      → AllEnds may (λ (x : SessionState × Result (Option Answer) Miss). sent x.1) w
      → AllEnds may EndsSo (allowed_call is s w)
  allowed_ends false s w all = tt
  allowed_ends true s w all =
      then_ends may (λ (x : SessionState × Result (Option Answer) Miss). sent x.1) EndsSo w
      (λ x. ends (x.0, Ok (sent_reply x.1))) all (λ x is. sent_so x.1 is)

-- what is so of the five replies of a call is so of what it says
module _ (P : ScriptReply → Type 0) (answered : (a : Answer) → P (reply.Answered a)) (done : P reply.Done)
    (lost : P reply.Lost) (short : P reply.OutOfMemory) (keys : P reply.KeyLength) where
  read_so : (r : Result Answer Miss) → Unit {0} → P (read_reply r)
  read_so (Ok a) is = answered a
  read_so (Err miss.Lost) is = lost
  read_so (Err miss.Fault) is = short

  sent_so : (r : Result (Option Answer) Miss) → Unit {0} → P (sent_reply r)
  sent_so (Ok None) is = done
  sent_so (Ok (Some a)) is = answered a
  sent_so (Err miss.Lost) is = lost
  sent_so (Err miss.Fault) is = short

  abbrev SaysSo : SessionState × Said → Type 0
  SaysSo x = IfOk x.1 P

  reads : (is : Bool) (s : SessionState) (w : Walk (SessionState × Result Answer Miss))
      → AllEnds Any SaysSo (read_call is s w)
  reads is s w = read_ends Any P (λ r. Unit {0}) (λ r. Unit {0}) read_so sent_so short keys is s w (all_end Any w)

  allows : (is : Bool) (s : SessionState) (w : Walk (SessionState × Result (Option Answer) Miss))
      → AllEnds Any SaysSo (allowed_call is s w)
  allows is s w = allowed_ends Any P (λ r. Unit {0}) (λ r. Unit {0}) read_so sent_so short keys is s w (all_end Any w)

  call_ends : (bounds : List Key) (s : SessionState) (what : Call Text) → AllEnds Any SaysSo (call_walk bounds s what)
  call_ends bounds s (call.Get key) = reads (is_key key) s _
  call_ends bounds s (call.Scan from to limit) = reads (is_key from && is_key to) s _
  call_ends bounds s call.Prewrite = allows (is_declared s) s _
  call_ends bounds s call.Commit = allows (can_commit s) s _
  call_ends bounds s call.Abort = allows (can_abort s) s _
  call_ends bounds s (call.Heartbeat ttl) = allows (has_primary s) s _

  pub call_says : {S : Type 0} (sends : S → Asked → Reached → S → Type 0) (bounds : List Key) (old new : Known)
      (from to : S) (s t : SessionState) (what : Call Text) (said : Said)
      → Sends sends bounds old from (call_walk bounds s what) (t, said) to new → IfOk said P
  call_says sends bounds old new from to s t what said sent =
      sends_end sends bounds Any (λ a b q r z. tt) SaysSo (call_walk bounds s what) old new from to (t, said)
      (call_ends bounds s what) sent

-- ---- a call that is not allowed

-- a line is told something
abbrev pub IsTold : Said → Type 0
IsTold (Ok said) = Unit {0}
IsTold (Err c) = ⊥

abbrev pub Tells : SessionState × Said → Type 0
Tells x = IsTold x.1

-- its walk ends there; or its line is told something, whatever comes of its requests
abbrev pub StopsOrTells : SessionState → Walk (SessionState × Said) → Type 0
StopsOrTells s w = ((c : Cause) × (w ≡ ends (s, Err c))) ⊎ AllEnds Any Tells w

read_tells : (is : Bool) (s : SessionState) (w : Walk (SessionState × Result Answer Miss))
    → AllEnds Any Tells (read_call is s w)
read_tells false s w = tt
read_tells true s w = (
  then_ends Any (λ r. Unit {0}) Tells w (λ x. ends (x.0, Ok (read_reply x.1))) (all_end Any w) (λ x is. tt),
  tt,
)

allowed_tells : (is : Bool) (s : SessionState) (w : Walk (SessionState × Result (Option Answer) Miss))
    → StopsOrTells s (allowed_call is s w)
allowed_tells false s w = inl (Order, refl)
allowed_tells true s w =
    inr (then_ends Any (λ r. Unit {0}) Tells w (λ x. ends (x.0, Ok (sent_reply x.1))) (all_end Any w) (λ x is. tt))

pub call_tells : (bounds : List Key) (s : SessionState) (what : Call Text) → StopsOrTells s (call_walk bounds s what)
call_tells bounds s (call.Get key) = inr (read_tells (is_key key) s _)
call_tells bounds s (call.Scan from to limit) = inr (read_tells (is_key from && is_key to) s _)
call_tells bounds s call.Prewrite = allowed_tells (is_declared s) s _
call_tells bounds s call.Commit = allowed_tells (can_commit s) s _
call_tells bounds s call.Abort = allowed_tells (can_abort s) s _
call_tells bounds s (call.Heartbeat ttl) = allowed_tells (has_primary s) s _

-- where it is not allowed, it sends nothing, and all is as it was
pub call_stops : {S : Type 0} (sends : S → Asked → Reached → S → Type 0) (bounds : List Key) (old new : Known)
    (from to : S) (s t : SessionState) (what : Call Text) (c : Cause)
    → Sends sends bounds old from (call_walk bounds s what) (t, Err c) to new
    → (call_walk bounds s what ≡ ends (s, Err c)) × (t ≡ s) × (to ≡ from) × (new ≡ old)
call_stops sends bounds old new from to s t what c sent = elim (call_tells bounds s what) [
  | inl y ↦ (let stopped = subst (λ w. Sends sends bounds old from w (t, Err c) to new) y.1 sent in (
    y.1 ∙ ap (λ (x : SessionState × Said). ends (s, x.1)) (sym stopped.0),
    ap (λ (x : SessionState × Said). x.0) stopped.0,
    stopped.1,
    stopped.2,
  ))
  | inr all ↦ absurd (sends_end sends bounds Any (λ a b q r z. tt) Tells (call_walk bounds s what) old new from to
      (t, Err c) all sent)
]

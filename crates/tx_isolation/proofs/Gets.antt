-- What a session's get comes to is what the machine sees at its start.
use Rattle.std.proofs.Common.{◌≡◌, inl, inr, ℕ, List, Option, Some, None, Result, Ok, Err, refl, sym, ap, subst}
use Rattle.tx_types.specs.declared.key.Key.{Key}
use Rattle.tx_types.specs.declared.value.Value.{Value}
use Rattle.tx_types.specs.declared.mutation.Mutation.{Mutation}
use Rattle.tx_types.specs.declared.mutation.Mutation.TheVariants as mutation
use Rattle.tx_plan.specs.declared.body.Body.{Body}
use Rattle.tx_plan.specs.declared.answer.Answer.{Answer}
use Rattle.tx_plan.specs.declared.answer.Answer.TheVariants as answer
use Rattle.tx_machine.specs.Machine.{Rows, Sees, table_of}
use Rattle.tx_core.specs.declared.event.Event.TheVariants.{Took}
use Rattle.tx_core.specs.Histories.{History, Begins}
use Rattle.tx_core.specs.Shadow.{shadow}
use Rattle.tx_core.specs.Worlds.{IsWorldRun}
use Rattle.tx_core.proofs.seats.Stays.{among_on}
use Rattle.tx_journal.specs.Known.{Known}
use Rattle.tx_journal.specs.Replies.{Asked}
use Rattle.tx_journal.specs.Senders.{Reached, IsSender}
use Rattle.tx_transaction.specs.declared.state.Miss.{Miss}
use Rattle.tx_transaction.specs.declared.state.Miss.TheVariants as miss
use Rattle.tx_transaction.specs.Buffers.{buffered}
use Rattle.tx_transaction.specs.Sessions.{SessionState, read_of, after_read}
use Rattle.tx_transaction.specs.Returns.{Response}
use Rattle.tx_client.specs.Facts.{WasAnswered, RespondsSo}
use Rattle.tx_client.specs.Learns.{response_by, response_of, Learns}
use Rattle.tx_client.specs.Walks.{Sends, get_by, get_walk}
use Rattle.tx_client.proofs.Calls.{came_told}
use Rattle.tx_laws.specs.Told.{Says}
use Rattle.tx_laws.proofs.LaterReads.{answer_seen}
use Rattle.tx_isolation.specs.Snapshots.{IsSnapshotOf, AnswersSnapshot, ReadsAtStart}

-- what a call came to, a state and a result
abbrev Came : Type 0
Came = SessionState × Result Answer Miss

abbrev answered : Result Answer Miss → Answer → Answer
answered (Ok a) other = a
answered (Err why) other = other

-- a call that came to this answer came to no other
same_end : (after t : SessionState) (a b : Answer) → ◌≡◌ {A = Came} (after, Ok a) (t, Ok b) → a ≡ b
same_end after t a b e = ap (λ (x : Came). answered x.1 a) e

missed_end : (after t : SessionState) (a : Answer) (why : Miss) → ◌≡◌ {A = Came} (after, Ok a) (t, Err why) → ⊥
missed_end after t a why e =
    let same : Ok a ≡ Err why = ap (λ (x : Came). x.1) e in
    cc (same)

module _ (bounds : List Key) (h : History) (run : IsWorldRun bounds h) (s : SessionState) (key : Key) where
  abbrev rows : Rows
  rows = (table_of (shadow h)).row

  -- a region's answer to the read of a key is what the machine sees there
  seen_by : (entered : Option Mutation)
      → ((found : Option Value) → Sees rows key s.start found → IsSnapshotOf entered rows s.start key found)
      → (a : Answer) → WasAnswered h (read_of s key) a → AnswersSnapshot entered rows s.start key a
  seen_by entered same (answer.Found v) was =
      same (Some v) (answer_seen bounds h run was.by was.among key s.start (Some v)
      (subst (λ b. Says b was.by.answer key s.start (Some v)) (sym was.asked)
      (subst (λ a. Says (read_of s key) a key s.start (Some v)) (sym was.told) (refl, refl, refl))))
  seen_by entered same answer.Nothing was =
      same None (answer_seen bounds h run was.by was.among key s.start None
      (subst (λ b. Says b was.by.answer key s.start None) (sym was.asked)
      (subst (λ a. Says (read_of s key) a key s.start None) (sym was.told) (refl, refl, refl))))
  seen_by entered same a was = tt

-- what was answered is so in each history that goes on
answered_on : (l h : History) (b : Body) (a : Answer) → Begins l h → WasAnswered l b a → WasAnswered h b a
answered_on l h b a begins was =
    record { by = was.by; among = among_on l h begins (Took was.by) was.among; asked = was.asked; told = was.told }

module _ {S : Type 0} (bounds : List Key) (fits : S → Asked → Type 0) (sends : S → Asked → Reached → S → Type 0)
    (keys_between : S → List Key) (way : IsSender bounds fits sends keys_between) (k new : Known) (a b : S)
    (s after : SessionState) (key : Key) (r : Answer) (h : History) (begins : Begins new.events h)
    (run : IsWorldRun bounds h) where
  abbrev Tells : Option Mutation → Type 0
  Tells entered = AnswersSnapshot entered (table_of (shadow h)).row s.start key r

  module _ (entered : Option Mutation) (same : (found : Option Value) → Sees (table_of (shadow h)).row key s.start found
      → IsSnapshotOf entered (table_of (shadow h)).row s.start key found) where
    by_response : (then_known : Known) → Begins then_known.events h → (c : Response)
        → RespondsSo then_known.events (read_of s key) c
        → ◌≡◌ {A = Came} (after, Ok r) (after_read s c, c) → Tells entered
    by_response then_known on (Err why) told e = absurd (missed_end after s r why e)
    by_response then_known on (Ok x) told e =
        subst (AnswersSnapshot entered (table_of (shadow h)).row s.start key)
        (sym (same_end after (after_read s (Ok x)) r x e))
        (seen_by bounds h run s key entered same x (answered_on then_known.events h (read_of s key) x on told))

    by_reached : (then_known : Known) → Begins then_known.events h → (mid : S) (reached : Reached)
        → sends a (record { by = k.events; body = read_of s key }) reached mid → Learns bounds k reached then_known
        → ◌≡◌ {A = Came} (after, Ok r) (after_read s (response_of reached), response_of reached)
        → Tells entered
    by_reached then_known on mid (Err l) sent learns e = absurd (missed_end after s r miss.Lost e)
    by_reached then_known on mid (Ok g) sent learns e =
        by_response then_known on (response_by g.answer)
        (came_told bounds g (read_of s key) then_known.events learns.4
        (ap (λ (q : Asked). q.body) (way.answers a mid (record { by = k.events; body = read_of s key }) g sent))
        learns.3) e

  by_entered : (entered : Option Mutation) → Sends sends bounds k a (get_by s key entered) (after, Ok r) b new
      → Tells entered
  by_entered (Some (mutation.Put v)) sent = elim sent [
    | inl short ↦ absurd (missed_end after s r miss.Fault short.0)
    | inr more ↦ subst (AnswersSnapshot (Some (mutation.Put v)) (table_of (shadow h)).row s.start key)
        (sym (same_end after s r (answer.Found v) more.0)) refl
  ]
  by_entered (Some (mutation.Insert v)) sent = elim sent [
    | inl short ↦ absurd (missed_end after s r miss.Fault short.0)
    | inr more ↦ subst (AnswersSnapshot (Some (mutation.Insert v)) (table_of (shadow h)).row s.start key)
        (sym (same_end after s r (answer.Found v) more.0)) refl
  ]
  by_entered (Some mutation.Delete) sent =
      subst (AnswersSnapshot (Some mutation.Delete) (table_of (shadow h)).row s.start key)
      (sym (same_end after s r answer.Nothing sent.0)) refl
  by_entered (Some mutation.Lock) sent = elim sent [
    | inl short ↦ absurd (missed_end after s r miss.Fault short.0)
    | inr more ↦ (let (reached, mid, then_known, did, learns, rest) = more in
        by_reached (Some mutation.Lock) (λ found is. is) then_known
        (subst (λ (y : Known). Begins y.events h) rest.2 begins) mid reached did learns rest.0)
  ]
  by_entered None sent = elim sent [
    | inl short ↦ absurd (missed_end after s r miss.Fault short.0)
    | inr more ↦ (let (reached, mid, then_known, did, learns, rest) = more in
        by_reached None (λ found is. is) then_known
        (subst (λ (y : Known). Begins y.events h) rest.2 begins) mid reached did learns rest.0)
  ]

-- each get of a session is of its start
pub gets_at_start : {S : Type 0} (bounds : List Key) (fits : S → Asked → Type 0) (sends : S → Asked → Reached → S
    → Type 0) (keys_between : S → List Key) → IsSender bounds fits sends keys_between → ReadsAtStart bounds sends
gets_at_start bounds fits sends keys_between way old new a b s after k found h sent begins run =
    by_entered bounds fits sends keys_between way old new a b s after k found h begins run (buffered s.buffer k) sent

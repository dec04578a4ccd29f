-- The calls of a session that send leave what it writes as it is.
use Rattle.std.proofs.Common.{◌≡◌, inl, inr, ℕ, zero, suc, Bool, true, false, List, [], ◌∷◌, Option, Some, None, Result, Ok, Err, refl, sym, ap, subst}
use Rattle.tx_types.specs.declared.key.Key.{Key}
use Rattle.tx_types.specs.declared.mutation.Mutation.{Mutation}
use Rattle.tx_types.specs.declared.mutation.Mutation.TheVariants as mutation
use Rattle.tx_plan.specs.declared.answer.Answer.{Answer}
use Rattle.tx_plan.specs.declared.body.Body.{Body}
use Rattle.tx_journal.specs.Known.{Known}
use Rattle.tx_journal.specs.Replies.{Asked}
use Rattle.tx_transaction.specs.Returns.{Response}
use Rattle.tx_transaction.specs.declared.state.Miss.{Miss}
use Rattle.tx_transaction.specs.declared.state.Phase.{Phase}
use Rattle.tx_transaction.specs.declared.state.Progress.{Progress}
use Rattle.tx_transaction.specs.declared.state.Due.{Due}
use Rattle.tx_transaction.specs.Buffers.{Entries, keys_of, with_progress, buffered}
use Rattle.tx_transaction.specs.Sessions.{SessionState, after_response, after_read, with_passed, read_of}
use Rattle.tx_journal.specs.Senders.{Reached}
use Rattle.tx_client.specs.Learns.{response_of}
use Rattle.tx_client.specs.Walks.{Sends, due_walk, look_walk, get_by, get_walk}
use Rattle.tx_client.specs.Calls.{KeepsSet}

pub keeps_itself : (s : SessionState) → KeepsSet s s
keeps_itself s = record { keys = refl; declared = refl }

-- a state that is this one keeps what this one keeps
pub keeps_same : (s now next : SessionState) → next ≡ now → KeepsSet s now → KeepsSet s next
keeps_same s now next is keeps = subst (λ (t : SessionState). KeepsSet s t) (sym is) keeps

keys_with : (es : Entries) (i : ℕ) (p : Progress) → keys_of (with_progress es i p) ≡ keys_of es
keys_with [] i p = refl
keys_with (e ∷ es) zero p = refl
keys_with (e ∷ es) (suc i) p = ap (λ (l : List Key). e.0 ∷ l) (keys_with es i p)

keeps_response : (s : SessionState) (x : Phase) (i : ℕ) (c : Response) → KeepsSet s (after_response s x i c)
keeps_response s x i (Err why) = record { keys = keys_with s.buffer i _; declared = refl }
keeps_response s x i (Ok a) = record { keys = keys_with s.buffer i _; declared = refl }

keeps_read : (s : SessionState) (c : Response) → KeepsSet s (after_read s c)
keeps_read s (Err why) = keeps_itself s
keeps_read s (Ok a) = record { keys = refl; declared = refl }

pub keeps_passed : (s : SessionState) (t : ℕ) (may : Bool) → KeepsSet s (with_passed s t may)
keeps_passed s t false = keeps_itself s
keeps_passed s t true = record { keys = refl; declared = refl }

module _ {S : Type 0} (sends : S → Asked → Reached → S → Type 0) (bounds : List Key) where
  pub keeps_due : (k new : Known) (from to : S) (s : SessionState) (x : Phase) (due : Option Due)
      (r : SessionState × Result (Option Answer) Miss) → Sends sends bounds k from (due_walk s x due) r to new
      → KeepsSet s r.0
  keeps_due k new from to s x None r e = keeps_same s s r.0 (ap (λ y. y.0) e.0) (keeps_itself s)
  keeps_due k new from to s x (Some due) r (inl e) = keeps_same s s r.0 (ap (λ y. y.0) e.0) (keeps_itself s)
  keeps_due k new from to s x (Some due) r (inr (reached, mid, then, sent, learns, e)) =
      let c = response_of reached in
      keeps_same s (after_response s x due.index c) r.0 (ap (λ y. y.0) e.0) (keeps_response s x due.index c)

  keeps_look : (k new : Known) (from to : S) (s : SessionState) (body : Body) (r : SessionState × Result Answer Miss)
      → Sends sends bounds k from (look_walk s body) r to new → KeepsSet s r.0
  keeps_look k new from to s body r (reached, mid, then, sent, learns, e) =
      let c = response_of reached in
      keeps_same s (after_read s c) r.0 (ap (λ y. y.0) e.0) (keeps_read s c)

  by_buffer : (k new : Known) (from to : S) (s : SessionState) (key : Key)
      (o : Option Mutation) (r : SessionState × Result Answer Miss)
      → Sends sends bounds k from (get_by s key o) r to new → KeepsSet s r.0
  by_buffer k new from to s key (Some (mutation.Put v)) r (inl e) =
      keeps_same s s r.0 (ap (λ y. y.0) e.0) (keeps_itself s)
  by_buffer k new from to s key (Some (mutation.Put v)) r (inr e) =
      keeps_same s s r.0 (ap (λ y. y.0) e.0) (keeps_itself s)
  by_buffer k new from to s key (Some (mutation.Insert v)) r (inl e) =
      keeps_same s s r.0 (ap (λ y. y.0) e.0) (keeps_itself s)
  by_buffer k new from to s key (Some (mutation.Insert v)) r (inr e) =
      keeps_same s s r.0 (ap (λ y. y.0) e.0) (keeps_itself s)
  by_buffer k new from to s key (Some mutation.Delete) r e = keeps_same s s r.0 (ap (λ y. y.0) e.0) (keeps_itself s)
  by_buffer k new from to s key (Some mutation.Lock) r (inl e) = keeps_same s s r.0 (ap (λ y. y.0) e.0) (keeps_itself s)
  by_buffer k new from to s key (Some mutation.Lock) r (inr e) = keeps_look k new from to s (read_of s key) r e
  by_buffer k new from to s key None r (inl e) = keeps_same s s r.0 (ap (λ y. y.0) e.0) (keeps_itself s)
  by_buffer k new from to s key None r (inr e) = keeps_look k new from to s (read_of s key) r e

  pub keeps_get : (k new : Known) (from to : S) (s : SessionState) (key : Key) (r : SessionState × Result Answer Miss)
      → Sends sends bounds k from (get_walk s key) r to new → KeepsSet s r.0
  keeps_get k new from to s key r e = by_buffer k new from to s key (buffered s.buffer key) r e

-- What a client does, by what its slot has, and what a call makes of the store.
use Rattle.std.proofs.Common.{◌≡◌, ◌<◌, ◌≤◌, inl, inr, ℕ, zero, suc, List, [], ◌∷◌, length, slice_index_or, Option, Some, None, Result, Ok, Err, refl, sym, ap, subst, arith}
use Rattle.std.specs.Prelude.{slice_get, slice_set}
use Rattle.tx_types.specs.declared.key.Key.{Key}
use Rattle.tx_journal.specs.Known.{Known}
use Rattle.tx_client.specs.Calls.{Seated}
use Rattle.tx_update.specs.Updates.{SeatGoesOn}
use Rattle.tx_embed.specs.declared.answer.Said.TheVariants as said
use Rattle.tx_embed.specs.declared.client.Slot.TheVariants.{Idle, Open, Lent}
use Rattle.tx_embed.specs.declared.open_transaction.NotCommitted.{NotCommitted}
use Rattle.tx_embed.specs.declared.open_transaction.NotCommitted.TheVariants as uncommitted
use Rattle.tx_embed.specs.declared.request.ClientAct.{ClientAct}
use Rattle.tx_embed.specs.declared.request.ClientAct.TheVariants as act
use Rattle.tx_embed.specs.Transactions.{Commits}
use Rattle.tx_embed.specs.Acts.{SlotContent, Acts, EndsSo, IsWithin, commit_terms}
use Rattle.tx_embed.specs.Told.{told_ending}
use Rattle.tx_embed.specs.Requests.{Parts, parts_in, Asks}
use Rattle.tx_embed.specs.Calls.{StoreState, Called, CalledBy}

-- what stands at an index, and nothing behind the last
pub there_at : {X : Type 0} (xs : List X) (k : ℕ) (x : X) → k < length xs → x ≡ slice_index_or xs k x
    → slice_get xs k ≡ Some x
there_at [] k x within is = absurd (omega (arith, within))
there_at (y ∷ ys) zero x within is = ap Some (sym is)
there_at (y ∷ ys) (suc k) x within is = there_at ys k x (omega (arith, within)) is

pub none_at : {X : Type 0} (xs : List X) (k : ℕ) → length xs ≤ k → slice_get xs k ≡ None
none_at [] k beyond = refl
none_at (y ∷ ys) zero beyond = absurd (omega (arith, beyond))
none_at (y ∷ ys) (suc k) beyond = none_at ys k (omega (arith, beyond))

-- what is said of a commit is what came of it
pub commit_acts : (bounds : List Key) (s : Seated) (e : Result (Option ℕ) NotCommitted) (k : Known)
    → Commits bounds commit_terms s e k → EndsSo bounds s (told_ending e) k
commit_acts bounds s (Ok (Some at)) k commits = commits
commit_acts bounds s (Ok None) k commits = commits
commit_acts bounds s (Err (uncommitted.Stopped stop)) k commits = commits
commit_acts bounds s (Err uncommitted.Unknown) k commits = commits

-- a slot with no transaction that is open
abbrev pub IsClosed : SlotContent → Type 0
IsClosed (Open s) = ⊥
IsClosed _ = Unit {0}

-- nothing is done within none
pub idle_acts : (bounds : List Key) (q : ClientAct) (a : SlotContent) → IsWithin q → IsClosed a
    → Acts bounds q a said.NoTransaction a
idle_acts bounds q (Open s) within closed = absurd closed
idle_acts bounds act.Begin (Idle k) within closed = absurd within
idle_acts bounds act.Begin Lent within closed = absurd within
idle_acts bounds act.Commit (Idle k) within closed = absurd within
idle_acts bounds act.Commit Lent within closed = absurd within
idle_acts bounds act.Abort (Idle k) within closed = absurd within
idle_acts bounds act.Abort Lent within closed = absurd within
idle_acts bounds (act.Get key) (Idle k) within closed = (refl, refl)
idle_acts bounds (act.Get key) Lent within closed = (refl, refl)
idle_acts bounds (act.Put key value) (Idle k) within closed = (refl, refl)
idle_acts bounds (act.Put key value) Lent within closed = (refl, refl)
idle_acts bounds (act.Insert key value) (Idle k) within closed = (refl, refl)
idle_acts bounds (act.Insert key value) Lent within closed = (refl, refl)
idle_acts bounds (act.Delete key) (Idle k) within closed = (refl, refl)
idle_acts bounds (act.Delete key) Lent within closed = (refl, refl)
idle_acts bounds (act.Lock key) (Idle k) within closed = (refl, refl)
idle_acts bounds (act.Lock key) Lent within closed = (refl, refl)
idle_acts bounds (act.Next from to) (Idle k) within closed = (refl, refl)
idle_acts bounds (act.Next from to) Lent within closed = (refl, refl)

module _ (bounds : List Key) (request : List ℕ) (old new : StoreState) (p : Parts) (is : parts_in request ≡ Some p)
    (q : ClientAct) (asks : Asks p.op p.key p.value q) where
  -- the client that asks did what it asks
  pub called_acts : (a x : SlotContent) → slice_get old.slots p.client ≡ Some a
      → new.slots ≡ slice_set old.slots p.client x
      → Acts bounds q a new.said x → SeatGoesOn old.resolver new.resolver → Called bounds request old new
  called_acts a x there set acts goes =
      subst (λ (o : Option Parts). CalledBy bounds o old new) (sym is)
      (inr (q, asks, inr (a, x, there, set, acts, goes)))

  -- there is no such client
  pub called_nobody : slice_get old.slots p.client ≡ None → new.said ≡ said.Misused → new.slots ≡ old.slots
      → new.resolver ≡ old.resolver → Called bounds request old new
  called_nobody none told slots resolver =
      subst (λ (o : Option Parts). CalledBy bounds o old new) (sym is)
      (inr (q, asks, inl (none, told, (slots, resolver))))

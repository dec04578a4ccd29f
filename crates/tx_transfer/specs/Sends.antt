-- Requests that are sent over a store: each is answered, and none is lost.
use Rattle.std.specs.Prelude.{◌≡◌, List}
use Rattle.tx_types.specs.declared.key.Key.{Key}
use Rattle.tx_journal.specs.Known.{Known}
use Rattle.tx_journal.specs.Replies.{Asked}
use Rattle.tx_journal.specs.Senders.{Reached}
use Rattle.tx_store.specs.Stores.{Replies}
use Rattle.tx_client.specs.Walks.{Walk, Sends}

-- a seat that knew `old` sent just the requests of this walk, one after another, and each got
-- a reply; they came to this result, and the seat then knew `new`
abbrev pub SendsOver : {R : Type 0} → List Key → Known → Walk R → R → Known → Type 0
SendsOver bounds old walk result new = Sends (Replies {S = Unit {0}}) bounds old tt walk result tt new

-- a way that replies to each request, as a store does
abbrev pub RepliesOver : {S : Type 0} → (S → Asked → Reached → S → Type 0) → Type 0
RepliesOver {S} sends = (a b : S) (q : Asked) (reached : Reached) → sends a q reached b → Replies a q reached b

-- whatever seat each request keeps of a way is kept
abbrev pub KeepsSeats : {S : Type 0} → (S → Asked → Reached → S → Type 0) → S → S → Type 0
KeepsSeats {S} sends from to = (part : S → Known)
    → ((a b : S) (q : Asked) (reached : Reached) → sends a q reached b → part b ≡ part a)
    → part to ≡ part from

-- What a store, and the way to it, make of a request, and which seats it leaves for sessions.
use Rattle.std.specs.Prelude.{◌≡◌, ℕ, ◌+◌, ◌<◌, List, [], ◌∷◌, length, slice_get, Some, Ok, Err}
use Rattle.tx_types.specs.declared.key.Key.{Key}
use Rattle.tx_plan.specs.declared.answer.Answer.{Answer}
use Rattle.tx_core.specs.declared.event.Event.TheVariants.{Took}
use Rattle.tx_core.specs.Histories.{History, Begins}
use Rattle.tx_core.specs.Worlds.{Holds}
use Rattle.tx_journal.specs.Known.{Known, known}
use Rattle.tx_journal.specs.Replies.{Asked}
use Rattle.tx_journal.specs.Senders.{Reached, IsHeld}

-- A history ends with the event that answers a request so: a region that holds what the request
-- speaks of took it. All that the sender had seen lies before that event, so the answer is none
-- that the sender may have been given before.
pub record IsAnswered (bounds : List Key) (q : Asked) (h : History) (a : Answer) : Type 0 where
  pub region : ℕ
  pub holds : Holds bounds region q.body
  pub loaded : ℕ
  pub before : History
  pub ends : h ≡ Took record { region = region; body = q.body; loaded = loaded; answer = a } ∷ before
  pub after : Begins q.by before

-- it takes what one of the regions holds
abbrev pub TakesHeld : {S : Type 0} → List Key → S → Asked → Type 0
TakesHeld bounds a q = IsHeld bounds q.body

-- a reply comes, and it is to the request that was sent
abbrev pub Replies : {S : Type 0} → S → Asked → Reached → S → Type 0
Replies a q (Ok g) b = g.request ≡ q
Replies a q (Err l) b = ⊥

-- the seats that are left for sessions: numbered from this one on, each with 2^32 ticks and no
-- event
abbrev pub AreForSessions : ℕ → List Known → Type 0
AreForSessions first seats = (k : ℕ) → k < length seats → slice_get seats k ≡ Some (known (first + k) 4294967296 [])

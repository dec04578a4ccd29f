-- What the one region of a store makes of a request.
use Rattle.std.specs.Prelude.{◌≡◌, List, Ok, Err}
use Rattle.tx_types.specs.declared.key.Key.{Key}
use Rattle.tx_journal.specs.Replies.{Asked}
use Rattle.tx_journal.specs.Senders.{Reached, IsHeld}

-- it takes what some region holds
abbrev pub TakesHeld : {S : Type 0} → List Key → S → Asked → Type 0
TakesHeld bounds a q = IsHeld bounds q.body

-- a reply comes, and it is to the request that was sent
abbrev pub Replies : {S : Type 0} → S → Asked → Reached → S → Type 0
Replies a q (Ok g) b = g.request ≡ q
Replies a q (Err l) b = ⊥

-- Ways to the regions, and what they make of a request.
use Rattle.std.specs.Prelude.{◌≡◌, ◌≤◌, ℕ, List, length, Option, Some, None, Result, Ok, Err}
use Rattle.tx_types.specs.declared.key.Key.{Key}
use Rattle.tx_plan.specs.declared.body.Body.{Body}
use Rattle.tx_core.specs.Worlds.{Holds}
use Rattle.tx_journal.specs.Replies.{Asked, Given}
use Rattle.tx_journal.specs.declared.sender.Lost.{Lost}

-- a reply, or none
abbrev pub Reached : Type 0
Reached = Result Given Lost

-- what is left at a place where a reply was to come
abbrev pub reached : {R : Type 0} → Option R → Result R Lost
reached None = Err (record {})
reached (Some r) = Ok r

-- some region holds what a request speaks of
abbrev pub IsHeld : List Key → Body → Type 0
IsHeld bounds b = (n : ℕ) × (n ≤ length bounds) × Holds bounds n b

-- A way to the regions between which these keys lie: it takes each request that a region holds, and
-- an answer is to the request that was sent.
pub record IsSender {S : Type 0} (bounds : List Key) (fits : S → Asked → Type 0) (sends : S → Asked → Reached → S
    → Type 0) (keys_between : S → List Key) : Type 0 where
  pub takes : (a : S) (q : Asked) → IsHeld bounds q.body → fits a q
  pub answers : (a b : S) (q : Asked) (g : Given) → sends a q (Ok g) b → g.request ≡ q
  pub between : (a : S) → keys_between a ≡ bounds

-- it loses no request and no reply
abbrev pub LosesNothing : {S : Type 0} → (S → Asked → Reached → S → Type 0) → Type 0
LosesNothing {S} sends = (a b : S) (q : Asked) (l : Lost) → sends a q (Err l) b → ⊥

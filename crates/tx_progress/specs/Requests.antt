-- How many requests a walk sends.
use Rattle.std.specs.Prelude.{◌≡◌, ℕ, ◌-◌, ◌<◌, ◌≤◌, length, Ok}
use Rattle.tx_types.specs.declared.mutation.Mode.TheVariants.{Async}
use Rattle.tx_plan.specs.declared.answer.Answer.TheVariants as answer
use Rattle.tx_transaction.specs.Returns.{Response}
use Rattle.tx_client.specs.Walks.{Walk, asks, grows, ends}

-- At most n requests are sent, where what comes of each is so.
abbrev pub AtMost : {R : Type 0} → (Response → Type 0) → ℕ → Walk R → Type 0
AtMost Comes n (ends r) = Unit {0}
AtMost Comes n (grows more short) = AtMost Comes n more × AtMost Comes n short
AtMost Comes n (asks body more) = (0 < n) × ((c : Response) → Comes c → AtMost Comes (n - 1) (more c))

-- whatever comes of it
abbrev pub AnyResponse : Response → Type 0
AnyResponse c = Unit {0}

-- A region lists at most so many locks, and an async lock that is told at most so many other keys
-- of its transaction.
abbrev pub Lists : (locks others : ℕ) → Response → Type 0
Lists locks others (Ok (answer.Locks infos)) = length infos ≤ locks
Lists locks others (Ok (answer.Locked info)) = info.mode ≡ Async → length info.secondaries ≤ others
Lists locks others _ = Unit {0}

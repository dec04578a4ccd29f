-- What a transfer's session writes, and what its transaction declared.
use Rattle.std.specs.Prelude.{◌≡◌, ◌⊎◌, ℕ, [], ◌∷◌, map, Option, Some, None}
use Rattle.tx_types.specs.declared.key.Key.{Key}
use Rattle.tx_types.specs.declared.mutation.Mutation.{Mutation}
use Rattle.tx_core.specs.declared.event.Declaration.{Declaration}
use Rattle.tx_core.specs.declared.event.Outcome.{Outcome}
use Rattle.tx_core.specs.declared.event.Outcome.TheVariants as outcome
use Rattle.tx_core.specs.Histories.{History, declared}
use Rattle.tx_transaction.specs.Buffers.{keys_of, touched}
use Rattle.tx_transaction.specs.Sessions.{SessionState}

-- a put of this key entered its buffer
abbrev pub HasEntered : SessionState → Key → SessionState → Type 0
HasEntered old key new = (m : Mutation) × (new ≡ record old { buffer = touched old.buffer key m })

-- it writes these two keys, in this order; as long as it has not declared it may not
-- have come to both
abbrev pub Moves : Key → Key → SessionState → Type 0
Moves from to s = (keys_of s.buffer ≡ from ∷ to ∷ [])
    ⊎ ((s.declared ≡ None) × ((keys_of s.buffer ≡ []) ⊎ (keys_of s.buffer ≡ from ∷ [])))

-- it writes these, where they are said
abbrev pub MovesSome : Option (Key × Key) → SessionState → Type 0
MovesSome None s = Unit {0}
MovesSome (Some keys) s = Moves keys.0 keys.1 s

-- the transaction that started there declared just these two keys, in this order
abbrev pub DeclaresJust : History → ℕ → Key → Key → Type 0
DeclaresJust h start from to =
    (d : Declaration) × (declared h start ≡ Some d) × (map (λ c. c.key) d.changes ≡ from ∷ to ∷ [])

-- a transfer that was committed or aborted declared just its two keys
abbrev pub IsBetween : History → ℕ → Outcome → Option (Key × Key) → Type 0
IsBetween h start (outcome.Committed c) (Some keys) = DeclaresJust h start keys.0 keys.1
IsBetween h start outcome.Aborted (Some keys) = DeclaresJust h start keys.0 keys.1
IsBetween h start _ _ = Unit {0}

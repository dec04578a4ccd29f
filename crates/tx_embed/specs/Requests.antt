-- Requests as bytes.
use Rattle.std.specs.Prelude.{◌≡◌, ◌⊎◌, ◌+◌, ◌*◌, ◌<◌, ◌≤◌, ℕ, List, ◌∷◌, length, take, drop, nat_le, if◌then◌else◌, Option, Some, None, false}
use Rattle.tx_types.specs.declared.limits.TheConstants.{MAX_VALUE_BYTES}
use Rattle.tx_types.specs.declared.fault.Fault.{Fault}
use Rattle.tx_types.specs.declared.fault.Fault.TheVariants as fault
use Rattle.tx_types.specs.Lengths.{is_key}
use Rattle.tx_update.specs.declared.stops.Stop.TheVariants.{Refused}
use Rattle.tx_embed.specs.declared.answer.Said.{Said}
use Rattle.tx_embed.specs.declared.answer.Said.TheVariants.{Stopped, Misused}
use Rattle.tx_embed.specs.declared.request.ClientAct.{ClientAct}
use Rattle.tx_embed.specs.declared.request.ClientAct.TheVariants as act

-- what a request has: the number of what is asked and that of its client, a key and a value
pub record Parts : Type 0 where
  pub op : ℕ
  pub client : ℕ
  pub key : List ℕ
  pub value : List ℕ

-- what lies behind the length of a key: the key, and a value
abbrev pub parts_by : ℕ → ℕ → ℕ → List ℕ → Option Parts
parts_by op client len rest = if nat_le len (length rest) then Some (record {
  op = op;
  client = client;
  key = take len rest;
  value = drop len rest;
}) else None

-- a byte that says what is asked, two of the client's number and two of the length of the key, each
-- the lesser first, the key, and the value
abbrev pub parts_in : List ℕ → Option Parts
parts_in (op ∷ c0 ∷ c1 ∷ k0 ∷ k1 ∷ rest) = parts_by op (c0 + 256 * c1) (k0 + 256 * k1) rest
parts_in bytes = None

-- what is asked, by its number, with a key and a value
abbrev pub Asks : ℕ → List ℕ → List ℕ → ClientAct → Type 0
Asks op key value act.Begin = op ≡ 1
Asks op key value (act.Get k) = (op ≡ 2) × (k ≡ key)
Asks op key value (act.Put k v) = (op ≡ 3) × (k ≡ key) × (v ≡ value)
Asks op key value (act.Insert k v) = (op ≡ 4) × (k ≡ key) × (v ≡ value)
Asks op key value (act.Delete k) = (op ≡ 5) × (k ≡ key)
Asks op key value (act.Lock k) = (op ≡ 6) × (k ≡ key)
Asks op key value (act.Next from to) = (op ≡ 7) × (from ≡ key) × (to ≡ value)
Asks op key value act.Commit = op ≡ 8
Asks op key value act.Abort = op ≡ 9

-- why a request is refused
abbrev pub refusal : Fault → Said
refusal f = Stopped (Refused f)

-- what is asked has a key, and no value
abbrev pub IsByKey : ℕ → Type 0
IsByKey op = (op ≡ 2) ⊎ (op ≡ 5) ⊎ (op ≡ 6) ⊎ (op ≡ 7)

-- what is asked has a key and a value
abbrev pub IsByValue : ℕ → Type 0
IsByValue op = (op ≡ 3) ⊎ (op ≡ 4)

-- Why nothing is asked: a number that says nothing; of what has a key, a key of too few or too many
-- bytes, or want of memory; of a range, its end likewise; of what has a value, one of too many.
abbrev pub IsRefused : ℕ → List ℕ → List ℕ → Said → Type 0
IsRefused op key value said = ((said ≡ Misused) × (1 ≤ op → 9 < op))
    ⊎ ((IsByKey op ⊎ IsByValue op) × (said ≡ refusal fault.KeyLength) × (is_key key ≡ false))
    ⊎ ((op ≡ 7) × (said ≡ refusal fault.KeyLength) × (is_key value ≡ false))
    ⊎ (IsByValue op × (said ≡ refusal fault.ValueLength) × (MAX_VALUE_BYTES < length value))
    ⊎ ((IsByKey op ⊎ IsByValue op) × (said ≡ refusal fault.OutOfMemory))

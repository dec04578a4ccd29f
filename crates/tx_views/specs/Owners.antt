-- Who put each value.
use Rattle.std.specs.Prelude.{◌≡◌, ◌⊎◌, ℕ, ◌<◌, List, length, Option, Some, None, slice_index_or}
use Rattle.tx_recording.specs.declared.recording.Recording.{Recording}
use Rattle.tx_recording.specs.Recordings.{txns_of, ops_of}
use Rattle.tx_recording.specs.Explanations.{Puts, op_at}
use Rattle.tx_views.specs.declared.owner.Owner.{Owner}
use Rattle.tx_views.specs.declared.owner.Twice.{Twice}
use Rattle.tx_views.specs.declared.owner.Owned.{Owned}
use Rattle.tx_views.specs.declared.owner.Owned.TheVariants.{Once}
use Rattle.tx_views.specs.declared.owner.Owned.TheVariants.{Twice as PutTwice}

-- the owner's operation puts the value
abbrev pub IsOwnerOf : Recording → ℕ → Owner → Type 0
IsOwnerOf r v o = (o.place < length (ops_of r o.txn)) × Puts (op_at r o.txn o.place).act v

-- who put v, by a table
abbrev pub owner_at : List (Option Owner) → ℕ → Option Owner
owner_at table v = slice_index_or table v None

-- of each value that one of the first n operations of t puts, the table has it
abbrev pub Notes : Recording → List (Option Owner) → ℕ → ℕ → Type 0
Notes r table t n = (p v : ℕ) → p < n → Puts (op_at r t p).act v → owner_at table v ≡ Some record { txn = t; place = p }

-- the table has whoever put a value, and nobody else
pub record AreOwners (r : Recording) (table : List (Option Owner)) : Type 0 where
  pub all : (t : ℕ) → t < txns_of r → Notes r table t (length (ops_of r t))
  pub only : (v : ℕ) (o : Owner) → owner_at table v ≡ Some o → IsOwnerOf r v o

-- before the operation of t at place
abbrev pub IsEarly : ℕ → ℕ → Owner → Type 0
IsEarly t place o = (o.txn < t) ⊎ ((o.txn ≡ t) × (o.place < place))

-- both put the value, the first before the second
abbrev pub IsTwice : Recording → Twice → Type 0
IsTwice r t = IsOwnerOf r t.value t.first × IsOwnerOf r t.value t.second
    × IsEarly t.second.txn t.second.place t.first

abbrev pub IsOwned : Recording → Owned → Type 0
IsOwned r (Once table) = AreOwners r table.items
IsOwned r (PutTwice t) = IsTwice r t

-- what the table has it keeps
abbrev pub KeepsOwners : List (Option Owner) → List (Option Owner) → Type 0
KeepsOwners old new = (v : ℕ) (o : Owner) → owner_at old v ≡ Some o → owner_at new v ≡ Some o

-- What holds of the entries of a session's buffer.
use Rattle.std.specs.Prelude.{[], ◌∷◌, Option, Some, None}
use Rattle.tx_types.specs.declared.key.Key.{Key}
use Rattle.tx_types.specs.declared.value.Value.{Value}
use Rattle.tx_types.specs.declared.mutation.Mutation.{Mutation}
use Rattle.tx_types.specs.declared.mutation.Mutation.TheVariants as mutation
use Rattle.tx_transaction.specs.Buffers.{Entries}

-- what an entry says of its key
abbrev pub ByMutation : (Key → Option Value → Type 0) → Key → Mutation → Type 0
ByMutation P k (mutation.Put v) = P k (Some v)
ByMutation P k (mutation.Insert v) = P k (Some v)
ByMutation P k mutation.Delete = P k None
ByMutation P k mutation.Lock = Unit {0}

-- this holds of each key and the value that is put or inserted there, or none where it is deleted
abbrev pub AllBy : (Key → Option Value → Type 0) → Entries → Type 0
AllBy P [] = Unit {0}
AllBy P (e ∷ es) = ByMutation P e.0 e.1.mutation × AllBy P es

-- A write record of nested maps, by what its transaction did.
use Rattle.tx_types.specs.declared.write.WriteRec.{WriteRec}
use Rattle.tx_types.specs.declared.write.WriteRec.TheVariants as stored
use Rattle.tx_types.specs.declared.mutation.StoredMutation.{StoredMutation}
use Rattle.tx_types.specs.declared.mutation.StoredMutation.TheVariants as mutation
use Rattle.tx_types.specs.declared.value.StoredValue.TheVariants.{Inline, InDefault}
use Rattle.std.specs.Prelude.{ℕ, Bool}
use Rattle.tx_nested.specs.declared.records.Kept.{Kept}
use Rattle.tx_nested.specs.declared.records.Kept.TheVariants.{Rollback, Put, PutApart, Delete, Lock}

abbrev pub commit_rec : StoredMutation → Bool → ℕ → WriteRec
commit_rec mutation is_marked start =
    stored.Commit (record { mutation = mutation; start = start; overlapped_rollback = is_marked })

-- the record that is kept
abbrev pub rec_of : Kept → WriteRec
rec_of (Rollback start) = stored.Rollback start
rec_of (Put is_marked start value) = commit_rec (mutation.Put (Inline value)) is_marked start
rec_of (PutApart is_marked start) = commit_rec (mutation.Put InDefault) is_marked start
rec_of (Delete is_marked start) = commit_rec mutation.Delete is_marked start
rec_of (Lock is_marked start) = commit_rec mutation.Lock is_marked start

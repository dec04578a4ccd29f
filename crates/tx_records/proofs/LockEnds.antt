-- What stands at the end of a lock's bytes, and the bytes of the commit record that it becomes.
use Rattle.std.proofs.Common.{◌≡◌, ℕ, ◌-◌, Bool, List, ◌∷◌, ◌++◌, length, take, drop, get_or, ap, subst, ◌∙◌, arith}
use Rattle.std.proofs.lemmas.List.{length-append, take_rest}
use Rattle.std.proofs.Math.Seq.{drop-append_seam}
use Rattle.std.specs.Int.{w32, w64, to_be_bytes}
use Rattle.tx_types.specs.Kinds.{stored_kind}
use Rattle.tx_types.specs.Locks.{mode_of}
use Rattle.tx_types.specs.declared.lock.LockRec.{LockRec}
use Rattle.tx_codec.specs.Records.{kind_byte, mode_byte, mark_byte, key_bytes, others_bytes, value_bytes, commit_bytes}
use Rattle.tx_records.specs.Recorded.{SpellsLock, HasValueAt, same_lock}
use Rattle.tx_cells.specs.Afterwards.{commit_of}

-- all but the value
abbrev front_of : LockRec → List ℕ
front_of lock =
    kind_byte (stored_kind lock.mutation)
    ∷ mode_byte (mode_of lock.mode) ∷ to_be_bytes w64 lock.start ++ to_be_bytes w64 lock.min
    ++ to_be_bytes w32 lock.ttl
    ++ key_bytes lock.primary ++ others_bytes lock.mode

-- the value stands where as many bytes are left as it takes
pub value_at : (bytes : List ℕ) (rec other : LockRec) (n : ℕ)
    → SpellsLock bytes rec → SpellsLock bytes other → n ≡ length bytes - length (value_bytes rec.mutation)
    → HasValueAt n bytes other
value_at bytes rec other n s t e =
    let value = value_bytes rec.mutation in
    let position : n ≡ length (front_of rec) = omega (arith, e, ap length s.1, length-append (front_of rec) value) in
    let P : LockRec → Type 0 = HasValueAt n bytes in
    subst P (same_lock bytes rec other s t) (
      omega (arith, e),
      ap (drop n) s.1 ∙ ap (λ m. drop m (front_of rec ++ value)) position
          ∙ drop-append_seam (front_of rec) value,
    )

-- the kind, the mark, the start and the value are what a commit record spells
pub commit_spelt : (bytes : List ℕ) (rec : LockRec) (position : ℕ) (mark : Bool) (m : ℕ) → SpellsLock bytes rec
    → HasValueAt position bytes rec → m ≡ mark_byte mark
    → get_or bytes 0 0 ∷ m ∷ take 8 (drop 2 bytes) ++ take (length bytes - position) (drop position bytes)
    ≡ commit_bytes (commit_of rec mark)
commit_spelt bytes rec position mark m s at e =
    let rest : take (length bytes - position) (drop position bytes) ≡ value_bytes rec.mutation = rw take_rest at.1 in
    ap (λ (x : List ℕ). get_or bytes 0 0 ∷ m ∷ take 8 (drop 2 bytes) ++ x) rest
    ∙ ap (λ k. get_or bytes 0 0 ∷ k ∷ take 8 (drop 2 bytes) ++ value_bytes rec.mutation) e
    ∙ ap (λ (w : List ℕ). get_or w 0 0 ∷ mark_byte mark ∷ take 8 (drop 2 w) ++ value_bytes rec.mutation) s.1

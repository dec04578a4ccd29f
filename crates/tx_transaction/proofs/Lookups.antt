-- Keys that are looked up in a buffer.
use Rattle.std.proofs.Common.{◌≡◌, ℕ, ◌<◌, zero, suc, true, false, length, [], ◌∷◌, Some, None, option_map, bytes_eq, refl, sym, ap, ◌∙◌, inl, inr, arith}
use Rattle.std.specs.Map.{lookup}
use Rattle.tx_types.specs.declared.key.Key.{Key}
use Rattle.tx_core.proofs.Basics.{key_test, key_same}
use Rattle.tx_transaction.specs.declared.state.BufferEntry.{BufferEntry}
use Rattle.tx_transaction.specs.Buffers.{Entries, key_at, mutation_in, buffered}

-- a key is the same either way round
pub turned : (j k : Key) → bytes_eq j k ≡ bytes_eq k j
turned j k = elim (key_test j k) [
  | inl x ↦ x.0 ∙ sym (ap (λ q. bytes_eq k q) x.1 ∙ key_same k)
  | inr x ↦ elim (key_test k j) [ inl y ↦ absurd (x.1 (sym y.1)) | inr y ↦ x.0 ∙ sym y.0 ]
]

-- what the map finds is what is buffered
pub found : (es : Entries) (k : Key)
    → option_map (λ (e : BufferEntry). e.mutation) (lookup (λ q. bytes_eq k q) es) ≡ buffered es k
found [] k = refl
found (e ∷ es) k = elim (key_test e.0 k) [
  | inl x ↦ rw (x.0, sym (turned e.0 k) ∙ x.0) refl
  | inr x ↦ rw (x.0, sym (turned e.0 k) ∙ x.0) (found es k)
]

-- the first index of a key is where it is found
pub first_there : (es : Entries) (k : Key) (i : ℕ) → i < length es
    → ((j : ℕ) → j < i → bytes_eq (key_at es j) k ≡ false) → bytes_eq (key_at es i) k ≡ true
    → buffered es k ≡ Some (mutation_in es i)
first_there [] k i lt below here = absurd (omega arith)
first_there (e ∷ es) k zero lt below here = rw here refl
first_there (e ∷ es) k (suc i) lt below here =
    rw (below 0 (omega arith)) (first_there es k i (omega arith) (λ j l. below (suc j) (omega arith)) here)

pub nowhere : (es : Entries) (k : Key) → ((j : ℕ) → j < length es → bytes_eq (key_at es j) k ≡ false)
    → buffered es k ≡ None
nowhere [] k below = refl
nowhere (e ∷ es) k below = rw (below 0 (omega arith)) (nowhere es k (λ j l. below (suc j) (omega arith)))

-- No two records are spelled alike.
use Rattle.std.proofs.Common.{◌≡◌, ℕ, ◌^◌, ◌<◌, List, [], ◌∷◌, ◌++◌, length, drop, get_or, refl, sym, ap, ◌∙◌, append_assoc, arith}
use Rattle.std.specs.Int.{w32, w64, to_be_bytes}
use Rattle.std.specs.List.{flat_map, AllByRecursion}
use Rattle.std.specs.Prelude.{Bool, true, false}
use Rattle.byteorder.specs.Endian.{big_number}
use Rattle.tx_types.specs.Kinds.{stored_kind}
use Rattle.tx_types.specs.Locks.{mode_of}
use Rattle.tx_types.specs.declared.key.Key.{Key}
use Rattle.tx_types.specs.declared.value.StoredValue.TheVariants.{Inline, InDefault}
use Rattle.tx_types.specs.declared.mutation.LockKind.{LockKind}
use Rattle.tx_types.specs.declared.mutation.LockKind.TheVariants as kind
use Rattle.tx_types.specs.declared.mutation.Mode.{Mode}
use Rattle.tx_types.specs.declared.mutation.Mode.TheVariants as mode
use Rattle.tx_types.specs.declared.mutation.StoredMutation.{StoredMutation}
use Rattle.tx_types.specs.declared.mutation.StoredMutation.TheVariants.{Put, Delete, Lock}
use Rattle.tx_types.specs.declared.lock.LockMode.{LockMode}
use Rattle.tx_types.specs.declared.lock.LockMode.TheVariants.{TwoPhase, Async}
use Rattle.tx_types.specs.declared.lock.LockRec.{LockRec}
use Rattle.tx_types.specs.declared.write.CommitRec.{CommitRec}
use Rattle.tx_types.specs.declared.write.WriteRec.{WriteRec}
use Rattle.tx_types.specs.declared.write.WriteRec.TheVariants.{Commit, Rollback}
use Rattle.tx_types.specs.Lengths.{IsKey}
use Rattle.tx_codec.specs.Records.{IsMode, IsLock, IsCommit, IsWrite, kind_byte, mode_byte, mark_byte, key_bytes, others_bytes, value_bytes, lock_bytes, commit_bytes, write_bytes}
use Rattle.tx_codec.proofs.Lists.{same_fronts}
use Rattle.tx_codec.proofs.Words.{again_2, again_4, again_8}

-- ---- the bytes that tell cases apart

kind_one : (a b : LockKind) → kind_byte a ≡ kind_byte b → a ≡ b
kind_one kind.Put kind.Put e = refl
kind_one kind.Put kind.Delete e = absurd (omega (arith, e))
kind_one kind.Put kind.Lock e = absurd (omega (arith, e))
kind_one kind.Delete kind.Put e = absurd (omega (arith, e))
kind_one kind.Delete kind.Delete e = refl
kind_one kind.Delete kind.Lock e = absurd (omega (arith, e))
kind_one kind.Lock kind.Put e = absurd (omega (arith, e))
kind_one kind.Lock kind.Delete e = absurd (omega (arith, e))
kind_one kind.Lock kind.Lock e = refl

kind_no_rollback : (k : LockKind) → kind_byte k ≡ 0x52 → ⊥
kind_no_rollback kind.Put e = omega (arith, e)
kind_no_rollback kind.Delete e = omega (arith, e)
kind_no_rollback kind.Lock e = omega (arith, e)

mode_one : (a b : Mode) → mode_byte a ≡ mode_byte b → a ≡ b
mode_one mode.TwoPhase mode.TwoPhase e = refl
mode_one mode.TwoPhase mode.Async e = absurd (omega (arith, e))
mode_one mode.Async mode.TwoPhase e = absurd (omega (arith, e))
mode_one mode.Async mode.Async e = refl

mark_one : (a b : Bool) → mark_byte a ≡ mark_byte b → a ≡ b
mark_one false false e = refl
mark_one false true e = absurd (omega (arith, e))
mark_one true false e = absurd (omega (arith, e))
mark_one true true e = refl

-- ---- the parts

word_one : (a b : ℕ) (s t : List ℕ) → a < 2 ^ 64 → b < 2 ^ 64 → to_be_bytes w64 a ++ s ≡ to_be_bytes w64 b ++ t → a ≡ b
word_one a b s t p q e = sym (again_8 a p) ∙ ap (big_number 8) e ∙ again_8 b q

half_one : (a b : ℕ) (s t : List ℕ) → a < 2 ^ 32 → b < 2 ^ 32 → to_be_bytes w32 a ++ s ≡ to_be_bytes w32 b ++ t → a ≡ b
half_one a b s t p q e = sym (again_4 a p) ∙ ap (big_number 4) e ∙ again_4 b q

key_one : (a b : Key) (s t : List ℕ) → IsKey a → IsKey b → key_bytes a ++ s ≡ key_bytes b ++ t → (a ≡ b) × (s ≡ t)
key_one a b s t p q e =
    let len : length a ≡ length b =
    sym (again_2 (length a) (omega (arith, p.1))) ∙ ap (big_number 2) e ∙ again_2 (length b) (omega (arith, q.1)) in
    same_fronts a b s t len (ap (drop 2) e)

keys_one : (a b : List Key) (s t : List ℕ) → AllByRecursion IsKey a
    → AllByRecursion IsKey b → length a ≡ length b → flat_map key_bytes a ++ s ≡ flat_map key_bytes b ++ t
    → (a ≡ b) × (s ≡ t)
keys_one [] [] s t p q l e = (refl, e)
keys_one [] (y ∷ ys) s t p q l e = absurd (omega (arith, l))
keys_one (x ∷ xs) [] s t p q l e = absurd (omega (arith, l))
keys_one (x ∷ xs) (y ∷ ys) s t p q l e =
    let first = key_one x y (flat_map key_bytes xs ++ s) (flat_map key_bytes ys ++ t) p.0 q.0
    (sym (append_assoc (key_bytes x) (flat_map key_bytes xs) s) ∙ e
    ∙ append_assoc (key_bytes y) (flat_map key_bytes ys) t) in
    let rest = keys_one xs ys s t p.1 q.1 (omega (arith, l)) first.1 in
    ((λ i. first.0 i ∷ rest.0 i), rest.1)

others_one : (a b : LockMode) (s t : List ℕ) → IsMode a → IsMode b → mode_of a ≡ mode_of b
    → others_bytes a ++ s ≡ others_bytes b ++ t → (a ≡ b) × (s ≡ t)
others_one TwoPhase TwoPhase s t p q m e = (refl, e)
others_one TwoPhase (Async others) s t p q m e = absurd (cc m)
others_one (Async others) TwoPhase s t p q m e = absurd (cc m)
others_one (Async xs) (Async ys) s t p q m e =
    let len : length xs ≡ length ys =
    sym (again_2 (length xs) (omega (arith, p.0))) ∙ ap (big_number 2) e
    ∙ again_2 (length ys) (omega (arith, q.0)) in
    let both = keys_one xs ys s t p.1 q.1 len (ap (drop 2) e) in
    (ap Async both.0, both.1)

value_one : (a b : StoredMutation) → stored_kind a ≡ stored_kind b → value_bytes a ≡ value_bytes b → a ≡ b
value_one (Put (Inline v)) (Put (Inline w)) k e = ap (λ (x : List ℕ). Put (Inline (drop 2 x))) e
value_one (Put (Inline v)) (Put InDefault) k e = absurd (omega (arith, ap (λ (x : List ℕ). get_or x 0 0) e))
value_one (Put InDefault) (Put (Inline w)) k e = absurd (omega (arith, ap (λ (x : List ℕ). get_or x 0 0) e))
value_one (Put InDefault) (Put InDefault) k e = refl
value_one (Put v) Delete k e = absurd (cc k)
value_one (Put v) Lock k e = absurd (cc k)
value_one Delete (Put w) k e = absurd (cc k)
value_one Delete Delete k e = refl
value_one Delete Lock k e = absurd (cc k)
value_one Lock (Put w) k e = absurd (cc k)
value_one Lock Delete k e = absurd (cc k)
value_one Lock Lock k e = refl

-- ---- records

commit_one : (a b : CommitRec) → IsCommit a → IsCommit b → commit_bytes a ≡ commit_bytes b → a ≡ b
commit_one a b p q e =
    let kinds = kind_one (stored_kind a.mutation) (stored_kind b.mutation) (ap (λ (x : List ℕ). get_or x 0 0) e) in
    let marks = mark_one a.overlapped_rollback b.overlapped_rollback (ap (λ (x : List ℕ). get_or x 1 0) e) in
    let starts = word_one a.start b.start (value_bytes a.mutation) (value_bytes b.mutation) p.start q.start
    (ap (drop 2) e) in
    let values = value_one a.mutation b.mutation kinds (ap (drop 10) e) in
    λ i. record { mutation = values i; start = starts i; overlapped_rollback = marks i }

pub one_write : (a b : WriteRec) → IsWrite a → IsWrite b → write_bytes a ≡ write_bytes b → a ≡ b
one_write (Commit a) (Commit b) p q e = ap Commit (commit_one a b p q e)
one_write (Commit a) (Rollback t) p q e =
    absurd (kind_no_rollback (stored_kind a.mutation) (ap (λ (x : List ℕ). get_or x 0 0) e))
one_write (Rollback t) (Commit b) p q e =
    absurd (kind_no_rollback (stored_kind b.mutation) (sym (ap (λ (x : List ℕ). get_or x 0 0) e)))
one_write (Rollback s) (Rollback t) p q e =
    ap Rollback (sym (again_8 s p) ∙ ap (λ (x : List ℕ). big_number 8 (drop 2 x)) e ∙ again_8 t q)

pub one_lock : (a b : LockRec) → IsLock a → IsLock b → lock_bytes a ≡ lock_bytes b → a ≡ b
one_lock a b p q e =
    let kinds = kind_one (stored_kind a.mutation) (stored_kind b.mutation) (ap (λ (x : List ℕ). get_or x 0 0) e) in
    let modes = mode_one (mode_of a.mode) (mode_of b.mode) (ap (λ (x : List ℕ). get_or x 1 0) e) in
    let starts : a.start ≡ b.start = sym (again_8 a.start p.start) ∙ ap (λ (x : List ℕ). big_number 8 (drop 2 x)) e
    ∙ again_8 b.start q.start in
    let mins : a.min ≡ b.min = sym (again_8 a.min p.min) ∙ ap (λ (x : List ℕ). big_number 8 (drop 10 x)) e
    ∙ again_8 b.min q.min in
    let ttls : a.ttl ≡ b.ttl = sym (again_4 a.ttl p.ttl) ∙ ap (λ (x : List ℕ). big_number 4 (drop 18 x)) e
    ∙ again_4 b.ttl q.ttl in
    let from_primary : key_bytes a.primary
    ++ (others_bytes a.mode ++ value_bytes a.mutation) ≡ key_bytes b.primary
    ++ (others_bytes b.mode ++ value_bytes b.mutation) =
    sym (append_assoc (key_bytes a.primary) (others_bytes a.mode) (value_bytes a.mutation)) ∙ ap (drop 22) e
    ∙ append_assoc (key_bytes b.primary) (others_bytes b.mode) (value_bytes b.mutation) in
    let primaries = key_one a.primary b.primary
    (others_bytes a.mode ++ value_bytes a.mutation) (others_bytes b.mode ++ value_bytes b.mutation) p.primary
    q.primary from_primary in
    let lists = others_one a.mode b.mode (value_bytes a.mutation) (value_bytes b.mutation) p.mode q.mode modes
    primaries.1 in
    let values = value_one a.mutation b.mutation kinds lists.1 in
    λ i. record {
      mutation = values i;
      mode = lists.0 i;
      start = starts i;
      min = mins i;
      ttl = ttls i;
      primary = primaries.0 i;
    }

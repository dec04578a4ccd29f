-- What changes of nested maps make of what is held.
use Rattle.std.proofs.Common.{◌≡◌, ℕ, cond, bytes_eq, Option, Some, None, sym, ap, ◌∙◌, inl, inr}
use Rattle.std.proofs.lemmas.Bool.{cases_Bool}
use Rattle.std.proofs.lemmas.Slice.Eq.{bytes_eq-Decides}
use Rattle.std.specs.Map.{lookup}
use Rattle.std.specs.BTreeMap as tree
use Rattle.std.specs.BTreeMap.{BTreeMap}
use Rattle.std.specs.Ordering.{nat_cmp, is_eq}
use Rattle.std.specs.Cmp.Lexicographic.{slice_cmp}
use Rattle.tx_types.specs.declared.key.Key.{Key}
use Rattle.tx_types.specs.declared.value.Value.{Value}
use Rattle.tx_types.specs.declared.lock.LockRec.{LockRec}
use Rattle.tx_types.specs.declared.write.WriteRec.{WriteRec}
use Rattle.tx_plan.specs.declared.body.Prewrite.{Prewrite}
use Rattle.tx_plan.specs.declared.key_change.NewLock.{NewLock}
use Rattle.tx_nested.specs.declared.key.KeyFamilies.{KeyFamilies}
use Rattle.tx_cells.specs.Contents.{OnKey}
use Rattle.tx_cells.specs.Afterwards.{OnlyOn, put_on, lock_put, with_value, apart_of}
use Rattle.tx_nested.specs.Nested.{held_on, number_on}
use Rattle.tx_cells.proofs.Maps.{key_here, key_elsewhere, key_is, with_at, same_maps}

abbrev pub on_key : Option LockRec → (ℕ → Option WriteRec) → (ℕ → Option Value) → OnKey
on_key lock write value = record { lock = lock; write = write; value = value }

-- ---- one key

-- maps with the same entries
pub same_gets : {X : Type 0} (m n : BTreeMap ℕ X) → n.entries ≡ m.entries → tree.get nat_cmp n ≡ tree.get nat_cmp m
same_gets m n e = λ i q. lookup (tree.is_at (nat_cmp q)) (e i)

pub put_is : (x : OnKey) (b : Prewrite) (new : NewLock) (rec : LockRec) (value : ℕ → Option Value)
    → rec ≡ lock_put b new → ((q : ℕ) → value q ≡ with_value x.value b.start (apart_of b.mutation) q)
    → on_key (Some rec) x.write value ≡ put_on x b new
put_is x b new rec value is each = λ i. on_key (Some (is i)) x.write (λ q. each q i)

pub value_put : (f g : ℕ → Option Value) (t : ℕ) (o : Option Value) (v : Value) → o ≡ Some v
    → ((q : ℕ) → g q ≡ cond (is_eq (nat_cmp t q)) (Some v) (f q)) → (q : ℕ) → g q ≡ with_value f t o q
value_put f g t o v e is q = with_at f g t v is q ∙ ap (λ (x : Option Value). with_value f t x q) (sym e)

pub value_not_put : (f : ℕ → Option Value) (t : ℕ) (o : Option Value) → o ≡ None → (q : ℕ) → f q ≡ with_value f t o q
value_not_put f t o e q = ap (λ (x : Option Value). with_value f t x q) (sym e)

-- ---- all keys

module _ (old new : Key → Option KeyFamilies) where
  -- the key that was changed, by another name
  pub moved : (j key : Key) (o : Option KeyFamilies) → j ≡ key
      → ((k : Key) → new k ≡ cond (is_eq (slice_cmp nat_cmp j k)) o (old k)) → (k : Key)
      → new k ≡ cond (is_eq (slice_cmp nat_cmp key k)) o (old k)
  moved j key o is put k = put k ∙ ap (λ i. cond (is_eq (slice_cmp nat_cmp i k)) o (old k)) is

  pub at_key : (key : Key) (o : Option KeyFamilies)
      → ((k : Key) → new k ≡ cond (is_eq (slice_cmp nat_cmp key k)) o (old k)) → new key ≡ o
  at_key key o is = is key ∙ ap (λ b. cond b o (old key)) (key_here key)

  -- one key has something else
  pub placed : (key : Key) (o : Option KeyFamilies) (y : OnKey)
      → ((k : Key) → new k ≡ cond (is_eq (slice_cmp nat_cmp key k)) o (old k)) → held_on o ≡ y
      → OnlyOn key y (λ k. held_on (old k)) (λ k. held_on (new k))
  placed key o y is e = record {
    here = ap held_on (is key ∙ ap (λ b. cond b o (old key)) (key_here key)) ∙ e;
    others = λ k other. ap held_on (is k ∙ ap (λ b. cond b o (old k)) (key_elsewhere key k other));
  }

  -- one key has the same as before
  pub unplaced : (key : Key) (o : Option KeyFamilies)
      → ((k : Key) → new k ≡ cond (is_eq (slice_cmp nat_cmp key k)) o (old k)) → held_on o ≡ held_on (old key)
      → ◌≡◌ {A = Key → OnKey} (λ k. held_on (new k)) (λ k. held_on (old k))
  unplaced key o is e = same_maps each
    where
      each : (k : Key) → held_on (new k) ≡ held_on (old k)
      each k = elim (cases_Bool (is_eq (slice_cmp nat_cmp key k))) [
        | inl same ↦ (
            let at : new k ≡ o = is k ∙ ap (λ b. cond b o (old k)) same in
            let one : key ≡ k = (bytes_eq-Decides key k).0 (sym (key_is key k) ∙ same) in
            ap held_on at ∙ e ∙ ap (λ j. held_on (old j)) one
            )
        | inr other ↦ ap held_on (is k ∙ ap (λ b. cond b o (old k)) other)
      ]

-- one key has something for the first time
pub first_placed : (old there new : Key → Option KeyFamilies) (j key : Key) (o : Option KeyFamilies) (y : OnKey)
    → there ≡ old → j ≡ key → ((k : Key) → new k ≡ cond (is_eq (slice_cmp nat_cmp j k)) o (there k)) → held_on o ≡ y
    → OnlyOn key y (λ k. held_on (old k)) (λ k. held_on (new k))
first_placed old there new j key o y same is put e =
    placed old new key o y (λ k. put k ∙ ap (λ i. cond (is_eq (slice_cmp nat_cmp i k)) o (there k)) is
    ∙ ap (λ (f : Key → Option KeyFamilies). cond (is_eq (slice_cmp nat_cmp key k)) o (f k)) same) e

-- maps that hold the same
pub same_content : (m n : BTreeMap Key KeyFamilies) → n.entries ≡ m.entries
    → ◌≡◌ {A = Key → OnKey} (λ k. held_on (tree.get (slice_cmp nat_cmp) n k))
    (λ k. held_on (tree.get (slice_cmp nat_cmp) m k))
same_content m n e = λ i k. held_on (lookup (tree.is_at (slice_cmp nat_cmp k)) (e i))

-- ---- numbers

module _ (old new : Key → Option KeyFamilies) where
  -- one key has this number
  pub numbered : (key : Key) (w : KeyFamilies) (number : ℕ)
      → ((k : Key) → new k ≡ cond (is_eq (slice_cmp nat_cmp key k)) (Some w) (old k)) → w.number ≡ number → (k : Key)
      → number_on (new k) ≡ cond (bytes_eq key k) number (number_on (old k))
  numbered key w number is e k =
      elim (cases_Bool (is_eq (slice_cmp nat_cmp key k))) [
        | inl same ↦ ap number_on (is k ∙ ap (λ b. cond b (Some w) (old k)) same) ∙ e
            ∙ ap (λ b. cond b number (number_on (old k))) (sym (sym (key_is key k) ∙ same))
        | inr other ↦ ap number_on (is k ∙ ap (λ b. cond b (Some w) (old k)) other)
            ∙ ap (λ b. cond b number (number_on (old k))) (sym (sym (key_is key k) ∙ other))
      ]

  -- one key has the number that it had
  pub unnumbered : (key : Key) (o : Option KeyFamilies)
      → ((k : Key) → new k ≡ cond (is_eq (slice_cmp nat_cmp key k)) o (old k)) → number_on o ≡ number_on (old key)
      → (k : Key) → number_on (new k) ≡ number_on (old k)
  unnumbered key o is e k =
      elim (cases_Bool (is_eq (slice_cmp nat_cmp key k))) [
        | inl same ↦ (let one : key ≡ k = (bytes_eq-Decides key k).0 (sym (key_is key k) ∙ same) in
            ap number_on (is k ∙ ap (λ b. cond b o (old k)) same) ∙ e ∙ ap (λ j. number_on (old j)) one)
        | inr other ↦ ap number_on (is k ∙ ap (λ b. cond b o (old k)) other)
      ]

-- What changes of flat maps make of what is held of each key.
use Rattle.std.proofs.Common.{◌≡◌, ◌≢◌, ℕ, ◌==◌, inl, inr, false, cond, List, Option, bytes_eq, refl, sym, ap, subst, ◌∙◌}
use Rattle.std.proofs.Math.Logic.{∥∥₁_map}
use Rattle.std.proofs.lemmas.Slice.Eq.{bytes_eq-Decides}
use Rattle.std.proofs.lemmas.Bool.{cases_Bool, eqb-true, eq-eqb}
use Rattle.std.specs.Cmp.{unsigned_ties}
use Rattle.std.specs.Cmp.Lexicographic.{slice_cmp, nat_list_cmp_total}
use Rattle.std.specs.Ordering.{nat_cmp, is_eq, ordering_then}
use Rattle.std.specs.declared.cmp.Ordering.{Ordering}
use Rattle.std.specs.declared.cmp.Ordering.TheVariants.{Less, Equal, Greater}
use Rattle.std.proofs.lemmas.Cmp.{tied_itself}
use Rattle.std.specs.Map.{lookup}
use Rattle.std.specs.BTreeMap as tree
use Rattle.std.specs.BTreeMap.{BTreeMap}
use Rattle.tx_types.specs.declared.key.Key.{Key}
use Rattle.tx_types.specs.declared.value.Value.{Value}
use Rattle.tx_types.specs.declared.lock.LockRec.{LockRec}
use Rattle.tx_types.specs.declared.write.WriteRec.{WriteRec}
use Rattle.tx_cells.specs.Contents.{OnKey, Content, IsWhole}
use Rattle.tx_cells.specs.Afterwards.{OnlyOn}
use Rattle.tx_spelling.specs.Spelt.{version_cmp}
use Rattle.tx_cells.proofs.Maps.{key_here, key_elsewhere, key_is}

-- ---- look-ups of a map of versions that was changed at one version

no_tie : (o p : Ordering) → is_eq o ≡ false → is_eq (ordering_then o p) ≡ false
no_tie Less p e = refl
no_tie Equal p e = absurd (cc e)
no_tie Greater p e = refl

swapped : (c q : ℕ) → is_eq (nat_cmp q c) ≡ (c == q)
swapped c q = sym (unsigned_ties q c) ∙ swap_eq c q
  where
    swap_eq : (c q : ℕ) → (q == c) ≡ (c == q)
    swap_eq c q = elim (cases_Bool (q == c)) [
      | inl same ↦ same ∙ sym (eq-eqb c q (sym (eqb-true q c same)))
      | inr other ↦ elim (cases_Bool (c == q)) [
        | inl same ↦ (let alike = eq-eqb q c (sym (eqb-true c q same)) in absurd (cc (other, alike)))
        | inr unlike ↦ other ∙ sym unlike
      ]
    ]

version_here : (key : List ℕ) (c q : ℕ) → is_eq (version_cmp (key, c) (key, q)) ≡ (c == q)
version_here key c q =
    ap (λ o. is_eq (ordering_then o (nat_cmp q c))) (tied_itself nat_list_cmp_total key) ∙ swapped c q

version_elsewhere : (key k : List ℕ) (c q : ℕ) → k ≢ key → is_eq (version_cmp (key, c) (k, q)) ≡ false
version_elsewhere key k c q other = no_tie (slice_cmp nat_cmp key k) (nat_cmp q c) (key_elsewhere key k other)

module _ {X : Type 0} (old new : List ℕ × ℕ → Option X) (key : List ℕ) (c : ℕ) (o : Option X) (is : (v : List ℕ × ℕ)
    → new v ≡ cond (is_eq (version_cmp (key, c) v)) o (old v)) where
  pub on_version : (q : ℕ) → new (key, q) ≡ cond (c == q) o (old (key, q))
  on_version q = is (key, q) ∙ ap (λ b. cond b o (old (key, q))) (version_here key c q)

  pub off_version : (k : List ℕ) → k ≢ key → (q : ℕ) → new (k, q) ≡ old (k, q)
  off_version k other q = is (k, q) ∙ ap (λ b. cond b o (old (k, q))) (version_elsewhere key k c q other)

-- ---- look-ups of a map of keys that was changed at one key

module _ {X : Type 0} (old new : List ℕ → Option X) (key : List ℕ) (o : Option X) (is : (k : List ℕ)
    → new k ≡ cond (is_eq (slice_cmp nat_cmp key k)) o (old k)) where
  pub on_key : new key ≡ o
  on_key = is key ∙ ap (λ b. cond b o (old key)) (key_here key)

  pub off_key : (k : List ℕ) → k ≢ key → new k ≡ old k
  off_key k other = is k ∙ ap (λ b. cond b o (old k)) (key_elsewhere key k other)

  -- the key has what it had
  pub same_key : old key ≡ o → new ≡ old
  same_key there = λ i k. each k i
    where
      each : (k : List ℕ) → new k ≡ old k
      each k = elim (cases_Bool (is_eq (slice_cmp nat_cmp key k))) [
        | inl same ↦ (
            let one : key ≡ k = (bytes_eq-Decides key k).0 (sym (key_is key k) ∙ same) in
            is k ∙ ap (λ b. cond b o (old k)) same ∙ sym there ∙ ap old one
            )
        | inr other ↦ is k ∙ ap (λ b. cond b o (old k)) other
      ]

-- maps with the same entries
pub same_versions : {X : Type 0} (m n : BTreeMap (List ℕ × ℕ) X) → n.entries ≡ m.entries
    → tree.get version_cmp n ≡ tree.get version_cmp m
same_versions m n e = λ i q. lookup (tree.is_at (version_cmp q)) (e i)

pub same_keys : {X : Type 0} (m n : BTreeMap (List ℕ) X) → n.entries ≡ m.entries
    → tree.get (slice_cmp nat_cmp) n ≡ tree.get (slice_cmp nat_cmp) m
same_keys m n e = λ i q. lookup (tree.is_at (slice_cmp nat_cmp q)) (e i)

-- ---- what is held

abbrev pub Locks : Type 0
Locks = List ℕ → Option LockRec

abbrev pub Writes : Type 0
Writes = List ℕ × ℕ → Option WriteRec

abbrev pub Values : Type 0
Values = List ℕ × ℕ → Option Value

abbrev pub content_by : Locks → Writes → Values → Content
content_by locks writes values =
    λ key. record { lock = locks key; write = λ c. writes (key, c); value = λ t. values (key, t) }

-- every key meets what it is to meet
abbrev pub AllWhole : Content → Type 0
AllWhole content = ∥ ((key : Key) → IsWhole (content key)) ∥₁

-- what is held of a key, part by part
pub held_is : (x y : OnKey) → x.lock ≡ y.lock → ((q : ℕ) → x.write q ≡ y.write q) → ((q : ℕ) → x.value q ≡ y.value q)
    → x ≡ y
held_is x y l w v = λ i. record { lock = l i; write = λ q. w q i; value = λ q. v q i }

module _ (locks new_locks : Locks) (writes new_writes : Writes) (values new_values : Values) (key : List ℕ) (y :
    OnKey) where
  abbrev Old : Content
  Old = content_by locks writes values

  abbrev New : Content
  New = content_by new_locks new_writes new_values

  -- one key holds something else
  pub only_on : new_locks key ≡ y.lock → ((q : ℕ) → new_writes (key, q) ≡ y.write q)
      → ((q : ℕ) → new_values (key, q) ≡ y.value q)
      → ((k : List ℕ) → k ≢ key → new_locks k ≡ locks k)
      → ((k : List ℕ) → k ≢ key → (q : ℕ) → new_writes (k, q) ≡ writes (k, q))
      → ((k : List ℕ) → k ≢ key → (q : ℕ) → new_values (k, q) ≡ values (k, q))
      → OnlyOn key y Old New
  only_on l w v ls ws vs = record {
    here = held_is (New key) y l w v;
    others = λ k other. held_is (New k) (Old k) (ls k other) (ws k other) (vs k other);
  }

-- what every key meets, it meets where one key has changed
pub whole_on : (old new : Content) (key : Key) (y : OnKey) → AllWhole old → OnlyOn key y old new
    → (IsWhole (old key) → IsWhole y) → AllWhole new
whole_on old new key y t only step = ∥∥₁_map t all
  where
    all : ((k : Key) → IsWhole (old k)) → (k : Key) → IsWhole (new k)
    all w k = elim (cases_Bool (bytes_eq k key)) [
      | inl same ↦ (let one = (bytes_eq-Decides k key).0 same in
          subst IsWhole (sym (ap new one ∙ only.here)) (step (w key)))
      | inr unlike ↦ subst IsWhole
          (sym (only.others k (λ one. (let alike = (bytes_eq-Decides k key).1 one in cc (unlike, alike))))) (w k)
    ]

-- What a commit lists, and what forbids it.
use Rattle.std.proofs.Common.{◌≡◌, ℕ, ◌+◌, ◌<◌, ◌==◌, ◌⊎◌, ◌++◌, inl, inr, Bool, true, false, not, cond, List, [], ◌∷◌, length, take, get_or, Option, Some, None, bytes_eq, refl, sym, ap, subst, ◌∙◌}
use Rattle.std.proofs.Common.{Result, Ok, Err}
use Rattle.std.specs.Result.{OnErr}
use Rattle.std.proofs.lemmas.List.{take_more}
use Rattle.std.specs.Cmp.{unsigned_ties}
use Rattle.std.specs.Cmp.Lexicographic.{slice_cmp}
use Rattle.std.specs.Ordering.{nat_cmp, is_eq}
use Rattle.std.proofs.lemmas.Map.Text.{is_eq-slice_cmp}
use Rattle.tx_types.specs.declared.key.Key.{Key}
use Rattle.tx_types.specs.declared.mutation.Change.{Change}
use Rattle.tx_types.specs.declared.mutation.Mutation.{Mutation}
use Rattle.tx_types.specs.declared.mutation.Mutation.TheVariants as mutation
use Rattle.tx_machine.specs.declared.versions.Version.{Version}
use Rattle.tx_machine.specs.declared.versions.KeyHistory.{KeyHistory}
use Rattle.tx_machine.specs.declared.reads.Reads.{Reads}
use Rattle.tx_types.specs.Keys.{IsVisible, IsInsert}
use Rattle.tx_machine.specs.Keys.{mutation_at}
use Rattle.tx_machine.specs.Machine.{Overlap}
use Rattle.tx_machine.specs.Versions.{Versions, Fates}
use Rattle.tx_machine.specs.Noted.{IsNoted}
use Rattle.tx_machine.specs.Shown.{Index, versions_of, IsInsertRead, Shows}
use Rattle.tx_machine.specs.Representation.{version_in, put_version, puts, ListedOn, IsFree}
use Rattle.tx_machine.proofs.Basics.{key_test, cond_true, cond_false, some_same}

-- ---- one version more

-- where a map of histories has another one at a key, what is taken of them
pub taken_at : {X : Type 0} (take_of : Option KeyHistory → X) (old new : Key → Option KeyHistory) (j : Key)
    (o : Option KeyHistory)
    → ((k : Key) → new k ≡ cond (is_eq (slice_cmp nat_cmp j k)) o (old k))
    → (k : Key) → take_of (new k) ≡ cond (is_eq (slice_cmp nat_cmp j k)) (take_of o) (take_of (old k))
taken_at take_of old new j o is k = ap take_of (is k) ∙ pushed (is_eq (slice_cmp nat_cmp j k))
  where
    pushed : (b : Bool) → take_of (cond b o (old k)) ≡ cond b (take_of o) (take_of (old k))
    pushed true = refl
    pushed false = refl

-- and where it is the same of the other one
pub taken_same : {X : Type 0} (take_of : Option KeyHistory → X) (old new : Key → Option KeyHistory) (j key : Key)
    (o : Option KeyHistory) → j ≡ key
    → ((k : Key) → new k ≡ cond (is_eq (slice_cmp nat_cmp j k)) o (old k)) → take_of o ≡ take_of (old key)
    → (k : Key) → take_of (new k) ≡ take_of (old k)
taken_same take_of old new j key o same is one k =
    let new_is : new k ≡ cond (bytes_eq key k) o (old k) =
    is k ∙ ap (λ (b : Bool). cond b o (old k)) (is_eq-slice_cmp j k ∙ ap (λ (i : Key). bytes_eq i k) same) in
    elim (key_test key k) [
      | inl t ↦ ap take_of (new_is ∙ cond_true _ _ _ t.0) ∙ (one ∙ ap (λ (i : Key). take_of (old i)) t.1)
      | inr t ↦ ap take_of (new_is ∙ cond_false _ _ _ t.0)
    ]

-- where a map of histories has another one at a key, whose versions have one more
pub put_at : (old new : Key → Option Versions) (j key : Key) (o : Option Versions) (c : ℕ) (v : Version) → j ≡ key
    → ((k : Key) → new k ≡ cond (is_eq (slice_cmp nat_cmp j k)) o (old k))
    → ((q : ℕ) → version_in o q ≡ cond (is_eq (nat_cmp c q)) (Some v) (version_in (old key) q))
    → (k : Key) (q : ℕ) → version_in (new k) q
    ≡ cond (bytes_eq key k) (cond (c == q) (Some v) (version_in (old k) q)) (version_in (old k) q)
put_at old new j key o c v same is put k q =
    let new_is : new k ≡ cond (bytes_eq key k) o (old k) =
    is k ∙ ap (λ (b : Bool). cond b o (old k)) (is_eq-slice_cmp j k ∙ ap (λ (i : Key). bytes_eq i k) same) in
    let put_is : version_in o q ≡ cond (c == q) (Some v) (version_in (old key) q) =
    put q ∙ ap (λ (b : Bool). cond b (Some v) (version_in (old key) q)) (sym (unsigned_ties c q)) in
    elim (key_test key k) [
      | inl t ↦ ap (λ (x : Option Versions). version_in x q) (new_is ∙ cond_true _ _ _ t.0)
          ∙ (put_is ∙ (ap (λ (i : Key). cond (c == q) (Some v) (version_in (old i) q)) t.1 ∙ sym (cond_true _ _ _ t.0)))
      | inr t ↦ ap (λ (x : Option Versions). version_in x q) (new_is ∙ cond_false _ _ _ t.0)
          ∙ sym (cond_false _ _ _ t.0)
    ]

-- where it has the same versions
pub same_at : (old new : Key → Option Versions) (key : Key) (o : Option Versions)
    → ((k : Key) → new k ≡ cond (is_eq (slice_cmp nat_cmp key k)) o (old k))
    → ((q : ℕ) → version_in o q ≡ version_in (old key) q)
    → (k : Key) (q : ℕ) → version_in (new k) q ≡ version_in (old k) q
same_at old new key o is same k q =
    let new_is : new k ≡ cond (bytes_eq key k) o (old k) =
    is k ∙ ap (λ (b : Bool). cond b o (old k)) (is_eq-slice_cmp key k) in
    elim (key_test key k) [
      | inl t ↦ ap (λ (x : Option Versions). version_in x q) (new_is ∙ cond_true _ _ _ t.0)
          ∙ (same q ∙ ap (λ (i : Key). version_in (old i) q) t.1)
      | inr t ↦ ap (λ (x : Option Versions). version_in x q) (new_is ∙ cond_false _ _ _ t.0)
    ]

-- ---- a write set's versions

puts-snoc : (t c : ℕ) (xs : List Change) (x : Change) (f : Key → ℕ → Option Version)
    → puts t c (xs ++ x ∷ []) f ≡ put_version t c x (puts t c xs f)
puts-snoc t c [] x f = refl
puts-snoc t c (y ∷ xs) x f = puts-snoc t c xs x (put_version t c y f)

-- the loop's step
pub puts_more : (t c : ℕ) (set : List Change) (i : ℕ) (d : Change) (f now new : Key → ℕ → Option Version)
    → i < length set
    → ((k : Key) (q : ℕ) → now k q ≡ puts t c (take i set) f k q)
    → ((k : Key) (q : ℕ) → new k q ≡ put_version t c (get_or set i d) now k q)
    → (k : Key) (q : ℕ) → new k q ≡ puts t c (take (i + 1) set) f k q
puts_more t c set i d f now new h was is k q =
    is k q
    ∙ (ap (λ (x : Option Version). cond (bytes_eq (get_or set i d).key k)
    (cond (c == q) (Some record { start = t; mutation = (get_or set i d).mutation }) x) x) (was k q)
    ∙ sym (ap (λ (xs : List Change). puts t c xs f k q) (take_more set i d h)
    ∙ ap (λ (g : Key → ℕ → Option Version). g k q) (puts-snoc t c (take i set) (get_or set i d) f)))

-- ---- what nothing forbids

-- reads see what is inserted
insert_visible : (m : Mutation) → IsInsert m → IsVisible m
insert_visible (mutation.Put v) h = tt
insert_visible (mutation.Insert v) h = tt
insert_visible mutation.Delete h = tt
insert_visible mutation.Lock h = h

pub free_hidden : (index : Index) (fates : Fates) (reads : Reads) (t c : ℕ) (change : Change)
    → ((u d : ℕ) (m : Mutation) → ListedOn (versions_of index change.key) fates u d m → Overlap t c u d → ⊥)
    → (IsVisible change.mutation → ⊥) → IsFree index fates reads t c change
free_hidden index fates reads t c change apart hidden =
    record {
      apart = apart;
      unread = λ seen. absurd (hidden seen);
      fresh =
          λ inserts. absurd (hidden (insert_visible change.mutation inserts));
    }

pub free_seen : (index : Index) (fates : Fates) (reads : Reads) (t c : ℕ) (change : Change)
    → ((u d : ℕ) (m : Mutation) → ListedOn (versions_of index change.key) fates u d m → Overlap t c u d → ⊥)
    → ((r : ℕ) → IsNoted reads change.key r → r < c)
    → ((r : ℕ) → IsInsertRead index change.key r → r < c)
    → (IsInsert change.mutation → Shows index fates change.key t None)
    → IsFree index fates reads t c change
free_seen index fates reads t c change apart unread alone fresh = record {
  apart = apart;
  unread = λ seen r kept. elim kept [ inl x ↦ unread r x | inr x ↦ alone r x ];
  fresh = fresh;
}

pub not_true : (b : Bool) → not b ≡ true → b ≡ false
not_true true e = absurd (cc e)
not_true false e = refl

mutation_at-snoc : (xs : List Change) (x : Change) (k : Key) (m : Mutation) → mutation_at (xs ++ x ∷ []) k ≡ Some m
    → (mutation_at xs k ≡ Some m) ⊎ ((x.key ≡ k) × (x.mutation ≡ m))
mutation_at-snoc [] x k m e = elim (key_test x.key k) [
  | inl t ↦ inr (t.1, some_same _ _ (sym (cond_true _ _ _ t.0) ∙ e))
  | inr t ↦ absurd (cc (sym (cond_false _ (Some x.mutation) None t.0) ∙ e))
]
mutation_at-snoc (y ∷ xs) x k m e = elim (key_test y.key k) [
  | inl t ↦ inl (cond_true _ _ _ t.0 ∙ (sym (cond_true _ _ _ t.0) ∙ e))
  | inr t ↦ elim (mutation_at-snoc xs x k m (sym (cond_false _ _ _ t.0) ∙ e)) [
    | inl h ↦ inl (cond_false _ _ _ t.0 ∙ h)
    | inr h ↦ inr h
  ]
]

change_is : (x : Change) (k : Key) (m : Mutation) → x.key ≡ k → x.mutation ≡ m
    → ◌≡◌ {A = Change} x record { key = k; mutation = m }
change_is x k m p q = λ i. record { key = p i; mutation = q i }

-- the loop's step: one more change is free
pub free_more : (P : Change → Type 0) (set : List Change) (i : ℕ) (d : Change) → i < length set
    → ((k : Key) (m : Mutation) → mutation_at (take i set) k ≡ Some m → P record { key = k; mutation = m })
    → P (get_or set i d)
    → (k : Key) (m : Mutation) → mutation_at (take (i + 1) set) k ≡ Some m → P record { key = k; mutation = m }
free_more P set i d h before here k m e =
    elim (mutation_at-snoc (take i set) (get_or set i d) k m
    (ap (λ (xs : List Change). mutation_at xs k) (sym (take_more set i d h)) ∙ e)) [
      | inl old ↦ before k m old
      | inr new ↦ subst P (change_is (get_or set i d) k m new.0 new.1) here
    ]

pub on_err : {T E : Type 0} (r : Result T E) (P : Type 0) → P → OnErr r P
on_err (Ok x) P p = tt
on_err (Err e) P p = p

-- a key's first version
pub put_first : (old there new : Key → Option Versions) (j key : Key) (o : Option Versions) (c : ℕ) (v : Version)
    → there ≡ old → j ≡ key → old key ≡ None
    → ((k : Key) → new k ≡ cond (is_eq (slice_cmp nat_cmp j k)) o (there k))
    → ((q : ℕ) → version_in o q ≡ cond (is_eq (nat_cmp c q)) (Some v) None)
    → (k : Key) (q : ℕ) → version_in (new k) q
    ≡ cond (bytes_eq key k) (cond (c == q) (Some v) (version_in (old k) q)) (version_in (old k) q)
put_first old there new j key o c v same is_key none is put =
    put_at old new j key o c v is_key
    (λ k. is k ∙ ap (λ (f : Key → Option Versions). cond (is_eq (slice_cmp nat_cmp j k)) o (f k)) same)
    (λ q. put q ∙ ap (λ (x : Option Versions). cond (is_eq (nat_cmp c q)) (Some v) (version_in x q)) (sym none))

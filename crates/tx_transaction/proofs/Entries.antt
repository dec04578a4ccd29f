-- The buffer by indexes: what it declares, and what stands in it.
use Rattle.std.proofs.Common.{◌≡◌, ℕ, ◌+◌, ◌<◌, ◌≤◌, inl, inr, zero, suc, Bool, true, false, cond, map, length, nat_lt, List, [], ◌∷◌, Option, Some, None, bytes_eq, refl, ap, subst, ◌∙◌, arith}
use Rattle.tx_types.specs.declared.key.Key.{Key}
use Rattle.tx_types.specs.declared.mutation.Change.{Change}
use Rattle.tx_types.specs.declared.mutation.Mode.{Mode}
use Rattle.tx_types.specs.declared.mutation.Mode.TheVariants.{TwoPhase, Async}
use Rattle.tx_types.specs.declared.mutation.Mutation.{Mutation}
use Rattle.tx_machine.specs.Keys.{mutation_at, IsDistinct}
use Rattle.tx_core.specs.Histories.{is_first}
use Rattle.tx_core.specs.Allowed.{other_keys}
use Rattle.tx_core.proofs.Basics.{key_test, key_same}
use Rattle.tx_transaction.specs.declared.state.Terms.{Terms}
use Rattle.tx_transaction.specs.declared.state.Phase.{Phase}
use Rattle.tx_transaction.specs.declared.state.Progress.{Progress}
use Rattle.tx_transaction.specs.Buffers.{Entries, touched, changes_of, keys_of, key_at, mutation_in, with_progress, wants, index_from, first_index, fresh}
use Rattle.tx_transaction.specs.Sessions.{others_at, declaration, declaration_of, Few}
use Rattle.tx_types.specs.declared.limits.TheConstants.{MAX_ASYNC_KEYS}

-- ---- indexes

place_within : (n : ℕ) (x : Phase) (es : Entries) (j : ℕ) → index_from n x es ≡ Some j → (n ≤ j) × (j < n + length es)
place_within n x [] j e = absurd (cc (e))
place_within n x (a ∷ es) j e = go (wants x a.1.progress) refl (place_within (n + 1) x es j)
  where
    go : (b : Bool) → wants x a.1.progress ≡ b
        → (index_from (n + 1) x es ≡ Some j → (n + 1 ≤ j) × (j < n + 1 + length es))
        → (n ≤ j) × (j < n + length (a ∷ es))
    go true is rest = (let now : Some n ≡ Some j = rw is at e in let same : n ≡ j =
        cc (now) in (omega (arith, same), omega (arith, same)))
    go false is rest = (let old : index_from (n + 1) x es ≡ Some j = rw is at e in let r =
        rest old in (omega (arith, r.0), omega (arith, r.1)))

-- an index that is found is one of the buffer
pub first_within : (x : Phase) (es : Entries) (j : ℕ) → first_index x es ≡ Some j → j < length es
first_within x es j e = omega (arith, (place_within 0 x es j e).1)

-- ---- write sets

-- what a write set does to the key of an index
pub mutation_there : (es : Entries) (i : ℕ) → i < length es → IsDistinct (changes_of es)
    → mutation_at (changes_of es) (key_at es i) ≡ Some (mutation_in es i)
mutation_there [] i lt d = absurd (omega (arith, lt))
mutation_there (e ∷ es) zero lt d = rw (key_same e.0) refl
mutation_there (e ∷ es) (suc i) lt d =
    let rest = mutation_there es i (omega (arith, lt)) d.1 in
    elim (key_test e.0 (key_at es i)) [
      | inl y ↦ (let none : mutation_at (changes_of es) (key_at es i) ≡ None =
          subst (λ k. mutation_at (changes_of es) k ≡ None) y.1 d.0 in absurd (cc (none, rest)))
      | inr y ↦ rw y.0 rest
    ]

-- the key of the first index is the primary, that of no other is
pub first_there : (es : Entries) → 0 < length es → is_first (changes_of es) (key_at es 0) ≡ true
first_there [] lt = absurd (omega (arith, lt))
first_there (e ∷ es) lt = key_same e.0

later_there : (es : Entries) (i : ℕ) → suc i < length es → IsDistinct (changes_of es)
    → is_first (changes_of es) (key_at es (suc i)) ≡ false
later_there [] i lt d = absurd (omega (arith, lt))
later_there (e ∷ es) i lt d =
    elim (key_test e.0 (key_at es i)) [
      | inl y ↦ (let none : mutation_at (changes_of es) (key_at es i) ≡ None =
          subst (λ k. mutation_at (changes_of es) k ≡ None) y.1 d.0 in
          let some = mutation_there es i (omega (arith, lt)) d.1 in
          absurd (cc (none, some)))
      | inr y ↦ y.0
    ]

keys_are : (es : Entries) → keys_of es ≡ map (λ (c : Change). c.key) (changes_of es)
keys_are [] = refl
keys_are (e ∷ es) = ap (λ (l : List Key). e.0 ∷ l) (keys_are es)

-- the other keys that a prewrite lists are those that its transaction's declaration gives it
pub others_listed : (m : Mode) (es : Entries) (i : ℕ) → i < length es → IsDistinct (changes_of es)
    → others_at m es i ≡ elim m [
      | TwoPhase ↦ []
      | Async ↦
          cond (is_first (changes_of es) (key_at es i)) (other_keys (changes_of es)) []
    ]
others_listed TwoPhase es i lt d = refl
others_listed Async [] i lt d = absurd (omega (arith, lt))
others_listed Async (e ∷ es) zero lt d = rw (key_same e.0) (keys_are es)
others_listed Async (e ∷ es) (suc i) lt d = rw (later_there (e ∷ es) i lt d) refl

-- progress is no part of a write set
pub changes_with : (es : Entries) (i : ℕ) (p : Progress) → changes_of (with_progress es i p) ≡ changes_of es
changes_with [] i p = refl
changes_with (e ∷ es) zero p = refl
changes_with (e ∷ es) (suc i) p =
    ap (λ (l : List Change). record { key = e.0; mutation = e.1.mutation } ∷ l) (changes_with es i p)

pub declaration_with : (t placed : ℕ) (es : Entries) (i : ℕ) (p : Progress) (terms : Terms)
    → declaration t placed (with_progress es i p) terms ≡ declaration t placed es terms
declaration_with t placed [] i p terms = refl
declaration_with t placed (e ∷ es) zero p terms = refl
declaration_with t placed (e ∷ es) (suc i) p terms =
    ap (λ (l : List Change). Some
    (record (declaration_of t placed es terms) { changes = record { key = e.0; mutation = e.1.mutation } ∷ l }))
    (changes_with es i p)

-- ---- a key is touched

-- a key that is not there is not there after another was touched
absent_touched : (es : Entries) (k q : Key) (m : Mutation) → bytes_eq k q ≡ false → mutation_at (changes_of es) q ≡ None
    → mutation_at (changes_of (touched es k m)) q ≡ None
absent_touched [] k q m other none = rw other refl
absent_touched (e ∷ es) k q m other none =
    elim (key_test e.0 q) [
      | inl y ↦ (let there : Some e.1.mutation ≡ None = rw y.0 at none in absurd (cc (there)))
      | inr y ↦ (let rest : mutation_at (changes_of es) q ≡ None =
          rw y.0 at none in go (bytes_eq k e.0) y.0 rest (absent_touched es k q m other rest))
    ]
  where
    go : (b : Bool) → bytes_eq e.0 q ≡ false → mutation_at (changes_of es) q ≡ None
        → mutation_at (changes_of (touched es k m)) q ≡ None
        → mutation_at (changes_of (cond b ((e.0, fresh m) ∷ es) (e ∷ touched es k m))) q ≡ None
    go true apart none rest = rw apart none
    go false apart none rest = rw apart rest

-- each key stands once, and so it is after a key was touched
pub distinct_touched : (es : Entries) (k : Key) (m : Mutation) → IsDistinct (changes_of es)
    → IsDistinct (changes_of (touched es k m))
distinct_touched [] k m d = (refl, tt)
distinct_touched (e ∷ es) k m d = go (bytes_eq k e.0) refl (distinct_touched es k m d.1)
  where
    go : (b : Bool) → bytes_eq k e.0 ≡ b
        → IsDistinct (changes_of (touched es k m))
        → IsDistinct (changes_of (cond b ((e.0, fresh m) ∷ es) (e ∷ touched es k m)))
    go true is rest = (d.0, d.1)
    go false is rest = (absent_touched es k e.0 m is d.0, rest)

-- ---- how many keys there are

length_with : (es : Entries) (i : ℕ) (p : Progress) → length (with_progress es i p) ≡ length es
length_with [] i p = refl
length_with (e ∷ es) zero p = refl
length_with (e ∷ es) (suc i) p = (let rest = length_with es i p in omega (arith, rest))

-- progress adds no key
pub few_with : (es fs : Entries) (i : ℕ) (p : Progress) (o : Option Terms) → Few o es → fs ≡ with_progress es i p
    → Few o fs
few_with es fs i p None few e = tt
few_with es fs i p (Some terms) few e =
    ap (λ n. elim terms.mode [ TwoPhase ↦ false | Async ↦ nat_lt MAX_ASYNC_KEYS n ]) (ap length e ∙ length_with es i p)
    ∙ few

-- Write sets whose keys stand once each.
use Rattle.std.proofs.Common.{zero, suc, ◌≡◌, ◌≢◌, ℕ, ◌+◌, ◌<◌, ◌==◌, ◌++◌, inl, inr, Bool, true, false, not, cond, List, [], ◌∷◌, length, take, drop, get_or, Option, Some, None, bytes_eq, refl, sym, ap, subst, ◌∙◌, arith, is_some, append_assoc, IfSome, IfNone}
use Rattle.std.proofs.lemmas.List.{take_more, take-append-drop}
use Rattle.std.proofs.Math.Seq.{drop-cons}
use Rattle.std.specs.Cmp.Lexicographic.{slice_cmp}
use Rattle.std.specs.Ordering.{nat_cmp, is_eq}
use Rattle.std.specs.List.{Contains, list_any}
use Rattle.std.proofs.lemmas.Map.Text.{is_eq-slice_cmp}
use Rattle.tx_types.specs.declared.key.Key.{Key}
use Rattle.tx_types.specs.declared.mutation.Change.{Change}
use Rattle.tx_types.specs.declared.mutation.Mutation.{Mutation}
use Rattle.tx_machine.specs.Keys.{mutation_at, IsDistinct}
use Rattle.tx_machine.specs.Why.{StandsTwice}
use Rattle.tx_machine.proofs.Basics.{key_test, cond_true, cond_false, key_same}

none_front : (xs ys : List Change) (k : Key) → mutation_at (xs ++ ys) k ≡ None → mutation_at xs k ≡ None
none_front [] ys k e = refl
none_front (x ∷ xs) ys k e = elim (key_test x.key k) [
  | inl t ↦ absurd (cc (sym (cond_true _ (Some x.mutation) (mutation_at (xs ++ ys) k) t.0) ∙ e))
  | inr t ↦ cond_false _ _ _ t.0 ∙ none_front xs ys k (sym (cond_false _ _ _ t.0) ∙ e)
]

distinct_front : (xs ys : List Change) → IsDistinct (xs ++ ys) → IsDistinct xs
distinct_front [] ys d = tt
distinct_front (x ∷ xs) ys d = (none_front xs ys x.key d.0, distinct_front xs ys d.1)

-- a beginning of a write set is one
pub distinct_take : (set : List Change) (n : ℕ) → IsDistinct set → IsDistinct (take n set)
distinct_take set n d =
    distinct_front (take n set) (drop n set)
    (subst (λ (xs : List Change). IsDistinct xs) (sym (take-append-drop n set)) d)

-- the mutation of a write set with one change more
pub mutation_snoc : (xs : List Change) (x : Change) (k : Key)
    → is_some (mutation_at (xs ++ x ∷ []) k) ≡ cond (bytes_eq x.key k) true (is_some (mutation_at xs k))
mutation_snoc [] x k = elim (key_test x.key k) [ inl t ↦ rw t.0 refl | inr t ↦ rw t.0 refl ]
mutation_snoc (y ∷ xs) x k = elim (key_test y.key k) [
  | inl t ↦ elim (key_test x.key k) [ inl s ↦ rw (t.0, s.0) refl | inr s ↦ rw (t.0, s.0) refl ]
  | inr t ↦ rw t.0 (mutation_snoc xs x k)
]

some_none : {X : Type 0} (o : Option X) → is_some o ≡ false → o ≡ None
some_none None e = refl
some_none (Some x) e = absurd (cc e)

distinct_more : (xs : List Change) (x : Change) → IsDistinct xs → mutation_at xs x.key ≡ None
    → IsDistinct (xs ++ x ∷ [])
distinct_more [] x d e = (refl, tt)
distinct_more (y ∷ xs) x d e = elim (key_test y.key x.key) [
  | inl t ↦ absurd (cc (sym (cond_true _ (Some y.mutation) (mutation_at xs x.key) t.0) ∙ e))
  | inr t ↦ (
    some_none _ (mutation_snoc xs x y.key
        ∙ elim (key_test x.key y.key) [
          | inl s ↦ absurd (t.1 (sym (s.1)))
          | inr s ↦ cond_false _ _ _ s.0 ∙ ap (is_some {T = Mutation}) d.0
        ]),
    distinct_more xs x d.1 (sym (cond_false _ _ _ t.0) ∙ e),
  )
]

-- the loop's step
pub distinct_snoc : (set : List Change) (i : ℕ) (d : Change) → i < length set → IsDistinct (take i set)
    → is_some (mutation_at (take i set) (get_or set i d).key) ≡ false → IsDistinct (take (i + 1) set)
distinct_snoc set i d h ds e =
    subst (λ (xs : List Change). IsDistinct xs) (sym (take_more set i d h))
    (distinct_more (take i set) (get_or set i d) ds (some_none _ e))

more_distinct : (xs : List Change) (x : Change) → IsDistinct (xs ++ x ∷ []) → is_some (mutation_at xs x.key) ≡ false
more_distinct [] x d = refl
more_distinct (y ∷ xs) x d = elim (key_test y.key x.key) [
  | inl t ↦ absurd (cc (sym (mutation_snoc xs x y.key
      ∙ cond_true _ true _ (subst (λ (k : Key). bytes_eq x.key k ≡ true) (sym (t.1)) (key_same x.key)))
      ∙ ap (is_some {T = Mutation}) d.0))
  | inr t ↦ ap (is_some {T = Mutation}) (cond_false _ (Some y.mutation) (mutation_at xs x.key) t.0)
      ∙ more_distinct xs x d.1
]

-- a key that stands again
pub not_distinct : (set : List Change) (i : ℕ) (d : Change) → i < length set
    → is_some (mutation_at (take i set) (get_or set i d).key) ≡ true → IsDistinct set → ⊥
not_distinct set i d h e ds =
    cc (
      more_distinct (take i set) (get_or set i d)
          (subst (λ (xs : List Change). IsDistinct xs) (take_more set i d h) (distinct_take set (i + 1) ds)),
      e,
    )

-- the keys so far, with one more
pub some_more : (set : List Change) (i : ℕ) (d : Change) (k : Key) (has : Key → Bool) → i < length set
    → ((q : Key) → has q ≡ is_some (mutation_at (take i set) q))
    → cond (is_eq (slice_cmp nat_cmp (get_or set i d).key k)) true (has k) ≡ is_some (mutation_at (take (i + 1) set) k)
some_more set i d k has h was =
    ap (λ (b : Bool). cond b true (has k)) (is_eq-slice_cmp (get_or set i d).key k)
    ∙ (ap (λ (b : Bool). cond (bytes_eq (get_or set i d).key k) true b) (was k)
    ∙ sym (ap (λ (xs : List Change). is_some (mutation_at xs k)) (take_more set i d h)
    ∙ mutation_snoc (take i set) (get_or set i d) k))

contained_at : (set : List Change) (k : ℕ) (x : Change) → IsDistinct set → k < length set → get_or set k x ≡ x
    → mutation_at set x.key ≡ Some x.mutation
contained_at [] k x ds h e = absurd (omega arith)
contained_at (y ∷ ys) zero x ds h e =
    cond_true _ _ _ (ap (λ (z : Change). bytes_eq z.key x.key) e ∙ key_same x.key)
    ∙ ap (λ (z : Change). Some z.mutation) e
contained_at (y ∷ ys) (suc k) x ds h e =
    let rest : mutation_at ys x.key ≡ Some x.mutation = contained_at ys k x ds.1 (omega arith) e in
    elim (key_test y.key x.key) [
      | inl t ↦ absurd (cc (sym (ds.0) ∙ (ap (mutation_at ys) t.1 ∙ rest)))
      | inr t ↦ cond_false _ _ _ t.0 ∙ rest
    ]

-- a change that a write set holds is what it does to the key
pub contained : (set : List Change) (x : Change) → IsDistinct set → Contains set x
    → mutation_at set x.key ≡ Some x.mutation
contained set x ds in_set = contained_at set in_set.0 x ds in_set.1 in_set.2

pub not_false : (b c : Bool) → b ≡ not c → b ≡ false → c ≡ true
not_false b true e f = refl
not_false b false e f = absurd (cc (e, f))

pub not_true : (b c : Bool) → b ≡ not c → b ≡ true → c ≡ false
not_true b true e f = absurd (cc (e, f))
not_true b false e f = refl

-- a write set of some length is not empty
pub some_changes : (xs set : List Change) → xs ≡ set → (length xs == 0) ≡ false → set ≢ []
some_changes [] set e h none = cc h
some_changes (x ∷ xs) set e h none = cc (e ∙ none)

-- a key that one of the changes is of
pub any_key : (xs : List Change) (k : Key) → list_any (λ change. bytes_eq change.key k) xs ≡ is_some (mutation_at xs k)
any_key [] k = refl
any_key (x ∷ xs) k = elim (key_test x.key k) [
  | inl t ↦ rw t.0 refl
  | inr t ↦ rw t.0 (any_key xs k)
]

-- ---- keys that stand twice

-- the key of a change that stands at a place and before it
pub stands_twice : (set : List Change) (i : ℕ) (x : Change) → i < length set → x ≡ get_or set i x
    → is_some (mutation_at (take i set) (get_or set i x).key) ≡ true → StandsTwice set x.key
stands_twice set i x lt e some =
    let again : is_some (mutation_at (take i set) x.key) ≡ true =
    ap (λ (y : Change). is_some (mutation_at (take i set) y.key)) e ∙ some in
    record {
      before = take i set;
      after = drop (suc i) set;
      mutation = x.mutation;
      split = sym (take-append-drop i set)
          ∙ ap (λ (ys : List Change). take i set ++ ys) (drop-cons set i x lt
          ∙ ap (λ (y : Change). y ∷ drop (suc i) set) (sym e));
      has = λ none. cc (sym again ∙ ap (is_some {T = Mutation}) none);
    }

pub twice_not_distinct : (set : List Change) (k : Key) → StandsTwice set k → IsDistinct set → ⊥
twice_not_distinct set k t ds =
    let x : Change = record { key = k; mutation = t.mutation } in
    let all : IsDistinct ((t.before ++ x ∷ []) ++ t.after) =
    subst (λ (xs : List Change). IsDistinct xs) (t.split ∙ sym (append_assoc t.before (x ∷ []) t.after)) ds in
    t.has (some_none _ (more_distinct t.before x (distinct_front (t.before ++ x ∷ []) t.after all)))

-- what holds of a value that is there, and where there is none
pub some_of : {X : Type 0} (o : Option X) (P : X → Type 0) → true ≡ is_some o → IfSome o P → (x : X) × P x
some_of None P e h = absurd (cc e)
some_of (Some x) P e h = (x, h)

pub none_of : {X : Type 0} (o : Option X) (P : Type 0) → false ≡ is_some o → IfNone o P → P
none_of None P e h = h
none_of (Some x) P e h = absurd (cc e)

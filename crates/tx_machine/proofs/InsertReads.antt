-- The reads that the inserts of a write set leave.
use Rattle.std.proofs.Common.{◌≡◌, ℕ, ◌+◌, ◌<◌, ◌≤◌, ◌⊎◌, inl, inr, Bool, true, false, cond, List, [], ◌∷◌, length, take, get_or, Option, Some, None, IfSome, IsTrue, bytes_eq, refl, sym, ap, subst, ◌∙◌, arith}
use Rattle.std.specs.List.{Contains}
use Rattle.std.specs.Cmp.Lexicographic.{slice_cmp}
use Rattle.std.specs.Ordering.{nat_cmp, is_eq}
use Rattle.std.proofs.lemmas.List.{take_all}
use Rattle.std.proofs.lemmas.Map.Text.{is_eq-slice_cmp}
use Rattle.tx_types.specs.declared.key.Key.{Key}
use Rattle.tx_types.specs.declared.mutation.Change.{Change}
use Rattle.tx_types.specs.declared.mutation.Mutation.{Mutation}
use Rattle.tx_types.specs.declared.mutation.Mutation.TheVariants as mutation
use Rattle.tx_types.specs.Keys.{IsInsert}
use Rattle.tx_machine.specs.declared.versions.KeyHistory.{KeyHistory}
use Rattle.tx_machine.specs.declared.reads.Reads.{Reads}
use Rattle.tx_machine.specs.Keys.{mutation_at, is_insert, inserted, IsDistinct}
use Rattle.tx_machine.specs.Machine.{Reading}
use Rattle.tx_machine.specs.Noted.{Grows}
use Rattle.tx_machine.specs.Shown.{Index, history_of, insert_read_in, IsInsertRead}
use Rattle.tx_machine.specs.Representation.{IsKept, KeepsReads, AddsInserts}
use Rattle.tx_machine.proofs.Basics.{key_test, key_same, cond_true, cond_false, some_same}
use Rattle.tx_machine.proofs.Distinct.{contained}
use Rattle.tx_machine.proofs.Commits.{free_more}

-- ---- one change

test_insert : (m : Mutation) → IsInsert m → is_insert (Some m) ≡ true
test_insert (mutation.Put v) h = absurd h
test_insert (mutation.Insert v) h = refl
test_insert mutation.Delete h = absurd h
test_insert mutation.Lock h = absurd h

insert_test : (m : Mutation) → is_insert (Some m) ≡ true → IsInsert m
insert_test (mutation.Put v) e = absurd (cc e)
insert_test (mutation.Insert v) e = tt
insert_test mutation.Delete e = absurd (cc e)
insert_test mutation.Lock e = absurd (cc e)

insert_set : (o : Option Mutation) → is_insert o ≡ true → (m : Mutation) × (o ≡ Some m) × IsInsert m
insert_set None e = absurd (cc e)
insert_set (Some m) e = (m, refl, insert_test m e)

-- a change alone inserts its own key
own_covered : (x : Change) → IsInsert x.mutation → inserted (Some (x ∷ [])) x.key ≡ true
own_covered x h = ap is_insert (cond_true _ _ _ (key_same x.key)) ∙ test_insert x.mutation h

covered_own : (x : Change) (k : Key) → inserted (Some (x ∷ [])) k ≡ true → (x.key ≡ k) × IsInsert x.mutation
covered_own x k e = elim (key_test x.key k) [
  | inl t ↦ (t.1, insert_test x.mutation (sym (ap is_insert (cond_true _ (Some x.mutation) None t.0)) ∙ e))
  | inr t ↦ absurd (cc (sym (ap is_insert (cond_false _ (Some x.mutation) None t.0)) ∙ e))
]

-- what is no insert leaves no read
pub adds_no_insert : (index : Index) (x : Change) (t : ℕ) → (IsInsert x.mutation → ⊥)
    → AddsInserts index index (x ∷ []) t
adds_no_insert index x t other = record {
  kept = λ k s e. (s, (omega arith), e);
  added = λ k e. absurd (other (covered_own x k e).1);
  only = λ k s e. inl e;
}

pub read_upto : (o : Option ℕ) (u s : ℕ) → IfSome o (λ r. r ≤ u) → o ≡ Some s → s ≤ u
read_upto None u s h e = absurd (cc e)
read_upto (Some r) u s h e = omega (arith, h, some_same r s e)

-- an insert leaves the later of its read and the one before
pub adds_insert : (old new : Index) (x : Change) (t u : ℕ) (o : Option KeyHistory) → IsInsert x.mutation
    → ((k : Key) → history_of new k ≡ cond (is_eq (slice_cmp nat_cmp x.key k)) o (history_of old k))
    → insert_read_in o ≡ Some u → t ≤ u
    → ((s : ℕ) → IsInsertRead old x.key s → s ≤ u)
    → ((u ≡ t) ⊎ IsInsertRead old x.key u)
    → AddsInserts old new (x ∷ []) t
adds_insert old new x t u o inserts is read own last one = record { kept = kept; added = added; only = only }
  where
    is_at : (k : Key) → history_of new k ≡ cond (bytes_eq x.key k) o (history_of old k)
    is_at k = is k ∙ ap (λ (b : Bool). cond b o (history_of old k)) (is_eq-slice_cmp x.key k)

    here : (k : Key) → bytes_eq x.key k ≡ true → IsInsertRead new k u
    here k e = ap insert_read_in (is_at k ∙ cond_true _ _ _ e) ∙ read

    other : (k : Key) → bytes_eq x.key k ≡ false
        → insert_read_in (history_of new k) ≡ insert_read_in (history_of old k)
    other k e = ap insert_read_in (is_at k ∙ cond_false _ _ _ e)

    kept : (k : Key) (s : ℕ) → IsInsertRead old k s → (v : ℕ) × (s ≤ v) × IsInsertRead new k v
    kept k s e = elim (key_test x.key k) [
      | inl h ↦ (u, last s (subst (λ (q : Key). IsInsertRead old q s) (sym h.1) e), here k h.0)
      | inr h ↦ (s, (omega arith), other k h.0 ∙ e)
    ]

    added : (k : Key) → inserted (Some (x ∷ [])) k ≡ true → (v : ℕ) × (t ≤ v) × IsInsertRead new k v
    added k e = (u, own, here k (ap (bytes_eq x.key) (sym (covered_own x k e).0) ∙ key_same x.key))

    only : (k : Key) (s : ℕ) → IsInsertRead new k s
        → IsInsertRead old k s ⊎ (IsTrue (inserted (Some (x ∷ [])) k) × (s ≡ t))
    only k s e = elim (key_test x.key k) [
      | inr h ↦ inl (sym (other k h.0) ∙ e)
      | inl h ↦
          let same : u ≡ s = some_same u s (sym (here k h.0) ∙ e) in
          elim one [
            | inl fresh ↦ inr (
              subst (λ (q : Key). IsTrue (inserted (Some (x ∷ [])) q)) h.1 (own_covered x inserts),
              sym same ∙ fresh,
            )
            | inr was ↦ inl (subst (λ (q : Key). IsInsertRead old q s) h.1
                (subst (λ (v : ℕ). IsInsertRead old x.key v) same was))
          ]
    ]

-- ---- a write set, change by change

-- a beginning of a write set has left its reads
pub record LeavesReads (old new : Index) (front set : List Change) (t : ℕ) : Type 0 where
  pub kept : (k : Key) (s : ℕ) → IsInsertRead old k s → (u : ℕ) × (s ≤ u) × IsInsertRead new k u
  pub added : (k : Key) (m : Mutation) → mutation_at front k ≡ Some m → IsInsert m
      → (u : ℕ) × (t ≤ u) × IsInsertRead new k u
  pub only : (k : Key) (s : ℕ) → IsInsertRead new k s
      → IsInsertRead old k s ⊎ (IsTrue (inserted (Some set) k) × (s ≡ t))

pub leaves_none : (index : Index) (set : List Change) (t : ℕ) → LeavesReads index index [] set t
leaves_none index set t = record {
  kept = λ k s e. (s, (omega arith), e);
  added = λ k m e. absurd (cc e);
  only = λ k s e. inl e;
}

-- the loop's step
pub leaves_more : (old now new : Index) (set : List Change) (t i : ℕ) (x d : Change) → i < length set
    → x ≡ get_or set i d → Contains set x → IsDistinct set → LeavesReads old now (take i set) set t
    → AddsInserts now new (x ∷ []) t → LeavesReads old new (take (i + 1) set) set t
leaves_more old now new set t i x d lt item among distinct was grows = record {
  kept = λ k s e. let a = was.kept k s e in let b = grows.kept k a.0 a.2 in (b.0, (omega (arith, a.1, b.1)), b.2);
  added = free_more Has set i d lt
      (λ k m e inserts. let a = was.added k m e inserts in let b = grows.kept k a.0 a.2 in
      (b.0, (omega (arith, a.1, b.1)), b.2))
      (subst Has item (λ inserts. grows.added x.key (own_covered x inserts)));
  only = λ k s e. elim (grows.only k s e) [
    | inl old ↦ was.only k s old
    | inr own ↦ inr (
      (let h = covered_own x k own.0 in
          subst (λ (q : Key). IsTrue (inserted (Some set) q)) h.0
          (ap is_insert (contained set x distinct among) ∙ test_insert x.mutation h.1)),
      own.1,
    )
  ];
}
  where
    Has : Change → Type 0
    Has change = IsInsert change.mutation → (u : ℕ) × (t ≤ u) × IsInsertRead new change.key u

-- and its end
pub leaves_all : (old new : Index) (set : List Change) (t i : ℕ) → length set ≤ i
    → LeavesReads old new (take i set) set t → AddsInserts old new set t
leaves_all old new set t i le was = record {
  kept = was.kept;
  added = λ k e. let m = insert_set (mutation_at set k) e in
      was.added k m.0 (ap (λ (xs : List Change). mutation_at xs k) (take_all i set le) ∙ m.1) m.2;
  only = was.only;
}

-- ---- the reads that are kept

module _ (old new : Index) (reads : Reads)
    (same : (k : Key) → insert_read_in (history_of new k) ≡ insert_read_in (history_of old k)) where
  -- where each key's is the same
  pub same_kept : (list : List Reading) → KeepsReads list (IsKept old reads) → KeepsReads list (IsKept new reads)
  same_kept list keeps = record {
    made = λ k r x. keeps.made k r (elim x [ inl y ↦ inl y | inr y ↦ inr (sym (same k) ∙ y) ]);
    kept = λ k r x. let h = keeps.kept k r x in
        (h.0, h.1, elim h.2 [ inl y ↦ inl y | inr y ↦ inr (same k ∙ y) ]);
  }

  -- and where inserts then leave theirs
  pub kept_grows : (last : Index) (covers : Key → Bool) (r : ℕ)
      → Grows (IsInsertRead new) (IsInsertRead last) covers r → Grows (IsKept old reads) (IsKept last reads) covers r
  kept_grows last covers r grows = record {
    kept = λ k s x. elim x [
      | inl y ↦ (s, (omega arith), inl y)
      | inr y ↦ let h = grows.kept k s (same k ∙ y) in (h.0, h.1, inr h.2)
    ];
    added = λ k e. let h = grows.added k e in (h.0, h.1, inr h.2);
    only = λ k s x. elim x [
      | inl y ↦ inl (inl y)
      | inr y ↦ elim (grows.only k s y) [ inl z ↦ inl (inr (sym (same k) ∙ z)) | inr own ↦ inr own ]
    ];
  }

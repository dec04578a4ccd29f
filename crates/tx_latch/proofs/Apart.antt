-- No two granted commands share a slot, and who shares none with one that asked before is granted.
use Rattle.std.proofs.Common.{◌≡◌, ◌⊎◌, ℕ, zero, suc, ◌+◌, ◌<◌, inl, inr, Bool, true, false, cond, not, ◌||◌, eqb, List, [], ◌∷◌, ◌++◌, refl, sym, ap, subst, ◌∙◌, arith}
use Rattle.std.specs.List.{Contains, filter, list_any}
use Rattle.std.proofs.lemmas.Bool.{cases_Bool, eqb-true}
use Rattle.tx_latch.specs.Asked.{Command, contains, meets, granted}
use Rattle.tx_latch.proofs.Lists.{eqb_self}
use Rattle.tx_latch.proofs.Granted.{granted-cons}

-- ---- members

has_none : {X : Type 0} (x : X) → Contains {X = X} [] x → ⊥
has_none x c = omega (arith, c.1)

has_first : {X : Type 0} (x : X) (xs : List X) → Contains (x ∷ xs) x
has_first x xs = (zero, omega arith, refl)

has_next : {X : Type 0} (x : X) (xs : List X) (y : X) → Contains xs y → Contains (x ∷ xs) y
has_next x xs y c = (suc c.0, omega (arith, c.1), c.2)

has_cases : {X : Type 0} (x : X) (xs : List X) (y : X) → Contains (x ∷ xs) y → (x ≡ y) ⊎ Contains xs y
has_cases x xs y (zero, lt, e) = inl e
has_cases x xs y (suc k, lt, e) = inr (k, omega (arith, lt), e)

-- a member of a filtered list is a member that passes the test
passing : {X : Type 0} (test : X → Bool) (xs : List X) (x : X) → Contains xs x → test x ≡ true
    → Contains (filter test xs) x
passing test [] x c e = absurd (has_none x c)
passing test (y ∷ xs) x c e =
    elim (cases_Bool (test y)) [
      | inl passes ↦ (rw passes (elim (has_cases y xs x c) [
        | inl is ↦ subst (Contains (y ∷ filter test xs)) is (has_first y (filter test xs))
        | inr later ↦ has_next y (filter test xs) x (passing test xs x later e)
      ]))
      | inr fails ↦ (rw fails (elim (has_cases y xs x c) [
        | inl is ↦ absurd (let passes : test y ≡ true = ap test is ∙ e in (cc (passes, fails)))
        | inr later ↦ passing test xs x later e
      ]))
    ]

passed : {X : Type 0} (test : X → Bool) (xs : List X) (x : X) → Contains (filter test xs) x
    → Contains xs x × (test x ≡ true)
passed test [] x c = absurd (has_none x c)
passed test (y ∷ xs) x c =
    elim (cases_Bool (test y)) [
      | inl passes ↦ (let d : Contains (y ∷ filter test xs) x = rw passes at c in
          elim (has_cases y (filter test xs) x d) [
            | inl is ↦ (subst (Contains (y ∷ xs)) is (has_first y xs), subst (λ z. test z ≡ true) is passes)
            | inr later ↦ (let rest = passed test xs x later in (has_next y xs x rest.0, rest.1))
          ])
      | inr fails ↦ (let d : Contains (filter test xs) x = rw fails at c in let rest = passed test xs x d in
          (has_next y xs x rest.0, rest.1))
    ]

-- ---- slots

or_left : (a b : Bool) → a ≡ true → (a || b) ≡ true
or_left true b e = refl
or_left false b e = absurd (cc e)

or_right : (a b : Bool) → b ≡ true → (a || b) ≡ true
or_right true b e = refl
or_right false b e = e

or_split : (a b : Bool) → (a || b) ≡ true → (a ≡ true) ⊎ (b ≡ true)
or_split true b e = inl refl
or_split false b e = inr e

-- what stands in a list is found there
is_found : (xs : List ℕ) (x : ℕ) → Contains xs x → contains x xs ≡ true
is_found [] x c = absurd (has_none x c)
is_found (y ∷ xs) x c =
    elim (has_cases y xs x c) [
      | inl is ↦ or_left (eqb x y) (contains x xs) (ap (eqb x) is ∙ eqb_self x)
      | inr later ↦ or_right (eqb x y) (contains x xs) (is_found xs x later)
    ]

found_is : (xs : List ℕ) (x : ℕ) → contains x xs ≡ true → Contains xs x
found_is [] x e = absurd (cc e)
found_is (y ∷ xs) x e =
    elim (or_split (eqb x y) (contains x xs) e) [
      | inl now ↦ subst (Contains (y ∷ xs)) (sym (eqb-true x y now)) (has_first y xs)
      | inr later ↦ has_next y xs x (found_is xs x later)
    ]

-- sets that share a slot meet
they_meet : (xs ys : List ℕ) (slot : ℕ) → Contains xs slot → Contains ys slot → meets xs ys ≡ true
they_meet [] ys slot c d = absurd (has_none slot c)
they_meet (x ∷ xs) ys slot c d =
    elim (has_cases x xs slot c) [
      | inl is ↦ or_left (contains x ys) (meets xs ys) (ap (λ s. contains s ys) is ∙ is_found ys slot d)
      | inr later ↦ or_right (contains x ys) (meets xs ys) (they_meet xs ys slot later d)
    ]

-- sets that meet share a slot
meeting_slot : (xs ys : List ℕ) → meets xs ys ≡ true → (slot : ℕ) × Contains xs slot × Contains ys slot
meeting_slot [] ys e = absurd (cc e)
meeting_slot (x ∷ xs) ys e =
    elim (or_split (contains x ys) (meets xs ys) e) [
      | inl now ↦ (x, has_first x xs, found_is ys x now)
      | inr later ↦ (let rest = meeting_slot xs ys later in (rest.0, has_next x xs rest.0 rest.1, rest.2))
    ]

-- ---- the laws

-- a granted command that shares a slot with the first is none of the later ones
apart_later : (c d : Command) (later : List Command) (slot : ℕ)
    → Contains (filter (λ x. not (meets c.slots x.slots)) (granted later)) d → Contains c.slots slot
    → Contains d.slots slot → ⊥
apart_later c d later slot among own its =
    let passes = (passed (λ x. not (meets c.slots x.slots)) (granted later) d among).1 in
    let e : meets c.slots d.slots ≡ true = they_meet c.slots d.slots slot own its in
    let no : not true ≡ true = ap not (sym e) ∙ passes in
    cc no

pub granted_apart : (asked : List Command) (c d : Command) (slot : ℕ) → Contains (granted asked) c
    → Contains (granted asked) d → Contains c.slots slot → Contains d.slots slot → c ≡ d
granted_apart [] c d slot x y own its = absurd (has_none c x)
granted_apart (a ∷ later) c d slot x y own its =
    let rest : List Command = filter (λ e. not (meets a.slots e.slots)) (granted later) in
    let x' : Contains (a ∷ rest) c = subst (λ l. Contains l c) (granted-cons a later) x in
    let y' : Contains (a ∷ rest) d = subst (λ l. Contains l d) (granted-cons a later) y in
    elim (has_cases a rest c x') [
      | inl c_first ↦ elim (has_cases a rest d y') [
        | inl d_first ↦ sym c_first ∙ d_first
        | inr d_later ↦ absurd
            (apart_later a d later slot d_later (subst (λ (e : Command). Contains e.slots slot) (sym c_first) own) its)
      ]
      | inr c_later ↦ elim (has_cases a rest d y') [
        | inl d_first ↦ absurd
            (apart_later a c later slot c_later (subst (λ (e : Command). Contains e.slots slot) (sym d_first) its) own)
        | inr d_later ↦ granted_apart later c d slot
            (passed (λ e. not (meets a.slots e.slots)) (granted later) c c_later).0
            (passed (λ e. not (meets a.slots e.slots)) (granted later) d d_later).0 own its
      ]
    ]

pub first_granted : (c : Command) (later : List Command) → Contains (granted (c ∷ later)) c
first_granted c later =
    subst (λ l. Contains l c) (sym (granted-cons c later))
    (has_first c (filter (λ e. not (meets c.slots e.slots)) (granted later)))

pub free_granted : (before later : List Command) (c : Command)
    → ((e : Command) (slot : ℕ) → Contains before e → Contains e.slots slot → Contains c.slots slot → ⊥)
    → Contains (granted (before ++ c ∷ later)) c
free_granted [] later c apart = first_granted c later
free_granted (b ∷ before) later c apart =
    let rest = free_granted before later c (λ e slot among. apart e slot (has_next b before e among)) in
    let none : not (meets b.slots c.slots) ≡ true = elim (cases_Bool (meets b.slots c.slots)) [
      | inl they ↦ (let both = meeting_slot b.slots c.slots they in
          absurd (apart b both.0 (has_first b before) both.1 both.2))
      | inr apart_here ↦ ap not apart_here
    ] in
    subst (λ l. Contains l c) (sym (granted-cons b (before ++ c ∷ later)))
    (has_next b (filter (λ e. not (meets b.slots e.slots)) (granted (before ++ c ∷ later))) c
    (passing (λ e. not (meets b.slots e.slots)) (granted (before ++ c ∷ later)) c rest none))

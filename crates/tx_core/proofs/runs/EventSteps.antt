-- The machine's steps that are read off a history explain it, event by event.
use Rattle.std.proofs.Common.{◌≡◌, ◌≢◌, ◌⊎◌, ℕ, ◌<◌, ◌++◌, inl, inr, Bool, true, false, cond, List, [], ◌∷◌, Option, Some, None, bytes_eq, Contains, refl, sym, ap, subst, ◌∙◌, arith}
use Rattle.std.specs.Prelude.{◌↔◌}
use Rattle.std.proofs.lemmas.Bool.{cases_Bool, cases_lt, eq-eqb}
use Rattle.std.proofs.lemmas.List.{append_assoc}
use Rattle.std.proofs.lemmas.List.Elements.{Contains-append_left, Contains-append_right, Contains-append_cases}
use Rattle.tx_types.specs.declared.key.Key.{Key}
use Rattle.tx_types.specs.declared.mutation.Mutation.{Mutation}
use Rattle.tx_types.specs.declared.mutation.Mutation.TheVariants as mutation
use Rattle.tx_types.specs.declared.mutation.Fate.{Fate}
use Rattle.tx_types.specs.declared.mutation.Fate.TheVariants as fate
use Rattle.tx_plan.specs.declared.body.Body.{Body}
use Rattle.tx_plan.specs.declared.body.Body.TheVariants.{Get, Scan, Prewrite, Commit, BatchRollback, CheckTxnStatus, CheckSecondaryLocks}
use Rattle.tx_plan.specs.declared.body.Prewrite.{Prewrite as PrewriteBody}
use Rattle.tx_plan.specs.declared.answer.Answer.{Answer}
use Rattle.tx_plan.specs.declared.answer.Answer.TheVariants.{Found, Nothing, Rows, Prewritten, Committed, RolledBack, Missing}
use Rattle.tx_plan.specs.Answers.{start_in}
use Rattle.tx_plan.specs.Cells.{Lock, Cells}
use Rattle.tx_plan.specs.Own.{OwnLock, OwnCommit, OwnRollback, is_own}
use Rattle.tx_plan.specs.cases.Prewrite.{AnswersPrewrite, MayPromise, check_by, lock_of}
use Rattle.tx_machine.specs.declared.step.Step.{Step}
use Rattle.tx_machine.specs.declared.step.Step.TheVariants as step
use Rattle.tx_machine.specs.Keys.{mutation_at}
use Rattle.tx_machine.specs.Machine.{State, Open, Done}
use Rattle.tx_core.specs.declared.event.Outcome.TheVariants as outcome
use Rattle.tx_core.specs.declared.event.Taken.{Taken}
use Rattle.tx_core.specs.declared.event.Event.{Event}
use Rattle.tx_core.specs.declared.event.Event.TheVariants.{Drawn, Began, Declared, Answered, Stopped, Took}
use Rattle.tx_core.specs.Histories.{History, last, set_of, set_at, left}
use Rattle.tx_core.specs.Decisions.{Acceptance, Effect, Puts, Settles, RollsBack, NoEffect, effect, effect_in, accepted_by, accepted, decision, first_decided, decided}
use Rattle.tx_core.specs.Worlds.{route, IsWorldRun}
use Rattle.tx_core.specs.Legal.{IsLegallyTaken, IsLegal, IsLegalRun}
use Rattle.tx_core.specs.Shadow.{deciding, deciding_in, checked, checking, shadow}
use Rattle.tx_core.specs.Truth.{scan_read}
use Rattle.tx_core.specs.EventSteps.{Decides, LocksInsert, reading, IsStepOf, Explains}
use Rattle.tx_core.proofs.Basics.{nat_test, key_true, some_same}
use Rattle.tx_core.proofs.view.View.{Inv, never_accepted}
use Rattle.tx_core.proofs.view.HistoryView.{view}
use Rattle.tx_core.proofs.requests.Good.{took}
use Rattle.tx_core.proofs.runs.Legal.{legal_run}
use Rattle.tx_core.proofs.runs.AllRuns.{legal_told}
use Rattle.tx_core.proofs.runs.Consequences.{put_accepted}
use Rattle.tx_core.proofs.runs.Truths.{true_next}
use Rattle.tx_core.proofs.unique.KeyLists.{contains_none, contains_first, contains_cases}

-- ---- lists of one

is_only : {X : Type 0} (x s : X) → Contains (x ∷ []) s → s ≡ x
is_only x s c = elim (contains_cases x [] s c) [ inl e ↦ sym e | inr y ↦ absurd (contains_none s y) ]

has_only : {X : Type 0} (x s : X) → s ≡ x → Contains (x ∷ []) s
has_only x s e = subst (Contains (x ∷ [])) (sym e) (contains_first x [])

-- ---- the step of a decision

module _ (h : History) (x : Taken) where
  by_states : (t : ℕ) (old new : State) → decided h t ≡ old → decided (Took x ∷ h) t ≡ new → (s : Step)
      → Contains (deciding t old new) s → IsStepOf h (Took x) s
  by_states t Open (Done (fate.Committed c)) was is s has =
      subst (IsStepOf h (Took x)) (sym (is_only (step.Commit t c) s has)) record { before = was; now = is }
  by_states t Open (Done fate.Aborted) was is s has =
      subst (IsStepOf h (Took x)) (sym (is_only (step.Abort t) s has)) record { before = was; now = is }
  by_states t Open Open was is s has = absurd (contains_none s has)
  by_states t (Done end) new was is s has = absurd (contains_none s has)

  by_named : (named : Option ℕ) (s : Step) → Contains (deciding_in h x named) s → IsStepOf h (Took x) s
  by_named None s has = absurd (contains_none s has)
  by_named (Some t) s has = by_states t (decided h t) (decided (Took x ∷ h) t) refl refl s has

-- an effect of the transaction that started at t
abbrev IsOf : Effect → ℕ → Type 0
IsOf (Puts key lock) t = lock.start ≡ t
IsOf (Settles key u c) t = u ≡ t
IsOf (RollsBack u) t = u ≡ t
IsOf NoEffect t = ⊥

-- who is decided is the one that the effect is of
decides_of : (set : List _) (by : Key → Option Acceptance) (e : Effect) (t : ℕ) (end : Fate)
    → decision set by e t ≡ Done end → IsOf e t
decides_of set by (Puts key lock) t end is = elim (nat_test lock.start t) [
  | inl y ↦ y.1
  | inr y ↦ (let none : Open ≡ Done end = rw y.0 at is in absurd (cc (none)))
]
decides_of set by (Settles key u c) t end is = elim (nat_test u t) [
  | inl y ↦ y.1
  | inr y ↦ (let none : Open ≡ Done end = rw y.0 at is in absurd (cc (none)))
]
decides_of set by (RollsBack u) t end is = elim (nat_test u t) [
  | inl y ↦ y.1
  | inr y ↦ (let none : Open ≡ Done end = rw y.0 at is in absurd (cc (none)))
]
decides_of set by NoEffect t end is = absurd (cc (is))

-- of two effects by a test
is_of_chosen : (test : Bool) (e f : Effect) (t : ℕ) → IsOf (cond test e f) t → IsOf e t ⊎ IsOf f t
is_of_chosen true e f t is = inl is
is_of_chosen false e f t is = inr is

-- and that is the one that the request names
named_by : (cells : Key → Cells) (body : Body) (a : Answer) (t : ℕ) → IsOf (effect cells body a) t
    → start_in body ≡ Some t
named_by cells (Prewrite b) (Prewritten m) t is =
    elim (is_of_chosen (is_own (cells b.key).lock b.start) NoEffect (Puts b.key (lock_of b m)) t is) [
      | inl y ↦ absurd y
      | inr y ↦ ap Some y
    ]
named_by cells (Commit b) (Committed c) t is =
    elim (is_of_chosen (is_own (cells b.key).lock b.start) (Settles b.key b.start b.commit) NoEffect t is) [
      | inl y ↦ ap Some y
      | inr y ↦ absurd y
    ]
named_by cells (BatchRollback b) RolledBack t is = ap Some is
named_by cells (CheckTxnStatus b) RolledBack t is = ap Some is
named_by cells (CheckSecondaryLocks b) Missing t is = ap Some is
named_by cells body a t is = absurd is

first_is : (new before : State) (end : Fate) → before ≡ Open → first_decided new before ≡ Done end → new ≡ Done end
first_is Open before end was is = absurd (cc (was, is))
first_is (Done e) Open end was is = is
first_is (Done e) (Done f) end was is = absurd (cc (was))

-- the step of a decision is there
decided_step : (h : History) (x : Taken) (t : ℕ) (end : Fate) → Decides h (Took x) t end
    → deciding_in h x (start_in x.body) ≡ deciding t Open (Done end)
decided_step h x t end d =
    ap (deciding_in h x) (named_by (left h x.region).cells x.body x.answer t
    (decides_of (set_at h t) (accepted (Took x ∷ h) t) (effect_in h x) t end
    (first_is (decision (set_at h t) (accepted (Took x ∷ h) t) (effect_in h x) t) (decided h t) end d.before d.now)))
    ∙ ap (λ s. deciding t s (decided (Took x ∷ h) t)) d.before ∙ ap (deciding t Open) d.now

-- ---- the step of a read

module _ (h : History) (n l : ℕ) where
  read_step : (body : Body) (a : Answer) (s : Step) → Contains (reading body a) s
      → IsStepOf h (Took (took n body l a)) s
  read_step (Get b) (Found v) s has =
      subst (IsStepOf h (Took (took n (Get b) l (Found v)))) (sym (is_only (step.Read b.key b.at (Some v)) s has))
      (inl (contains_first (step.Read b.key b.at (Some v)) []))
  read_step (Get b) Nothing s has =
      subst (IsStepOf h (Took (took n (Get b) l Nothing))) (sym (is_only (step.Read b.key b.at None) s has))
      (inl (contains_first (step.Read b.key b.at None) []))
  read_step (Scan b) (Rows rows) s has =
      subst (IsStepOf h (Took (took n (Scan b) l (Rows rows)))) (sym (is_only (step.Scan (scan_read b rows)) s has))
      (contains_first (step.Scan (scan_read b rows)) [])
  read_step body a s has = absurd (contains_none s has)

-- ---- the step of an insert's check

-- a prewrite that puts its lock finds nothing of its transaction on the key
clear_by : (cells : Cells) (safe loaded : ℕ) (P : ℕ → Type 0) (b : PrewriteBody) (m : ℕ)
    → is_own cells.lock b.start ≡ false → AnswersPrewrite cells safe loaded P b (Prewritten m)
    → (b.start < safe → ⊥) × ((lock : Lock) → OwnLock cells.lock b.start lock → ⊥)
    × ((c : ℕ) → OwnCommit cells.write b.start c → ⊥) × (OwnRollback cells.write b.start → ⊥)
clear_by cells safe loaded P b m free (inl x) = absurd (cc (x.1))
clear_by cells safe loaded P b m free (inr (no0, inl x)) = absurd (cc (x.1))
clear_by cells safe loaded P b m free (inr (no0, inr (no1, inl (lock, own, e)))) =
    absurd (let is : is_own cells.lock b.start ≡ true =
    ap (λ o. is_own o b.start) own.stands ∙ eq-eqb lock.start b.start own.own in cc (is, free))
clear_by cells safe loaded P b m free (inr (no0, inr (no1, inr (no2, inl x)))) = absurd (cc (x.1))
clear_by cells safe loaded P b m free (inr (no0, inr (no1, inr (no2, inr (no3, inl (c, own, e)))))) = absurd (cc (e))
clear_by cells safe loaded P b m free (inr (no0, inr (no1, inr (no2, inr (no3, inr (no4, rest)))))) =
    (no0, no2, no4, no3)

-- of what accepts a key
abbrev PutsOf : Effect → ℕ → Key → Type 0
PutsOf (Puts key lock) t k = (lock.start ≡ t) × (key ≡ k)
PutsOf e t k = ⊥

accepts_of : (e : Effect) (n t : ℕ) (k : Key) (before : Option Acceptance) → before ≡ None
    → accepted_by e n t k before ≢ None → PutsOf e t k
accepts_of (Puts key lock) n t k before none some = elim (nat_test lock.start t) [
  | inl y ↦ elim (cases_Bool (bytes_eq key k)) [
    | inl z ↦ (y.1, key_true key k z)
    | inr z ↦ absurd (some (rw (y.0, z) none))
  ]
  | inr y ↦ absurd (some (rw y.0 none))
]
accepts_of (Settles key u c) n t k before none some = absurd (some none)
accepts_of (RollsBack u) n t k before none some = absurd (some none)
accepts_of NoEffect n t k before none some = absurd (some none)

puts_chosen : (test : Bool) (e f : Effect) (t : ℕ) (k : Key) → PutsOf (cond test e f) t k
    → PutsOf e t k ⊎ PutsOf f t k
puts_chosen true e f t k is = inl is
puts_chosen false e f t k is = inr is

abbrev IsPrewritten : Body → Answer → Type 0
IsPrewritten (Prewrite b) (Prewritten m) = Unit {0}
IsPrewritten body a = ⊥

-- what puts a lock is a prewrite
is_prewritten : (cells : Key → Cells) (body : Body) (a : Answer) (t : ℕ) (k : Key) → PutsOf (effect cells body a) t k
    → IsPrewritten body a
is_prewritten cells (Prewrite b) (Prewritten m) t k is = tt
is_prewritten cells (BatchRollback b) RolledBack t k is = absurd is
is_prewritten cells (CheckTxnStatus b) RolledBack t k is = absurd is
is_prewritten cells (CheckSecondaryLocks b) Missing t k is = absurd is
is_prewritten cells (Commit b) (Committed c) t k is =
    elim (puts_chosen (is_own (cells b.key).lock b.start) (Settles b.key b.start b.commit) NoEffect t k is) [
      | inl y ↦ absurd y
      | inr y ↦ absurd y
    ]
is_prewritten cells body a t k is = absurd is

module _ (bounds : List Key) (h : History) (run : IsLegalRun bounds h) where
  -- the check of an insert whose lock this puts
  module _ (b : PrewriteBody) (n l m : ℕ) (may : IsLegallyTaken bounds h (took n (Prewrite b) l (Prewritten m))) where
    abbrev x : Taken
    x = took n (Prewrite b) l (Prewritten m)

    declares : mutation_at (set_at h b.start) b.key ≡ Some b.mutation
    declares = ap (λ o. mutation_at (set_of o) b.key) may.legal.stands ∙ may.legal.mutation

    unaccepted : is_own ((left h n).cells b.key).lock b.start ≡ false → accepted h b.start b.key ≡ None
    unaccepted free = subst (λ q. is_own ((left h q).cells b.key).lock b.start ≡ false
        → AnswersPrewrite ((left h q).cells b.key) (left h q).safe l (MayPromise (left h q).max_read (last h) b) b
        (Prewritten m) → accepted h b.start b.key ≡ None) may.holds go free may.answers
      where
        i : Inv (view bounds h)
        i = (legal_told bounds h run).0.sound.inv

        go : is_own ((left h (route bounds b.key)).cells b.key).lock b.start ≡ false
            → AnswersPrewrite ((left h (route bounds b.key)).cells b.key) (left h (route bounds b.key)).safe l
            (MayPromise (left h (route bounds b.key)).max_read (last h) b) b (Prewritten m)
            → accepted h b.start b.key ≡ None
        go free answers =
            let clear = clear_by ((left h (route bounds b.key)).cells b.key) (left h (route bounds b.key)).safe l
            (MayPromise (left h (route bounds b.key)).max_read (last h) b) b m free answers in
            never_accepted (view bounds h) b.key b.start i (elim (cases_lt b.start (left h (route bounds b.key)).safe) [
              | inl lt ↦ absurd (clear.0 lt)
              | inr le ↦ omega (arith, le, i.marks.low b.key)
            ]) clear.1 clear.2 clear.3

    -- the effect is that the lock is put
    puts : is_own ((left h n).cells b.key).lock b.start ≡ false → effect_in h x ≡ Puts b.key (lock_of b m)
    puts free = rw free refl

    checked_is : (mutation_of : Mutation) → b.mutation ≡ mutation_of
        → is_own ((left h n).cells b.key).lock b.start ≡ false → (s : Step)
        → Contains (checked b (check_by mutation_of b.start)) s → IsStepOf h (Took x) s
    checked_is (mutation.Insert v) is free s has =
        subst (IsStepOf h (Took x)) (sym (is_only (step.Read b.key b.start None) s has))
        (inr (
          record {
            value = v;
            inserts = declares ∙ ap Some is;
            before = unaccepted free;
            now = subst (λ e. accepted_by e (last h) b.start b.key (accepted h b.start b.key) ≢ None)
                (sym (puts free)) (put_accepted b.key (lock_of b m) (last h) (accepted h b.start b.key));
          },
          refl,
        ))
    checked_is (mutation.Put v) is free s has = absurd (contains_none s has)
    checked_is mutation.Delete is free s has = absurd (contains_none s has)
    checked_is mutation.Lock is free s has = absurd (contains_none s has)

    prewrite_step : (s : Step) → Contains (checking x.body (effect_in h x)) s → IsStepOf h (Took x) s
    prewrite_step s has = elim (cases_Bool (is_own ((left h n).cells b.key).lock b.start)) [
      | inl own ↦ (let none : Contains [] s = rw own at has in absurd (contains_none s none))
      | inr free ↦ (let of : Contains (checked b (check_by b.mutation b.start)) s = rw free at has in
          checked_is b.mutation refl free s of)
    ]

    locks_step : (t : ℕ) (k : Key) → LocksInsert h (Took x) t k
        → Contains (checking x.body (effect_in h x)) (step.Read k t None)
    locks_step t k is = elim (cases_Bool (is_own ((left h n).cells b.key).lock b.start)) [
      | inl own ↦ absurd (is.now (rw own is.before))
      | inr free ↦ (let of : (b.start ≡ t) × (b.key ≡ k) =
          accepts_of (Puts b.key (lock_of b m)) (last h) t k (accepted h t k) is.before
          (subst (λ e. accepted_by e (last h) t k (accepted h t k) ≢ None) (puts free) is.now) in
          let inserts : b.mutation ≡ mutation.Insert is.value =
          some_same b.mutation (mutation.Insert is.value) (sym declares
          ∙ (ap (λ u. mutation_at (set_at h u) b.key) of.0 ∙ ap (mutation_at (set_at h t)) of.1 ∙ is.inserts)) in
          subst (λ e. Contains (checking x.body e) (step.Read k t None)) (sym (puts free))
          (subst (λ o. Contains (checked b (check_by o b.start)) (step.Read k t None)) (sym inserts)
          (has_only (step.Read b.key b.start None) (step.Read k t None) (cc (of.0, of.1)))))
    ]

  check_step : (n : ℕ) (body : Body) (l : ℕ) (a : Answer) → IsLegallyTaken bounds h (took n body l a) → (s : Step)
      → Contains (checking body (effect_in h (took n body l a))) s → IsStepOf h (Took (took n body l a)) s
  check_step n (Prewrite b) l (Prewritten m) may s has = prewrite_step b n l m may s has
  check_step n body l a may s has = absurd (contains_none s has)

  -- an effect that accepts a key is of a prewrite
  insert_step : (n : ℕ) (body : Body) (l : ℕ) (a : Answer) → IsLegallyTaken bounds h (took n body l a)
      → (t : ℕ) (k : Key) → LocksInsert h (Took (took n body l a)) t k
      → Contains (checking body (effect_in h (took n body l a))) (step.Read k t None)
  insert_step n (Prewrite b) l (Prewritten m) may t k is = locks_step b n l m may t k is
  insert_step n body l a may t k is = absurd (is_prewritten (left h n).cells body a t k
      (accepts_of (effect_in h (took n body l a)) (last h) t k (accepted h t k) is.before is.now))

  -- ---- an event

  module _ (x : Taken) (may : IsLegallyTaken bounds h x) where
    abbrev ends : List Step
    ends = deciding_in h x (start_in x.body)

    abbrev checks : List Step
    checks = checking x.body (effect_in h x)

    abbrev reads : List Step
    reads = reading x.body x.answer

    is_step : (s : Step) → Contains (ends ++ (checks ++ reads)) s → IsStepOf h (Took x) s
    is_step s has = elim (Contains-append_cases ends (checks ++ reads) s has) [
      | inl y ↦ by_named h x (start_in x.body) s y
      | inr rest ↦ elim (Contains-append_cases checks reads s rest) [
        | inl y ↦ check_step x.region x.body x.loaded x.answer may s y
        | inr y ↦ read_step h x.region x.loaded x.body x.answer s y
      ]
    ]

    among_reads : (s : Step) → Contains reads s → Contains (ends ++ (checks ++ reads)) s
    among_reads s has = Contains-append_right ends (checks ++ reads) s (Contains-append_right checks reads s has)

    among_ends : (t : ℕ) (end : Fate) (s : Step) → Decides h (Took x) t end → Contains (deciding t Open (Done end)) s
        → Contains (ends ++ (checks ++ reads)) s
    among_ends t end s d has = Contains-append_left ends (checks ++ reads) s
        (subst (λ e. Contains e s) (sym (decided_step h x t end d)) has)

    has_step : (s : Step) → IsStepOf h (Took x) s → Contains (ends ++ (checks ++ reads)) s
    has_step (step.Read k r found) (inl has) = among_reads (step.Read k r found) has
    has_step (step.Read k r found) (inr (locks, none)) =
        subst (λ o. Contains (ends ++ (checks ++ reads)) (step.Read k r o)) (sym none)
        (Contains-append_right ends (checks ++ reads) (step.Read k r None)
        (Contains-append_left checks reads (step.Read k r None)
        (insert_step x.region x.body x.loaded x.answer may r k locks)))
    has_step (step.Scan read) has = among_reads (step.Scan read) has
    has_step (step.Commit t c) is = among_ends t (fate.Committed c) (step.Commit t c) is
        (has_only (step.Commit t c) (step.Commit t c) refl)
    has_step (step.Abort t) is =
        among_ends t fate.Aborted (step.Abort t) is (has_only (step.Abort t) (step.Abort t) refl)
    has_step s is = absurd is

  own_steps : (e : Event) → IsLegal bounds h e → (own : List Step) × (shadow (e ∷ h) ≡ own ++ shadow h)
      × ((s : Step) → Contains own s ↔ IsStepOf h e s)
  own_steps (Drawn seat n) may = (step.Draw n ∷ [], refl, λ s. (is_only (step.Draw n) s, has_only (step.Draw n) s))
  own_steps (Began t) may = (step.Begin t ∷ [], refl, λ s. (is_only (step.Begin t) s, has_only (step.Begin t) s))
  own_steps (Declared d) may = (
    step.Declare d.start d.changes ∷ [],
    refl,
    λ s. (is_only (step.Declare d.start d.changes) s, has_only (step.Declare d.start d.changes) s),
  )
  own_steps (Answered t (outcome.Committed c)) may = (
    step.Answer t (fate.Committed c) ∷ [],
    refl,
    λ s. (is_only (step.Answer t (fate.Committed c)) s, has_only (step.Answer t (fate.Committed c)) s),
  )
  own_steps (Answered t outcome.Aborted) may = (
    step.Answer t fate.Aborted ∷ [],
    refl,
    λ s. (is_only (step.Answer t fate.Aborted) s, has_only (step.Answer t fate.Aborted) s),
  )
  own_steps (Answered t (outcome.Unknown cause)) may = ([], refl, λ s. (contains_none s, λ e. absurd e))
  own_steps (Answered t outcome.ReadOnly) may = ([], refl, λ s. (contains_none s, λ e. absurd e))
  own_steps (Stopped seat) may = ([], refl, λ s. (contains_none s, λ e. absurd e))
  own_steps (Took x) may = (
    deciding_in h x (start_in x.body) ++ (checking x.body (effect_in h x) ++ reading x.body x.answer),
    parted (deciding_in h x (start_in x.body)) (checking x.body (effect_in h x)) (reading x.body x.answer) (shadow h),
    λ s. (is_step x may s, has_step x may s),
  )
    where
      parted : (a b c d : List Step) → a ++ (b ++ (c ++ d)) ≡ (a ++ (b ++ c)) ++ d
      parted a b c d = ap (λ y. a ++ y) (sym (append_assoc b c d)) ∙ sym (append_assoc a (b ++ c) d)

-- ---- every history

pub legal_explained : (bounds : List Key) (h : History) → IsLegalRun bounds h → Explains (shadow h) h
legal_explained bounds [] run = refl
legal_explained bounds (e ∷ h) run =
    let own = own_steps bounds h run.0 e run.1 in
    (own.0, shadow h, own.1, legal_explained bounds h run.0, own.2, true_next bounds h e run)

pub explained : (bounds : List Key) (h : History) → IsWorldRun bounds h → Explains (shadow h) h
explained bounds h run = legal_explained bounds h (legal_run bounds h run)

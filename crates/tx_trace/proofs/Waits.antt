-- What an accepted key changes of what a transaction waits for.
use Rattle.std.proofs.Common.{◌≡◌, ◌≢◌, ◌⊎◌, inl, inr, ℕ, max, true, false, List, [], ◌∷◌, Option, Some, None, refl, sym, ap, subst, ◌∙◌}
use Rattle.tx_types.specs.declared.key.Key.{Key}
use Rattle.tx_types.specs.declared.mutation.Change.{Change}
use Rattle.tx_types.specs.declared.mutation.Mode.TheVariants.{TwoPhase, Async}
use Rattle.tx_machine.specs.Keys.{mutation_at}
use Rattle.tx_core.specs.declared.event.Declaration.{Declaration}
use Rattle.tx_core.specs.Decisions.{Acceptance, async_minimum, greatest}
use Rattle.tx_core.proofs.Basics.{key_test, key_same, some_of, some_same}
use Rattle.tx_trace.specs.declared.pending.Locks.{Locks}
use Rattle.tx_trace.specs.declared.pending.Pending.{Pending}
use Rattle.tx_trace.specs.declared.pending.Pending.TheVariants as pending
use Rattle.tx_trace.specs.Pending.{Accepted, has, minimum_in, greatest_in, AwaitsLocks, Awaits, TakesOutKey, Completes, Accepts}
use Rattle.tx_trace.proofs.Minimums.{two_phase_minimum, no_minimum, not_all, all_async, greatest_more, greatest_same}

-- the acceptance of a key with this minimum, 0 of a two-phase lock
pub record IsNew (m : ℕ) (by : Acceptance) : Type 0 where
  pub two_phase : m ≡ 0 → by.lock.mode ≡ TwoPhase
  pub async : m ≢ 0 → by.lock.mode ≡ Async
  pub min : m ≢ 0 → by.lock.min ≡ m

-- the key k is accepted with the minimum m, or was accepted before
pub record Gains (old new : Accepted) (k : Key) (m : ℕ) : Type 0 where
  pub others : (q : Key) → q ≢ k → new q ≡ old q
  pub before : (by : Acceptance) → old k ≡ Some by → new k ≡ Some by
  pub now : old k ≡ None → (by : Acceptance) × (new k ≡ Some by) × IsNew m by

module _ (d : Declaration) (some : d.changes ≢ []) (old new : Accepted) (k : Key) (m : ℕ) (within :
    mutation_at d.changes k ≢ None) (gains : Gains old new k m)
    (all : d.mode ≡ TwoPhase → (q : Key) (by : Acceptance) → new q ≡ Some by → by.lock.mode ≡ TwoPhase) where
  -- what was accepted stays so
  stays : (q : Key) (by : Acceptance) → old q ≡ Some by → new q ≡ Some by
  stays q by e = elim (key_test q k) [
    | inl x ↦
        subst (λ z. new z ≡ Some by) (sym x.1) (gains.before by (subst (λ z. old z ≡ Some by) x.1 e))
    | inr x ↦ gains.others q x.1 ∙ e
  ]

  -- ---- the primary alone is waited for

  primary_stays : Awaits d old pending.Primary → Awaits d new pending.Primary
  primary_stays w = elim w [
    | inl mode ↦ inl mode
    | inr x ↦ inr (record {
      key = x.key;
      by = x.by;
      within = x.within;
      stands = stays x.key x.by x.stands;
      two_phase =
          x.two_phase;
    })
  ]

  two_phase_first : (set : List Change) → set ≢ [] → d.mode ≡ TwoPhase → greatest new set ≡ None
  two_phase_first [] some mode = absurd (some refl)
  two_phase_first (c ∷ cs) some mode = not_all new (c ∷ cs) c.key (first_in c cs) (minimum (new c.key) refl)
    where
      first_in : (c : Change) (cs : List Change) → mutation_at (c ∷ cs) c.key ≢ None
      first_in c cs none = (let e : Some c.mutation ≡ None = rw (key_same c.key) at none in cc e)

      minimum : (o : Option Acceptance) → new c.key ≡ o → async_minimum (new c.key) ≡ None
      minimum None e = no_minimum (new c.key) e
      minimum (Some by) e = two_phase_minimum (new c.key) by e (all mode c.key by e)

  pub primary_open : Awaits d new pending.Primary → greatest new d.changes ≡ None
  primary_open w = elim w [
    | inl mode ↦ two_phase_first d.changes some mode
    | inr x ↦ not_all new d.changes x.key x.within (two_phase_minimum (new x.key) x.by x.stands x.two_phase)
  ]

  -- ---- locks are waited for

  pub locks_open : (locks : Locks) → AwaitsLocks d.changes new locks → greatest new d.changes ≡ None
  locks_open locks w = not_all new d.changes w.some.0 (w.within w.some.0 w.some.1)
      (no_minimum (new w.some.0) (w.left w.some.0 w.some.1))

  -- a key that is not left is accepted already
  again : (locks : Locks) → AwaitsLocks d.changes old locks → has locks.left k ≡ false → (q : Key) → new q ≡ old q
  again locks w gone q =
      elim (key_test q k) [
        | inl x ↦ (let was = some_of (old k) (w.rest k within gone) in
            subst (λ z. new z ≡ old z) (sym x.1) (gains.before was.0 was.1 ∙ sym was.1))
        | inr x ↦ gains.others q x.1
      ]

  same_waits : (locks : Locks) → AwaitsLocks d.changes old locks → ((q : Key) → new q ≡ old q)
      → AwaitsLocks d.changes new locks
  same_waits locks w same =
      record {
        some = w.some;
        within = w.within;
        left = λ q e. same q ∙ w.left q e;
        rest = λ q e f none. w.rest q e f (sym (same q) ∙ none);
        async = λ q by e f. w.async q by e (sym (same q) ∙ f);
        min = w.min ∙ sym (greatest_same old new same d.changes);
      }

  module _ (locks next : Locks) (w : AwaitsLocks d.changes old locks) (t : TakesOutKey locks k m next) where
    first : (by : Acceptance) × (new k ≡ Some by) × IsNew m by
    first = gains.now (w.left k t.was)

    left_before : (q : Key) → has next.left q ≡ true → (q ≢ k) × (has locks.left q ≡ true)
    left_before q e =
        elim (key_test q k) [
          | inl x ↦ (let now : has next.left q ≡ false = subst (λ z. has next.left z ≡ false) (sym x.1) t.gone in
              absurd (cc (e, now)))
          | inr x ↦ (x.1, sym (t.others q x.1) ∙ e)
        ]

    minimum : greatest_in new d.changes ≡ next.min
    minimum =
        greatest_more old new k m (ap minimum_in (w.left k t.was)) (ap minimum_in first.1
        ∙ first.2.min t.async) gains.others d.changes within
        ∙ (ap (λ n. max n m) (sym w.min) ∙ sym t.min)

    async_now : (q : Key) (by : Acceptance) → mutation_at d.changes q ≢ None → new q ≡ Some by → by.lock.mode ≡ Async
    async_now q by e f =
        elim (key_test q k) [
          | inl x ↦ (let same : first.0 ≡ by = some_same first.0 by (sym first.1 ∙ (ap new (sym x.1) ∙ f)) in
              subst (λ (y : Acceptance). y.lock.mode ≡ Async) same (first.2.async t.async))
          | inr x ↦ w.async q by e (sym (gains.others q x.1) ∙ f)
        ]

    accepted_now : (q : Key) → mutation_at d.changes q ≢ None → has next.left q ≡ false → new q ≢ None
    accepted_now q e f none =
        elim (key_test q k) [
          | inl x ↦ cc (sym first.1 ∙ (ap new (sym x.1) ∙ none))
          | inr x ↦ w.rest q e (sym (t.others q x.1) ∙ f) (sym (gains.others q x.1) ∙ none)
        ]

    -- some key is left
    pub takes_some : (q : Key) → has next.left q ≡ true → AwaitsLocks d.changes new next
    takes_some q left =
        record {
          some = (q, left);
          within = λ z e. w.within z (left_before z e).1;
          left = λ z e. gains.others z (left_before z e).0 ∙ w.left z (left_before z e).1;
          rest = accepted_now;
          async = async_now;
          min = sym minimum;
        }

    -- none is left
    pub takes_last : ((q : Key) → has next.left q ≡ false) → greatest new d.changes ≡ Some next.min
    takes_last none =
        all_async new d.changes some
        (λ q e. (let by = some_of (new q) (accepted_now q e (none q)) in (by.0, by.1, async_now q by.0 e by.1)))
        ∙ ap Some minimum

  -- ---- what comes of it

  -- it is not decided, and waits on; or the last lock decides it
  abbrev pub Comes : Pending → Option ℕ → Type 0
  Comes now commit = ((commit ≡ None) × (greatest new d.changes ≡ None) × Awaits d new now)
      ⊎ ((c : ℕ) × (commit ≡ Some c) × (greatest new d.changes ≡ Some c) × (old k ≡ None))

  waits_on : (now : Pending) (commit : Option ℕ) → commit ≡ None → Awaits d new now → Comes now commit
  waits_on pending.Primary commit e w = inl (e, primary_open w, w)
  waits_on (pending.Locks locks) commit e w = inl (e, locks_open locks w, w)

  falls_back : (locks : Locks) → AwaitsLocks d.changes old locks → has locks.left k ≡ true → m ≡ 0
      → Awaits d new pending.Primary
  falls_back locks w left zero =
      let by = gains.now (w.left k left) in
      inr (record { key = k; by = by.0; within = within; stands = by.1; two_phase = by.2.two_phase zero })

  taken : (locks next : Locks) (commit : Option ℕ) → AwaitsLocks d.changes old locks → TakesOutKey locks k m next
      → Completes next commit → Comes (pending.Locks next) commit
  taken locks next None w t some = waits_on (pending.Locks next) None refl (takes_some locks next w t some.0 some.1)
  taken locks next (Some c) w t none =
      inr (c, refl, takes_last locks next w t none.0 ∙ ap Some (sym none.1), w.left k t.was)

  pub comes : (was now : Pending) (commit : Option ℕ) → Awaits d old was → Accepts was k m now commit → Comes now commit
  comes pending.Primary now commit w a = waits_on now commit a.1 (subst (Awaits d new) (sym a.0) (primary_stays w))
  comes (pending.Locks locks) pending.Primary commit w a =
      waits_on pending.Primary commit a.2 (falls_back locks w a.0 a.1)
  comes (pending.Locks locks) (pending.Locks next) commit w a =
      elim a [
        | inl x ↦ waits_on (pending.Locks next) commit x.2
            (subst (λ (l : Locks). AwaitsLocks d.changes new l) (sym x.1) (same_waits locks w (again locks w x.0)))
        | inr x ↦ taken locks next commit w x.0 x.1
      ]

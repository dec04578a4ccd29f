-- What holds of the ends of transactions between the events of a history, though not between the
-- changes that make up one event.
use Rattle.std.proofs.Common.{◌≡◌, ◌≢◌, ℕ, ◌<◌, ◌==◌, ◌⊎◌, inl, inr, Option, Some, None, refl, sym, ap, subst, ◌∙◌}
use Rattle.tx_types.specs.declared.key.Key.{Key}
use Rattle.tx_types.specs.declared.mutation.Mode.TheVariants.{TwoPhase}
use Rattle.tx_types.specs.declared.mutation.Fate.TheVariants.{Committed, Aborted}
use Rattle.tx_machine.specs.Keys.{mutation_at}
use Rattle.tx_machine.specs.Machine.{State, Open, Done}
use Rattle.tx_plan.specs.Cells.{Lock, Cells}
use Rattle.tx_plan.specs.Own.{OwnLock, OwnRollback}
use Rattle.tx_core.specs.declared.event.Declaration.{Declaration}
use Rattle.tx_core.specs.Histories.{set_of, is_first}
use Rattle.tx_core.specs.Decisions.{Acceptance, greatest}
use Rattle.tx_core.proofs.Basics.{nat_test, cond_false, some_same, some_of}
use Rattle.tx_core.proofs.view.View.{View, Inv, IsPrimary, IsCommitted, IsAborted, Accepts, FellBack, one_first, does_declared, does_within}
use Rattle.tx_core.proofs.changes.Declarations.{declaring}
use Rattle.tx_core.proofs.changes.Keyed.{keyed, at_cells}
use Rattle.tx_core.proofs.changes.Commits.{greatest_each, greatest_some}

-- a key of the transaction is not accepted and never will be: its rollback stands there, or it
-- started below the collection
pub record Refused (declared : ℕ → Option Declaration) (accepted : ℕ → Key → Option Acceptance) (collected : Key
    → ℕ) (cells : Key → Cells) (t : ℕ) : Type 0 where
  pub key : Key
  pub within : mutation_at (set_of (declared t)) key ≢ None
  pub never : accepted t key ≡ None
  pub way : OwnRollback (cells key).write t ⊎ (t < collected key)

-- its primary was accepted and is locked no more, and some key is accepted two-phase
pub record FirstCleared (declared : ℕ → Option Declaration) (accepted : ℕ → Key → Option Acceptance) (cells : Key
    → Cells) (t : ℕ) : Type 0 where
  pub fell : FellBack accepted t
  pub key : Key
  pub primary : IsPrimary declared t key
  pub was : accepted t key ≢ None
  pub cleared : (lock : Lock) → OwnLock (cells key).lock t lock → ⊥

-- A transaction whose keys are all accepted async is committed at the greatest minimum. A committed
-- one with a two-phase key locks its primary no more. An aborted one has a key that is refused, or
-- its primary is cleared.
pub record EndsOf (declared : ℕ → Option Declaration) (accepted : ℕ → Key → Option Acceptance) (decided : ℕ
    → State) (collected : Key → ℕ) (cells : Key → Cells) : Type 0 where
  pub all_async : (t c : ℕ) → greatest (accepted t) (set_of (declared t)) ≡ Some c → IsCommitted decided t c
  pub first_settled : (t c : ℕ) (k : Key) (lock : Lock) → IsCommitted decided t c → FellBack accepted t
      → IsPrimary declared t k → OwnLock (cells k).lock t lock → ⊥
  pub aborted : (t : ℕ) → IsAborted decided t
      → Refused declared accepted collected cells t ⊎ FirstCleared declared accepted cells t

abbrev pub Ends : View → Type 0
Ends w = EndsOf w.declared w.accepted w.decided w.collected w.cells

-- ---- what they say of a transaction

-- a two-phase lock of a transaction makes it one with a two-phase key
pub fell_of_lock : (w : View) (k : Key) (lock : Lock) (t : ℕ) → Inv w → OwnLock (w.cells k).lock t lock
    → lock.mode ≡ TwoPhase → FellBack w.accepted t
fell_of_lock w k lock t i own mode =
    let of = some_of (w.accepted lock.start k) ((i.keys k).lock lock own.stands).accepts in
    record {
      key = k;
      by = of.0;
      stands = ap (λ n. w.accepted n k) (sym own.own) ∙ of.1;
      two_phase =
          sym (((i.keys k).lock lock own.stands).mode of.0 of.1) ∙ mode;
    }

-- and so does a lock of one that was declared two-phase
pub fell_of_declared : (w : View) (k : Key) (lock : Lock) (t : ℕ) (d : Declaration) → Inv w
    → OwnLock (w.cells k).lock t lock → w.declared t ≡ Some d → d.mode ≡ TwoPhase → FellBack w.accepted t
fell_of_declared w k lock t d i own stands mode =
    let of = some_of (w.accepted lock.start k) ((i.keys k).lock lock own.stands).accepts in
    let at : w.accepted t k ≡ Some of.0 = ap (λ n. w.accepted n k) (sym own.own) ∙ of.1 in
    record { key = k; by = of.0; stands = at; two_phase = (i.acceptances t k of.0 at).mode d stands mode }

-- with a two-phase key there is no greatest minimum
pub fell_no_greatest : (w : View) (t c : ℕ) → Inv w → FellBack w.accepted t
    → greatest (w.accepted t) (set_of (w.declared t)) ≡ Some c → ⊥
fell_no_greatest w t c i fell most =
    let each = greatest_each (w.accepted t) (set_of (w.declared t)) c most fell.key
    (does_within w.declared t fell.key fell.by.lock.mutation (i.acceptances t fell.key fell.by fell.stands).does) in
    cc (each.async, fell.two_phase, some_same each.by fell.by (sym each.stands ∙ fell.stands))

-- a transaction with an unaccepted key is not committed
pub missing_live : (w : View) (k : Key) (t c : ℕ) → Inv w → mutation_at (set_of (w.declared t)) k ≢ None
    → w.accepted t k ≡ None → IsCommitted w.decided t c → ⊥
missing_live w k t c i within never end = (i.commits t c end).accepts k within never

-- a transaction with a two-phase key whose primary is locked, and whose keys are all
-- accepted, is open
pub first_opens : (w : View) (k : Key) (t : ℕ) (lock : Lock) → Ends w → FellBack w.accepted t → IsPrimary w.declared t k
    → OwnLock (w.cells k).lock t lock → Accepts w.declared w.accepted t → w.decided t ≡ Open
first_opens w k t lock ends fell first own all = go (w.decided t) refl
  where
    go : (s : State) → w.decided t ≡ s → w.decided t ≡ Open
    go Open e = e
    go (Done (Committed c)) e = absurd (ends.first_settled t c k lock e fell first own)
    go (Done Aborted) e =
        elim (ends.aborted t e) [
          | inl x ↦ absurd (all x.key x.within x.never)
          | inr x ↦ absurd (x.cleared lock
              (subst (λ q. OwnLock (w.cells q).lock t lock) (one_first w.declared t k x.key first x.primary) own))
        ]

-- ---- changes of the cells of one key

-- the same ends, with other cells on one key: the locks that stand there stood before, but for what
-- the ends do not speak of, and the rollbacks of aborted transactions stay
pub ends_keyed : (w : View) (k : Key) (new : Cells) → Ends w
    → ((lock : Lock) → new.lock ≡ Some lock → (old : Lock) × ((w.cells k).lock ≡ Some old) × (old.start ≡ lock.start))
    → ((t : ℕ) → IsAborted w.decided t → OwnRollback (w.cells k).write t → OwnRollback new.write t)
    → Ends (keyed w k new)
ends_keyed w k new ends stood stays =
    record {
      all_async = ends.all_async;
      first_settled = λ t c q lock end fell first own. (let old = was q t lock own in
          ends.first_settled t c q old.0 end fell first old.1);
      aborted = λ t end.
          elim (ends.aborted t end) [
            | inl x ↦ inl (record {
              key = x.key;
              within = x.within;
              never = x.never;
              way =
                  elim x.way [ inl back ↦ inl (kept x.key t end back) | inr low ↦ inr low ];
            })
            | inr x ↦ inr (record {
              fell = x.fell;
              key = x.key;
              primary = x.primary;
              was = x.was;
              cleared =
                  λ lock own. (let old = was x.key t lock own in x.cleared old.0 old.1);
            })
          ];
    }
  where
    was : (q : Key) (t : ℕ) (lock : Lock) → OwnLock ((keyed w k new).cells q).lock t lock
        → (old : Lock) × OwnLock (w.cells q).lock t old
    was q t lock own = at_cells w k q new (λ x cells. cells.lock ≡ Some lock
        → (old : Lock) × OwnLock (w.cells x).lock t old)
        (λ e. (let old = stood lock e in (old.0, record { stands = old.1; own = old.2 ∙ own.own })))
        (λ other e. (lock, record { stands = e; own = own.own })) own.stands

    kept : (q : Key) (t : ℕ) → IsAborted w.decided t → OwnRollback (w.cells q).write t
        → OwnRollback ((keyed w k new).cells q).write t
    kept q t end = at_cells w k q new (λ x cells. OwnRollback (w.cells x).write t
        → OwnRollback cells.write t) (stays t end) (λ other own. own)

-- ---- a declaration

-- the ends say nothing of who declares now
pub ends_declare : (w : View) (d : Declaration) → Ends w → Inv w → w.declared d.start ≡ None → Ends (declaring w d)
ends_declare w d ends i none =
    record {
      all_async = λ t c e.
          (let some = greatest_some (w.accepted t) (set_of ((declaring w d).declared t)) c e in
          let was = does_declared w.declared t some.0 some.1.lock.mutation
          (i.acceptances t some.0 some.1 some.2).does in
          ends.all_async t c (ap (λ o. greatest (w.accepted t) (set_of o)) (sym (same t was)) ∙ e));
      first_settled = λ t c k lock end fell first own. ends.first_settled t c k lock end fell
          (ap (λ o. is_first (set_of o) k) (sym (same t (i.clock.decides t (λ o. (cc (o, end)))))) ∙ first) own;
      aborted = λ t end.
          (let at = same t (i.clock.decides t (λ o. (cc (o, end)))) in
          elim (ends.aborted t end) [
            | inl x ↦ inl (record {
              key = x.key;
              within =
                  λ e. x.within (ap (λ o. mutation_at (set_of o) x.key) (sym at) ∙ e);
              never = x.never;
              way = x.way;
            })
            | inr x ↦ inr (record {
              fell = x.fell;
              key = x.key;
              primary =
                  ap (λ o. is_first (set_of o) x.key) at ∙ x.primary;
              was = x.was;
              cleared = x.cleared;
            })
          ]);
    }
  where
    same : (t : ℕ) → w.declared t ≢ None → (declaring w d).declared t ≡ w.declared t
    same t some =
        elim (nat_test d.start t) [
          | inl x ↦ absurd (some (subst (λ n. w.declared n ≡ None) x.1 none))
          | inr x ↦ cond_false (d.start == t) (Some d) (w.declared t) x.0
        ]

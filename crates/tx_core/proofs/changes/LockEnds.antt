-- The ends of transactions after a prewrite was accepted: as they were, or the transaction is
-- committed by it.
use Rattle.std.proofs.Common.{◌≡◌, ◌≢◌, ℕ, ◌==◌, ◌⊎◌, ◌&&◌, inl, inr, Some, None, bytes_eq, refl, sym, ap, subst, ◌∙◌, arith}
use Rattle.std.proofs.lemmas.Bool.{ne_eqb}
use Rattle.tx_types.specs.declared.key.Key.{Key}
use Rattle.tx_types.specs.declared.mutation.Mode.TheVariants.{TwoPhase}
use Rattle.tx_types.specs.declared.mutation.Fate.TheVariants.{Committed, Aborted}
use Rattle.tx_machine.specs.Machine.{State, Open, Done}
use Rattle.tx_plan.specs.Cells.{Lock, with_lock}
use Rattle.tx_plan.specs.Own.{OwnLock, OwnRollback}
use Rattle.tx_core.specs.Histories.{set_of}
use Rattle.tx_core.specs.Decisions.{Acceptance, first_accepted, greatest}
use Rattle.tx_core.proofs.Basics.{nat_test, cond_true, cond_false, some_same, none_is}
use Rattle.tx_core.proofs.view.View.{View, Inv, FellBack, does_within}
use Rattle.tx_core.proofs.changes.Keyed.{at_cells}
use Rattle.tx_core.proofs.changes.Locks.{locking, accepting, MayLock, inv_lock, was_accepted, now_accepted, still_accepted, more_accepted}
use Rattle.tx_core.proofs.changes.Commits.{deciding, CanDecide, decide_async, greatest_each, was_decided, still_decided}
use Rattle.tx_core.proofs.view.Ends.{Refused, FirstCleared, Ends}

module _ (w : View) (k : Key) (lock : Lock) (i : Inv w) (may : MayLock w k lock) (unrolled :
    OwnRollback (w.cells k).write lock.start → ⊥) where
  -- acceptances of other transactions are as they were
  others : (t : ℕ) → lock.start ≢ t → (locking w k lock).accepted t ≡ w.accepted t
  others t other = λ j q. same q j
    where
      same : (q : Key) → (locking w k lock).accepted t q ≡ w.accepted t q
      same q = cond_false ((lock.start == t)
          && bytes_eq k q) (first_accepted (w.accepted t q) (accepting w lock)) (w.accepted t q)
          (rw (ne_eqb lock.start t other) refl)

  fell_before : (t : ℕ) → lock.start ≢ t → FellBack (locking w k lock).accepted t → FellBack w.accepted t
  fell_before t other fell =
      record {
        key = fell.key;
        by = fell.by;
        stands =
            ap (λ f. f fell.key) (sym (others t other)) ∙ fell.stands;
        two_phase = fell.two_phase;
      }

  fell_after : (t : ℕ) → FellBack w.accepted t → FellBack (locking w k lock).accepted t
  fell_after t fell = record {
    key = fell.key;
    by = fell.by;
    stands =
        still_accepted w k lock i may t fell.key fell.by fell.stands;
    two_phase = fell.two_phase;
  }

  -- the lock of another that stands after it stood before
  stood : (t : ℕ) (q : Key) (old : Lock) → lock.start ≢ t → OwnLock ((locking w k lock).cells q).lock t old
      → OwnLock (w.cells q).lock t old
  stood t q old other own =
      at_cells w k q (with_lock (w.cells k) (Some lock)) (λ x cells. cells.lock ≡ Some old
      → OwnLock (w.cells x).lock t old)
      (λ e. absurd (other (ap (λ (l : Lock). l.start) (some_same lock old e) ∙ own.own)))
      (λ apart e. record { stands = e; own = own.own }) own.stands

  -- an aborted transaction is so still, by the same key
  still_aborted : (t : ℕ)
      → Refused w.declared w.accepted w.collected w.cells t ⊎ FirstCleared w.declared w.accepted w.cells t
      → Refused w.declared (locking w k lock).accepted w.collected (locking w k lock).cells t
      ⊎ FirstCleared w.declared (locking w k lock).accepted (locking w k lock).cells t
  still_aborted t old =
      elim old [
        | inl x ↦ inl (record {
          key = x.key;
          within = x.within;
          never = none_is ((locking w k lock).accepted t x.key)
              (λ by e. elim (was_accepted w k lock i may t x.key by e) [
                | inl now ↦ unmet x now.0 now.1
                | inr was ↦ (cc (was, x.never))
              ]);
          way = elim x.way [
            | inl back ↦
                inl (at_cells w k x.key (with_lock (w.cells k) (Some lock)) (λ y cells. OwnRollback (w.cells y).write t
                → OwnRollback cells.write t) (λ own. own) (λ other own. own) back)
            | inr low ↦ inr low
          ];
        })
        | inr x ↦ inr (record {
          fell = fell_after t x.fell;
          key = x.key;
          primary = x.primary;
          was = more_accepted w k lock i may t x.key x.was;
          cleared = λ old own. at_cells w k x.key (with_lock (w.cells k) (Some lock)) (λ y cells. w.accepted t y ≢ None
              → ((l : Lock) → OwnLock (w.cells y).lock t l → ⊥) → cells.lock ≡ Some old
              → ⊥) (λ some none e. some
              (ap (λ n. w.accepted n k) (sym (ap (λ (l : Lock). l.start) (some_same lock old e) ∙ own.own)) ∙ may.new))
              (λ other some none e. none old (record { stands = e; own = own.own })) x.was x.cleared own.stands;
        })
      ]
    where
      unmet : (x : Refused w.declared w.accepted w.collected w.cells t) → lock.start ≡ t → k ≡ x.key → ⊥
      unmet x same at =
          elim x.way [
            | inl back ↦ unrolled
                (subst (λ n. OwnRollback (w.cells k).write n) (sym same)
                (subst (λ q. OwnRollback (w.cells q).write t) (sym at) back))
            | inr low ↦ omega (arith, may.fresh, ap w.collected at, low, same)
          ]

  -- ---- as they were

  -- a two-phase lock gives no greatest minimum
  pub two_phase_least : lock.mode ≡ TwoPhase → (c : ℕ)
      → greatest ((locking w k lock).accepted lock.start) (set_of (w.declared lock.start)) ≡ Some c → ⊥
  two_phase_least two c most =
      let each = greatest_each ((locking w k lock).accepted lock.start) (set_of (w.declared lock.start)) c most k
      (does_within w.declared lock.start k lock.mutation may.does) in
      cc (
        each.async,
        two,
        ap (λ (b : Acceptance). b.lock.mode)
            (some_same each.by (accepting w lock) (sym each.stands ∙ now_accepted w k lock i may)),
      )

  -- the ends stay where not each key is accepted async
  pub ends_lock : Ends w
      → ((c : ℕ) → greatest ((locking w k lock).accepted lock.start) (set_of (w.declared lock.start)) ≡ Some c → ⊥)
      → Ends (locking w k lock)
  ends_lock ends never =
      record {
        all_async = λ t c most.
            elim (nat_test lock.start t) [
              | inl x ↦ absurd (never c
                  (subst (λ n. greatest ((locking w k lock).accepted n) (set_of (w.declared n))
                  ≡ Some c) (sym x.1) most))
              | inr x ↦ ends.all_async t c (ap (λ f. greatest f (set_of (w.declared t))) (sym (others t x.1)) ∙ most)
            ];
        first_settled = λ t c q old end fell first own. (let other : lock.start ≢ t =
            λ same. may.uncommitted c (ap w.decided same ∙ end) in
            ends.first_settled t c q old end (fell_before t other fell) first (stood t q old other own));
        aborted = λ t end. still_aborted t (ends.aborted t end);
      }

  -- ---- committed by it

  -- a transaction whose keys are all accepted async then was open before
  pub lock_opens : (c : ℕ) → Ends w
      → greatest ((locking w k lock).accepted lock.start) (set_of (w.declared lock.start)) ≡ Some c
      → w.decided lock.start ≡ Open
  lock_opens c ends most = go (w.decided lock.start) refl
    where
      go : (s : State) → w.decided lock.start ≡ s → w.decided lock.start ≡ Open
      go Open e = e
      go (Done (Committed d)) e = absurd (may.uncommitted d e)
      go (Done Aborted) e =
          elim (still_aborted lock.start (ends.aborted lock.start e)) [
            | inl x ↦ (let each =
                greatest_each ((locking w k lock).accepted lock.start) (set_of (w.declared lock.start)) c most x.key
                x.within in absurd (cc (each.stands, x.never)))
            | inr x ↦ (let each =
                greatest_each ((locking w k lock).accepted lock.start) (set_of (w.declared lock.start)) c most
                x.fell.key (does_within w.declared lock.start x.fell.key x.fell.by.lock.mutation
                ((inv_lock w k lock i may).acceptances lock.start x.fell.key x.fell.by x.fell.stands).does) in
                absurd (cc (
                  each.async,
                  x.fell.two_phase,
                  some_same each.by x.fell.by (sym each.stands ∙ x.fell.stands),
                )))
          ]

  -- and may be committed at the greatest minimum
  pub lock_decides : (c : ℕ) → Ends w
      → greatest ((locking w k lock).accepted lock.start) (set_of (w.declared lock.start)) ≡ Some c
      → CanDecide (locking w k lock) lock.start c
  lock_decides c ends most =
      decide_async (locking w k lock) lock.start c (inv_lock w k lock i may) (lock_opens c ends most) most

  -- and where each is, once the transaction is committed
  pub ends_lock_decide : (c : ℕ) → Ends w
      → greatest ((locking w k lock).accepted lock.start) (set_of (w.declared lock.start)) ≡ Some c
      → Ends (deciding (locking w k lock) lock.start c)
  ends_lock_decide c ends most =
      let v = locking w k lock in
      let after = inv_lock w k lock i may in
      let decides = lock_decides c ends most in
      record {
        all_async = λ t d all.
            elim (nat_test lock.start t) [
              | inl x ↦ (let same : c ≡ d =
                  some_same c d (sym most
                  ∙ subst (λ n. greatest ((locking w k lock).accepted n) (set_of (w.declared n))
                  ≡ Some d) (sym x.1) all) in
                  cond_true (lock.start == t) (Done (Committed c)) (w.decided t) x.0
                  ∙ ap (λ n. Done (Committed n)) same)
              | inr x ↦ still_decided (locking w k lock) lock.start c after decides t (Committed d)
                  (ends.all_async t d (ap (λ f. greatest f (set_of (w.declared t))) (sym (others t x.1)) ∙ all))
            ];
        first_settled = λ t d q old end fell first own.
            elim (was_decided (locking w k lock) lock.start c after decides t (Done (Committed d)) end) [
              | inl x ↦ two_phase_key t x.0 fell
              | inr x ↦ (let other : lock.start ≢ t = λ same. may.uncommitted d (ap w.decided same ∙ x) in
                  ends.first_settled t d q old x (fell_before t other fell) first (stood t q old other own))
            ];
        aborted = λ t end. elim (was_decided (locking w k lock) lock.start c after decides t (Done Aborted) end)
            [ inl x ↦ absurd (cc (x.1)) | inr x ↦ still_aborted t (ends.aborted t x) ];
      }
    where
      two_phase_key : (t : ℕ) → lock.start ≡ t → FellBack (locking w k lock).accepted t → ⊥
      two_phase_key t same fell =
          let stands : (locking w k lock).accepted lock.start fell.key ≡ Some fell.by =
          subst (λ n. (locking w k lock).accepted n fell.key ≡ Some fell.by) (sym same) fell.stands in
          let each = greatest_each ((locking w k lock).accepted lock.start) (set_of (w.declared lock.start)) c most
          fell.key (does_within w.declared lock.start fell.key fell.by.lock.mutation
          ((inv_lock w k lock i may).acceptances lock.start fell.key fell.by stands).does) in
          cc (each.async, fell.two_phase, some_same each.by fell.by (sym each.stands ∙ stands))

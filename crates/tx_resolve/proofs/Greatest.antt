-- Where each key had an async lock, their transaction is committed at the greatest minimum.
use Rattle.std.proofs.Common.{◌≡◌, ◌≢◌, ℕ, max, true, List, [], ◌∷◌, ◌++◌, map, Some, None, inl, inr, refl, sym, ap, subst, ◌∙◌, arith}
use Rattle.tx_types.specs.declared.key.Key.{Key}
use Rattle.tx_types.specs.declared.lock.LockInfo.{LockInfo}
use Rattle.tx_types.specs.declared.mutation.Change.{Change}
use Rattle.tx_types.specs.declared.mutation.Fate.TheVariants as fate
use Rattle.tx_machine.specs.Keys.{mutation_at}
use Rattle.tx_machine.specs.Machine.{Done}
use Rattle.tx_core.specs.Histories.{History, declared, set_at, is_first, Begins}
use Rattle.tx_core.specs.Decisions.{accepted, HasTwoPhaseLock, async_minimum, greater, greatest, decided}
use Rattle.tx_core.specs.Allowed.{other_keys}
use Rattle.tx_core.specs.Worlds.{IsWorldRun}
use Rattle.tx_core.specs.Laws.{HadAsyncLock}
use Rattle.tx_core.proofs.Basics.{key_test, key_true, some_same}
use Rattle.tx_core.proofs.view.View.{does_within}
use Rattle.tx_core.proofs.runs.AllRuns.{run_told}
use Rattle.tx_core.proofs.seats.Stays.{set_on}
use Rattle.tx_core.proofs.locks.ToldLocks.{is_lock_on}
use Rattle.tx_resolve.specs.Facts.{IsPrimarysLock, HadLocks}
use Rattle.tx_resolve.proofs.AllowedRequests.{lists_others}

-- ---- what was had stays so

module _ (bounds : List Key) (l h : History) (run : IsWorldRun bounds h) (b : Begins l h) where
  had_on : (t : ℕ) (k : Key) (m : ℕ) → HadAsyncLock l t k m → HadAsyncLock h t k m
  had_on t k m had = record {
    info = had.info;
    is = is_lock_on bounds l h run b had.info had.is;
    key = had.key;
    own =
        had.own;
    async = had.async;
    min = had.min;
  }

  pub locks_on : (t : ℕ) (keys : List Key) (least most : ℕ) → HadLocks l t keys least most
      → HadLocks h t keys least most
  locks_on t [] least most e = e
  locks_on t (key ∷ keys) least most (m, had, rest) = (m, had_on t key m had, locks_on t keys (max least m) most rest)

  pub primarys_on : (t : ℕ) (info : LockInfo) → IsPrimarysLock l t info → IsPrimarysLock h t info
  primarys_on t info p =
      let some : declared l t ≢ None = λ none. cc (ap (declared l) (sym p.own) ∙ p.is.declares, none) in
      record {
        is = is_lock_on bounds l h run b info p.is;
        own = p.own;
        primary =
            ap (λ s. is_first s info.key) (set_on bounds l h run b t some) ∙ p.primary;
        async = p.async;
      }

-- one more key
pub locks_push : (h : History) (t : ℕ) (keys : List Key) (key : Key) (least most m : ℕ) → HadLocks h t keys least most
    → HadAsyncLock h t key m → HadLocks h t (keys ++ key ∷ []) least (max most m)
locks_push h t [] key least most m e had = (m, had, ap (λ n. max n m) e)
locks_push h t (k ∷ keys) key least most m (n, first, rest) had =
    (n, first, locks_push h t keys key (max least n) most m rest had)

-- ---- the greatest minimum

-- the greatest from one number on is the greater of it and of the greatest from another on
locks_from : (h : History) (t : ℕ) (keys : List Key) (a b most : ℕ) → HadLocks h t keys (max a b) most
    → (rest : ℕ) × HadLocks h t keys b rest × (most ≡ max a rest)
locks_from h t [] a b most e = (b, refl, e)
locks_from h t (key ∷ keys) a b most (m, had, more) =
    let assoc : max (max a b) m ≡ max a (max b m) = omega arith in
    let r = locks_from h t keys a (max b m) most (subst (λ n. HadLocks h t keys n most) assoc more) in
    (r.0, (m, had, r.1), r.2)

module _ (bounds : List Key) (h : History) (run : IsWorldRun bounds h) (t : ℕ) where
  -- each of these keys had an async lock
  abbrev Had : Key → Type 0
  Had k = (m : ℕ) × HadAsyncLock h t k m

  each_had : (cs : List Change) (least most : ℕ) → HadLocks h t (map (λ (d : Change). d.key) cs) least most → (k : Key)
      → mutation_at cs k ≢ None → Had k
  each_had [] least most locks k some = absurd (some refl)
  each_had (c ∷ cs) least most (m, had, rest) k some =
      elim (key_test c.key k) [
        | inl x ↦ (m, subst (λ q. HadAsyncLock h t q m) x.1 had)
        | inr x ↦ each_had cs (max least m) most rest k (λ none. some (rw x.0 none))
      ]

  -- an async acceptance
  accepted_async : (k : Key) (m : ℕ) (had : HadAsyncLock h t k m) → accepted h t k ≡ Some had.is.by
  accepted_async k m had =
      subst (λ u. accepted h u k
      ≡ Some had.is.by) had.own (subst (λ q. accepted h had.info.start q ≡ Some had.is.by) had.key had.is.accepted)

  -- where each key had one, none was accepted two-phase
  no_two_phase : ((k : Key) → mutation_at (set_at h t) k ≢ None → Had k) → HasTwoPhaseLock h t → ⊥
  no_two_phase all has =
      let had = all has.key
      (does_within (declared h) t has.key has.by.lock.mutation
      ((run_told bounds h run).0.sound.inv.acceptances t has.key has.by has.stands).does) in
      let same : had.1.is.by ≡ has.by =
      some_same had.1.is.by has.by (sym (accepted_async has.key had.0 had.1) ∙ has.stands) in
      cc (had.1.is.mode, had.1.async, same, has.two_phase)

  module _ (never : HasTwoPhaseLock h t → ⊥) where
    minimum : (k : Key) (m : ℕ) → HadAsyncLock h t k m → async_minimum (accepted h t k) ≡ Some m
    minimum k m had =
        let mode = had.is.mode ∙ had.async in
        let min = had.is.min (inr (λ has. never (subst (HasTwoPhaseLock h) had.own has))) ∙ had.min in
        ap async_minimum (accepted_async k m had) ∙ rw mode (ap Some min)

    greatest_is : (c : Change) (cs : List Change) (m most : ℕ) → HadAsyncLock h t c.key m
        → HadLocks h t (map (λ (d : Change). d.key) cs) m most → greatest (accepted h t) (c ∷ cs) ≡ Some most
    greatest_is c [] m most had e = minimum c.key m had ∙ ap Some (sym e)
    greatest_is c (d ∷ cs) m most had (n, next, rest) =
        let r = locks_from h t (map (λ (x : Change). x.key) cs) m n most rest in
        let more : greatest (accepted h t) (d ∷ cs) ≡ Some r.0 = greatest_is d cs n r.0 next r.1 in
        (λ j. greater (minimum c.key m had j) (more j)) ∙ ap Some (sym r.2)

  -- so it is committed there
  pub decided_greatest : (info : LockInfo) (most : ℕ) → IsPrimarysLock h t info
      → HadLocks h t info.secondaries info.min most → decided h t ≡ Done (fate.Committed most)
  decided_greatest info most p locks =
      (run_told bounds h run).0.ends.all_async t most
      (by_set (set_at h t) refl p.primary (subst (λ ks. HadLocks h t ks info.min most) (lists_others h t info p) locks))
    where
      first : HadAsyncLock h t info.key info.min
      first = record { info = info; is = p.is; key = refl; own = p.own; async = p.async; min = refl }

      by_set : (set : List _) → set_at h t ≡ set → is_first set info.key ≡ true
          → HadLocks h t (other_keys set) info.min most → greatest (accepted h t) (set_at h t) ≡ Some most
      by_set [] e is locks = absurd (cc (is))
      by_set (c ∷ cs) e is locks =
          let own : HadAsyncLock h t c.key info.min =
          subst (λ q. HadAsyncLock h t q info.min) (sym (key_true c.key info.key is)) first in
          let all : (k : Key) → mutation_at (c ∷ cs) k ≢ None → Had k = λ k some. elim (key_test c.key k) [
            | inl x ↦ (info.min, subst (λ q. HadAsyncLock h t q info.min) x.1 own)
            | inr x ↦ each_had cs info.min most locks k (λ none. some (rw x.0 none))
          ] in
          let never = no_two_phase (subst (λ s. (k : Key) → mutation_at s k ≢ None → Had k) (sym e) all) in
          ap (greatest (accepted h t)) e ∙ greatest_is never c cs info.min most own locks

-- What an answer tells of a lock holds of it: it stands, it says what its transaction declared, and
-- it is the one that was accepted.
use Rattle.std.proofs.Common.{◌≡◌, ℕ, ◌+◌, ◌==◌, ◌⊎◌, inl, inr, List, [], ◌∷◌, Option, Some, None, bytes_eq, refl, sym, ap, subst, ◌∙◌, arith}
use Rattle.std.proofs.lemmas.Bool.{cases_Bool}
use Rattle.std.specs.Prelude.{Contains}
use Rattle.tx_types.specs.declared.key.Key.{Key}
use Rattle.tx_types.specs.declared.lock.LockInfo.{LockInfo}
use Rattle.tx_types.specs.declared.mutation.Mode.{Mode}
use Rattle.tx_types.specs.declared.mutation.Mode.TheVariants.{TwoPhase, Async}
use Rattle.tx_types.specs.declared.mutation.Fate.{Fate}
use Rattle.tx_types.specs.declared.mutation.Fate.TheVariants as fate
use Rattle.tx_types.specs.declared.value.Value.{Value}
use Rattle.tx_plan.specs.declared.body.Body.{Body}
use Rattle.tx_plan.specs.declared.body.Body.TheVariants as body
use Rattle.tx_plan.specs.declared.body.CheckTxnStatus.{CheckTxnStatus}
use Rattle.tx_plan.specs.declared.answer.Answer.{Answer}
use Rattle.tx_plan.specs.declared.answer.Answer.TheVariants.{Locked}
use Rattle.tx_plan.specs.Cells.{Lock, Cells, Region, info_of, with_cells, with_lock}
use Rattle.tx_plan.specs.Own.{OwnLock, on_own_lock}
use Rattle.tx_plan.specs.Answers.{Answers, leaves}
use Rattle.tx_plan.specs.Reads.{read_answer}
use Rattle.tx_plan.specs.cases.ResolveLock.{ResolvesLock}
use Rattle.tx_plan.specs.cases.CheckTxnStatus.{ChecksLock, with_minimum}
use Rattle.tx_core.specs.declared.event.Taken.{Taken}
use Rattle.tx_core.specs.declared.event.Event.TheVariants.{Took}
use Rattle.tx_core.specs.Histories.{History, last, declared, set_of, is_first, left, Among, Begins}
use Rattle.tx_core.specs.Decisions.{accepted, infos_in}
use Rattle.tx_core.specs.Worlds.{IsWorldRun, route}
use Rattle.tx_core.specs.Laws.{WasToldOf, IsLockOf}
use Rattle.tx_types.specs.Kinds.{as_locked}
use Rattle.std.specs.Prelude.{option_map}
use Rattle.tx_core.proofs.Basics.{nat_same, key_same, cond_true, some_of, some_same}
use Rattle.tx_core.proofs.changes.Keyed.{own_cases}
use Rattle.tx_core.proofs.view.View.{does_at, Inv, FellBack}
use Rattle.tx_core.proofs.view.HistoryView.{view}
use Rattle.tx_core.proofs.runs.AllRuns.{run_told}
use Rattle.tx_core.proofs.locks.Told.{contains_one}
use Rattle.tx_core.proofs.seats.Beginnings.{begins_all}
use Rattle.tx_core.proofs.seats.Stays.{declared_on, accepted_on}
use Rattle.tx_core.proofs.seats.StaysDecided.{two_phase_on}
use Rattle.tx_core.proofs.locks.LocksSay.{all_say}

-- ---- what is told of stands

-- the lock that is told of stands
abbrev pub Stands : Region → LockInfo → Type 0
Stands r info = (lock : Lock) × ((r.cells info.key).lock ≡ Some lock) × (info ≡ info_of info.key lock)

-- the cells of a key after a change of that key
pub here : (r : Region) (k : Key) (new : Cells) → (with_cells r k new).cells k ≡ new
here r k new = cond_true (bytes_eq k k) new (r.cells k) (key_same k)

module _ (r : Region) where
  abbrev Tells : Body → Answer → Type 0
  Tells x a = (info : LockInfo) → Contains (infos_in a) info → Stands (leaves r x a) info

  nothing : (x : Body) (a b : Answer) → a ≡ b → infos_in b ≡ [] → Tells x a
  nothing x a b e none info c = absurd (empty (subst (λ xs. Contains xs info) (ap infos_in e ∙ none) c))
    where
      empty : Contains [] info → ⊥
      empty within = omega (arith, within.1)

  one : (x : Body) (a b : Answer) → a ≡ b → (k : Key) (lock : Lock) → infos_in b ≡ info_of k lock ∷ []
      → ((leaves r x b).cells k).lock ≡ Some lock → Tells x a
  one x a b e k lock is stands info c =
      let same : info_of k lock ≡ info =
      contains_one (info_of k lock) info (subst (λ xs. Contains xs info) (ap infos_in e ∙ is) c) in
      subst (λ y. Stands (leaves r x y) info) (sym e) (subst (Stands (leaves r x b)) same (lock, stands, refl))

  -- the same on a key whose cells stay
  still : (k : Key) (lock : Lock) → (r.cells k).lock ≡ Some lock
      → ((with_cells r k (r.cells k)).cells k).lock ≡ Some lock
  still k lock e = ap (λ (c : Cells). c.lock) (here r k (r.cells k)) ∙ e

  read_none : (found : Option Value) → infos_in (read_answer found) ≡ []
  read_none None = refl
  read_none (Some v) = refl

  resolved : (x : Body) (cells : Cells) (start : ℕ) (lock : Lock) (end : Fate) (a : Answer)
      → ResolvesLock cells.write start lock end a → Tells x a
  resolved x cells start lock fate.Aborted a y = nothing x a _ y refl
  resolved x cells start lock (fate.Committed c) a (inl y) = nothing x a _ y.1 refl
  resolved x cells start lock (fate.Committed c) a (inr (no1, inl (rec, y, e))) = nothing x a _ e refl
  resolved x cells start lock (fate.Committed c) a (inr (no1, inr (no2, e))) = nothing x a _ e refl

  -- a lock whose status was checked has the minimum that is told
  checked : (b : CheckTxnStatus) (lock : Lock) (min : ℕ) → OwnLock (r.cells b.key).lock b.start lock
      → ((leaves r (body.CheckTxnStatus b) (Locked (info_of b.key (with_minimum lock min)))).cells b.key).lock
      ≡ Some (with_minimum lock min)
  checked b lock min own =
      ap (λ (c : Cells). c.lock)
      (here r b.key (on_own_lock (r.cells b.key) b.start
      (λ old. with_lock (r.cells b.key) (Some (with_minimum old min)))))
      ∙ elim (own_cases (r.cells b.key) b.start (λ old. with_lock (r.cells b.key) (Some (with_minimum old min)))) [
        | inl x ↦ ap (λ (c : Cells). c.lock) x.3
            ∙ ap (λ old. Some (with_minimum old min)) (some_same x.0 lock (sym x.1 ∙ own.stands))
        | inr x ↦ absurd (x.0 lock own.stands own.own)
      ]

  checks : (b : CheckTxnStatus) (a : Answer) (lock : Lock) → OwnLock (r.cells b.key).lock b.start lock
      → ChecksLock b lock a → Tells (body.CheckTxnStatus b) a
  checks b a lock own (inl x) =
      one (body.CheckTxnStatus b) a _ x.1 b.key (with_minimum lock lock.min) refl (checked b lock lock.min own)
  checks b a lock own (inr (no0, inl x)) = nothing (body.CheckTxnStatus b) a _ x.1 refl
  checks b a lock own (inr (no0, inr (no1, inl x))) =
      one (body.CheckTxnStatus b) a _ x.1 b.key (with_minimum lock (b.caller + 1)) refl
      (checked b lock (b.caller + 1) own)
  checks b a lock own (inr (no0, inr (no1, inr (no2, e)))) =
      one (body.CheckTxnStatus b) a _ e b.key (with_minimum lock lock.min) refl (checked b lock lock.min own)

  pub tells : (l top : ℕ) (x : Body) (a : Answer) → Answers r l top x a → Tells x a
  tells l top (body.Get b) a (inl x) = nothing (body.Get b) a _ x.1 refl
  tells l top (body.Get b) a (inr (no0, inl x)) = nothing (body.Get b) a _ x.1 refl
  tells l top (body.Get b) a (inr (no0, inr (no1, inl (lock, blocks, e)))) =
      one (body.Get b) a _ e b.key lock refl blocks.stands
  tells l top (body.Get b) a (inr (no0, inr (no1, inr (free, (found, e, reads))))) =
      nothing (body.Get b) a _ e (read_none found)
  tells l top (body.Scan b) a (inl x) = nothing (body.Scan b) a _ x.1 refl
  tells l top (body.Scan b) a (inr (no0, inl x)) = nothing (body.Scan b) a _ x.1 refl
  tells l top (body.Scan b) a (inr (no0, inr (no1, inl meets))) =
      one (body.Scan b) a _ meets.answer meets.key meets.lock refl meets.blocks.stands
  tells l top (body.Scan b) a (inr (no0, inr (no1, inr gives))) = nothing (body.Scan b) a _ gives.answer refl
  tells l top (body.Prewrite b) a (inl x) = nothing (body.Prewrite b) a _ x.1 refl
  tells l top (body.Prewrite b) a (inr (no0, inl x)) = nothing (body.Prewrite b) a _ x.1 refl
  tells l top (body.Prewrite b) a (inr (no0, inr (no1, inl (lock, own, e)))) = nothing (body.Prewrite b) a _ e refl
  tells l top (body.Prewrite b) a (inr (no0, inr (no1, inr (no2, inl x)))) = nothing (body.Prewrite b) a _ x.1 refl
  tells l top (body.Prewrite b) a (inr (no0, inr (no1, inr (no2, inr (no3, inl (c, own, e)))))) =
      nothing (body.Prewrite b) a _ e refl
  tells l top (body.Prewrite b) a (inr (no0, inr (no1, inr (no2, inr (no3, inr (no4, inl (lock, at, e))))))) =
      one (body.Prewrite b) a _ e b.key lock refl (still b.key lock at)
  tells l top (body.Prewrite b) a
      (inr (no0, inr (no1, inr (no2, inr (no3, inr (no4, inr (no5, inl (some, (start, c, newest, e))))))))) =
      nothing (body.Prewrite b) a _ e refl
  tells l top (body.Prewrite b) a (inr (no0, inr (no1, inr (no2, inr (no3, inr (no4, inr (no5, inr (no6, inl x)))))))) =
      nothing (body.Prewrite b) a _ x.1 refl
  tells l top (body.Prewrite b) a
      (inr (
        no0,
        inr (
          no1,
          inr (
            no2,
            inr (no3, inr (no4, inr (no5, inr (no6, inr (no7, inl (mode, (m, promise, inl x))))))),
          ),
        ),
      )) =
      nothing (body.Prewrite b) a _ x.1 refl
  tells l top (body.Prewrite b) a
      (inr (
        no0,
        inr (
          no1,
          inr (
            no2,
            inr (no3, inr (no4, inr (no5, inr (no6, inr (no7, inl (mode, (m, promise, inr x))))))),
          ),
        ),
      )) =
      nothing (body.Prewrite b) a _ x.1 refl
  tells l top (body.Prewrite b) a
      (inr (no0, inr (no1, inr (no2, inr (no3, inr (no4, inr (no5, inr (no6, inr (no7, inr x))))))))) =
      nothing (body.Prewrite b) a _ x.1 refl
  tells l top (body.Commit b) a (inl x) = nothing (body.Commit b) a _ x.1 refl
  tells l top (body.Commit b) a (inr (no0, inl (lock, own, inl x))) = nothing (body.Commit b) a _ x.1 refl
  tells l top (body.Commit b) a (inr (no0, inl (lock, own, inr (no1, inl (rec, x, e))))) =
      nothing (body.Commit b) a _ e refl
  tells l top (body.Commit b) a (inr (no0, inl (lock, own, inr (no1, inr (no2, e))))) =
      nothing (body.Commit b) a _ e refl
  tells l top (body.Commit b) a (inr (no0, inr (no1, inl (c, own, e)))) = nothing (body.Commit b) a _ e refl
  tells l top (body.Commit b) a (inr (no0, inr (no1, inr (no2, inl x)))) = nothing (body.Commit b) a _ x.1 refl
  tells l top (body.Commit b) a (inr (no0, inr (no1, inr (no2, inr (no3, e))))) = nothing (body.Commit b) a _ e refl
  tells l top (body.BatchRollback b) a (inl x) = nothing (body.BatchRollback b) a _ x.1 refl
  tells l top (body.BatchRollback b) a (inr (no0, inl (lock, own, e))) = nothing (body.BatchRollback b) a _ e refl
  tells l top (body.BatchRollback b) a (inr (no0, inr (no1, inl (c, own, e)))) =
      nothing (body.BatchRollback b) a _ e refl
  tells l top (body.BatchRollback b) a (inr (no0, inr (no1, inr (no2, e)))) = nothing (body.BatchRollback b) a _ e refl
  tells l top (body.TxnHeartBeat b) a (inl x) = nothing (body.TxnHeartBeat b) a _ x.1 refl
  tells l top (body.TxnHeartBeat b) a (inr (no0, inl (lock, own, e))) = nothing (body.TxnHeartBeat b) a _ e refl
  tells l top (body.TxnHeartBeat b) a (inr (no0, inr (no1, e))) = nothing (body.TxnHeartBeat b) a _ e refl
  tells l top (body.CheckTxnStatus b) a (inl x) = nothing (body.CheckTxnStatus b) a _ x.1 refl
  tells l top (body.CheckTxnStatus b) a (inr (no0, inl x)) = nothing (body.CheckTxnStatus b) a _ x.1 refl
  tells l top (body.CheckTxnStatus b) a (inr (no0, inr (no1, inl (lock, own, x)))) = checks b a lock own x
  tells l top (body.CheckTxnStatus b) a (inr (no0, inr (no1, inr (no2, inl (c, own, e))))) =
      nothing (body.CheckTxnStatus b) a _ e refl
  tells l top (body.CheckTxnStatus b) a (inr (no0, inr (no1, inr (no2, inr (no3, inl x))))) =
      nothing (body.CheckTxnStatus b) a _ x.1 refl
  tells l top (body.CheckTxnStatus b) a (inr (no0, inr (no1, inr (no2, inr (no3, inr (no4, inl x)))))) =
      nothing (body.CheckTxnStatus b) a _ x.1 refl
  tells l top (body.CheckTxnStatus b) a (inr (no0, inr (no1, inr (no2, inr (no3, inr (no4, inr (no5, e))))))) =
      nothing (body.CheckTxnStatus b) a _ e refl
  tells l top (body.CheckSecondaryLocks b) a (inl x) = nothing (body.CheckSecondaryLocks b) a _ x.1 refl
  tells l top (body.CheckSecondaryLocks b) a (inr (no0, inl (lock, own, e))) =
      one (body.CheckSecondaryLocks b) a _ e b.key lock refl (still b.key lock own.stands)
  tells l top (body.CheckSecondaryLocks b) a (inr (no0, inr (no1, inl (c, own, e)))) =
      nothing (body.CheckSecondaryLocks b) a _ e refl
  tells l top (body.CheckSecondaryLocks b) a (inr (no0, inr (no1, inr (no2, e)))) =
      nothing (body.CheckSecondaryLocks b) a _ e refl
  tells l top (body.ResolveLock b) a (inl x) = nothing (body.ResolveLock b) a _ x.1 refl
  tells l top (body.ResolveLock b) a (inr (no0, inl (lock, own, x))) =
      resolved (body.ResolveLock b) (r.cells b.key) b.start lock b.fate a x
  tells l top (body.ResolveLock b) a (inr (no0, inr (no1, e))) = nothing (body.ResolveLock b) a _ e refl
  tells l top (body.RaiseSafe b) a (inl x) = nothing (body.RaiseSafe b) a _ x.1 refl
  tells l top (body.RaiseSafe b) a (inr (no0, inl x)) = nothing (body.RaiseSafe b) a _ x.1 refl
  tells l top (body.RaiseSafe b) a (inr (no0, inr (no1, e))) = nothing (body.RaiseSafe b) a _ e refl
  tells l top (body.LocksBelow b) a (infos, all, e) =
      λ info c. (let at = all.stand info (subst (λ xs. Contains xs info) (ap infos_in e) c) in
      (at.lock, at.stands, at.told))
  tells l top (body.Collect b) a (inl x) = nothing (body.Collect b) a _ x.1 refl
  tells l top (body.Collect b) a (inr (no0, inl (some, (told, first, e)))) = λ info c. (
      let same : told ≡ info = contains_one told info (subst (λ xs. Contains xs info) (ap infos_in e) c) in
      subst (λ y. Stands (leaves r (body.Collect b) y) info) (sym e)
      (subst (Stands r) same (first.stands.lock, first.stands.stands, first.stands.told)))
  tells l top (body.Collect b) a (inr (no0, inr (free, (versions, dropped, e)))) = nothing (body.Collect b) a _ e refl

-- ---- what every world run says of a lock that was told of

module _ (bounds : List Key) (h : History) (run : IsWorldRun bounds h) where
  inv : Inv (view bounds h)
  inv = (run_told bounds h run).0.sound.inv

  -- a lock that stands
  pub standing : (n : ℕ) (k : Key) (lock : Lock) → ((left h n).cells k).lock ≡ Some lock → IsLockOf h (info_of k lock)
  standing n k lock e =
      let says = all_say bounds h run n k lock e in
      let at : ((left h (route bounds k)).cells k).lock ≡ Some lock =
      subst (λ m. ((left h m).cells k).lock ≡ Some lock) (sym ((run_told bounds h run).1.routed n k lock e)) e in
      let of = some_of (accepted h lock.start k) ((inv.keys k).lock lock at).accepts in
      let mode : lock.mode ≡ of.0.lock.mode = ((inv.keys k).lock lock at).mode of.0 of.1 in
      let set : set_of (declared h lock.start) ≡ says.of.changes = ap set_of says.stands in
      let same : is_first (set_of (declared h lock.start)) k ≡ is_first says.of.changes k =
      ap (λ s. is_first s k) set in
      record {
        of = says.of;
        declares = says.stands;
        within = λ none. (let gone : does_at says.of.changes k ≡ None = ap (option_map as_locked) none in
            cc (ap (λ s. does_at s k) (sym set) ∙ ((inv.keys k).lock lock at).does, gone));
        primary = says.primary;
        async = λ is. (elim (mode_of says.of.mode) [
          | inl two ↦ (let not : lock.mode ≡ TwoPhase =
              mode ∙ (inv.acceptances lock.start k of.0 of.1).mode says.of says.stands two in cc (not, is))
          | inr so ↦ so
        ]);
        listed = says.listed;
        by = of.0;
        accepted = of.1;
        mode = sym mode;
        min = λ way. sym (elim (cases_Bool (is_first says.of.changes k)) [
          | inl first ↦ (let fresh : FellBack (accepted h) lock.start → ⊥ =
              elim way [
                | inl other ↦ absurd (cc (other, first))
                | inr never ↦ λ fell. never
                    (record { key = fell.key; by = fell.by; stands = fell.stands; two_phase = fell.two_phase })
              ] in
              ((inv.keys k).lock lock at).shows (same ∙ first)
              ∙ inv.shown.first lock.start k of.0 (same ∙ first) of.1 fresh)
          | inr other ↦ ((inv.keys k).lock lock at).min (same ∙ other) of.0 of.1
        ]);
      }
    where
      mode_of : (m : Mode) → (m ≡ TwoPhase) ⊎ (m ≡ Async)
      mode_of TwoPhase = inl refl
      mode_of Async = inr refl

-- it stays so
pub is_lock_on : (bounds : List Key) (l h : History) → IsWorldRun bounds h → Begins l h → (info : LockInfo)
    → IsLockOf l info → IsLockOf h info
is_lock_on bounds l h run b info is =
    record {
      of = is.of;
      declares = declared_on bounds l h run b info.start is.of is.declares;
      within = is.within;
      primary = is.primary;
      async = is.async;
      listed = is.listed;
      by = is.by;
      accepted = accepted_on l h b info.start info.key is.by is.accepted;
      mode = is.mode;
      min = λ way. is.min (elim way [
        | inl other ↦ inl other
        | inr never ↦ inr (λ has. never (two_phase_on l h b info.start has))
      ]);
    }

-- what an answer tells of a lock holds of it from then on
told_among : (bounds : List Key) (h : History) → IsWorldRun bounds h → (by : Taken) → Among h (Took by)
    → (info : LockInfo) → Contains (infos_in by.answer) info → IsLockOf h info
told_among bounds [] run by among info c = absurd among
told_among bounds (e ∷ h) run by among info c =
    elim among [
      | inr before ↦ is_lock_on bounds h (e
          ∷ h) run (inr (begins_all h)) info (told_among bounds h run.0 by before info c)
      | inl now ↦ (
          let took : IsWorldRun bounds (Took by ∷ h) = subst (λ x. IsWorldRun bounds (x ∷ h)) now run in
          let found = tells (left h by.region) by.loaded (last h) by.body by.answer took.1.answers info c in
          let at : ((left (Took by ∷ h) by.region).cells info.key).lock ≡ Some found.0 =
          ap (λ (r : Region). (r.cells info.key).lock)
          (cond_true (by.region == by.region) (leaves (left h by.region) by.body by.answer) (left h by.region)
          (nat_same by.region)) ∙ found.1 in
          let is : IsLockOf (Took by ∷ h) info =
          subst (IsLockOf (Took by ∷ h)) (sym found.2)
          (standing bounds (Took by ∷ h) took by.region info.key found.0 at) in
          subst (λ x. IsLockOf (x ∷ h) info) (sym now) is
          )
    ]

pub told_lock : (bounds : List Key) (h : History) (info : LockInfo) → IsWorldRun bounds h → WasToldOf h info
    → IsLockOf h info
told_lock bounds h info run told = told_among bounds h run told.by told.among info told.told

pub lock_stays : (bounds : List Key) (l h : History) (info : LockInfo) → IsWorldRun bounds h → Begins l h
    → IsLockOf l info → IsLockOf h info
lock_stays bounds l h info run b is = is_lock_on bounds l h run b info is

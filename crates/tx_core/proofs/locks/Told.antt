-- What answers tell of locks that stand.
use Rattle.std.proofs.Common.{◌≡◌, ◌≢◌, ℕ, ◌<◌, ◌≤◌, ◌==◌, ◌⊎◌, zero, suc, inl, inr, Bool, true, false, cond, List, [], ◌∷◌, length, Option, Some, None, bytes_eq, refl, sym, ap, subst, ◌∙◌, arith}
use Rattle.std.proofs.lemmas.Bool.{cases_Bool}
use Rattle.std.specs.Prelude.{Contains}
use Rattle.std.specs.List.{slice_index_or}
use Rattle.tx_types.specs.declared.key.Key.{Key}
use Rattle.tx_types.specs.declared.lock.LockInfo.{LockInfo}
use Rattle.tx_types.specs.declared.mutation.Change.{Change}
use Rattle.tx_types.specs.declared.mutation.Fate.{Fate}
use Rattle.tx_types.specs.declared.mutation.Fate.TheVariants as fate
use Rattle.tx_types.specs.declared.value.Value.{Value}
use Rattle.tx_plan.specs.declared.body.Body.{Body}
use Rattle.tx_plan.specs.declared.body.Body.TheVariants as body
use Rattle.tx_plan.specs.declared.body.Get.{Get}
use Rattle.tx_plan.specs.declared.body.Scan.{Scan}
use Rattle.tx_plan.specs.declared.body.BatchRollback.{BatchRollback}
use Rattle.tx_plan.specs.declared.body.TxnHeartBeat.{TxnHeartBeat}
use Rattle.tx_plan.specs.declared.body.CheckSecondaryLocks.{CheckSecondaryLocks}
use Rattle.tx_plan.specs.declared.body.RaiseSafe.{RaiseSafe}
use Rattle.tx_plan.specs.declared.body.LocksBelow.{LocksBelow}
use Rattle.tx_plan.specs.declared.body.Collect.{Collect}
use Rattle.tx_plan.specs.declared.body.Prewrite.{Prewrite}
use Rattle.tx_plan.specs.declared.body.Commit.{Commit}
use Rattle.tx_plan.specs.declared.body.ResolveLock.{ResolveLock}
use Rattle.tx_plan.specs.declared.answer.Answer.{Answer}
use Rattle.tx_plan.specs.declared.answer.Answer.TheVariants.{Committed, RolledBack, Missing, Raised, Collected}
use Rattle.tx_plan.specs.Cells.{Lock, Cells, Region, info_of, with_cells}
use Rattle.tx_plan.specs.Answers.{Answers, leaves}
use Rattle.tx_plan.specs.Reads.{read_answer}
use Rattle.tx_plan.specs.cases.ResolveLock.{ResolvesLock}
use Rattle.tx_core.specs.declared.event.Taken.{Taken}
use Rattle.tx_core.specs.declared.event.Event.TheVariants.{Took}
use Rattle.tx_core.specs.Histories.{History, last, declared, set_at, is_first, left, Among}
use Rattle.tx_core.specs.Decisions.{Acceptance, Effect, Puts, Settles, RollsBack, NoEffect, effect, infos_in, accepted}
use Rattle.tx_plan.specs.Own.{is_own}
use Rattle.tx_core.specs.Worlds.{route, Holds}
use Rattle.tx_core.proofs.Basics.{nat_test, key_test, some_of, cond_true, cond_false}
use Rattle.tx_core.proofs.view.View.{bound, does_declared}
use Rattle.tx_core.proofs.view.HistoryView.{shown_put, shown_told, shown_in}
use Rattle.tx_core.proofs.requests.Good.{Good, took, cells_at}

-- a transaction commits at or above m, if it does: that minimum was shown, or is that of a key
abbrev pub IsPromised : (ℕ → Key → Option Acceptance) → (ℕ → ℕ) → ℕ → ℕ → Type 0
IsPromised accepted shown t m = (m ≤ shown t)
    ⊎ ((k : Key) × (by : Acceptance) × (accepted t k ≡ Some by) × (m ≤ bound by))

-- that stays so, as acceptances stay and what is shown rises
pub promised_on : (accepted next : ℕ → Key → Option Acceptance) (shown rises : ℕ → ℕ) (t m : ℕ) → shown t ≤ rises t
    → ((k : Key) (by : Acceptance) → accepted t k ≡ Some by → next t k ≡ Some by) → IsPromised accepted shown t m
    → IsPromised next rises t m
promised_on accepted next shown rises t m more stays is =
    elim is [ inl x ↦ inl (omega (arith, x, more)) | inr x ↦ inr (x.0, x.1, stays x.0 x.1 x.2, x.3) ]

-- what is told of a lock, once it was: its transaction is declared, and commits at or above the
-- minimum
abbrev pub IsShown : History → (ℕ → ℕ) → LockInfo → Type 0
IsShown h shown info = (declared h info.start ≢ None) × IsPromised (accepted h) shown info.start info.min

-- A lock stands in the region of its key, and whatever was told of a lock was shown.
pub record ToldShown (bounds : List Key) (h : History) : Type 0 where
  pub routed : (n : ℕ) (k : Key) (lock : Lock) → ((left h n).cells k).lock ≡ Some lock → route bounds k ≡ n
  pub told : (by : Taken) → Among h (Took by) → (info : LockInfo) → Contains (infos_in by.answer) info
      → IsShown h (shown_in h) info

pub told_first : (bounds : List Key) → ToldShown bounds []
told_first bounds = record { routed = λ n k lock e. absurd (cc (e)); told = λ by among. absurd among }

-- ---- lists

contains_none : {X : Type 0} (x : X) → Contains [] x → ⊥
contains_none x c = omega (arith, c.1)

pub contains_one : {X : Type 0} (y x : X) → Contains (y ∷ []) x → y ≡ x
contains_one y x c = go c.0 c.1 c.2
  where
    go : (n : ℕ) → n < length (y ∷ []) → slice_index_or (y ∷ []) n x ≡ x → y ≡ x
    go zero low at = at
    go (suc n) low at = absurd (omega (arith, low))

-- ---- effects that put no lock

abbrev IsNoPut : Effect → Type 0
IsNoPut (Puts key lock) = ⊥
IsNoPut (Settles key t c) = Unit {0}
IsNoPut (RollsBack t) = Unit {0}
IsNoPut NoEffect = Unit {0}

pub shown_stays : (set : List Change) (e : Effect) (t n : ℕ) → IsNoPut e → shown_put set e t n ≡ n
shown_stays set (Puts key lock) t n quiet = absurd quiet
shown_stays set (Settles key u c) t n quiet = refl
shown_stays set (RollsBack u) t n quiet = refl
shown_stays set NoEffect t n quiet = refl

no_put_either : (b : Bool) (e f : Effect) → IsNoPut e → IsNoPut f → IsNoPut (cond b e f)
no_put_either true e f x y = x
no_put_either false e f x y = y

-- only a prewrite puts one
abbrev pub IsPrewrite : Body → Type 0
IsPrewrite (body.Prewrite b) = Unit {0}
IsPrewrite _ = ⊥

pub no_put : (cells : Key → Cells) (x : Body) (a : Answer) → (IsPrewrite x → ⊥) → IsNoPut (effect cells x a)
no_put cells (body.Get b) a other = tt
no_put cells (body.Scan b) a other = tt
no_put cells (body.Prewrite b) a other = absurd (other tt)
no_put cells (body.Commit b) (Committed c) other =
    no_put_either (is_own (cells b.key).lock b.start) (Settles b.key b.start b.commit) NoEffect tt tt
no_put cells (body.Commit b) _ other = tt
no_put cells (body.BatchRollback b) RolledBack other = tt
no_put cells (body.BatchRollback b) _ other = tt
no_put cells (body.TxnHeartBeat b) a other = tt
no_put cells (body.CheckTxnStatus b) RolledBack other = tt
no_put cells (body.CheckTxnStatus b) _ other = tt
no_put cells (body.CheckSecondaryLocks b) Missing other = tt
no_put cells (body.CheckSecondaryLocks b) _ other = tt
no_put cells (body.ResolveLock b) a other = tt
no_put cells (body.RaiseSafe b) a other = tt
no_put cells (body.LocksBelow b) a other = tt
no_put cells (body.Collect b) a other = tt

-- only a check of a transaction's status shows more of a lock that stands
abbrev pub IsStatusCheck : Body → Type 0
IsStatusCheck (body.CheckTxnStatus b) = Unit {0}
IsStatusCheck _ = ⊥

pub told_stays : (x : Body) (a : Answer) (t n : ℕ) → (IsStatusCheck x → ⊥) → shown_told x a t n ≡ n
told_stays (body.Get b) a t n other = refl
told_stays (body.Scan b) a t n other = refl
told_stays (body.Prewrite b) a t n other = refl
told_stays (body.Commit b) a t n other = refl
told_stays (body.BatchRollback b) a t n other = refl
told_stays (body.TxnHeartBeat b) a t n other = refl
told_stays (body.CheckTxnStatus b) a t n other = absurd (other tt)
told_stays (body.CheckSecondaryLocks b) a t n other = refl
told_stays (body.ResolveLock b) a t n other = refl
told_stays (body.RaiseSafe b) a t n other = refl
told_stays (body.LocksBelow b) a t n other = refl
told_stays (body.Collect b) a t n other = refl

-- ---- where locks stand

-- a lock that an answer leaves stood before as some lock, or lies on a key of the request's region
module _ (bounds : List Key) where
  abbrev Stood : Region → Body → Key → Type 0
  Stood r x k = ((old : Lock) × ((r.cells k).lock ≡ Some old)) ⊎ ((n : ℕ) → Holds bounds n x → route bounds k ≡ n)

  stood_keyed : (r : Region) (key : Key) (new : Cells) (k : Key) (lock : Lock)
      → ((with_cells r key new).cells k).lock ≡ Some lock
      → ((old : Lock) × ((r.cells k).lock ≡ Some old)) ⊎ ((n : ℕ) → route bounds key ≡ n → route bounds k ≡ n)
  stood_keyed r key new k lock e =
      elim (key_test key k) [
        | inl x ↦ inr (λ n here. subst (λ q. route bounds q ≡ n) x.1 here)
        | inr x ↦ inl (lock, ap (λ (c : Cells). c.lock) (sym (cond_false (bytes_eq key k) new (r.cells k) x.0)) ∙ e)
      ]

  stood : (r : Region) (x : Body) (a : Answer) (k : Key) (lock : Lock) → ((leaves r x a).cells k).lock ≡ Some lock
      → Stood r x k
  stood r (body.Get b) a k lock e = inl (lock, e)
  stood r (body.Scan b) a k lock e = inl (lock, e)
  stood r (body.Prewrite b) a k lock e = stood_keyed r b.key _ k lock e
  stood r (body.Commit b) a k lock e = stood_keyed r b.key _ k lock e
  stood r (body.BatchRollback b) a k lock e = stood_keyed r b.key _ k lock e
  stood r (body.TxnHeartBeat b) a k lock e = stood_keyed r b.key _ k lock e
  stood r (body.CheckTxnStatus b) a k lock e = stood_keyed r b.key _ k lock e
  stood r (body.CheckSecondaryLocks b) a k lock e = stood_keyed r b.key _ k lock e
  stood r (body.ResolveLock b) a k lock e = stood_keyed r b.key _ k lock e
  stood r (body.RaiseSafe b) Raised k lock e = inl (lock, e)
  stood r (body.RaiseSafe b) _ k lock e = inl (lock, e)
  stood r (body.LocksBelow b) a k lock e = inl (lock, e)
  stood r (body.Collect b) (Collected records values) k lock e = inl (lock, e)
  stood r (body.Collect b) _ k lock e = inl (lock, e)

  pub stays_routed : (h : History) → ToldShown bounds h → (n : ℕ) (x : Body) (l : ℕ) (a : Answer) → Holds bounds n x
      → (m : ℕ) (k : Key) (lock : Lock) → ((left (Took (took n x l a) ∷ h) m).cells k).lock ≡ Some lock
      → route bounds k ≡ m
  stays_routed h before n x l a holds m k lock e =
      elim (nat_test n m) [
        | inl same ↦ elim (stood (left h m) x a k lock
            (ap (λ (r : Region). (r.cells k).lock) (sym (cond_true (n == m) (leaves (left h m) x a) (left h m) same.0))
            ∙ e)) [
              | inl old ↦ before.routed m k old.0 old.1
              | inr new ↦ new m (subst (λ y. Holds bounds y x) same.1 holds)
            ]
        | inr other ↦ before.routed m k lock
            (ap (λ (r : Region). (r.cells k).lock)
            (sym (cond_false (n == m) (leaves (left h m) x a) (left h m) other.0)) ∙ e)
      ]

-- ---- what is told

module _ (bounds : List Key) (h : History) (good : Good bounds h) (before : ToldShown bounds h) where
  abbrev pub AllShown : Answer → Type 0
  AllShown a = (info : LockInfo) → Contains (infos_in a) info → IsShown h (shown_in h) info

  -- a lock that stands
  standing : (n : ℕ) (k : Key) (lock : Lock) → ((left h n).cells k).lock ≡ Some lock
      → IsShown h (shown_in h) (info_of k lock)
  standing n k lock e =
      let here : (cells_at bounds h k).lock ≡ Some lock =
      subst (λ m. ((left h m).cells k).lock ≡ Some lock) (sym (before.routed n k lock e)) e in (
        does_declared (declared h) lock.start k lock.mutation ((good.sound.inv.keys k).lock lock here).does,
        elim (cases_Bool (is_first (set_at h lock.start) k)) [
          | inl f ↦ inl (omega (arith, ((good.sound.inv.keys k).lock lock here).shows f))
          | inr f ↦ (let of = some_of (accepted h lock.start k) ((good.sound.inv.keys k).lock lock here).accepts in
              inr (
                k,
                of.0,
                of.1,
                omega (
                  arith,
                  ((good.sound.inv.keys k).lock lock here).min f of.0 of.1,
                  (good.sound.inv.acceptances lock.start k of.0 of.1).bounded,
                ),
              ))
        ],
      )

  pub nothing : (a : Answer) → infos_in a ≡ [] → AllShown a
  nothing a none info c = absurd (contains_none info (subst (λ xs. Contains xs info) none c))

  one : (a : Answer) (told : LockInfo) → infos_in a ≡ told ∷ [] → IsShown h (shown_in h) told → AllShown a
  one a told is shown info c =
      subst (IsShown h (shown_in h)) (contains_one told info (subst (λ xs. Contains xs info) is c)) shown

  read_tells_none : (found : Option Value) → infos_in (read_answer found) ≡ []
  read_tells_none None = refl
  read_tells_none (Some v) = refl

  pub get_tells : (n l : ℕ) (b : Get) (a : Answer) → Answers (left h n) l (last h) (body.Get b) a → AllShown a
  get_tells n l b a (inl x) = nothing a (ap infos_in x.1)
  get_tells n l b a (inr (no0, inl x)) = nothing a (ap infos_in x.1)
  get_tells n l b a (inr (no0, inr (no1, inl (lock, blocks, e)))) =
      one a (info_of b.key lock) (ap infos_in e) (standing n b.key lock blocks.stands)
  get_tells n l b a (inr (no0, inr (no1, inr (free, (found, e, reads))))) =
      nothing a (ap infos_in e ∙ read_tells_none found)

  pub scan_tells : (n l : ℕ) (b : Scan) (a : Answer) → Answers (left h n) l (last h) (body.Scan b) a → AllShown a
  scan_tells n l b a (inl x) = nothing a (ap infos_in x.1)
  scan_tells n l b a (inr (no0, inl x)) = nothing a (ap infos_in x.1)
  scan_tells n l b a (inr (no0, inr (no1, inl meets))) =
      one a (info_of meets.key meets.lock) (ap infos_in meets.answer)
      (standing n meets.key meets.lock meets.blocks.stands)
  scan_tells n l b a (inr (no0, inr (no1, inr gives))) = nothing a (ap infos_in gives.answer)

  pub prewrite_tells : (n l : ℕ) (b : Prewrite) (a : Answer) → Answers (left h n) l (last h) (body.Prewrite b) a
      → AllShown a
  prewrite_tells n l b a (inl x) = nothing a (ap infos_in x.1)
  prewrite_tells n l b a (inr (no0, inl x)) = nothing a (ap infos_in x.1)
  prewrite_tells n l b a (inr (no0, inr (no1, inl (lock, own, e)))) = nothing a (ap infos_in e)
  prewrite_tells n l b a (inr (no0, inr (no1, inr (no2, inl x)))) = nothing a (ap infos_in x.1)
  prewrite_tells n l b a (inr (no0, inr (no1, inr (no2, inr (no3, inl (c, own, e)))))) = nothing a (ap infos_in e)
  prewrite_tells n l b a (inr (no0, inr (no1, inr (no2, inr (no3, inr (no4, inl (lock, at, e))))))) =
      one a (info_of b.key lock) (ap infos_in e) (standing n b.key lock at)
  prewrite_tells n l b a
      (inr (no0, inr (no1, inr (no2, inr (no3, inr (no4, inr (no5, inl (some, (start, c, newest, e))))))))) =
      nothing a (ap infos_in e)
  prewrite_tells n l b a (inr (no0, inr (no1, inr (no2, inr (no3, inr (no4, inr (no5, inr (no6, inl x)))))))) =
      nothing a (ap infos_in x.1)
  prewrite_tells n l b a
      (inr (
        no0,
        inr (
          no1,
          inr (
            no2,
            inr (no3, inr (no4, inr (no5, inr (no6, inr (no7, inl (mode, (m, promise, inl x))))))),
          ),
        ),
      )) =
      nothing a (ap infos_in x.1)
  prewrite_tells n l b a
      (inr (
        no0,
        inr (
          no1,
          inr (
            no2,
            inr (no3, inr (no4, inr (no5, inr (no6, inr (no7, inl (mode, (m, promise, inr x))))))),
          ),
        ),
      )) =
      nothing a (ap infos_in x.1)
  prewrite_tells n l b a (inr (no0, inr (no1, inr (no2, inr (no3, inr (no4, inr (no5, inr (no6, inr (no7, inr x)))))))))
      = nothing a (ap infos_in x.1)

  pub commit_tells : (n l : ℕ) (b : Commit) (a : Answer) → Answers (left h n) l (last h) (body.Commit b) a → AllShown a
  commit_tells n l b a (inl x) = nothing a (ap infos_in x.1)
  commit_tells n l b a (inr (no0, inl (lock, own, inl x))) = nothing a (ap infos_in x.1)
  commit_tells n l b a (inr (no0, inl (lock, own, inr (no1, inl (rec, x, e))))) = nothing a (ap infos_in e)
  commit_tells n l b a (inr (no0, inl (lock, own, inr (no1, inr (no2, e))))) = nothing a (ap infos_in e)
  commit_tells n l b a (inr (no0, inr (no1, inl (c, own, e)))) = nothing a (ap infos_in e)
  commit_tells n l b a (inr (no0, inr (no1, inr (no2, inl x)))) = nothing a (ap infos_in x.1)
  commit_tells n l b a (inr (no0, inr (no1, inr (no2, inr (no3, e))))) = nothing a (ap infos_in e)

  pub rollback_tells : (n l : ℕ) (b : BatchRollback) (a : Answer)
      → Answers (left h n) l (last h) (body.BatchRollback b) a → AllShown a
  rollback_tells n l b a (inl x) = nothing a (ap infos_in x.1)
  rollback_tells n l b a (inr (no0, inl (lock, own, e))) = nothing a (ap infos_in e)
  rollback_tells n l b a (inr (no0, inr (no1, inl (c, own, e)))) = nothing a (ap infos_in e)
  rollback_tells n l b a (inr (no0, inr (no1, inr (no2, e)))) = nothing a (ap infos_in e)

  pub heart_beat_tells : (n l : ℕ) (b : TxnHeartBeat) (a : Answer)
      → Answers (left h n) l (last h) (body.TxnHeartBeat b) a → AllShown a
  heart_beat_tells n l b a (inl x) = nothing a (ap infos_in x.1)
  heart_beat_tells n l b a (inr (no0, inl (lock, own, e))) = nothing a (ap infos_in e)
  heart_beat_tells n l b a (inr (no0, inr (no1, e))) = nothing a (ap infos_in e)

  pub secondary_tells : (n l : ℕ) (b : CheckSecondaryLocks) (a : Answer)
      → Answers (left h n) l (last h) (body.CheckSecondaryLocks b) a → AllShown a
  secondary_tells n l b a (inl x) = nothing a (ap infos_in x.1)
  secondary_tells n l b a (inr (no0, inl (lock, own, e))) =
      one a (info_of b.key lock) (ap infos_in e) (standing n b.key lock own.stands)
  secondary_tells n l b a (inr (no0, inr (no1, inl (c, own, e)))) = nothing a (ap infos_in e)
  secondary_tells n l b a (inr (no0, inr (no1, inr (no2, e)))) = nothing a (ap infos_in e)

  resolved_tells : (c : Cells) (start : ℕ) (lock : Lock) (e : Fate) (a : Answer) → ResolvesLock c.write start lock e a
      → AllShown a
  resolved_tells c start lock fate.Aborted a x = nothing a (ap infos_in x)
  resolved_tells c start lock (fate.Committed at) a (inl x) = nothing a (ap infos_in x.1)
  resolved_tells c start lock (fate.Committed at) a (inr (no1, inl (rec, x, e))) = nothing a (ap infos_in e)
  resolved_tells c start lock (fate.Committed at) a (inr (no1, inr (no2, e))) = nothing a (ap infos_in e)

  pub resolve_tells : (n l : ℕ) (b : ResolveLock) (a : Answer) → Answers (left h n) l (last h) (body.ResolveLock b) a
      → AllShown a
  resolve_tells n l b a (inl x) = nothing a (ap infos_in x.1)
  resolve_tells n l b a (inr (no0, inl (lock, own, x))) =
      resolved_tells ((left h n).cells b.key) b.start lock b.fate a x
  resolve_tells n l b a (inr (no0, inr (no1, e))) = nothing a (ap infos_in e)

  pub raise_tells : (n l : ℕ) (b : RaiseSafe) (a : Answer) → Answers (left h n) l (last h) (body.RaiseSafe b) a
      → AllShown a
  raise_tells n l b a (inl x) = nothing a (ap infos_in x.1)
  raise_tells n l b a (inr (no0, inl x)) = nothing a (ap infos_in x.1)
  raise_tells n l b a (inr (no0, inr (no1, e))) = nothing a (ap infos_in e)

  pub locks_tell : (n l : ℕ) (b : LocksBelow) (a : Answer) → Answers (left h n) l (last h) (body.LocksBelow b) a
      → AllShown a
  locks_tell n l b a (infos, all, e) info c =
      let at = all.stand info (subst (λ xs. Contains xs info) (ap infos_in e) c) in
      subst (IsShown h (shown_in h)) (sym at.told) (standing n info.key at.lock at.stands)

  pub collect_tells : (n l : ℕ) (b : Collect) (a : Answer) → Answers (left h n) l (last h) (body.Collect b) a
      → AllShown a
  collect_tells n l b a (inl x) = nothing a (ap infos_in x.1)
  collect_tells n l b a (inr (no0, inl (some, (info, first, e)))) =
      one a info (ap infos_in e)
      (subst (IsShown h (shown_in h)) (sym first.stands.told)
      (standing n info.key first.stands.lock first.stands.stands))
  collect_tells n l b a (inr (no0, inr (free, (versions, dropped, e)))) = nothing a (ap infos_in e)

-- A region of a world run has one answer to each request, with the least minimum.
use Rattle.std.proofs.Common.{◌≡◌, ◌≢◌, ℕ, ◌==◌, inl, inr, List, [], ◌∷◌, None, bytes_eq, refl, sym, ap, subst, ◌∙◌}
use Rattle.tx_types.specs.declared.key.Key.{Key}
use Rattle.tx_types.specs.declared.mutation.Fate.TheVariants.{Committed}
use Rattle.tx_machine.specs.Machine.{Done}
use Rattle.tx_plan.specs.declared.body.Body.{Body}
use Rattle.tx_plan.specs.declared.body.Body.TheVariants.{Get, Scan, Prewrite, Commit, BatchRollback, TxnHeartBeat, CheckTxnStatus, CheckSecondaryLocks, ResolveLock, RaiseSafe, LocksBelow, Collect}
use Rattle.tx_plan.specs.declared.body.Prewrite.{Prewrite as PrewriteBody}
use Rattle.tx_plan.specs.declared.answer.Answer.{Answer}
use Rattle.tx_plan.specs.declared.answer.Answer.TheVariants.{Raised, Collected}
use Rattle.tx_plan.specs.Cells.{Cells, Region, no_cells, with_cells}
use Rattle.tx_plan.specs.Own.{OwnCommit}
use Rattle.tx_plan.specs.Answers.{AnswersBy, leaves}
use Rattle.tx_plan.specs.cases.Prewrite.{least_minimum}
use Rattle.tx_plan.specs.cases.Collect.{CountsDropped, keeps, kept}
use Rattle.tx_core.specs.declared.event.Event.TheVariants.{Drawn, Began, Declared, Answered, Stopped, Took}
use Rattle.tx_core.specs.Histories.{History, left}
use Rattle.tx_core.specs.ReadMarks.{max_ts, AnswersNext}
use Rattle.tx_core.specs.Decisions.{decided}
use Rattle.tx_core.specs.Worlds.{route, Holds, IsWorldRun}
use Rattle.tx_core.proofs.Basics.{nat_test, key_test, cond_true, cond_false, cond_same}
use Rattle.tx_core.proofs.requests.Good.{own_commit}
use Rattle.tx_core.proofs.runs.AllRuns.{run_told}
use Rattle.tx_core.proofs.unique.OneKey.{OneCommit, one_get, one_prewrite, one_commit, one_rollback, one_heart_beat, one_check_status, one_check_secondary, one_resolve, one_raise}
use Rattle.tx_core.proofs.unique.Scan.{one_scan}
use Rattle.tx_core.proofs.unique.Locks.{one_locks, one_collect}

module _ (bounds : List Key) where
  -- ---- a region holds nothing on the keys of others

  -- what a request on one key leaves on another
  none_keyed : (n : ℕ) (r : Region) (key : Key) (new : Cells) (k : Key) → route bounds key ≡ n → route bounds k ≢ n
      → r.cells k ≡ no_cells → (with_cells r key new).cells k ≡ no_cells
  none_keyed n r key new k holds astray none =
      elim (key_test key k) [
        | inl x ↦ absurd (astray (subst (λ q. route bounds q ≡ n) x.1 holds))
        | inr x ↦ cond_false (bytes_eq key k) new (r.cells k) x.0 ∙ none
      ]

  -- what collection leaves of nothing
  kept_none : (safe : ℕ) → kept no_cells safe ≡ no_cells
  kept_none safe = λ i. record { lock = None; write = λ q. cond_same (keeps no_cells.write safe q) None i }

  -- nothing comes to be on a key that the region does not hold
  none_left : (n : ℕ) (r : Region) (x : Body) (a : Answer) (k : Key) → Holds bounds n x → route bounds k ≢ n
      → r.cells k ≡ no_cells → (leaves r x a).cells k ≡ no_cells
  none_left n r (Get b) a k holds astray none = none
  none_left n r (Scan b) a k holds astray none = none
  none_left n r (Prewrite b) a k holds astray none = none_keyed n r b.key _ k holds astray none
  none_left n r (Commit b) a k holds astray none = none_keyed n r b.key _ k holds astray none
  none_left n r (BatchRollback b) a k holds astray none = none_keyed n r b.key _ k holds astray none
  none_left n r (TxnHeartBeat b) a k holds astray none = none_keyed n r b.key _ k holds astray none
  none_left n r (CheckTxnStatus b) a k holds astray none = none_keyed n r b.key _ k holds astray none
  none_left n r (CheckSecondaryLocks b) a k holds astray none = none_keyed n r b.key _ k holds astray none
  none_left n r (ResolveLock b) a k holds astray none = none_keyed n r b.key _ k holds astray none
  none_left n r (RaiseSafe b) Raised k holds astray none = none
  none_left n r (RaiseSafe b) _ k holds astray none = none
  none_left n r (LocksBelow b) a k holds astray none = none
  none_left n r (Collect b) (Collected records values) k holds astray none =
      ap (λ c. kept c b.safe) none ∙ kept_none b.safe
  none_left n r (Collect b) _ k holds astray none = none

  none_astray : (h : History) → IsWorldRun bounds h → (n : ℕ) (k : Key) → route bounds k ≢ n
      → (left h n).cells k ≡ no_cells
  none_astray [] run n k astray = refl
  none_astray (Took x ∷ h) run n k astray =
      let before = none_astray h run.0 n k astray in
      elim (nat_test x.region n) [
        | inl is ↦ ap (λ (r : Region). r.cells k)
            (cond_true (x.region == n) (leaves (left h n) x.body x.answer) (left h n) is.0)
            ∙ none_left n (left h n) x.body x.answer k (subst (λ m. Holds bounds m x.body) is.1 run.1.holds) astray
            before
        | inr other ↦ ap (λ (r : Region). r.cells k)
            (cond_false (x.region == n) (leaves (left h n) x.body x.answer) (left h n) other.0) ∙ before
      ]
  none_astray (Drawn seat t ∷ h) run n k astray = none_astray h run.0 n k astray
  none_astray (Began t ∷ h) run n k astray = none_astray h run.0 n k astray
  none_astray (Declared d ∷ h) run n k astray = none_astray h run.0 n k astray
  none_astray (Answered t o ∷ h) run n k astray = none_astray h run.0 n k astray
  none_astray (Stopped seat ∷ h) run n k astray = none_astray h run.0 n k astray

  -- ---- one answer

  -- a transaction is decided once, and its commit records say what is decided
  commits_once : (h : History) → IsWorldRun bounds h → (n : ℕ) (k : Key) (t : ℕ)
      → OneCommit ((left h n).cells k).write t
  commits_once h run n k t c d x y =
      elim (nat_test (route bounds k) n) [
        | inl is ↦ (let good = (run_told bounds h run).0 in
            let here : decided h t ≡ Done (Committed c) =
            own_commit bounds h good k t c (subst (λ m. OwnCommit ((left h m).cells k).write t c) (sym is.1) x) in
            let there : decided h t ≡ Done (Committed d) =
            own_commit bounds h good k t d (subst (λ m. OwnCommit ((left h m).cells k).write t d) (sym is.1) y) in
            cc (here, there))
        | inr other ↦ absurd (let none = ap (λ (q : Cells). q.write c) (none_astray h run n k other.1) in
            (cc (none, x.stands)))
      ]

  -- whatever the least minimum is
  pub one_answer_by : (least : PrewriteBody → ℕ) (h : History) (n loaded : ℕ) (q : Body) (a b : Answer)
      → IsWorldRun bounds h → AnswersBy (λ x m. m ≡ least x) CountsDropped (left h n) loaded q a
      → AnswersBy (λ x m. m ≡ least x) CountsDropped (left h n) loaded q b → a ≡ b
  one_answer_by least h n loaded (Get q) a b run = one_get ((left h n).cells q.key) (left h n).safe loaded q a b
  one_answer_by least h n loaded (Scan q) a b run = one_scan (left h n).cells q (left h n).safe loaded a b
  one_answer_by least h n loaded (Prewrite q) a b run =
      one_prewrite ((left h n).cells q.key) (left h n).safe loaded (least q) q a b (commits_once h run n q.key q.start)
  one_answer_by least h n loaded (Commit q) a b run =
      one_commit ((left h n).cells q.key) (left h n).collected q a b (commits_once h run n q.key q.start)
  one_answer_by least h n loaded (BatchRollback q) a b run =
      one_rollback ((left h n).cells q.key) (left h n).collected q a b (commits_once h run n q.key q.start)
  one_answer_by least h n loaded (TxnHeartBeat q) a b run =
      one_heart_beat ((left h n).cells q.key) (left h n).collected q a b
  one_answer_by least h n loaded (CheckTxnStatus q) a b run =
      one_check_status ((left h n).cells q.key) (left h n).collected loaded q a b (commits_once h run n q.key q.start)
  one_answer_by least h n loaded (CheckSecondaryLocks q) a b run =
      one_check_secondary ((left h n).cells q.key) (left h n).collected q a b (commits_once h run n q.key q.start)
  one_answer_by least h n loaded (ResolveLock q) a b run =
      one_resolve ((left h n).cells q.key) (left h n).collected q a b
  one_answer_by least h n loaded (RaiseSafe q) a b run = one_raise (left h n).safe loaded q a b
  one_answer_by least h n loaded (LocksBelow q) a b run = one_locks (left h n).cells q a b
  one_answer_by least h n loaded (Collect q) a b run = one_collect (left h n).cells (left h n).safe q a b

  pub one_answer : (h : History) (n loaded : ℕ) (q : Body) (a b : Answer) → IsWorldRun bounds h
      → AnswersNext h n loaded q a → AnswersNext h n loaded q b → a ≡ b
  one_answer h n = one_answer_by (least_minimum (max_ts h)) h n

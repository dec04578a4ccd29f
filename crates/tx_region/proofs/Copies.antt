-- Copies of what a request sees of its key, and plans that were made of them.
use Rattle.std.proofs.Common.{◌≡◌, ℕ, ◌<◌, ◌≤◌, ◌==◌, inl, inr, Bool, false, Option, Some, None, refl, sym, ap, subst, ◌∙◌, arith}
use Rattle.std.specs.Prelude.{◌↔◌, IfSome, IsTrue}
use Rattle.std.proofs.lemmas.Bool.{eqb-true, cases_Bool}
use Rattle.tx_types.specs.declared.key.Key.{Key}
use Rattle.tx_types.specs.declared.mutation.Mode.{Mode}
use Rattle.tx_types.specs.declared.mutation.Mode.TheVariants.{TwoPhase, Async}
use Rattle.tx_plan.specs.declared.body.Body.{Body}
use Rattle.tx_plan.specs.declared.body.Body.TheVariants as body
use Rattle.tx_plan.specs.declared.body.Prewrite.{Prewrite}
use Rattle.tx_types.specs.Keys.{IsInsert}
use Rattle.tx_plan.specs.declared.body.Get.{Get}
use Rattle.tx_plan.specs.declared.body.Commit.{Commit}
use Rattle.tx_plan.specs.declared.body.BatchRollback.{BatchRollback}
use Rattle.tx_plan.specs.declared.body.CheckTxnStatus.{CheckTxnStatus}
use Rattle.tx_plan.specs.declared.body.CheckSecondaryLocks.{CheckSecondaryLocks}
use Rattle.tx_plan.specs.declared.body.ResolveLock.{ResolveLock}
use Rattle.tx_plan.specs.declared.view.ReadView.{ReadView}
use Rattle.tx_plan.specs.declared.view.TxnView.{TxnView}
use Rattle.tx_plan.specs.RealChanges.{Makes}
use Rattle.tx_plan.specs.cases.Get.{AnswersGet}
use Rattle.tx_plan.specs.cases.Commit.{AnswersCommit}
use Rattle.tx_plan.specs.cases.BatchRollback.{AnswersBatchRollback}
use Rattle.tx_plan.specs.cases.CheckTxnStatus.{AnswersCheckTxnStatus}
use Rattle.tx_plan.specs.cases.CheckSecondaryLocks.{AnswersCheckSecondaryLocks}
use Rattle.tx_plan.specs.cases.ResolveLock.{AnswersResolveLock}
use Rattle.tx_region.specs.declared.copy.KeyView.TheVariants as view
use Rattle.tx_plan.specs.declared.answer.Answer.{Answer}
use Rattle.tx_plan.specs.declared.answer.Answer.TheVariants.{Prewritten}
use Rattle.tx_plan.specs.declared.key_change.KeyChange.{KeyChange}
use Rattle.tx_plan.specs.declared.key_change.KeyChange.TheVariants as change
use Rattle.tx_plan.specs.declared.planned_answer.Plan.{Plan}
use Rattle.tx_plan.specs.Cells.{Lock, Cells, Region, with_cells}
use Rattle.tx_plan.specs.Answers.{AnswersFrom, leaves, leaves_on}
use Rattle.tx_plan.specs.Changes.{changed, Applies, new_lock, after_put, put, CanPut}
use Rattle.tx_plan.specs.LockCommit.{commit_in}
use Rattle.tx_plan.specs.Plans.{answer_with, with_read, read_upto}
use Rattle.tx_plan.specs.Views.{Shows, ShowsRead, info_on}
use Rattle.tx_plan.specs.cases.Prewrite.{AnswersPrewrite, read_by_prewrite, HasValue, least_minimum, IsWithin, lock_of, locked}
use Rattle.tx_cells.specs.Contents.{Content}
use Rattle.tx_region.specs.Calls.{Executes, CarriesOut}
use Rattle.tx_region.specs.Copies.{key_in, SameKey, SeesRead, SeesTxn, SeesPrewrite, Sees, LooksLike, made, IsPlan, promised}
use Rattle.tx_region.specs.TakenRequests.{NeedsMark}
use Rattle.tx_region.specs.declared.copy.KeyView.{KeyView}
use Rattle.tx_region.specs.declared.copy.RegionNumbers.{RegionNumbers}
use Rattle.tx_region.proofs.Basics.{key_test, cond_true}
use Rattle.tx_region.proofs.PlanEffects.{region_by, with_same}

-- ---- what looks like a copy

pub same_itself : (k : Key) (region : Region) → SameKey k region region
same_itself k region = record { cells = refl; safe = refl; collected = refl }

sees_same : (b : Body) (one other : Key → Cells) (v : KeyView) → one (key_in b) ≡ other (key_in b) → Sees one b v
    → Sees other b v
sees_same (body.Get b) one other v same sees = subst (λ cells. SeesRead cells b.at v) same sees
sees_same (body.Prewrite b) one other v same sees = subst (λ cells. SeesPrewrite cells b v) same sees
sees_same (body.Commit b) one other v same sees = subst (λ cells. SeesTxn cells b.start b.commit v) same sees
sees_same (body.BatchRollback b) one other v same sees = subst (λ cells. SeesTxn cells b.start b.start v) same sees
sees_same (body.TxnHeartBeat b) one other v same sees = subst (λ cells. SeesTxn cells b.start b.start v) same sees
sees_same (body.CheckTxnStatus b) one other v same sees = subst (λ cells. SeesTxn cells b.start b.start v) same sees
sees_same (body.CheckSecondaryLocks b) one other v same sees =
    subst (λ cells. SeesTxn cells b.start b.start v) same sees
sees_same (body.ResolveLock b) one other v same sees =
    subst (λ cells. SeesTxn cells b.start (commit_in b.fate) v) same sees
sees_same (body.Scan b) one other v same sees = absurd sees
sees_same (body.RaiseSafe b) one other v same sees = absurd sees
sees_same (body.LocksBelow b) one other v same sees = absurd sees
sees_same (body.Collect b) one other v same sees = absurd sees

-- where a key is the same, a region looks like the copy of the other
pub looks_same : (b : Body) (one other : Region) (v : KeyView) (numbers : RegionNumbers) → SameKey (key_in b) one other
    → LooksLike one b v numbers → LooksLike other b v numbers
looks_same b one other v numbers same looks = record {
  sees = sees_same b one.cells other.cells v same.cells looks.sees;
  safe = looks.safe ∙ same.safe;
  collected = looks.collected ∙ same.collected;
}

-- ---- plans of copies

-- a key that gets the cells that it had
keyed_same : (region : Region) (read : Option ℕ) (key : Key)
    → with_read (with_cells region key (region.cells key)) read ≡ with_read region read
keyed_same region read key = ap (λ r. with_read r read) (with_same region key)

module _ (mark loaded : ℕ) (region : Region) (numbers : RegionNumbers) (p : Plan) where
  -- what the plan answers on a key
  abbrev on : Key → Answer
  on key = answer_with (info_on (region.cells key) key) p.answer

  pub get_plan : (b : Get) (v : ReadView) → LooksLike region (body.Get b) (view.Read v) numbers
      → ((cells : Cells) → ShowsRead cells b.at v
      → AnswersGet cells numbers.safe loaded b (answer_with (info_on cells b.key) p.answer))
      → ((cells : Cells) → ShowsRead cells b.at v → (r : Region)
      → leaves r (body.Get b) (answer_with (info_on cells b.key) p.answer) ≡ with_read r p.read)
      → p.change ≡ change.Nothing → IsPlan mark region loaded (body.Get b) p
  get_plan b v looks answers gives none = record {
    answers = subst (λ s. AnswersGet (region.cells b.key) s loaded b (on b.key)) looks.safe
        (answers (region.cells b.key) looks.sees);
    leaves = ap (λ c. with_read (with_cells region b.key (changed (region.cells b.key) c)) p.read) none
        ∙ (keyed_same region p.read b.key ∙ sym (gives (region.cells b.key) looks.sees region));
    may = none;
  }

  pub prewrite_plan : (b : Prewrite) (v : TxnView) (has : Bool)
      → LooksLike region (body.Prewrite b) (view.Prewrite v has) numbers
      → ((cells : Cells) (commit : ℕ) → Shows cells b.start commit v
      → (IsInsert b.mutation → IsTrue has ↔ HasValue cells.write b.start)
      → AnswersPrewrite cells numbers.safe loaded (λ m. m ≡ least_minimum mark b) b
      (answer_with (info_on cells b.key) p.answer))
      → ((cells : Cells) (commit : ℕ) → Shows cells b.start commit v
      → after_put cells b (new_lock p.change) ≡ leaves_on cells (body.Prewrite b)
      (answer_with (info_on cells b.key) p.answer))
      → ((cells : Cells) (commit : ℕ) → Shows cells b.start commit v
      → IfSome (new_lock p.change) (λ new. CanPut cells b new))
      → ((cells : Cells) (commit : ℕ)
      → Shows cells b.start commit v
      → p.read ≡ read_by_prewrite (answer_with (info_on cells b.key) p.answer) cells.lock b)
      → IsPlan mark region loaded (body.Prewrite b) p
  prewrite_plan b v has looks answers puts applies reads =
      let cells = region.cells b.key in
      record {
        answers = subst (λ s. AnswersPrewrite cells s loaded (λ m. m ≡ least_minimum mark b) b (on b.key)) looks.safe
            (answers cells b.start looks.sees.0 looks.sees.1);
        leaves = λ i. with_read (with_cells region b.key (puts cells b.start looks.sees.0 i))
            (reads cells b.start looks.sees.0 i);
        may = applies cells b.start looks.sees.0;
      }

  -- a plan of another request, by its table and what its answers leave of the cells
  on_key : (b : Body) (key : Key) (new : Cells) → p.read ≡ None → changed (region.cells key) p.change
      ≡ new → with_read (with_cells region key (changed (region.cells key) p.change)) p.read ≡ with_cells region key new
  on_key b key new unread makes_it =
      ap (λ r. with_read (with_cells region key (changed (region.cells key) p.change)) r) unread
      ∙ ap (λ c. with_cells region key c) makes_it

  pub commit_plan : (b : Commit) (v : TxnView) → LooksLike region (body.Commit b) (view.Txn v) numbers
      → ((cells : Cells) → Shows cells b.start b.commit v
      → AnswersCommit cells numbers.collected b (answer_with (info_on cells b.key) p.answer))
      → ((cells : Cells) → Shows cells b.start b.commit v
      → changed cells p.change ≡ leaves_on cells (body.Commit b) (answer_with (info_on cells b.key) p.answer))
      → ((cells : Cells) → Shows cells b.start b.commit v → Applies cells p.change)
      → ((cells : Cells) → Shows cells b.start b.commit v → Makes cells p.change) → p.read ≡ None
      → IsPlan mark region loaded (body.Commit b) p
  commit_plan b v looks answers gives applies makes unread =
      let cells = region.cells b.key in
      record {
        answers = subst (λ s. AnswersCommit cells s b (on b.key)) looks.collected (answers cells looks.sees);
        leaves = on_key (body.Commit b) b.key (leaves_on cells (body.Commit b) (on b.key)) unread
            (gives cells looks.sees);
        may = (applies cells looks.sees, makes cells looks.sees);
      }

  pub batch_rollback_plan : (b : BatchRollback) (v : TxnView)
      → LooksLike region (body.BatchRollback b) (view.Txn v) numbers
      → ((cells : Cells) (commit : ℕ)
      → Shows cells b.start commit v
      → AnswersBatchRollback cells numbers.collected b (answer_with (info_on cells b.key) p.answer))
      → ((cells : Cells) (commit : ℕ) → Shows cells b.start commit v
      → changed cells p.change ≡ leaves_on cells (body.BatchRollback b)
      (answer_with (info_on cells b.key) p.answer))
      → ((cells : Cells) (commit : ℕ) → Shows cells b.start commit v → Applies cells p.change)
      → ((cells : Cells) (commit : ℕ) → Shows cells b.start commit v → Makes cells p.change) → p.read ≡ None
      → IsPlan mark region loaded (body.BatchRollback b) p
  batch_rollback_plan b v looks answers gives applies makes unread =
      let cells = region.cells b.key in
      record {
        answers = subst (λ s. AnswersBatchRollback cells s b (on b.key)) looks.collected
            (answers cells b.start looks.sees);
        leaves = on_key (body.BatchRollback b) b.key (leaves_on cells (body.BatchRollback b) (on b.key)) unread
            (gives cells b.start looks.sees);
        may = (applies cells b.start looks.sees, makes cells b.start looks.sees);
      }

  pub check_txn_status_plan : (b : CheckTxnStatus) (v : TxnView)
      → LooksLike region (body.CheckTxnStatus b) (view.Txn v) numbers
      → ((cells : Cells) (commit : ℕ)
      → Shows cells b.start commit v
      → AnswersCheckTxnStatus cells numbers.collected loaded b (answer_with (info_on cells b.key) p.answer))
      → ((cells : Cells) (commit : ℕ) → Shows cells b.start commit v
      → changed cells p.change ≡ leaves_on cells (body.CheckTxnStatus b)
      (answer_with (info_on cells b.key) p.answer))
      → ((cells : Cells) (commit : ℕ) → Shows cells b.start commit v → Applies cells p.change)
      → ((cells : Cells) (commit : ℕ) → Shows cells b.start commit v → Makes cells p.change) → p.read ≡ None
      → IsPlan mark region loaded (body.CheckTxnStatus b) p
  check_txn_status_plan b v looks answers gives applies makes unread =
      let cells = region.cells b.key in
      record {
        answers = subst (λ s. AnswersCheckTxnStatus cells s loaded b (on b.key)) looks.collected
            (answers cells b.start looks.sees);
        leaves = on_key (body.CheckTxnStatus b) b.key (leaves_on cells (body.CheckTxnStatus b) (on b.key)) unread
            (gives cells b.start looks.sees);
        may = (applies cells b.start looks.sees, makes cells b.start looks.sees);
      }

  pub check_secondary_locks_plan : (b : CheckSecondaryLocks) (v : TxnView)
      → LooksLike region (body.CheckSecondaryLocks b) (view.Txn v) numbers
      → ((cells : Cells) (commit : ℕ)
      → Shows cells b.start commit v
      → AnswersCheckSecondaryLocks cells numbers.collected b (answer_with (info_on cells b.key) p.answer))
      → ((cells : Cells) (commit : ℕ) → Shows cells b.start commit v
      → changed cells p.change ≡ leaves_on cells (body.CheckSecondaryLocks b)
      (answer_with (info_on cells b.key) p.answer))
      → ((cells : Cells) (commit : ℕ) → Shows cells b.start commit v → Applies cells p.change)
      → ((cells : Cells) (commit : ℕ) → Shows cells b.start commit v → Makes cells p.change) → p.read ≡ None
      → IsPlan mark region loaded (body.CheckSecondaryLocks b) p
  check_secondary_locks_plan b v looks answers gives applies makes unread =
      let cells = region.cells b.key in
      record {
        answers = subst (λ s. AnswersCheckSecondaryLocks cells s b (on b.key)) looks.collected
            (answers cells b.start looks.sees);
        leaves = on_key (body.CheckSecondaryLocks b) b.key (leaves_on cells (body.CheckSecondaryLocks b) (on b.key))
            unread (gives cells b.start looks.sees);
        may = (applies cells b.start looks.sees, makes cells b.start looks.sees);
      }

  pub resolve_lock_plan : (b : ResolveLock) (v : TxnView) → LooksLike region (body.ResolveLock b) (view.Txn v) numbers
      → ((cells : Cells) → Shows cells b.start (commit_in b.fate) v
      → AnswersResolveLock cells numbers.collected b (answer_with (info_on cells b.key) p.answer))
      → ((cells : Cells) → Shows cells b.start (commit_in b.fate) v
      → changed cells p.change ≡ leaves_on cells (body.ResolveLock b) (answer_with (info_on cells b.key) p.answer))
      → ((cells : Cells) → Shows cells b.start (commit_in b.fate) v → Applies cells p.change)
      → ((cells : Cells) → Shows cells b.start (commit_in b.fate) v → Makes cells p.change) → p.read ≡ None
      → IsPlan mark region loaded (body.ResolveLock b) p
  resolve_lock_plan b v looks answers gives applies makes unread =
      let cells = region.cells b.key in
      record {
        answers = subst (λ s. AnswersResolveLock cells s b (on b.key)) looks.collected (answers cells looks.sees);
        leaves = on_key (body.ResolveLock b) b.key (leaves_on cells (body.ResolveLock b) (on b.key)) unread
            (gives cells looks.sees);
        may = (applies cells looks.sees, makes cells looks.sees);
      }

-- ---- plans that are carried out

module _ (content : Content) (s c : ℕ) (after : ℕ → Region) (mark loaded : ℕ) (b : Body) (p : Plan) (a : Answer)
    (read : Option ℕ)
    (out : (n : ℕ) → CarriesOut
    (region_by content n s c) (key_in b) (made b ((region_by content n s c).cells (key_in b)) p.change) p a read
    (after n)) where
  pub planned_answers : (n : ℕ) → IsPlan mark (region_by content n s c) loaded b p
      → AnswersFrom mark (region_by content n s c) loaded b a
  planned_answers n plan = subst (AnswersFrom mark (region_by content n s c) loaded b) (sym (out n).answer) plan.answers

  pub planned_leaves : (n : ℕ)
      → IsPlan mark (region_by content n s c) loaded b p
      → after (read_upto read n) ≡ leaves (region_by content n s c) b a
  planned_leaves n plan =
      let k = key_in b in
      let cells = (region_by content n s c).cells k in
      (out (read_upto read n)).leaves
      ∙ (ap (λ r. with_cells (region_by content (read_upto r n) s c) k (made b cells p.change)) (out n).reads
      ∙ (plan.leaves ∙ ap (λ x. leaves (region_by content n s c) b x) (sym (out n).answer)))

  pub executes_plan : ((n : ℕ) → IsPlan mark (region_by content n s c) loaded b p)
      → Executes mark (λ n. region_by content n s c) loaded b a read after
  executes_plan plans = record { answers = λ n. planned_answers n (plans n); leaves = λ n. planned_leaves n (plans n) }

-- ---- a greater mark

none_is : (o : Option Lock) → ((x : Lock) → o ≡ Some x → ⊥) → o ≡ None
none_is None never = refl
none_is (Some x) never = absurd (never x refl)

within_less : (o : Option ℕ) (m n : ℕ) → m ≤ n → IsWithin o n → IsWithin o m
within_less None m n le is = tt
within_less (Some x) m n le is = omega (arith, le, is)

least_more : (mark high : ℕ) (b : Prewrite) → mark ≤ high → least_minimum mark b ≤ least_minimum high b
least_more mark high b le = omega (arith, le)

least_above : (mark : ℕ) (b : Prewrite) → 0 < least_minimum mark b
least_above mark b = omega arith

-- a minimum above a greater mark is the least above that too
least_still : (mark high m : ℕ) (b : Prewrite) → mark ≤ high → high < m → m ≡ least_minimum mark b
    → m ≡ least_minimum high b
least_still mark high m b le lt e = omega (arith, le, lt, e)

abbrev mode_of : Option Lock → Mode
mode_of None = TwoPhase
mode_of (Some lock) = lock.mode

abbrev min_of : Option Lock → ℕ
min_of None = 0
min_of (Some lock) = lock.min

nonzero : (m : ℕ) → 0 < m → (m == 0) ≡ false
nonzero m some = elim (cases_Bool (m == 0)) [
  | inl e ↦ absurd (let zero = eqb-true m 0 e in omega (arith, zero, some))
  | inr e ↦ e
]

-- the lock that is put has the minimum that the answer promises
puts_promised : (cells : Cells) (b : Prewrite) (c : KeyChange) (m high : ℕ) → cells.lock ≡ None → 0 < m
    → after_put cells b (new_lock c) ≡ leaves_on cells (body.Prewrite b) (Prewritten m)
    → IfSome (promised c) (λ n. high < n) → high < m
puts_promised cells b (change.Lock new) m high free some puts above =
    let locks : Some (put b new) ≡ Some (locked cells.lock b m) = ap (λ (x : Cells). x.lock) puts in
    let is : Some (put b new) ≡ Some (lock_of b m) = locks ∙ ap (λ o. Some (locked o b m)) free in
    let not_zero : (m == 0) ≡ false = nonzero m some in
    let mode : new.mode ≡ Async = ap mode_of is ∙ rw not_zero refl in
    let min : new.min ≡ m = ap min_of is ∙ rw not_zero refl in
    let there : IfSome (elim new.mode [ TwoPhase ↦ None | Async ↦ Some new.min ]) (λ n. high < n) = above in
    let here : high < new.min = (rw mode at there) in
    omega (arith, here, min)
puts_promised cells b change.Nothing m high free some puts above =
    absurd (let locks = ap (λ (x : Cells). x.lock) puts in cc (locks, free))
puts_promised cells b (change.Ttl t) m high free some puts above =
    absurd (let locks = ap (λ (x : Cells). x.lock) puts in cc (locks, free))
puts_promised cells b (change.Minimum t) m high free some puts above =
    absurd (let locks = ap (λ (x : Cells). x.lock) puts in cc (locks, free))
puts_promised cells b (change.Commit t o) m high free some puts above =
    absurd (let locks = ap (λ (x : Cells). x.lock) puts in cc (locks, free))
puts_promised cells b (change.RollBack t r l) m high free some puts above =
    absurd (let locks = ap (λ (x : Cells). x.lock) puts in cc (locks, free))

module _ (cells : Cells) (safe l : ℕ) (b : Prewrite) (a : Answer) (c : KeyChange) (mark high : ℕ)
    (more : b.mode ≡ Async → mark ≤ high) (above : IfSome (promised c) (λ m. high < m))
    (puts : after_put cells b (new_lock c) ≡ leaves_on cells (body.Prewrite b) a) where
  abbrev pub At : ℕ → Type 0
  At n = AnswersPrewrite cells safe l (λ m. m ≡ least_minimum n b) b a

  still : At mark → At high
  still (inl x) = inl x
  still (inr (no0, inl x)) = inr (no0, inl x)
  still (inr (no0, inr (no1, inl x))) = inr (no0, inr (no1, inl x))
  still (inr (no0, inr (no1, inr (no2, inl x)))) = inr (no0, inr (no1, inr (no2, inl x)))
  still (inr (no0, inr (no1, inr (no2, inr (no3, inl x))))) = inr (no0, inr (no1, inr (no2, inr (no3, inl x))))
  still (inr (no0, inr (no1, inr (no2, inr (no3, inr (no4, inl x)))))) =
      inr (no0, inr (no1, inr (no2, inr (no3, inr (no4, inl x)))))
  still (inr (no0, inr (no1, inr (no2, inr (no3, inr (no4, inr (no5, inl x))))))) =
      inr (no0, inr (no1, inr (no2, inr (no3, inr (no4, inr (no5, inl x))))))
  still (inr (no0, inr (no1, inr (no2, inr (no3, inr (no4, inr (no5, inr (no6, inl x)))))))) =
      inr (no0, inr (no1, inr (no2, inr (no3, inr (no4, inr (no5, inr (no6, inl x)))))))
  still (inr (
    no0,
    inr (
      no1,
      inr (no2, inr (no3, inr (no4, inr (no5, inr (no6, inr (no7, inl (mode, (m, e, inl x)))))))),
    ),
  )) =
      let some : 0 < m = (let least = least_above mark b in omega (arith, e, least)) in
      let lt : high < m = puts_promised cells b c m high (none_is cells.lock no5) some
      (puts ∙ ap (leaves_on cells (body.Prewrite b)) x.1) above in
      inr (
        no0,
        inr (
          no1,
          inr (
            no2,
            inr (
              no3,
              inr (
                no4,
                inr (
                  no5,
                  inr (no6, inr (no7, inl (mode, (m, least_still mark high m b (more mode) lt e, inl x)))),
                ),
              ),
            ),
          ),
        ),
      )
  still (inr (
    no0,
    inr (
      no1,
      inr (no2, inr (no3, inr (no4, inr (no5, inr (no6, inr (no7, inl (mode, (m, e, inr x)))))))),
    ),
  )) =
      let le : m ≤ least_minimum high b =
      (let more_now = least_more mark high b (more mode) in omega (arith, e, more_now)) in
      inr (
        no0,
        inr (
          no1,
          inr (
            no2,
            inr (
              no3,
              inr (
                no4,
                inr (
                  no5,
                  inr (
                    no6,
                    inr (
                      no7,
                      inl (
                        mode,
                        (
                          least_minimum high b,
                          refl,
                          inr (
                            λ within. x.0 (within_less b.max_commit m (least_minimum high b) le within),
                            x.1,
                          ),
                        ),
                      ),
                    ),
                  ),
                ),
              ),
            ),
          ),
        ),
      )
  still (inr (no0, inr (no1, inr (no2, inr (no3, inr (no4, inr (no5, inr (no6, inr (no7, inr x))))))))) =
      inr (no0, inr (no1, inr (no2, inr (no3, inr (no4, inr (no5, inr (no6, inr (no7, inr x))))))))

  pub prewrite_still : At mark → At high
  prewrite_still = still

-- what a plan answers stays right by a greater mark that lies below the minimum that it promises
pub plan_still : (b : Body) (region : Region) (loaded mark high : ℕ) (p : Plan)
    → (NeedsMark b → mark ≤ high) → IfSome (promised p.change) (λ m. high < m) → IsPlan mark region loaded b p
    → IsPlan high region loaded b p
plan_still b region loaded mark high p more above is =
    record { answers = at b more is; leaves = is.leaves; may = is.may }
  where
    cells_here : (q : Prewrite) (cells : Cells) → (with_cells region q.key cells).cells q.key ≡ cells
    cells_here q cells = elim (key_test q.key q.key) [ inl t ↦ cond_true _ _ _ t.0 | inr t ↦ absurd (t.1 refl) ]

    puts_here : (q : Prewrite) → IsPlan mark region loaded (body.Prewrite q) p → after_put (region.cells q.key) q
        (new_lock p.change) ≡ leaves_on (region.cells q.key) (body.Prewrite q)
        (answer_with (info_on (region.cells q.key) q.key) p.answer)
    puts_here q plan = sym (cells_here q _) ∙ (ap (λ (r : Region). r.cells q.key) plan.leaves ∙ cells_here q _)

    at : (q : Body) → (NeedsMark q → mark ≤ high)
        → IsPlan mark region loaded q p
        → AnswersFrom high region loaded q (answer_with (info_on (region.cells (key_in q)) (key_in q)) p.answer)
    at (body.Get q) more plan = plan.answers
    at (body.Scan q) more plan = plan.answers
    at (body.Prewrite q) more plan =
        prewrite_still (region.cells q.key) region.safe loaded q
        (answer_with (info_on (region.cells q.key) q.key) p.answer) p.change mark high more above
        (puts_here q plan) plan.answers
    at (body.Commit q) more plan = plan.answers
    at (body.BatchRollback q) more plan = plan.answers
    at (body.TxnHeartBeat q) more plan = plan.answers
    at (body.CheckTxnStatus q) more plan = plan.answers
    at (body.CheckSecondaryLocks q) more plan = plan.answers
    at (body.ResolveLock q) more plan = plan.answers
    at (body.RaiseSafe q) more plan = plan.answers
    at (body.LocksBelow q) more plan = plan.answers
    at (body.Collect q) more plan = plan.answers

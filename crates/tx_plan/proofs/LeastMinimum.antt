-- What a region answers with the least minimum above a mark is an answer of the tables.
use Rattle.std.proofs.Common.{◌≡◌, inl, inr, ℕ, ◌+◌, ◌<◌, ◌≤◌, max, arith}
use Rattle.std.proofs.lemmas.Bool.{cases_lt}
use Rattle.tx_types.specs.declared.mutation.Mode.TheVariants.{Async}
use Rattle.tx_plan.specs.declared.body.Prewrite.{Prewrite}
use Rattle.tx_types.specs.declared.key.Key.{Key}
use Rattle.tx_plan.specs.declared.body.Collect.{Collect}
use Rattle.tx_plan.specs.cases.Collect.{AnswersCollect, AnswersCollectBy, HasCollected}
use Rattle.tx_plan.specs.declared.body.Body.{Body}
use Rattle.tx_plan.specs.declared.body.Body.TheVariants as body
use Rattle.tx_plan.specs.declared.answer.Answer.{Answer}
use Rattle.tx_plan.specs.Cells.{Cells, Region}
use Rattle.tx_plan.specs.cases.Prewrite.{AnswersPrewrite, MayPromise, least_minimum}
use Rattle.tx_plan.specs.Answers.{floor_in, Answers, AnswersFrom}

-- the least minimum above a mark is one that may be promised
least_may : (max_read mark top : ℕ) (b : Prewrite) → max_read ≤ mark → mark ≤ top → b.start ≤ top → b.floor ≤ top + 1
    → (m : ℕ) → m ≡ least_minimum mark b → MayPromise max_read top b m
least_may max_read mark top b covers read upto floor m e =
    (omega (arith, e, covers), omega (arith, e, read, upto, floor))

not_above : (m n : ℕ) → (n < m → ⊥) → m ≤ n
not_above m n h = elim (cases_lt n m) [ inl l ↦ absurd (h l) | inr g ↦ g ]

-- a prewrite's table holds for more minimums, where they may be promised to a start that was loaded
pub more_promises : (cells : Cells) (safe loaded : ℕ) (P Q : ℕ → Type 0) (b : Prewrite) (a : Answer)
    → (b.start ≤ loaded → b.mode ≡ Async → (m : ℕ) → P m → Q m) → AnswersPrewrite cells safe loaded P b a
    → AnswersPrewrite cells safe loaded Q b a
more_promises cells safe loaded P Q b a f (inl x) = inl x
more_promises cells safe loaded P Q b a f (inr (n, inl x)) = inr (n, inl x)
more_promises cells safe loaded P Q b a f (inr (n, inr (n1, inl x))) = inr (n, inr (n1, inl x))
more_promises cells safe loaded P Q b a f (inr (n, inr (n1, inr (n2, inl x)))) = inr (n, inr (n1, inr (n2, inl x)))
more_promises cells safe loaded P Q b a f (inr (n, inr (n1, inr (n2, inr (n3, inl x))))) =
    inr (n, inr (n1, inr (n2, inr (n3, inl x))))
more_promises cells safe loaded P Q b a f (inr (n, inr (n1, inr (n2, inr (n3, inr (n4, inl x)))))) =
    inr (n, inr (n1, inr (n2, inr (n3, inr (n4, inl x)))))
more_promises cells safe loaded P Q b a f (inr (n, inr (n1, inr (n2, inr (n3, inr (n4, inr (n5, inl x))))))) =
    inr (n, inr (n1, inr (n2, inr (n3, inr (n4, inr (n5, inl x))))))
more_promises cells safe loaded P Q b a f (inr (n, inr (n1, inr (n2, inr (n3, inr (n4, inr (n5, inr (n6, inl x)))))))) =
    inr (n, inr (n1, inr (n2, inr (n3, inr (n4, inr (n5, inr (n6, inl x)))))))
more_promises cells safe loaded P Q b a f
    (inr (n, inr (n1, inr (n2, inr (n3, inr (n4, inr (n5, inr (n6, inr (n7, inl (async, (m, p, c))))))))))) =
    inr (
      n,
      inr (
        n1,
        inr (
          n2,
          inr (
            n3,
            inr (
              n4,
              inr (
                n5,
                inr (n6, inr (n7, inl (async, (m, f (not_above b.start loaded n1) async m p, c)))),
              ),
            ),
          ),
        ),
      ),
    )
more_promises cells safe loaded P Q b a f
    (inr (n, inr (n1, inr (n2, inr (n3, inr (n4, inr (n5, inr (n6, inr (n7, inr x))))))))) =
    inr (n, inr (n1, inr (n2, inr (n3, inr (n4, inr (n5, inr (n6, inr (n7, inr x))))))))

-- a collection that counts what it drops has collected
any_counts : (cells : Key → Cells) (safe : ℕ) (b : Collect) (a : Answer) → AnswersCollect cells safe b a
    → AnswersCollectBy HasCollected cells safe b a
any_counts cells safe b a (inl x) = inl x
any_counts cells safe b a (inr (n, inl x)) = inr (n, inl x)
any_counts cells safe b a (inr (n, inr (n1, (versions, all, is)))) = inr (n, inr (n1, (_, _, is)))

pub mark_admitted : (mark : ℕ) (region : Region) (loaded top : ℕ) (b : Body) (a : Answer) → region.max_read ≤ mark
    → mark ≤ top → loaded ≤ top → floor_in b ≤ top + 1 → AnswersFrom mark region loaded b a
    → Answers region loaded top b a
mark_admitted mark region loaded top (body.Get b) a covers read upto floor may = may
mark_admitted mark region loaded top (body.Scan b) a covers read upto floor may = may
mark_admitted mark region loaded top (body.Prewrite b) a covers read upto floor may =
    more_promises (region.cells b.key) region.safe loaded (λ m. m
    ≡ least_minimum mark b) (MayPromise region.max_read top b) b a
    (λ start async. least_may region.max_read mark top b covers read (omega (arith, start, upto)) floor) may
mark_admitted mark region loaded top (body.Commit b) a covers read upto floor may = may
mark_admitted mark region loaded top (body.BatchRollback b) a covers read upto floor may = may
mark_admitted mark region loaded top (body.TxnHeartBeat b) a covers read upto floor may = may
mark_admitted mark region loaded top (body.CheckTxnStatus b) a covers read upto floor may = may
mark_admitted mark region loaded top (body.CheckSecondaryLocks b) a covers read upto floor may = may
mark_admitted mark region loaded top (body.ResolveLock b) a covers read upto floor may = may
mark_admitted mark region loaded top (body.RaiseSafe b) a covers read upto floor may = may
mark_admitted mark region loaded top (body.LocksBelow b) a covers read upto floor may = may
mark_admitted mark region loaded top (body.Collect b) a covers read upto floor may =
    any_counts region.cells region.safe b a may

-- a read at the start of the transaction itself does not raise it
pub check_leaves : (mark : ℕ) (b : Prewrite) → least_minimum (max mark b.start) b ≡ least_minimum mark b
check_leaves mark b = omega arith

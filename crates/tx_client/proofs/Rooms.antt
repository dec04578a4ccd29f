-- A region answers a scan with at most as many rows as it asks for.
use Rattle.std.proofs.Common.{◌≡◌, ◌≤◌, ℕ, inl, inr, List, length, Ok, subst}
use Rattle.tx_types.specs.declared.key.Key.{Key}
use Rattle.tx_types.specs.declared.mutation.KeyValue.{KeyValue}
use Rattle.tx_plan.specs.declared.body.Body.{Body}
use Rattle.tx_plan.specs.declared.body.Body.TheVariants as request
use Rattle.tx_plan.specs.declared.body.Scan.{Scan}
use Rattle.tx_plan.specs.declared.answer.Answer.{Answer}
use Rattle.tx_plan.specs.declared.answer.Answer.TheVariants.{Rows}
use Rattle.tx_plan.specs.Cells.{Region}
use Rattle.tx_plan.specs.Answers.{Answers}
use Rattle.tx_core.specs.Histories.{History, last, left}
use Rattle.tx_core.specs.Worlds.{IsWorldRun}
use Rattle.tx_client.specs.Facts.{WasAnswered}
use Rattle.tx_client.specs.Rooms.{IsScan, HasUpto}
use Rattle.tx_client.proofs.Marks.{taken_there}

gives_upto : (r : Region) (l top : ℕ) (b : Scan) (a : Answer) (found : List KeyValue)
    → Answers r l top (request.Scan b) a → a ≡ Rows found → length found ≤ b.limit
gives_upto r l top b a found (inl x) e = absurd (cc (x.1, e))
gives_upto r l top b a found (inr (no0, inl x)) e = absurd (cc (x.1, e))
gives_upto r l top b a found (inr (no0, inr (no1, inl meets))) e = absurd (cc (meets.answer, e))
gives_upto r l top b a found (inr (no0, inr (no1, inr gives))) e =
    let same : gives.rows ≡ found = cc (gives.answer, e) in
    subst (λ (l : List KeyValue). length l ≤ b.limit) same gives.upto

module _ (bounds : List Key) (h : History) (run : IsWorldRun bounds h) where
  scanned_upto : (b : Scan) (found : List KeyValue) → WasAnswered h (request.Scan b) (Rows found)
      → length found ≤ b.limit
  scanned_upto b found was =
      let took = taken_there bounds h was.by run was.among in
      let gave : Answers (left took.0 was.by.region) was.by.loaded (last took.0) (request.Scan b) was.by.answer =
      subst (λ x. Answers (left took.0 was.by.region) was.by.loaded (last took.0) x was.by.answer) was.asked
      took.1.1.answers in
      gives_upto (left took.0 was.by.region) was.by.loaded (last took.0) b was.by.answer found gave was.told

  -- what answers a scan
  pub told_upto : (n : ℕ) (body : Body) → IsScan n body → (a : Answer) → WasAnswered h body a → HasUpto n (Ok a)
  told_upto n (request.Scan b) is (Rows found) was = subst (λ m. length found ≤ m) is (scanned_upto b found was)
  told_upto n (request.Scan b) is _ was = tt
  told_upto n _ is a was = absurd is

-- The numbers of a region lie at most at the last number drawn.
use Rattle.std.proofs.Common.{◌≡◌, ◌<◌, ◌≤◌, ◌⊎◌, ℕ, max, inl, inr, List, [], ◌∷◌, Option, Some, None, refl, ap, subst, arith}
use Rattle.std.proofs.lemmas.Bool.{cases_lt}
use Rattle.tx_types.specs.declared.key.Key.{Key}
use Rattle.tx_plan.specs.declared.body.Body.{Body}
use Rattle.tx_plan.specs.declared.body.Body.TheVariants as body
use Rattle.tx_plan.specs.declared.body.Collect.{Collect}
use Rattle.tx_plan.specs.declared.body.RaiseSafe.{RaiseSafe}
use Rattle.tx_plan.specs.declared.answer.Answer.{Answer}
use Rattle.tx_plan.specs.declared.answer.Answer.TheVariants.{Found, Nothing, Rows, Prewritten, KeyIsLocked, BelowSafePoint, FutureTimestamp, Raised, Collected, AlreadyExists}
use Rattle.tx_types.specs.declared.mutation.Mutation.{Mutation}
use Rattle.tx_types.specs.declared.mutation.Mutation.TheVariants as mutation
use Rattle.tx_plan.specs.declared.body.Prewrite.{Prewrite}
use Rattle.std.proofs.Math.Nat.{le-max_left}
use Rattle.tx_plan.specs.Cells.{Lock, Cells, Region}
use Rattle.tx_plan.specs.Answers.{Answers, leaves}
use Rattle.tx_plan.specs.Reads.{raised}
use Rattle.tx_plan.specs.cases.Collect.{AnswersCollectBy, HasCollected}
use Rattle.tx_plan.specs.Plans.{read_upto as rise}
use Rattle.tx_plan.specs.cases.Prewrite.{AnswersPrewrite, MayPromise, read_by_prewrite, check_by}
use Rattle.tx_plan.specs.cases.RaiseSafe.{AnswersRaiseSafe}
use Rattle.tx_core.specs.declared.event.Event.TheVariants.{Drawn, Began, Declared, Answered, Stopped, Took}
use Rattle.tx_core.specs.Histories.{History, last, left}
use Rattle.tx_core.specs.Worlds.{IsWorldRun}
use Rattle.tx_core.proofs.Basics.{nat_test}

-- what was read in a region and its safe point lie at most at top, and what it collected at most
-- at its safe point
pub record IsUpto (region : Region) (top : ℕ) : Type 0 where
  pub read : region.max_read ≤ top
  pub safe : region.safe ≤ top
  pub collected : region.collected ≤ region.safe

-- what is not below is at least
at_least : (m n : ℕ) → (m < n → ⊥) → n ≤ m
at_least m n never = elim (cases_lt m n) [ inl lt ↦ absurd (never lt) | inr le ↦ le ]

-- a read at most at top
raised_upto : (a : Answer) (r n top : ℕ) → n ≤ top → r ≤ top → raised a r n ≤ top
raised_upto (Found v) r n top low at = omega (arith, low, at)
raised_upto Nothing r n top low at = omega (arith, low, at)
raised_upto (Rows rows) r n top low at = omega (arith, low, at)
raised_upto (KeyIsLocked info) r n top low at = omega (arith, low, at)
raised_upto _ r n top low at = low

-- a read that its timestamp refuses does not count, and each other one lies at most
-- at what was loaded
read_upto : {P : Type 0} (a : Answer) (r safe loaded n top : ℕ) → n ≤ top → loaded ≤ top
    → ((r < safe) × (a ≡ BelowSafePoint safe))
    ⊎ ((r < safe → ⊥) × (((loaded < r) × (a ≡ FutureTimestamp loaded)) ⊎ ((loaded < r → ⊥) × P))) → raised a r n ≤ top
read_upto a r safe loaded n top low upto (inl x) = (let same = ap (λ y. raised y r n) x.1 in omega (arith, same, low))
read_upto a r safe loaded n top low upto (inr (no0, inl x)) =
    (let same = ap (λ y. raised y r n) x.1 in omega (arith, same, low))
read_upto a r safe loaded n top low upto (inr (no0, inr (no1, rest))) =
    (let within = at_least loaded r no1 in raised_upto a r n top low (omega (arith, within, upto)))

-- a prewrite reads at its start, or not at all
read_at_start : (a : Answer) (lock : Option Lock) (b : Prewrite)
    → (read_by_prewrite a lock b ≡ None) ⊎ (read_by_prewrite a lock b ≡ Some b.start)
read_at_start a lock b = by_answer a lock
  where
    checked : (m : Mutation) → (check_by m b.start ≡ None) ⊎ (check_by m b.start ≡ Some b.start)
    checked (mutation.Put v) = inl refl
    checked (mutation.Insert v) = inr refl
    checked mutation.Delete = inl refl
    checked mutation.Lock = inl refl

    by_answer : (a : Answer) (lock : Option Lock)
        → (read_by_prewrite a lock b ≡ None) ⊎ (read_by_prewrite a lock b ≡ Some b.start)
    by_answer AlreadyExists lock = checked b.mutation
    by_answer (Prewritten m) None = checked b.mutation
    by_answer (Prewritten m) (Some lock) = inl refl
    by_answer _ lock = inl refl

pub read_upto_start : (a : Answer) (lock : Option Lock) (b : Prewrite) (n : ℕ)
    → rise (read_by_prewrite a lock b) n ≤ max n b.start
read_upto_start a lock b n =
    let low : n ≤ max n b.start = le-max_left n b.start in
    elim (read_at_start a lock b) [
      | inl e ↦ (let same = ap (λ o. rise o n) e in omega (arith, same, low))
      | inr e ↦ (let same = ap (λ o. rise o n) e in omega (arith, same))
    ]

prewrite_upto : (Promise : ℕ → Type 0) (cells : Cells) (safe loaded n top : ℕ) (b : Prewrite) (a : Answer) → n ≤ top
    → loaded ≤ top → AnswersPrewrite cells safe loaded Promise b a → rise (read_by_prewrite a cells.lock b) n ≤ top
prewrite_upto Promise cells safe loaded n top b a low upto (inl x) =
    (let same = ap (λ y. rise (read_by_prewrite y cells.lock b) n) x.1 in omega (arith, same, low))
prewrite_upto Promise cells safe loaded n top b a low upto (inr (no0, inl x)) =
    (let same = ap (λ y. rise (read_by_prewrite y cells.lock b) n) x.1 in omega (arith, same, low))
prewrite_upto Promise cells safe loaded n top b a low upto (inr (no0, inr (no1, rest))) =
    let within = at_least loaded b.start no1 in
    elim (read_at_start a cells.lock b) [
      | inl e ↦ (let same = ap (λ o. rise o n) e in omega (arith, same, low))
      | inr e ↦ (let same = ap (λ o. rise o n) e in omega (arith, same, low, within, upto))
    ]

raise_upto : (region : Region) (loaded top : ℕ) (b : RaiseSafe) (a : Answer) → IsUpto region top → loaded ≤ top
    → AnswersRaiseSafe region.safe loaded b a → IsUpto (leaves region (body.RaiseSafe b) a) top
raise_upto region loaded top b Raised is upto (inl x) = absurd (cc (x.1))
raise_upto region loaded top b Raised is upto (inr (no0, inl x)) = absurd (cc (x.1))
raise_upto region loaded top b Raised is upto (inr (no0, inr (no1, rest))) =
    let within = at_least loaded b.safe no0 in
    let rises = at_least b.safe region.safe no1 in
    record { read = is.read; safe = omega (arith, within, upto); collected = omega (arith, is.collected, rises) }
raise_upto region loaded top b _ is upto answers = is

collect_upto : (region : Region) (top : ℕ) (b : Collect) (a : Answer) → IsUpto region top
    → AnswersCollectBy HasCollected region.cells region.safe b a → IsUpto (leaves region (body.Collect b) a) top
collect_upto region top b (Collected records values) is (inl x) = absurd (cc (x.1))
collect_upto region top b (Collected records values) is (inr (no0, rest)) =
    elim (nat_test b.safe region.safe) [
      | inl same ↦
          record { read = is.read; safe = is.safe; collected = omega (arith, same.1) }
      | inr other ↦ absurd (no0 other.1)
    ]
collect_upto region top b _ is answers = is

-- an answer keeps it, where the region loaded at most top
answer_upto : (region : Region) (loaded top : ℕ) (body : Body) (a : Answer) → IsUpto region top → loaded ≤ top
    → Answers region loaded top body a → IsUpto (leaves region body a) top
answer_upto region loaded top (body.Get b) a is upto answers =
    record {
      read = read_upto a b.at region.safe loaded region.max_read top is.read upto answers;
      safe =
          is.safe;
      collected = is.collected;
    }
answer_upto region loaded top (body.Scan b) a is upto answers =
    record {
      read = read_upto a b.at region.safe loaded region.max_read top is.read upto answers;
      safe =
          is.safe;
      collected = is.collected;
    }
answer_upto region loaded top (body.Prewrite b) a is upto answers =
    record {
      read = prewrite_upto (MayPromise region.max_read top b) (region.cells b.key) region.safe loaded
          region.max_read top b a is.read upto answers;
      safe = is.safe;
      collected = is.collected;
    }
answer_upto region loaded top (body.Commit b) a is upto answers =
    record { read = is.read; safe = is.safe; collected = is.collected }
answer_upto region loaded top (body.BatchRollback b) a is upto answers =
    record { read = is.read; safe = is.safe; collected = is.collected }
answer_upto region loaded top (body.TxnHeartBeat b) a is upto answers =
    record { read = is.read; safe = is.safe; collected = is.collected }
answer_upto region loaded top (body.CheckTxnStatus b) a is upto answers =
    record { read = is.read; safe = is.safe; collected = is.collected }
answer_upto region loaded top (body.CheckSecondaryLocks b) a is upto answers =
    record { read = is.read; safe = is.safe; collected = is.collected }
answer_upto region loaded top (body.ResolveLock b) a is upto answers =
    record { read = is.read; safe = is.safe; collected = is.collected }
answer_upto region loaded top (body.RaiseSafe b) a is upto answers = raise_upto region loaded top b a is upto answers
answer_upto region loaded top (body.LocksBelow b) a is upto answers = is
answer_upto region loaded top (body.Collect b) a is upto answers = collect_upto region top b a is answers

-- a greater bound
upto_more : (region : Region) (top more : ℕ) → top ≤ more → IsUpto region top → IsUpto region more
upto_more region top more le is =
    record { read = omega (arith, is.read, le); safe = omega (arith, is.safe, le); collected = is.collected }

-- in a world run they lie at most at the last number drawn
pub left_upto : (bounds : List Key) (h : History) → IsWorldRun bounds h → (n : ℕ) → IsUpto (left h n) (last h)
left_upto bounds [] run n = record { read = omega arith; safe = omega arith; collected = omega arith }
left_upto bounds (Drawn s m ∷ h) run n =
    upto_more (left h n) (last h) m (omega (arith, run.1)) (left_upto bounds h run.0 n)
left_upto bounds (Began t ∷ h) run n = left_upto bounds h run.0 n
left_upto bounds (Declared d ∷ h) run n = left_upto bounds h run.0 n
left_upto bounds (Answered t o ∷ h) run n = left_upto bounds h run.0 n
left_upto bounds (Stopped s ∷ h) run n = left_upto bounds h run.0 n
left_upto bounds (Took x ∷ h) run n =
    elim (nat_test x.region n) [
      | inl same ↦ rw same.0
          (subst (λ m. IsUpto (leaves (left h m) x.body x.answer) (last h)) same.1
          (taken (left_upto bounds h run.0 x.region)))
      | inr other ↦ rw other.0 (left_upto bounds h run.0 n)
    ]
  where
    taken : IsUpto (left h x.region) (last h) → IsUpto (leaves (left h x.region) x.body x.answer) (last h)
    taken is = answer_upto (left h x.region) x.loaded (last h) x.body x.answer is
        run.1.loaded run.1.answers

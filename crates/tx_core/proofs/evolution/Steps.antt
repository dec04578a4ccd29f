-- A region goes on by each of its answers.
use Rattle.std.proofs.Common.{◌≡◌, ◌≢◌, ◌⊎◌, ℕ, ◌≤◌, ◌==◌, inl, inr, true, false, cond, bytes_eq, Option, subst, arith}
use Rattle.std.proofs.lemmas.Bool.{cases_Bool, cases_lt, eqb-true, eqb-false}
use Rattle.std.proofs.lemmas.Slice.Eq.{bytes_eq-Decides}
use Rattle.tx_types.specs.declared.key.Key.{Key}
use Rattle.tx_plan.specs.declared.body.Body.{Body}
use Rattle.tx_plan.specs.declared.body.Body.TheVariants as body
use Rattle.tx_plan.specs.declared.body.Collect.{Collect}
use Rattle.tx_plan.specs.declared.body.RaiseSafe.{RaiseSafe}
use Rattle.tx_plan.specs.declared.answer.Answer.{Answer}
use Rattle.tx_plan.specs.declared.answer.Answer.TheVariants.{Raised, Collected}
use Rattle.tx_plan.specs.Cells.{Region, Cells, with_cells, new_region}
use Rattle.tx_plan.specs.Answers.{Answers, leaves}
use Rattle.tx_plan.specs.Plans.{with_read}
use Rattle.tx_plan.specs.cases.Collect.{AnswersCollectBy, HasCollected, kept}
use Rattle.tx_plan.specs.cases.RaiseSafe.{AnswersRaiseSafe}
use Rattle.tx_plan.proofs.Sound.{sound_none}
use Rattle.tx_core.specs.Later.{IsRegular, AreRegular, IsLater, GoesOn}
use Rattle.tx_core.proofs.evolution.Order.{later_same, later_more}
use Rattle.tx_core.proofs.evolution.Keys.{IsFine, kept_regular, kept_later}
use Rattle.tx_core.proofs.evolution.Tables.{fine_prewrite, fine_commit, fine_batch_rollback, fine_txn_heart_beat, fine_check_txn_status, fine_check_secondary_locks, fine_resolve_lock}

key_test : (a b : Key) → ((bytes_eq a b ≡ true) × (a ≡ b)) ⊎ ((bytes_eq a b ≡ false) × (a ≢ b))
key_test a b =
    elim (cases_Bool (bytes_eq a b)) [
      | inl e ↦ inl (e, (bytes_eq-Decides a b).0 e)
      | inr e ↦ inr (e, λ same. cc ((bytes_eq-Decides a b).1 same, e))
    ]

-- what a step of a region gives
pub record Steps (before after : Region) : Type 0 where
  pub regular : AreRegular after
  pub goes_on : GoesOn before after

pub new_regular : AreRegular new_region
new_regular = record {
  keys =
      λ k. record {
        sound = sound_none;
        unrolled = λ lock e. absurd (cc e);
        settled =
            λ q lt. absurd (omega (arith, lt));
      };
  low = omega arith;
}

module _ (before : Region) (is : AreRegular before) where
  still : Steps before before
  still = record {
    regular = is;
    goes_on =
        record { rises = omega arith; safe = omega arith; later = λ e k. later_same (before.cells k) };
  }

  -- the numbers alone change
  marked : (max_read : ℕ)
      → Steps before (record {
        cells = before.cells;
        max_read = max_read;
        safe = before.safe;
        collected =
            before.collected;
      })
  marked max_read = record {
    regular = record { keys = is.keys; low = is.low };
    goes_on =
        record { rises = omega arith; safe = omega arith; later = λ e k. later_same (before.cells k) };
  }

  -- one key changes
  keyed : (k : Key) (new : Cells) → IsFine before.collected (before.cells k) new
      → Steps before (with_cells before k new)
  keyed k new fine = record {
    regular = record { keys = λ q. at (IsRegular before.collected) q fine.regular (is.keys q); low = is.low };
    goes_on = record { rises = omega arith; safe = omega arith; later = λ e q. later q };
  }
    where
      at : (P : Cells → Type 0) (q : Key) → P new → P (before.cells q) → P (cond (bytes_eq k q) new (before.cells q))
      at P q p o = elim (key_test k q) [ inl x ↦ rw x.0 p | inr x ↦ rw x.0 o ]

      later : (q : Key) → IsLater (before.cells q) (cond (bytes_eq k q) new (before.cells q))
      later q = elim (key_test k q) [
        | inl x ↦ rw x.0 (subst (λ z. IsLater (before.cells z) new) x.1 fine.later)
        | inr x ↦ rw x.0 (later_same (before.cells q))
      ]

  -- so, and something may have been read
  read_keyed : (k : Key) (new : Cells) (read : Option ℕ) → IsFine before.collected (before.cells k) new
      → Steps before (with_read (with_cells before k new) read)
  read_keyed k new read fine =
      let one = keyed k new fine in
      record {
        regular = record { keys = one.regular.keys; low = one.regular.low };
        goes_on = record { rises = one.goes_on.rises; safe = one.goes_on.safe; later = one.goes_on.later };
      }

  raises : (loaded : ℕ) (b : RaiseSafe) (a : Answer) → AnswersRaiseSafe before.safe loaded b a
      → Steps before (leaves before (body.RaiseSafe b) a)
  raises loaded b Raised (inl x) = absurd (cc (x.1))
  raises loaded b Raised (inr (no0, inl x)) = absurd (cc (x.1))
  raises loaded b Raised (inr (no0, inr (no1, rest))) =
      let up : before.safe ≤ b.safe = elim (cases_lt b.safe before.safe) [ inl lt ↦ absurd (no1 lt) | inr le ↦ le ] in
      record {
        regular = record { keys = is.keys; low = omega (arith, is.low, up) };
        goes_on =
            record { rises = omega arith; safe = up; later = λ e k. later_same (before.cells k) };
      }
  raises loaded b _ answers = still

  collects : (b : Collect) (a : Answer) → AnswersCollectBy HasCollected before.cells before.safe b a
      → Steps before (leaves before (body.Collect b) a)
  collects b (Collected records values) (inl x) = absurd (cc (x.1))
  collects b (Collected records values) (inr (no0, rest)) =
      let same : b.safe ≡ before.safe =
      elim (cases_Bool (b.safe == before.safe)) [
        | inl e ↦ eqb-true b.safe before.safe e
        | inr e ↦ absurd (no0 (eqb-false b.safe before.safe e))
      ] in
      record {
        regular = record {
          keys = λ k. kept_regular before.collected b.safe (before.cells k) (is.keys k);
          low =
              omega (arith, same);
        };
        goes_on = record {
          rises = omega (arith, is.low, same);
          safe = omega arith;
          later = λ e k. subst (λ x. IsLater (before.cells k) (kept (before.cells k) x)) e
              (kept_later before.collected (before.cells k) (is.keys k));
        };
      }
  collects b _ answers = still

  pub steps : (loaded top : ℕ) (b : Body) (a : Answer) → Answers before loaded top b a
      → Steps before (leaves before b a)
  steps loaded top (body.Get b) a x = marked _
  steps loaded top (body.Scan b) a x = marked _
  steps loaded top (body.Prewrite b) a x =
      read_keyed b.key _ _ (fine_prewrite before.collected (before.cells b.key) (is.keys b.key) b before.safe loaded _
      (λ m may. omega (arith, may.0)) a x)
  steps loaded top (body.Commit b) a x =
      keyed b.key _ (fine_commit before.collected (before.cells b.key) (is.keys b.key) b a x)
  steps loaded top (body.BatchRollback b) a x =
      keyed b.key _ (fine_batch_rollback before.collected (before.cells b.key) (is.keys b.key) b a x)
  steps loaded top (body.TxnHeartBeat b) a x =
      keyed b.key _ (fine_txn_heart_beat before.collected (before.cells b.key) (is.keys b.key) b a x)
  steps loaded top (body.CheckTxnStatus b) a x =
      keyed b.key _ (fine_check_txn_status before.collected (before.cells b.key) (is.keys b.key) b loaded a x)
  steps loaded top (body.CheckSecondaryLocks b) a x =
      keyed b.key _ (fine_check_secondary_locks before.collected (before.cells b.key) (is.keys b.key) b a x)
  steps loaded top (body.ResolveLock b) a x =
      keyed b.key _ (fine_resolve_lock before.collected (before.cells b.key) (is.keys b.key) b a x)
  steps loaded top (body.RaiseSafe b) a x = raises loaded b a x
  steps loaded top (body.LocksBelow b) a x = still
  steps loaded top (body.Collect b) a x = collects b a x

pub goes_more : (a b c : Region) → GoesOn a b → GoesOn b c → GoesOn a c
goes_more a b c x y = record {
  rises = omega (arith, x.rises, y.rises);
  safe = omega (arith, x.safe, y.safe);
  later = λ e k.
      let first : a.collected ≡ b.collected = omega (arith, e, x.rises, y.rises) in
      let second : b.collected ≡ c.collected = omega (arith, e, first) in
      later_more (a.cells k) (b.cells k) (c.cells k) (x.later first k) (y.later second k);
}

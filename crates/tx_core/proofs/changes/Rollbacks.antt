-- A rollback of an aborted transaction is left on a key, and its lock is removed or stays.
use Rattle.std.proofs.Common.{◌≡◌, ◌≢◌, ℕ, ◌==◌, inl, inr, false, cond, Option, Some, None, refl, sym, ap, subst, ◌∙◌}
use Rattle.std.proofs.lemmas.Bool.{eqb-true, eq-eqb, ne_eqb}
use Rattle.tx_types.specs.declared.key.Key.{Key}
use Rattle.tx_types.specs.Keys.{IsVisible}
use Rattle.tx_plan.specs.Cells.{Lock, CommitRecord, Write, CommitOf, Rollback, Cells, with_lock}
use Rattle.tx_plan.specs.Own.{OwnRollback, on_own_lock, marked, rolled, leave_rollback, is_own, roll_back}
use Rattle.tx_core.proofs.Basics.{nat_test, nat_same, chosen, cond_true, cond_false, some_same}
use Rattle.tx_core.proofs.view.View.{View, OnCells, Inv, Does, IsCommitted, IsAborted, Written, Held}
use Rattle.tx_core.proofs.changes.Keyed.{keyed, keyed_same, keyed_to, own_cases, inv_written}
use Rattle.tx_core.proofs.changes.Settlements.{commit_same}

-- the cells where the rollback of t is left, with this lock
abbrev pub rolled_with : Cells → ℕ → Option Lock → Cells
rolled_with cells t lock = with_lock (leave_rollback cells t) lock

-- a rollback that was left is the transaction's own
pub own_rolled : (cells : Cells) (t : ℕ) (lock : Option Lock) → OwnRollback (rolled_with cells t lock).write t
own_rolled cells t lock = go (cells.write t) refl
  where
    at : (x : Write) → rolled t (cells.write t) ≡ x → (rolled_with cells t lock).write t ≡ Some x
    at x e = cond_true (t == t) (Some (rolled t (cells.write t))) (cells.write t) (nat_same t) ∙ ap (λ y. Some y) e

    go : (o : Option Write) → cells.write t ≡ o → OwnRollback (rolled_with cells t lock).write t
    go None e = inl (at Rollback (ap (rolled t) e))
    go (Some Rollback) e = inl (at Rollback (ap (rolled t) e))
    go (Some (CommitOf rec)) e =
        elim (nat_test rec.start t) [
          | inl x ↦ inl (at Rollback (ap (rolled t) e
              ∙ cond_true (rec.start == t) Rollback (CommitOf (marked rec)) x.0))
          | inr x ↦ inr (
            marked rec,
            record {
              stands = at (CommitOf (marked rec)) (ap (rolled t) e
                  ∙ cond_false (rec.start == t) Rollback (CommitOf (marked rec)) x.0);
              other = x.1;
            },
            refl,
          )
        ]

-- rollbacks of others stay
pub kept_rolled : (cells : Cells) (t u : ℕ) (lock : Option Lock) → OwnRollback cells.write u
    → OwnRollback (rolled_with cells t lock).write u
kept_rolled cells t u lock own =
    elim (nat_test t u) [
      | inl x ↦ subst (λ n. OwnRollback (rolled_with cells t lock).write n) x.1 (own_rolled cells t lock)
      | inr x ↦ elim own [
        | inl back ↦ inl (cond_false (t == u) (Some (rolled t (cells.write t))) (cells.write u) x.0 ∙ back)
        | inr mark ↦ inr (
          mark.0,
          record {
            stands = cond_false (t == u) (Some (rolled t (cells.write t))) (cells.write u) x.0
                ∙ mark.1.stands;
            other = mark.1.other;
          },
          mark.2,
        )
      ]
    ]

-- a commit record after a rollback was left stood before, but for its mark
pub record SameRecord (before : Option Write) (rec : CommitRecord) : Type 0 where
  pub old : CommitRecord
  pub stood : before ≡ Some (CommitOf old)
  pub start_is : old.start ≡ rec.start
  pub mutation_is : old.mutation ≡ rec.mutation

was_marked : (before : Option Write) (t : ℕ) (rec : CommitRecord) → rolled t before ≡ CommitOf rec
    → SameRecord before rec
was_marked None t rec e = absurd (cc (e))
was_marked (Some Rollback) t rec e = absurd (cc (e))
was_marked (Some (CommitOf old)) t rec e =
    elim (chosen (old.start == t) Rollback (CommitOf (marked old)) (CommitOf rec) e) [
      | inl x ↦ absurd (cc (x.1))
      | inr x ↦ (let same : marked old ≡ rec = commit_same (marked old) rec (ap (λ y. Some y) x.1) in
          record {
            old = old;
            stood = refl;
            start_is = ap (λ (r : CommitRecord). r.start) same;
            mutation_is =
                ap (λ (r : CommitRecord). r.mutation) same;
          })
    ]

module _ (w : View) (k : Key) (t : ℕ) (lock : Option Lock) (i : Inv w) (gone : IsAborted w.decided t) (stood :
    (old : Lock) → lock ≡ Some old → (w.cells k).lock ≡ Some old) (stays : (old : Lock) → (w.cells k).lock ≡ Some old
    → old.start ≢ t → lock ≡ Some old) where
  was_record : (c : ℕ) (rec : CommitRecord) → (rolled_with (w.cells k) t lock).write c ≡ Some (CommitOf rec)
      → SameRecord ((w.cells k).write c) rec
  was_record c rec e =
      elim (chosen (t == c) (Some (rolled t ((w.cells k).write t))) ((w.cells k).write c) (Some (CommitOf rec)) e) [
        | inl x ↦ subst (λ n. SameRecord ((w.cells k).write n) rec) (eqb-true t c x.0)
            (was_marked ((w.cells k).write t) t rec (some_same (rolled t ((w.cells k).write t)) (CommitOf rec) x.1))
        | inr x ↦ record { old = rec; stood = x.1; start_is = refl; mutation_is = refl }
      ]

  new_rollbacks : (u : ℕ) → OwnRollback (rolled_with (w.cells k) t lock).write u → IsAborted w.decided u
  new_rollbacks u own =
      elim (nat_test t u) [
        | inl x ↦ subst (IsAborted w.decided) x.1 gone
        | inr x ↦ elim own [
          | inl back ↦ (i.keys k).records.rolled u
              (inl (sym (cond_false (t == u) (Some (rolled t ((w.cells k).write t))) ((w.cells k).write u) x.0) ∙ back))
          | inr mark ↦ (i.keys k).records.rolled u
              (inr (
                mark.0,
                record {
                  stands =
                      sym (cond_false (t == u) (Some (rolled t ((w.cells k).write t))) ((w.cells k).write u) x.0)
                      ∙ mark.1.stands;
                  other = mark.1.other;
                },
                mark.2,
              ))
        ]
      ]

  still_held : (u : ℕ) → t ≢ u → Held (w.cells k) u → Held (rolled_with (w.cells k) t lock) u
  still_held u other x =
      record { lock = x.lock; stands = stays x.lock x.stands (λ same. other (sym same ∙ x.own)); own = x.own }

  -- a commit record stays, with the mark where the rollback is left there
  pub still_written : (u d : ℕ) → Written (w.cells k) u d → Written (rolled_with (w.cells k) t lock) u d
  still_written u d x =
      elim (nat_test t d) [
        | inl y ↦ (let at : (w.cells k).write t ≡ Some (CommitOf x.rec) = ap (w.cells k).write y.1 ∙ x.stands in
            let other : (x.rec.start == t) ≡ false =
            ne_eqb x.rec.start t (λ same. (cc ((i.keys k).records.committed d x.rec x.stands, same, gone))) in
            let new : rolled t ((w.cells k).write t) ≡ CommitOf (marked x.rec) =
            ap (rolled t) at ∙ cond_false (x.rec.start == t) Rollback (CommitOf (marked x.rec)) other in
            record {
              rec = marked x.rec;
              stands =
                  cond_true (t == d) (Some (rolled t ((w.cells k).write t))) ((w.cells k).write d) y.0
                  ∙ ap (λ z. Some z) new;
              own = x.own;
            })
        | inr y ↦ record {
          rec = x.rec;
          stands =
              cond_false (t == d) (Some (rolled t ((w.cells k).write t))) ((w.cells k).write d) y.0 ∙ x.stands;
          own =
              x.own;
        }
      ]

  -- the invariants stay, where no new lock stands and those of others stay
  pub inv_rolled : Inv (keyed w k (rolled_with (w.cells k) t lock))
  inv_rolled =
      inv_written w k (rolled_with (w.cells k) t lock) i record {
        stood = stood;
        unwritten = λ old e c rec x same. (let was = was_record c rec x in
            (before.alone old (stood old e)).unwritten c was.old was.stood (was.start_is ∙ same));
        records = record {
          committed = λ c rec x. (let was = was_record c rec x in
              subst (λ n. IsCommitted w.decided n c) was.start_is (before.records.committed c was.old was.stood));
          does = λ c rec x. (let was = was_record c rec x in
              subst (λ n. Does w.declared n k rec.mutation) was.start_is (before.records.does c was.old was.stood
              ∙ ap (λ m. Some m) was.mutation_is));
          rolled = new_rollbacks;
          newest = λ q rec x v low. (let was = was_record q rec x in
              before.records.newest q was.old was.stood (subst IsVisible (sym was.mutation_is) v) low);
        };
        kept = record {
          complete = λ u d m e does.
              elim (before.kept.complete u d m e does) [
                | inl x ↦ inl (still_written u d x)
                | inr rest ↦ elim rest [
                  | inl x ↦ inr (inl (still_held u (λ same. (cc (gone, same, e))) x))
                  | inr x ↦ inr (inr x)
                ]
              ];
          held = λ u e o. still_held u (λ same. (cc (gone, same, o))) (before.kept.held u e o);
          cleared = λ u e ended.
              elim (before.kept.cleared u e ended) [
                | inl x ↦ elim (nat_test t u) [
                  | inl y ↦ inr (inl (subst (λ n. OwnRollback (rolled_with (w.cells k) t lock).write n) y.1
                      (own_rolled (w.cells k) t lock)))
                  | inr y ↦ inl (still_held u y.1 x)
                ]
                | inr rest ↦ elim rest [
                  | inl own ↦ inr (inl (kept_rolled (w.cells k) t u lock own))
                  | inr low ↦ inr (inr low)
                ]
              ];
        };
      }
    where
      before : OnCells w.declared w.decided w.accepted w.shown k (w.collected k) (w.cells k)
      before = i.keys k

-- ---- rolling back, with the lock

-- the transaction is rolled back on k
abbrev pub rolling_back : View → Key → ℕ → View
rolling_back w k t = keyed w k (roll_back (w.cells k) t)

-- a lock that stands after it stood before, and is another's; others stay
pub was_locked : (o : Option Lock) (t : ℕ) (lock : Lock) → cond (is_own o t) None o ≡ Some lock
    → (o ≡ Some lock) × (lock.start ≢ t)
was_locked None t lock e = absurd (cc (e))
was_locked (Some old) t lock e =
    elim (chosen (old.start == t) None (Some old) (Some lock) e) [
      | inl x ↦ absurd (cc (x.1))
      | inr x ↦ (x.1, λ own. (cc (x.0, eq-eqb old.start t (ap (λ (l : Lock). l.start) (some_same old lock x.1) ∙ own))))
    ]

pub stays_locked : (o : Option Lock) (t : ℕ) (lock : Lock) → o ≡ Some lock → lock.start ≢ t
    → cond (is_own o t) None o ≡ Some lock
stays_locked o t lock e other =
    ap (λ x. cond (is_own x t) None x) e ∙ cond_false (lock.start == t) None (Some lock) (ne_eqb lock.start t other)

-- it is aborted
pub inv_roll_back : (w : View) (k : Key) (t : ℕ) → Inv w → IsAborted w.decided t → Inv (rolling_back w k t)
inv_roll_back w k t i gone =
    inv_rolled w k t (cond (is_own (w.cells k).lock t) None (w.cells k).lock) i gone
    (λ old e. (was_locked (w.cells k).lock t old e).0)
    (λ old e other. stays_locked (w.cells k).lock t old e other)

-- ---- leaving a rollback, without touching locks

-- its rollback is left on k
abbrev pub leaving_rollback : View → Key → ℕ → View
leaving_rollback w k t = keyed w k (leave_rollback (w.cells k) t)

-- it is aborted
pub inv_leave_rollback : (w : View) (k : Key) (t : ℕ) → Inv w → IsAborted w.decided t → Inv (leaving_rollback w k t)
inv_leave_rollback w k t i gone = inv_rolled w k t (w.cells k).lock i gone (λ old e. e) (λ old e other. e)

-- ---- rolling back where the lock stands

-- it is rolled back on k where its lock stands there
abbrev pub resolving_back : View → Key → ℕ → View
resolving_back w k t = keyed w k (on_own_lock (w.cells k) t (λ lock. roll_back (w.cells k) t))

-- it is aborted
pub inv_resolve_back : (w : View) (k : Key) (t : ℕ) → Inv w → IsAborted w.decided t → Inv (resolving_back w k t)
inv_resolve_back w k t i gone =
    elim (own_cases (w.cells k) t (λ lock. roll_back (w.cells k) t)) [
      | inl x ↦ keyed_to w k (roll_back (w.cells k) t) (on_own_lock (w.cells k) t (λ lock. roll_back (w.cells k) t)) Inv
          (sym x.3) (inv_roll_back w k t i gone)
      | inr x ↦ keyed_to w k (w.cells k) (on_own_lock (w.cells k) t (λ lock. roll_back (w.cells k) t)) Inv (sym x.1)
          (subst Inv (sym (keyed_same w k)) i)
    ]

-- A lock becomes a commit record.
use Rattle.std.proofs.Common.{◌≡◌, ℕ, ◌==◌, ◌⊎◌, inl, inr, true, Option, Some, None, refl, sym, ap, subst, ◌∙◌, arith}
use Rattle.std.proofs.lemmas.Bool.{eqb-true, eq-eqb}
use Rattle.tx_types.specs.declared.key.Key.{Key}
use Rattle.tx_types.specs.declared.mutation.Mutation.{Mutation}
use Rattle.tx_types.specs.declared.mutation.Fate.TheVariants.{Committed}
use Rattle.tx_machine.specs.Machine.{Done}
use Rattle.tx_plan.specs.Cells.{Lock, CommitRecord, Write, CommitOf, Rollback}
use Rattle.tx_plan.specs.Own.{OwnRollback, is_rollback, commit_of, lock_committed, commit_lock}
use Rattle.tx_core.proofs.Basics.{nat_test, chosen, cond_true, cond_false}
use Rattle.tx_core.proofs.view.View.{View, OnCells, Inv, Does, IsCommitted, IsAborted, Written, Held, Gone}
use Rattle.tx_core.proofs.changes.Keyed.{keyed, keyed_same, keyed_to, own_cases, inv_written}

-- the lock of the transaction on k becomes its commit record at c, where it stands
abbrev pub settling : View → Key → ℕ → ℕ → View
settling w k t c = keyed w k (commit_lock (w.cells k) t c)

-- commit records that stand in one place are one
pub commit_same : (x y : CommitRecord) → Some (CommitOf x) ≡ Some (CommitOf y) → x ≡ y
commit_same x y e = cc (e)

is_rolled : (o : Option Write) → is_rollback o ≡ true → o ≡ Some Rollback
is_rolled None e = absurd (cc (e))
is_rolled (Some (CommitOf rec)) e = absurd (cc (e))
is_rolled (Some Rollback) e = refl

module _ (w : View) (k : Key) (lock : Lock) (c : ℕ) (i : Inv w) (stands : (w.cells k).lock
    ≡ Some lock) (end : IsCommitted w.decided lock.start c) where
  -- a record that stands at the lock's commit would be another's, but there is none
  pub unmet : (rec : CommitRecord) → (w.cells k).write c ≡ Some (CommitOf rec) → ⊥
  unmet rec e =
      elim (nat_test rec.start lock.start) [
        | inl x ↦ ((i.keys k).alone lock stands).unwritten c rec e x.1
        | inr x ↦ omega (
          arith,
          ((i.keys k).alone lock stands).above rec.start c rec.mutation ((i.keys k).records.committed c rec e)
              ((i.keys k).records.does c rec e) x.1,
          (i.commits lock.start c end).range.0,
        )
      ]

  -- rollbacks of aborted transactions are kept, by the mark where the record takes the place of one
  pub kept_rollback : (t : ℕ) → IsAborted w.decided t → OwnRollback (w.cells k).write t
      → OwnRollback (lock_committed (w.cells k) c lock).write t
  kept_rollback t gone own =
      elim (nat_test c t) [
        | inl x ↦ elim own [
          | inl back ↦ (let at : (w.cells k).write c ≡ Some Rollback = ap (w.cells k).write x.1 ∙ back in
              inr (
                commit_of lock ((w.cells k).write c),
                record {
                  stands = cond_true (c == t) (Some (CommitOf (commit_of lock ((w.cells k).write c))))
                      ((w.cells k).write t) x.0;
                  other = λ same. (cc (end, same, gone));
                },
                ap is_rollback at,
              ))
          | inr mark ↦ absurd (unmet mark.0 (ap (w.cells k).write x.1 ∙ mark.1.stands))
        ]
        | inr x ↦ elim own [
          | inl back ↦ inl (cond_false (c == t) (Some (CommitOf (commit_of lock ((w.cells k).write c))))
              ((w.cells k).write t) x.0 ∙ back)
          | inr mark ↦ inr (
            mark.0,
            record {
              stands = cond_false (c == t) (Some (CommitOf (commit_of lock ((w.cells k).write c))))
                  ((w.cells k).write t) x.0 ∙ mark.1.stands;
              other = mark.1.other;
            },
            mark.2,
          )
        ]
      ]

  -- the records after it: the new one, and those before
  was_record : (d : ℕ) (rec : CommitRecord) → (lock_committed (w.cells k) c lock).write d ≡ Some (CommitOf rec)
      → ((c ≡ d) × (commit_of lock ((w.cells k).write c) ≡ rec)) ⊎ ((w.cells k).write d ≡ Some (CommitOf rec))
  was_record d rec e =
      elim (chosen (c == d) (Some (CommitOf (commit_of lock ((w.cells k).write c)))) ((w.cells k).write d)
      (Some (CommitOf rec)) e) [
        | inl x ↦ inl (eqb-true c d x.0, commit_same (commit_of lock ((w.cells k).write c)) rec x.1)
        | inr x ↦ inr x.1
      ]

  new_rollbacks : (t : ℕ) → OwnRollback (lock_committed (w.cells k) c lock).write t → IsAborted w.decided t
  new_rollbacks t own =
      elim own [
        | inl back ↦ elim (chosen (c == t) (Some (CommitOf (commit_of lock ((w.cells k).write c))))
            ((w.cells k).write t) (Some Rollback) back) [
              | inl x ↦ absurd (cc (x.1))
              | inr x ↦ (i.keys k).records.rolled t (inl x.1)
            ]
        | inr mark ↦ elim (was_record t mark.0 mark.1.stands) [
          | inl x ↦ subst (IsAborted w.decided) x.0
              ((i.keys k).records.rolled c
              (inl (is_rolled ((w.cells k).write c) (ap (λ (r : CommitRecord). r.overlapped_rollback) x.1 ∙ mark.2))))
          | inr x ↦ (i.keys k).records.rolled t (inr (mark.0, record { stands = x; other = mark.1.other }, mark.2))
        ]
      ]

  new_complete : (u d : ℕ) (m : Mutation) → IsCommitted w.decided u d
      → Written (w.cells k) u d ⊎ Held (w.cells k) u ⊎ Gone w.decided w.declared k d (w.collected k) m
      → Written (lock_committed (w.cells k) c lock) u d ⊎ Held (lock_committed (w.cells k) c lock) u
      ⊎ Gone w.decided w.declared k d (w.collected k) m
  new_complete u d m e old =
      elim old [
        | inl x ↦ inl (elim (nat_test c d) [
          | inl y ↦ absurd (unmet x.rec (ap (w.cells k).write y.1 ∙ x.stands))
          | inr y ↦ record {
            rec = x.rec;
            stands =
                cond_false (c == d) (Some (CommitOf (commit_of lock ((w.cells k).write c)))) ((w.cells k).write d) y.0
                ∙ x.stands;
            own = x.own;
          }
        ])
        | inr rest ↦ elim rest [
          | inl x ↦ (let same : lock.start ≡ u = cc (stands, x.stands, x.own) in let at : c ≡ d = cc (end, e, same) in
              inl (record {
                rec = commit_of lock ((w.cells k).write c);
                stands =
                    cond_true (c == d) (Some (CommitOf (commit_of lock ((w.cells k).write c)))) ((w.cells k).write d)
                    (eq-eqb c d at);
                own = same;
              }))
          | inr gone ↦ inr (inr gone)
        ]
      ]

  -- the invariants stay
  pub inv_settled : Inv (keyed w k (lock_committed (w.cells k) c lock))
  inv_settled =
      inv_written w k (lock_committed (w.cells k) c lock) i record {
        stood = λ other e. absurd (cc (e));
        unwritten = λ other e. absurd (cc (e));
        records = record {
          committed = λ d rec e. elim (was_record d rec e) [
            | inl x ↦
                subst (λ (r : CommitRecord). IsCommitted w.decided r.start d) x.1
                (end ∙ ap (λ n. Done (Committed n)) x.0)
            | inr x ↦ old.records.committed d rec x
          ];
          does = λ d rec e. elim (was_record d rec e) [
            | inl x ↦
                subst (λ (r : CommitRecord). Does w.declared r.start k r.mutation) x.1 (old.lock lock stands).does
            | inr x ↦ old.records.does d rec x
          ];
          rolled = new_rollbacks;
          newest = λ q rec e v low.
              elim (was_record q rec e) [
                | inl x ↦ λ u d m p r s above upto. omega (
                  arith,
                  x.0,
                  (old.alone lock stands).fresh,
                  (i.commits lock.start c end).range.0,
                  low,
                )
                | inr x ↦ old.records.newest q rec x v low
              ];
        };
        kept = record {
          complete = λ u d m e does. new_complete u d m e (old.kept.complete u d m e does);
          held = λ t e o. (let was = old.kept.held t e o in absurd (cc (was.stands, stands, was.own, end, o)));
          cleared = λ t e gone. elim (old.kept.cleared t e gone) [
            | inl was ↦
                absurd (cc (was.stands, stands, was.own, end, gone))
            | inr rest ↦ elim rest [ inl own ↦ inr (inl (kept_rollback t gone own)) | inr low ↦ inr (inr low) ]
          ];
        };
      }
    where
      old : OnCells w.declared w.decided w.accepted w.shown k (w.collected k) (w.cells k)
      old = i.keys k

-- where a transaction is committed at c, its lock on a key may be settled, if it stands
pub inv_settle : (w : View) (k : Key) (t c : ℕ) → Inv w → IsCommitted w.decided t c → Inv (settling w k t c)
inv_settle w k t c i end =
    elim (own_cases (w.cells k) t (λ lock. lock_committed (w.cells k) c lock)) [
      | inl x ↦ keyed_to w k (lock_committed (w.cells k) c x.0) (commit_lock (w.cells k) t c) Inv (sym x.3)
          (inv_settled w k x.0 c i x.1 (ap w.decided x.2 ∙ end))
      | inr x ↦ keyed_to w k (w.cells k) (commit_lock (w.cells k) t c) Inv (sym x.1)
          (subst Inv (sym (keyed_same w k)) i)
    ]

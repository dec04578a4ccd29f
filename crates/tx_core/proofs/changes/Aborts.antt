-- A transaction is decided: it is aborted.
use Rattle.std.proofs.Common.{◌≡◌, ◌≢◌, ℕ, ◌==◌, ◌⊎◌, inl, inr, cond, None, sym, ap, subst, ◌∙◌, arith}
use Rattle.tx_types.specs.declared.mutation.Fate.{Fate}
use Rattle.tx_types.specs.declared.mutation.Fate.TheVariants.{Committed, Aborted}
use Rattle.tx_machine.specs.Machine.{State, Open, Done}
use Rattle.tx_core.proofs.Basics.{nat_test, cond_true, cond_false}
use Rattle.tx_core.proofs.view.View.{View, Inv, IsCommitted, Held, later_by, gone_by}

-- an open transaction is aborted
abbrev pub aborting : View → ℕ → View
aborting w t = record w { decided = λ q. cond (t == q) (Done Aborted) (w.decided q) }

module _ (w : View) (t : ℕ) (i : Inv w) (opened : w.decided t ≡ Open) (some : w.declared t ≢ None) where
  -- what is decided after it: the abort, or what was before
  pub was_ended : (q : ℕ) (s : State) → (aborting w t).decided q ≡ s
      → ((t ≡ q) × (Done Aborted ≡ s)) ⊎ (w.decided q ≡ s)
  was_ended q s e =
      elim (nat_test t q) [
        | inl x ↦ inl (x.1, sym (cond_true (t == q) (Done Aborted) (w.decided q) x.0) ∙ e)
        | inr x ↦ inr (sym (cond_false (t == q) (Done Aborted) (w.decided q) x.0) ∙ e)
      ]

  -- what was decided is so still
  pub still_ended : (q : ℕ) (e : Fate) → w.decided q ≡ Done e → (aborting w t).decided q ≡ Done e
  still_ended q e end =
      elim (nat_test t q) [
        | inl x ↦ absurd (cc (opened, x.1, end))
        | inr x ↦ cond_false (t == q) (Done Aborted) (w.decided q) x.0 ∙ end
      ]

  -- what is committed then was committed before
  pub was_committed : (q c : ℕ) → IsCommitted (aborting w t).decided q c → IsCommitted w.decided q c
  was_committed q c e = elim (was_ended q (Done (Committed c)) e) [ inl x ↦ absurd (cc (x.1)) | inr x ↦ x ]

  was_open : (q : ℕ) → (aborting w t).decided q ≡ Open → w.decided q ≡ Open
  was_open q e = elim (was_ended q Open e) [ inl x ↦ absurd (cc (x.1)) | inr x ↦ x ]

  -- an open, declared transaction may be aborted at any time
  pub inv_abort : Inv (aborting w t)
  inv_abort =
      record {
        clock = record {
          drawn = i.clock.drawn;
          begun = i.clock.begun;
          declares = i.clock.declares;
          decides = λ q e. elim (nat_test t q) [
            | inl x ↦ subst (λ n. w.declared n ≢ None) x.1 some
            | inr x ↦ i.clock.decides q (λ y. e (cond_false (t == q) (Done Aborted) (w.decided q) x.0 ∙ y))
          ];
        };
        marks = i.marks;
        acceptances = i.acceptances;
        keys = λ k. record {
          lock = (i.keys k).lock;
          alone = λ lock e. (let old = (i.keys k).alone lock e in
              record {
                above = λ u d m end. old.above u d m (was_committed u d end);
                unwritten = old.unwritten;
                fresh =
                    old.fresh;
                unseen = λ v ins u d y end does low. later_by w.decided (aborting w t).decided w.declared
                    w.declared k d lock.start (λ q at e. still_ended q (Committed at) e) (λ q n does. does)
                    (old.unseen v ins u d y (was_committed u d end) does low);
              });
          records = record {
            committed = λ d rec e. still_ended rec.start (Committed d) ((i.keys k).records.committed d rec e);
            does = (i.keys k).records.does;
            rolled = λ q e. still_ended q Aborted ((i.keys k).records.rolled q e);
            newest = λ q rec e v low u d m end. (i.keys k).records.newest q rec e v low u d m (was_committed u d end);
          };
          kept = record {
            complete = λ u d m end does.
                elim ((i.keys k).kept.complete u d m (was_committed u d end) does) [
                  | inl y ↦ inl y
                  | inr rest ↦ elim rest [
                    | inl y ↦ inr (inl y)
                    | inr y ↦ inr (inr (gone_by w.decided (aborting w t).decided w.declared w.declared k d
                        (w.collected k) (w.collected k) m (λ q at e. still_ended q (Committed at) e) (λ q n does. does)
                        (omega arith) y))
                  ]
                ];
            held = λ q e o. (i.keys k).kept.held q e (was_open q o);
            cleared = λ q e o. elim (was_ended q (Done Aborted) o) [
              | inl x ↦
                  inl (subst (Held (w.cells k)) x.0
                  ((i.keys k).kept.held t (λ none. e (ap (λ n. w.accepted n k) (sym x.0) ∙ none)) opened))
              | inr x ↦ (i.keys k).kept.cleared q e x
            ];
          };
        };
        commits = λ q d e. i.commits q d (was_committed q d e);
        unread = λ q k by e o. i.unread q k by e (was_open q o);
        checks = i.checks;
        shown = i.shown;
      }

-- The lock of a transaction on its primary is pushed: its minimum rises, and is shown.
use Rattle.std.proofs.Common.{◌≡◌, ◌≢◌, ℕ, ◌≤◌, ◌==◌, ◌⊎◌, inl, inr, cond, Some, bytes_eq, refl, sym, ap, subst, ◌∙◌, arith}
use Rattle.std.proofs.lemmas.Bool.{eq-eqb}
use Rattle.tx_types.specs.declared.key.Key.{Key}
use Rattle.tx_plan.specs.Cells.{Lock, Cells, with_lock}
use Rattle.tx_plan.specs.Own.{OwnLock, OwnRollback, on_own_lock}
use Rattle.tx_core.specs.Histories.{set_of, is_first}
use Rattle.tx_core.proofs.Basics.{nat_test, key_test, cond_true, cond_false, some_same}
use Rattle.tx_core.proofs.view.View.{View, OnCells, IsLock, IsAlone, Inv, IsPrimary, IsCommitted, FellBack, Held, one_first, first_within, does_declared}
use Rattle.tx_plan.specs.cases.CheckTxnStatus.{with_minimum}
use Rattle.tx_core.proofs.changes.Keyed.{at_cells, own_cases}
use Rattle.tx_core.proofs.view.Ends.{Ends, ends_keyed}

-- the cells where the lock of the transaction that started at t gets this minimum
abbrev pub pushed : Cells → ℕ → ℕ → Cells
pushed cells t min = on_own_lock cells t (λ lock. with_lock cells (Some (with_minimum lock min)))

-- the transaction's lock on k gets this minimum, which is shown
abbrev pub pushing : View → Key → ℕ → ℕ → View
pushing w k t min =
    record w {
      shown = λ q. cond (t == q) min (w.shown q);
      cells = λ q. cond (bytes_eq k q) (pushed (w.cells k) t min) (w.cells q);
    }

module _ (w : View) (k : Key) (t min : ℕ) (lock : Lock) (i : Inv w) (own : OwnLock (w.cells k).lock t lock) (first :
    IsPrimary w.declared t k) where
  -- the change is to the lock that stands
  pushed_is : pushed (w.cells k) t min ≡ with_lock (w.cells k) (Some (with_minimum lock min))
  pushed_is =
      elim (own_cases (w.cells k) t (λ l. with_lock (w.cells k) (Some (with_minimum l min)))) [
        | inl x ↦ x.3 ∙ ap (λ l. with_lock (w.cells k) (Some (with_minimum l min)))
            (some_same x.0 lock (sym x.1 ∙ own.stands))
        | inr x ↦ absurd (x.0 lock own.stands own.own)
      ]

  -- a lock that has the minimum already stays as it was
  pub push_same : min ≡ lock.min → ◌≡◌ {A = View} (pushing w k t min) w
  push_same same = λ j. record w { shown = λ q. shown q j; cells = λ q. cells q j }
    where
      shown : (q : ℕ) → cond (t == q) min (w.shown q) ≡ w.shown q
      shown q =
          elim (nat_test t q) [
            | inl x ↦ cond_true (t == q) min (w.shown q) x.0 ∙ same
                ∙ ((i.keys k).lock lock own.stands).shows (ap (λ n. is_first (set_of (w.declared n)) k) own.own ∙ first)
                ∙ ap w.shown (own.own ∙ x.1)
            | inr x ↦ cond_false (t == q) min (w.shown q) x.0
          ]

      unpushed : pushed (w.cells k) t min ≡ w.cells k
      unpushed = pushed_is ∙ ap (λ n. with_lock (w.cells k) (Some (with_minimum lock n))) same
          ∙ ap (λ o. with_lock (w.cells k) o) (sym own.stands)

      cells : (q : Key) → cond (bytes_eq k q) (pushed (w.cells k) t min) (w.cells q) ≡ w.cells q
      cells q = elim (key_test k q) [
        | inl x ↦ cond_true (bytes_eq k q) (pushed (w.cells k) t min) (w.cells q) x.0
            ∙ unpushed ∙ ap w.cells x.1
        | inr x ↦ cond_false (bytes_eq k q) (pushed (w.cells k) t min) (w.cells q) x.0
      ]

  shown_cases : (q : ℕ)
      → ((t ≡ q) × ((pushing w k t min).shown q ≡ min)) ⊎ ((t ≢ q) × ((pushing w k t min).shown q ≡ w.shown q))
  shown_cases q = elim (nat_test t q) [
    | inl x ↦ inl (x.1, cond_true (t == q) min (w.shown q) x.0)
    | inr x ↦ inr (x.1, cond_false (t == q) min (w.shown q) x.0)
  ]

  shown_is : w.shown t ≡ lock.min
  shown_is = sym (((i.keys k).lock lock own.stands).shows (ap (λ n. is_first (set_of (w.declared n)) k) own.own ∙ first)
      ∙ ap w.shown own.own)

  -- the pushed lock keeps what is held
  still_held : (u : ℕ) → Held (w.cells k) u → Held (with_lock (w.cells k) (Some (with_minimum lock min))) u
  still_held u old = record {
    lock = with_minimum lock min;
    stands = refl;
    own =
        ap (λ (l : Lock). l.start) (some_same lock old.lock (sym own.stands ∙ old.stands)) ∙ old.own;
  }

  here : OnCells w.declared w.decided w.accepted (pushing w k t min).shown k (w.collected k)
      (with_lock (w.cells k) (Some (with_minimum lock min)))
  here = (let old = i.keys k in record {
    lock = λ l e. subst (IsLock w.declared w.accepted (pushing w k t min).shown k)
        (some_same (with_minimum lock min) l e) (let x = old.lock lock own.stands in record {
          accepts = x.accepts;
          does = x.does;
          mode = x.mode;
          min = λ f. absurd (cc (ap (λ n. is_first (set_of (w.declared n)) k) own.own, first, f));
          shows = λ f. sym (cond_true (t == lock.start) min (w.shown lock.start) (eq-eqb t lock.start (sym own.own)));
        });
    alone = λ l e. subst (IsAlone w.declared w.decided k (w.collected k) (w.cells k).write)
        (some_same (with_minimum lock min) l e) (let x = old.alone lock own.stands in
        record { above = x.above; unwritten = x.unwritten; unseen = x.unseen; fresh = x.fresh });
    records = old.records;
    kept = record {
      complete = λ u d m end does. elim (old.kept.complete u d m end does) [
        | inl x ↦
            inl (record { rec = x.rec; stands = x.stands; own = x.own })
        | inr rest ↦ elim rest [ inl x ↦ inr (inl (still_held u x)) | inr gone ↦ inr (inr gone) ]
      ];
      held = λ u e o. still_held u (old.kept.held u e o);
      cleared = λ u e gone. elim (old.kept.cleared u e gone) [ inl x ↦ inl (still_held u x) | inr rest ↦ inr rest ];
    };
  })

  -- the other keys are none of the transaction's primary
  others : (q : Key) → k ≢ q
      → OnCells w.declared w.decided w.accepted (pushing w k t min).shown q (w.collected q) (w.cells q)
  others q other = (let old = i.keys q in record {
    lock = λ l e. (let x = old.lock l e in record {
      accepts = x.accepts;
      does = x.does;
      mode = x.mode;
      min = x.min;
      shows = λ f. elim (shown_cases l.start) [
        | inl y ↦
            absurd (other (one_first w.declared t k q first (subst (λ n. IsPrimary w.declared n q) (sym y.0) f)))
        | inr y ↦ x.shows f ∙ sym y.1
      ];
    });
    alone = old.alone;
    records = old.records;
    kept = old.kept;
  })

  -- a transaction with a two-phase key that is not committed may be pushed on its primary
  pub inv_push : lock.min ≤ min → FellBack w.accepted t → ((c : ℕ) → IsCommitted w.decided t c → ⊥)
      → Inv (pushing w k t min)
  inv_push more fell uncommitted =
      record {
        clock = i.clock;
        marks = i.marks;
        acceptances = i.acceptances;
        keys = λ q. at_cells w k q (pushed (w.cells k) t min) on_cells (subst (on_cells k) (sym pushed_is) here)
            (others q);
        commits = λ u c end. (let x = i.commits u c end in record {
          range = x.range;
          accepts = x.accepts;
          bounds = x.bounds;
          shows = elim (shown_cases u) [
            | inl y ↦ absurd (uncommitted c (ap w.decided y.0 ∙ end))
            | inr y ↦ omega (arith, y.1, x.shows)
          ];
        });
        checks = i.checks;
        unread = λ u q by e o m does v r read.
            elim (i.unread u q by e o m does v r read) [
              | inl x ↦ inl x
              | inr x ↦ elim (shown_cases u) [
                | inl y ↦ inr (omega (arith, x, y.1, shown_is, ap w.shown y.0, more))
                | inr y ↦ inr (omega (arith, x, y.1))
              ]
            ];
        shown = record {
          undeclared = λ u e. elim (shown_cases u) [
            | inl x ↦
                (let does = first_within w.declared t k first in
                absurd (does_declared w.declared t k does.0 does.1 (ap w.declared x.0 ∙ e)))
            | inr x ↦ x.1 ∙ i.shown.undeclared u e
          ];
          none = λ u q f e.
              elim (shown_cases u) [
                | inl x ↦ (let same : k ≡ q =
                    one_first w.declared t k q first (subst (λ n. IsPrimary w.declared n q) (sym x.0) f) in
                    absurd (((i.keys k).lock lock own.stands).accepts (ap (λ n. w.accepted n k) (own.own ∙ x.0)
                    ∙ ap (w.accepted u) same ∙ e)))
                | inr x ↦ x.1 ∙ i.shown.none u q f e
              ];
          first = λ u q by f e never. elim (shown_cases u) [
            | inl x ↦
                absurd (never (subst (FellBack w.accepted) x.0 fell))
            | inr x ↦ x.1 ∙ i.shown.first u q by f e never
          ];
        };
      }
    where
      on_cells : Key → Cells → Type 0
      on_cells q = OnCells w.declared w.decided w.accepted (pushing w k t min).shown q (w.collected q)

  -- the ends of transactions stay
  pub ends_push : Ends w → Ends (pushing w k t min)
  ends_push ends = ends_keyed w k (pushed (w.cells k) t min) ends
      (λ l e. (
        lock,
        own.stands,
        ap (λ (x : Lock). x.start)
            (some_same (with_minimum lock min) l (sym (ap (λ (c : Cells). c.lock) pushed_is) ∙ e)),
      ))
      (λ u end back. subst (λ (c : Cells). OwnRollback c.write u) (sym pushed_is) back)

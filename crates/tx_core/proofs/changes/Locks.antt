-- A prewrite is accepted: its lock is put on a key.
use Rattle.std.proofs.Common.{◌≡◌, ◌≢◌, ℕ, zero, suc, ◌+◌, ◌<◌, ◌≤◌, ◌==◌, ◌⊎◌, ◌&&◌, inl, inr, true, cond, Option, Some, None, bytes_eq, refl, sym, ap, subst, ◌∙◌, arith}
use Rattle.std.proofs.lemmas.Bool.{cases_lt, cases_Bool, and_parts, eqb-true, eq-eqb}
use Rattle.tx_types.specs.declared.key.Key.{Key}
use Rattle.tx_types.specs.declared.value.Value.{Value}
use Rattle.tx_types.specs.declared.mutation.Mutation.{Mutation}
use Rattle.tx_types.specs.declared.mutation.Mutation.TheVariants as mutation
use Rattle.tx_types.specs.declared.mutation.Mutation.TheVariants.{Put}
use Rattle.tx_types.specs.declared.mutation.Mode.{Mode}
use Rattle.tx_types.specs.declared.mutation.Mode.TheVariants.{TwoPhase, Async}
use Rattle.tx_types.specs.Keys.{IsVisible}
use Rattle.tx_machine.specs.Machine.{Open, IsRead}
use Rattle.tx_plan.specs.Cells.{Lock, CommitRecord, Write, CommitOf, Rollback, Writes, with_lock}
use Rattle.tx_plan.specs.Reads.{NoneWritten, Reads}
use Rattle.tx_plan.specs.Own.{OwnCommit, OwnRollback}
use Rattle.tx_core.specs.declared.event.Declaration.{Declaration}
use Rattle.tx_core.specs.Histories.{set_of, is_first}
use Rattle.tx_core.specs.Decisions.{Acceptance, Puts, first_accepted, accepted_by}
use Rattle.tx_core.proofs.Basics.{nat_test, nat_same, key_same, key_true, cond_true, cond_false, some_same, some_of, is_some, none_is}
use Rattle.tx_core.proofs.view.View.{View, IsAccepted, IsLock, IsAlone, OnCells, Inv, Does, Inserts, HasNoValue, IsPrimary, IsCommitted, bound, LiesBelow, Held, one_first, does_declared, does_within, one_does, bound_two_phase, bound_async, never_accepted}
use Rattle.tx_core.proofs.changes.Keyed.{at_cells}

-- the acceptance of a lock that is put now
abbrev pub accepting : View → Lock → Acceptance
accepting w lock = record { lock = lock; at = w.last }

-- the lock is put on k: it is accepted, shown if the key is the primary, and stands
abbrev pub locking : View → Key → Lock → View
locking w k lock =
    record w {
      accepted = λ t q. accepted_by (Puts k lock) w.last t q (w.accepted t q);
      shown = λ t. cond ((lock.start == t) && is_first (set_of (w.declared t)) k) lock.min (w.shown t);
      cells = λ q. cond (bytes_eq k q) (with_lock (w.cells k) (Some lock)) (w.cells q);
    }

-- commit records that stand in one place are one
commit_same : (x y : CommitRecord) → Some (CommitOf x) ≡ Some (CommitOf y) → x ≡ y
commit_same x y e = cc (e)

-- a commit record that reads see, above low and at most at r
record SeenAbove (write : Writes) (low r : ℕ) : Type 0 where
  at : ℕ
  rec : CommitRecord
  stands : write at ≡ Some (CommitOf rec)
  visible : IsVisible rec.mutation
  above : low < at
  upto : at ≤ r

is_seen : (m : Mutation) → IsVisible m ⊎ (IsVisible m → ⊥)
is_seen (mutation.Put v) = inl tt
is_seen (mutation.Insert v) = inl tt
is_seen mutation.Delete = inl tt
is_seen mutation.Lock = inr (λ h. h)

-- one stands, or none does
seen_above : (write : Writes) (low r : ℕ) → SeenAbove write low r ⊎ NoneWritten write low r
seen_above write low zero = inr (λ c rec e v above upto. omega (arith, above, upto))
seen_above write low (suc r) =
    elim (seen_above write low r) [
      | inl x ↦ inl record {
        at = x.at;
        rec = x.rec;
        stands = x.stands;
        visible = x.visible;
        above = x.above;
        upto =
            omega (arith, x.upto);
      }
      | inr bare ↦ elim (cases_lt low (suc r)) [
        | inr high ↦ inr (λ c rec e v above upto. omega (arith, above, upto, high))
        | inl above ↦ here above bare (write (suc r)) refl
      ]
    ]
  where
    none_more : NoneWritten write low r
        → ((rec : CommitRecord) → write (suc r) ≡ Some (CommitOf rec) → IsVisible rec.mutation → ⊥)
        → NoneWritten write low (suc r)
    none_more bare never c rec e v above upto =
        elim (nat_test c (suc r)) [
          | inl x ↦ never rec (ap write (sym x.1) ∙ e) v
          | inr x ↦ bare c rec e v above (omega (arith, upto, x.1))
        ]

    here : low < suc r → NoneWritten write low r → (o : Option Write) → write (suc r) ≡ o
        → SeenAbove write low (suc r) ⊎ NoneWritten write low (suc r)
    here above bare None e = inr (none_more bare (λ rec f v. cc (e, f)))
    here above bare (Some Rollback) e = inr (none_more bare (λ rec f v. cc (e, f)))
    here above bare (Some (CommitOf rec)) e =
        elim (is_seen rec.mutation) [
          | inl v ↦ inl record { at = suc r; rec = rec; stands = e; visible = v; above = above; upto = omega arith }
          | inr never ↦ inr (none_more bare
              (λ other f v. never (subst (λ (x : CommitRecord). IsVisible x.mutation)
              (commit_same other rec (sym f ∙ e)) v)))
        ]

-- The key is free and was never accepted for the transaction, which is not committed; no commit on
-- the key and no collection lies above its start; an async minimum lies above each read. Of what it
-- inserts there is no value at its start, where it was read.
pub record MayLock (w : View) (k : Key) (lock : Lock) : Type 0 where
  pub free : (w.cells k).lock ≡ None
  pub new : w.accepted lock.start k ≡ None
  pub does : Does w.declared lock.start k lock.mutation
  pub fresh : w.collected k ≤ lock.start
  pub low : lock.start < lock.min
  pub least : lock.min ≤ bound (accepting w lock)
  pub upto : bound (accepting w lock) ≤ w.last + 1
  pub after_reads : lock.mode ≡ Async → w.floor k < lock.min
  pub mode : (d : Declaration) → w.declared lock.start ≡ Some d → d.mode ≡ TwoPhase → lock.mode ≡ TwoPhase
  pub unseen : (v : Value) → Inserts w.declared lock.start k v → HasNoValue w.declared w.decided k lock.start
  pub checked : (v : Value) → Inserts w.declared lock.start k v → IsRead w.reads k lock.start
  pub uncommitted : (c : ℕ) → IsCommitted w.decided lock.start c → ⊥
  pub above : (u d : ℕ) (m : Mutation) → IsCommitted w.decided u d → Does w.declared u k m → d ≤ lock.start

module _ (w : View) (k : Key) (lock : Lock) (i : Inv w) (may : MayLock w k lock) where
  -- the acceptances after it: those before, and the new one
  pub was_accepted : (t : ℕ) (q : Key) (by : Acceptance) → (locking w k lock).accepted t q ≡ Some by
      → ((lock.start ≡ t) × (k ≡ q) × (accepting w lock ≡ by)) ⊎ (w.accepted t q ≡ Some by)
  was_accepted t q by e =
      elim (cases_Bool ((lock.start == t) && bytes_eq k q)) [
        | inl x ↦ (let both = and_parts (lock.start == t) (bytes_eq k q) x in
            let same : lock.start ≡ t = eqb-true lock.start t both.0 in
            let at : k ≡ q = key_true k q both.1 in
            let none : w.accepted t q ≡ None =
            subst (λ n. w.accepted n q ≡ None) same (subst (λ y. w.accepted lock.start y ≡ None) at may.new) in
            let fact : (locking w k lock).accepted t q ≡ Some (accepting w lock) =
            cond_true ((lock.start == t)
            && bytes_eq k q) (first_accepted (w.accepted t q) (accepting w lock)) (w.accepted t q) x
            ∙ ap (λ o. first_accepted o (accepting w lock)) none in
            inl (same, at, some_same (accepting w lock) by (sym fact ∙ e)))
        | inr x ↦ inr (sym (cond_false ((lock.start == t)
            && bytes_eq k q) (first_accepted (w.accepted t q) (accepting w lock)) (w.accepted t q) x) ∙ e)
      ]

  -- the new acceptance stands, and so do those before
  pub now_accepted : (locking w k lock).accepted lock.start k ≡ Some (accepting w lock)
  now_accepted = rw (nat_same lock.start, key_same k, may.new) refl

  pub still_accepted : (t : ℕ) (q : Key) (by : Acceptance) → w.accepted t q ≡ Some by
      → (locking w k lock).accepted t q ≡ Some by
  still_accepted t q by e =
      elim (cases_Bool ((lock.start == t) && bytes_eq k q)) [
        | inl x ↦ cond_true ((lock.start == t)
            && bytes_eq k q) (first_accepted (w.accepted t q) (accepting w lock)) (w.accepted t q) x
            ∙ ap (λ o. first_accepted o (accepting w lock)) e
        | inr x ↦ cond_false ((lock.start == t)
            && bytes_eq k q) (first_accepted (w.accepted t q) (accepting w lock)) (w.accepted t q) x ∙ e
      ]

  pub more_accepted : (t : ℕ) (q : Key) → w.accepted t q ≢ None → (locking w k lock).accepted t q ≢ None
  more_accepted t q some =
      (let of = some_of (w.accepted t q) some in
      is_some ((locking w k lock).accepted t q) of.0 (still_accepted t q of.0 of.1))

  -- what holds of the new acceptance and of those before holds of each
  at_accepted : (P : ℕ → Key → Acceptance → Type 0) → P lock.start k (accepting w lock)
      → ((t : ℕ) (q : Key) (by : Acceptance) → w.accepted t q ≡ Some by → P t q by)
      → (t : ℕ) (q : Key) (by : Acceptance) → (locking w k lock).accepted t q ≡ Some by → P t q by
  at_accepted P new kept t q by e =
      elim (was_accepted t q by e) [
        | inl x ↦ subst (λ b. P t q b) x.2
            (subst (λ y. P t y (accepting w lock)) x.1 (subst (λ n. P n k (accepting w lock)) x.0 new))
        | inr x ↦ kept t q by x
      ]

  -- the acceptance of a lock that stood is the one before
  of_standing : (q : Key) (old : Lock) (by : Acceptance) → (w.cells q).lock ≡ Some old
      → (locking w k lock).accepted old.start q ≡ Some by → w.accepted old.start q ≡ Some by
  of_standing q old by stands e =
      elim (was_accepted old.start q by e) [
        | inl x ↦ absurd (cc (may.free, subst (λ y. (w.cells y).lock ≡ Some old) (sym x.1) stands))
        | inr x ↦ x
      ]

  -- what is shown after it: the new minimum where the key is the primary, which was not accepted
  -- before, else what was shown
  shown_cases : (t : ℕ)
      → ((lock.start ≡ t) × IsPrimary w.declared t k × ((locking w k lock).shown t ≡ lock.min))
      ⊎ ((locking w k lock).shown t ≡ w.shown t)
  shown_cases t =
      elim (cases_Bool ((lock.start == t) && is_first (set_of (w.declared t)) k)) [
        | inl x ↦ (let both = and_parts (lock.start == t) (is_first (set_of (w.declared t)) k) x in
            inl (
              eqb-true lock.start t both.0,
              both.1,
              cond_true ((lock.start == t) && is_first (set_of (w.declared t)) k) lock.min (w.shown t) x,
            ))
        | inr x ↦ inr (cond_false ((lock.start == t) && is_first (set_of (w.declared t)) k) lock.min (w.shown t) x)
      ]

  shown_before : (t : ℕ) → lock.start ≡ t → IsPrimary w.declared t k → w.shown t ≡ 0
  shown_before t same f = i.shown.none t k f (ap (λ n. w.accepted n k) (sym same) ∙ may.new)

  -- no minimum that was shown is lost
  pub shown_grows : (t : ℕ) → w.shown t ≤ (locking w k lock).shown t
  shown_grows t = elim (shown_cases t) [ inl x ↦ omega (arith, shown_before t x.0 x.1) | inr x ↦ omega (arith, x) ]

  -- what was accepted after it: the new lock, or what was before
  some_accepted : (t : ℕ) (q : Key) → (locking w k lock).accepted t q ≢ None
      → ((lock.start ≡ t) × (k ≡ q)) ⊎ (w.accepted t q ≢ None)
  some_accepted t q some =
      (let of = some_of ((locking w k lock).accepted t q) some in
      elim (was_accepted t q of.0 of.1) [ inl x ↦ inl (x.0, x.1) | inr x ↦ inr (is_some (w.accepted t q) of.0 x) ])

  new_unread : (r : ℕ) → IsRead w.reads k r → r < bound (accepting w lock)
  new_unread r read = go lock.mode refl
    where
      go : (mode : Mode) → lock.mode ≡ mode → r < bound (accepting w lock)
      go TwoPhase e = omega (arith, i.marks.upto k r read, bound_two_phase (accepting w lock) e)
      go Async e = omega (arith, i.marks.known k r read, may.after_reads e, bound_async (accepting w lock) e)

  new_held : (t : ℕ) → lock.start ≡ t → Held (with_lock (w.cells k) (Some lock)) t
  new_held t same = record { lock = lock; stands = refl; own = same }

  -- what stands on the key then
  here : OnCells w.declared w.decided (locking w k lock).accepted (locking w k lock).shown k (w.collected k)
      (with_lock (w.cells k) (Some lock))
  here = (let old = i.keys k in record {
    lock = λ l e. subst (IsLock w.declared (locking w k lock).accepted (locking w k lock).shown k) (some_same lock l e)
        record {
          accepts = is_some ((locking w k lock).accepted lock.start k) (accepting w lock) now_accepted;
          does = may.does;
          mode = λ by y. ap (λ (b : Acceptance). b.lock.mode) (some_same (accepting w lock) by (sym now_accepted ∙ y));
          min = λ f by y. ap (λ (b : Acceptance). b.lock.min) (some_same (accepting w lock) by (sym now_accepted ∙ y));
          shows = λ f. sym (cond_true ((lock.start == lock.start)
              && is_first (set_of (w.declared lock.start)) k) lock.min (w.shown lock.start)
              (rw (nat_same lock.start, f) refl));
        };
    alone = λ l e. subst (IsAlone w.declared w.decided k (w.collected k) (w.cells k).write)
        (some_same lock l e) record {
          above = λ u d m end does other. may.above u d m end does;
          unwritten = λ c rec x same. may.uncommitted c
              (subst (λ n. IsCommitted w.decided n c) same (old.records.committed c rec x));
          fresh = may.fresh;
          unseen = may.unseen;
        };
    records = old.records;
    kept = record {
      complete = λ u d m end does.
          elim (old.kept.complete u d m end does) [
            | inl x ↦ inl (record { rec = x.rec; stands = x.stands; own = x.own })
            | inr rest ↦ elim rest [ inl x ↦ absurd (cc (x.stands, may.free)) | inr gone ↦ inr (inr gone) ]
          ];
      held = λ t e o. elim (some_accepted t k e) [
        | inl x ↦ new_held t x.0
        | inr x ↦ absurd (cc ((old.kept.held t x o).stands, may.free))
      ];
      cleared = λ t e gone. elim (some_accepted t k e) [
        | inl x ↦ inl (new_held t x.0)
        | inr x ↦ elim (old.kept.cleared t x gone) [
          | inl y ↦ absurd (cc (y.stands, may.free))
          | inr rest ↦ inr rest
        ]
      ];
    };
  })

  -- and on the others
  others : (q : Key) → k ≢ q
      → OnCells w.declared w.decided (locking w k lock).accepted (locking w k lock).shown q (w.collected q) (w.cells q)
  others q other = (let before = i.keys q in record {
    lock = λ old stands. (let x = before.lock old stands in record {
      accepts = more_accepted old.start q x.accepts;
      does = x.does;
      mode = λ by y. x.mode by (of_standing q old by stands y);
      min = λ f by y. x.min f by (of_standing q old by stands y);
      shows = λ f. elim (shown_cases old.start) [
        | inl y ↦
            absurd (cc (
              may.free,
              subst (λ y. (w.cells y).lock ≡ Some old) (sym (one_first w.declared old.start k q y.1 f)) stands,
            ))
        | inr y ↦ x.shows f ∙ sym y
      ];
    });
    alone = before.alone;
    records = before.records;
    kept = record {
      complete = before.kept.complete;
      held = λ t e o. elim (some_accepted t q e) [ inl x ↦ absurd (other x.1) | inr x ↦ before.kept.held t x o ];
      cleared = λ t e gone. elim (some_accepted t q e) [
        | inl x ↦ absurd (other x.1)
        | inr x ↦ before.kept.cleared t x gone
      ];
    };
  })

  -- the invariants stay
  pub inv_lock : Inv (locking w k lock)
  inv_lock =
      record {
        clock = i.clock;
        marks = i.marks;
        acceptances = at_accepted (IsAccepted w.last w.declared) record {
          does = may.does;
          above = may.low;
          bounded =
              may.least;
          upto = may.upto;
          at = omega arith;
          mode = may.mode;
        } i.acceptances;
        keys = λ q. at_cells w k q (with_lock (w.cells k) (Some lock))
            (λ x. OnCells w.declared w.decided (locking w k lock).accepted (locking w k lock).shown x (w.collected x))
            here (others q);
        commits = λ t c end. (let was = i.commits t c end in record {
          range = was.range;
          accepts = λ q some. more_accepted t q (was.accepts q some);
          bounds = λ q by e. elim (was_accepted t q by e) [
            | inl x ↦ absurd (may.uncommitted c (ap w.decided x.0 ∙ end))
            | inr x ↦ was.bounds q by x
          ];
          shows = elim (shown_cases t) [
            | inl x ↦ absurd (may.uncommitted c (ap w.decided x.0 ∙ end))
            | inr x ↦ omega (arith, x, was.shows)
          ];
        });
        checks = at_accepted (λ t q by. (v : Value) → Inserts w.declared t q v → IsRead w.reads q t) may.checked
            i.checks;
        unread = at_accepted (λ t q by. w.decided t ≡ Open → (m : Mutation) → Does w.declared t q m → IsVisible m
            → (r : ℕ) → IsRead w.reads q r
            → LiesBelow (locking w k lock).accepted (locking w k lock).shown t r)
            (λ o m does v r read. inl (k, accepting w lock, now_accepted, new_unread r read))
            (λ t q by e o m does v r read. elim (i.unread t q by e o m does v r read) [
              | inl x ↦ inl (x.0, x.1, still_accepted t x.0 x.1 x.2, x.3)
              | inr x ↦ inr (omega (arith, x, shown_grows t))
            ]);
        shown = record {
          undeclared = λ t e. elim (shown_cases t) [
            | inl x ↦
                absurd (does_declared w.declared t k lock.mutation
                (subst (λ n. Does w.declared n k lock.mutation) x.0 may.does) e)
            | inr x ↦ x ∙ i.shown.undeclared t e
          ];
          none = λ t q f e.
              elim (shown_cases t) [
                | inl x ↦ absurd (cc (
                  now_accepted,
                  subst (λ n. (locking w k lock).accepted n k
                      ≡ None) (sym x.0) (subst (λ y. (locking w k lock).accepted t y
                      ≡ None) (sym (one_first w.declared t k q x.1 f)) e),
                ))
                | inr x ↦ x ∙ i.shown.none t q f
                    (none_is (w.accepted t q) (λ by was. (cc (e, still_accepted t q by was))))
              ];
          first = λ t q by f e never.
              elim (was_accepted t q by e) [
                | inl x ↦ cond_true ((lock.start == t)
                    && is_first (set_of (w.declared t)) k) lock.min (w.shown t)
                    (rw (
                      eq-eqb lock.start t x.0,
                      subst (λ y. is_first (set_of (w.declared t)) y ≡ true) (sym x.1) f,
                    ) refl)
                    ∙ ap (λ (b : Acceptance). b.lock.min) x.2
                | inr was ↦ elim (shown_cases t) [
                  | inl x ↦ absurd (cc (
                    may.new,
                    subst (λ n. w.accepted n k
                        ≡ Some by) (sym x.0) (subst (λ y. w.accepted t y
                        ≡ Some by) (sym (one_first w.declared t k q x.1 f)) was),
                  ))
                  | inr x ↦ x ∙ i.shown.first t q by f was
                      (λ fell. never (record {
                        key = fell.key;
                        by = fell.by;
                        stands =
                            still_accepted t fell.key fell.by fell.stands;
                        two_phase = fell.two_phase;
                      }))
                ]
              ];
        };
      }

-- where no lock stands, and a read of the cells gives none, there is no value
no_value : (w : View) (k : Key) (r : ℕ) → Inv w → w.collected k ≤ r
    → ((other : Lock) → (w.cells k).lock ≡ Some other → ⊥) → Reads (w.cells k).write r None
    → HasNoValue w.declared w.decided k r
no_value w k r i fresh free none u d v end does low =
    elim ((i.keys k).kept.complete u d (Put v) end does) [
      | inl x ↦ elim (seen_above (w.cells k).write d r) [
        | inl y ↦ record {
          start = y.rec.start;
          at = y.at;
          mutation = y.rec.mutation;
          committed =
              (i.keys k).records.committed y.at y.rec y.stands;
          does =
              (i.keys k).records.does y.at y.rec y.stands;
          visible = y.visible;
          above = y.above;
          upto = y.upto;
        }
        | inr bare ↦ absurd (none v
            (record {
              at = d;
              rec = x.rec;
              stands = x.stands;
              puts =
                  one_does w.declared x.rec.start u k x.rec.mutation (Put v) x.own
                  ((i.keys k).records.does d x.rec x.stands)
                  does;
              upto = low;
              newest = bare;
            }))
      ]
      | inr rest ↦ elim rest [
        | inl x ↦ absurd (free x.lock x.stands)
        | inr gone ↦ elim gone.way [
          | inl other ↦ absurd (other v refl)
          | inr x ↦ record {
            start = x.start;
            at = x.at;
            mutation = x.mutation;
            committed = x.committed;
            does =
                x.does;
            visible = x.visible;
            above = x.above;
            upto = omega (arith, x.upto, fresh);
          }
        ]
      ]
    ]

-- what the table of a prewrite asks gives all that the lock needs: nothing of the transaction
-- stands on the key, which is free, no commit record lies above its start, and no collection
pub may_lock : (w : View) (k : Key) (lock : Lock) → Inv w → w.collected k ≤ lock.start
    → ((c : ℕ) → OwnCommit (w.cells k).write lock.start c → ⊥) → (OwnRollback (w.cells k).write lock.start → ⊥)
    → ((other : Lock) → (w.cells k).lock ≡ Some other → ⊥)
    → ((at : ℕ) (rec : CommitRecord) → (w.cells k).write at ≡ Some (CommitOf rec) → at ≤ lock.start)
    → Does w.declared lock.start k lock.mutation → lock.start < lock.min → lock.min ≤ bound (accepting w lock)
    → bound (accepting w lock) ≤ w.last + 1 → (lock.mode ≡ Async → w.floor k < lock.min)
    → ((d : Declaration) → w.declared lock.start ≡ Some d → d.mode ≡ TwoPhase → lock.mode ≡ TwoPhase)
    → ((v : Value) → Inserts w.declared lock.start k v → Reads (w.cells k).write lock.start None)
    → ((v : Value) → Inserts w.declared lock.start k v → IsRead w.reads k lock.start) → MayLock w k lock
may_lock w k lock i fresh uncommitted unrolled free low does above least upto after mode none checked =
    record {
      free = none_is (w.cells k).lock free;
      new = new;
      does = does;
      fresh = fresh;
      low = above;
      least = least;
      upto = upto;
      after_reads = after;
      mode = mode;
      unseen = λ v ins. no_value w k lock.start i fresh free (none v ins);
      checked = checked;
      uncommitted = λ c end. (i.commits lock.start c end).accepts k
          (does_within w.declared lock.start k lock.mutation does) new;
      above = λ u d m end does.
          elim ((i.keys k).kept.complete u d m end does) [
            | inl x ↦ low d x.rec x.stands
            | inr rest ↦ elim rest [
              | inl x ↦ absurd (free x.lock x.stands)
              | inr gone ↦ omega (arith, gone.below, fresh)
            ]
          ];
    }
  where
    new : w.accepted lock.start k ≡ None
    new = never_accepted w k lock.start i fresh (λ other own. free other own.stands) uncommitted unrolled

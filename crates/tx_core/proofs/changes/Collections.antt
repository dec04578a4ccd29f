-- A region drops the records below its safe point that no read needs any more.
use Rattle.std.proofs.Common.{◌≡◌, ℕ, ◌+◌, ◌-◌, ◌<◌, ◌≤◌, ◌⊎◌, ◌&&◌, not, nat_lt, zero, suc, inl, inr, Bool, true, false, cond, Option, Some, None, refl, sym, ap, ◌∙◌, arith}
use Rattle.std.proofs.lemmas.Bool.{cases_Bool, and_parts, and_cases, or_cases, not-true, not-false, ltb-true, lt-ltb}
use Rattle.tx_types.specs.declared.key.Key.{Key}
use Rattle.tx_types.specs.declared.mutation.Mutation.{Mutation}
use Rattle.tx_types.specs.declared.mutation.Mutation.TheVariants as mutation
use Rattle.tx_types.specs.Keys.{IsVisible, is_visible}
use Rattle.tx_plan.specs.Cells.{Lock, CommitRecord, Write, CommitOf, Rollback, Writes, Cells}
use Rattle.tx_plan.specs.Own.{OwnRollback}
use Rattle.tx_core.proofs.Basics.{nat_test, chosen, cond_true, cond_false, or_false}
use Rattle.tx_core.proofs.view.View.{View, Inv, Does, IsCommitted, Written, Held, Gone, one_does, gone_by}
use Rattle.tx_plan.specs.cases.Collect.{keeps, kept, commit_is, is_put, none_above}
use Rattle.tx_core.proofs.view.Ends.{Ends}

-- what stands on these keys is collected up to the safe point
abbrev pub collecting : View → (Key → Bool) → ℕ → View
collecting w within safe =
    record w {
      cells = λ q. cond (within q) (kept (w.cells q) safe) (w.cells q);
      collected = λ q. cond (within q) safe (w.collected q);
    }

-- ---- records between two timestamps

-- between two timestamps where the test finds no put or delete, none stands
none_in : (write : Writes) (q n c : ℕ) → none_above write q n ≡ true → q < c → c ≤ q + n
    → commit_is is_visible (write c) ≡ false
none_in write q zero c e low high = absurd (omega (arith, low, high))
none_in write q (suc n) c e low high =
    let both = and_parts (not (commit_is is_visible (write (q + suc n)))) (none_above write q n) e in
    elim (nat_test c (q + suc n)) [
      | inl x ↦ ap (λ y. commit_is is_visible (write y)) x.1
          ∙ not-true (commit_is is_visible (write (q + suc n))) both.0
      | inr x ↦ none_in write q n c both.1 low (omega (arith, x.1, high))
    ]

-- a put or delete that stands between two timestamps
record SeenIn (write : Writes) (low high : ℕ) : Type 0 where
  at : ℕ
  above : low < at
  upto : at ≤ high
  sees : commit_is is_visible (write at) ≡ true

-- where the test finds one, one stands
some_in : (write : Writes) (q n : ℕ) → none_above write q n ≡ false → SeenIn write q (q + n)
some_in write q zero e = absurd (cc (e))
some_in write q (suc n) e =
    elim (and_cases (not (commit_is is_visible (write (q + suc n)))) (none_above write q n) e) [
      | inl x ↦ record {
        at = q + suc n;
        above = omega arith;
        upto = omega arith;
        sees =
            not-false (commit_is is_visible (write (q + suc n))) x;
      }
      | inr x ↦ (let old = some_in write q n x in
          record { at = old.at; above = old.above; upto = omega (arith, old.upto); sees = old.sees })
    ]

seen_record : (o : Option Write) → commit_is is_visible o ≡ true
    → (rec : CommitRecord) × (o ≡ Some (CommitOf rec)) × IsVisible rec.mutation
seen_record None e = absurd (cc (e))
seen_record (Some Rollback) e = absurd (cc (e))
seen_record (Some (CommitOf rec)) e = (rec, refl, go rec.mutation refl)
  where
    go : (m : Mutation) → rec.mutation ≡ m → IsVisible rec.mutation
    go (mutation.Put v) x = rw x tt
    go (mutation.Insert v) x = rw x tt
    go mutation.Delete x = rw x tt
    go mutation.Lock x = (let fact : commit_is is_visible (Some (CommitOf rec)) ≡ false = rw x refl in
        absurd (cc (fact, e)))

record_seen : (m : Mutation) → IsVisible m → is_visible m ≡ true
record_seen (mutation.Put v) h = refl
record_seen (mutation.Insert v) h = refl
record_seen mutation.Delete h = refl
record_seen mutation.Lock h = absurd h

module _ (w : View) (within : Key → Bool) (safe : ℕ) where
  is_lock : (q : Key) → ((collecting w within safe).cells q).lock ≡ (w.cells q).lock
  is_lock q = elim (cases_Bool (within q)) [
    | inl x ↦
        ap (λ (c : Cells). c.lock) (cond_true (within q) (kept (w.cells q) safe) (w.cells q) x)
    | inr x ↦ ap (λ (c : Cells). c.lock) (cond_false (within q) (kept (w.cells q) safe) (w.cells q) x)
  ]

  was_lock : (q : Key) (old : Lock) → ((collecting w within safe).cells q).lock ≡ Some old → (w.cells q).lock ≡ Some old
  was_lock q old e = sym (is_lock q) ∙ e

  was_write : (q : Key) (e : ℕ) (x : Write) → ((collecting w within safe).cells q).write e ≡ Some x
      → ((w.cells q).write e ≡ Some x) × (within q ≡ true → keeps (w.cells q).write safe e ≡ true)
  was_write q e x at =
      elim (cases_Bool (within q)) [
        | inl y ↦ (let fact =
            sym (ap (λ (c : Cells). c.write e) (cond_true (within q) (kept (w.cells q) safe) (w.cells q) y)) ∙ at in
            elim (chosen (keeps (w.cells q).write safe e) ((w.cells q).write e) None (Some x) fact) [
              | inl z ↦
                  (z.1, λ _. z.0)
              | inr z ↦ absurd (cc (z.1))
            ])
        | inr y ↦ (
          sym (ap (λ (c : Cells). c.write e) (cond_false (within q) (kept (w.cells q) safe) (w.cells q) y))
              ∙ at,
          λ z. absurd (cc (y, z)),
        )
      ]

  -- a record stays, or lies below the safe point on a key of the region, and is not kept
  still_write : (q : Key) (e : ℕ) (x : Write) → (w.cells q).write e ≡ Some x
      → (((collecting w within safe).cells q).write e ≡ Some x)
      ⊎ ((within q ≡ true) × (keeps (w.cells q).write safe e ≡ false))
  still_write q e x at =
      elim (cases_Bool (within q)) [
        | inl y ↦ elim (cases_Bool (keeps (w.cells q).write safe e)) [
          | inl z ↦ inl (ap (λ (c : Cells). c.write e) (cond_true (within q) (kept (w.cells q) safe) (w.cells q) y)
              ∙ cond_true (keeps (w.cells q).write safe e) ((w.cells q).write e) None z ∙ at)
          | inr z ↦ inr (y, z)
        ]
        | inr y ↦ inl (ap (λ (c : Cells). c.write e) (cond_false (within q) (kept (w.cells q) safe) (w.cells q) y) ∙ at)
      ]

  dropped_below : (q : Key) (e : ℕ) → keeps (w.cells q).write safe e ≡ false → e < safe
  dropped_below q e x =
      ltb-true e safe (not-false (nat_lt e safe)
      (or_false (not (nat_lt e safe)) (commit_is is_put ((w.cells q).write e)
      && none_above (w.cells q).write e (safe - e)) x).0)

  now_collected : (q : Key) → within q ≡ true → (collecting w within safe).collected q ≡ safe
  now_collected q y = cond_true (within q) safe (w.collected q) y

  still_held : (q : Key) (t : ℕ) → Held (w.cells q) t → Held ((collecting w within safe).cells q) t
  still_held q t h = record { lock = h.lock; stands = is_lock q ∙ h.stands; own = h.own }

  was_rollback : (q : Key) (t : ℕ) → OwnRollback ((collecting w within safe).cells q).write t
      → OwnRollback (w.cells q).write t
  was_rollback q t own =
      elim own [
        | inl back ↦ inl (was_write q t Rollback back).0
        | inr mark ↦ inr (
          mark.0,
          record { stands = (was_write q t (CommitOf mark.0) mark.1.stands).0; other = mark.1.other },
          mark.2,
        )
      ]

  -- a rollback stays, or its transaction lies below the collection
  still_rollback : (q : Key) (t : ℕ) → OwnRollback (w.cells q).write t
      → OwnRollback ((collecting w within safe).cells q).write t ⊎ (t < (collecting w within safe).collected q)
  still_rollback q t own =
      elim own [
        | inl back ↦ elim (still_write q t Rollback back) [
          | inl x ↦ inl (inl x)
          | inr x ↦ inr (omega (arith, dropped_below q t x.1, now_collected q x.0))
        ]
        | inr mark ↦ elim (still_write q t (CommitOf mark.0) mark.1.stands) [
          | inl x ↦
              inl (inr (mark.0, record { stands = x; other = mark.1.other }, mark.2))
          | inr x ↦ inr (omega (arith, dropped_below q t x.1, now_collected q x.0))
        ]
      ]

  -- ---- where no lock lies below the safe point

  module _ (i : Inv w) (more : (q : Key) → within q ≡ true
      → (w.collected q ≤ safe) × (safe ≤ w.safe q)) (free : (q : Key) (lock : Lock) → within q ≡ true
      → (w.cells q).lock ≡ Some lock → safe ≤ lock.start) where
    collected_grows : (q : Key) → w.collected q ≤ (collecting w within safe).collected q
    collected_grows q = elim (cases_Bool (within q)) [
      | inl x ↦ omega (arith, (more q x).0, now_collected q x)
      | inr x ↦ omega (arith, cond_false (within q) safe (w.collected q) x)
    ]

    -- a commit whose record is collected
    dropped : (q : Key) (u d : ℕ) (m : Mutation) → Does w.declared u q m → (x : Written (w.cells q) u d)
        → keeps (w.cells q).write safe d ≡ false → Gone w.decided w.declared q d safe m
    dropped q u d m does x e =
        let parts = or_false (not (nat_lt d safe)) (commit_is is_put ((w.cells q).write d)
        && none_above (w.cells q).write d (safe - d)) e in
        let below = dropped_below q d e in
        let same : x.rec.mutation ≡ m =
        one_does w.declared x.rec.start u q x.rec.mutation m x.own ((i.keys q).records.does d x.rec x.stands)
        does in
        record {
          below = below;
          way = elim (and_cases (commit_is is_put ((w.cells q).write d)) (none_above (w.cells q).write d (safe - d))
              parts.1) [
                | inl y ↦ inl (λ v is. (cc (ap (commit_is is_put) x.stands, y, ap is_put (same ∙ is))))
                | inr y ↦ (let later = some_in (w.cells q).write d (safe - d) y in
                    let found = seen_record ((w.cells q).write later.at) later.sees in
                    inr (record {
                      start = found.0.start;
                      at = later.at;
                      mutation = found.0.mutation;
                      committed =
                          (i.keys q).records.committed later.at found.0 found.1;
                      does =
                          (i.keys q).records.does later.at found.0 found.1;
                      visible = found.2;
                      above = later.above;
                      upto =
                          omega (arith, later.upto, below);
                    }))
              ];
        }

    -- a put that is kept below the safe point has no later commit up to there
    newest_kept : (q : Key) (e : ℕ) (rec : CommitRecord) → within q ≡ true → (w.cells q).write e ≡ Some (CommitOf rec)
        → IsVisible rec.mutation → keeps (w.cells q).write safe e ≡ true → e < safe → (u d : ℕ) (m : Mutation)
        → IsCommitted w.decided u d → Does w.declared u q m → IsVisible m → e < d → d ≤ safe → ⊥
    newest_kept q e rec inside x v keep low u d m end does seen above upto =
        elim (or_cases (not (nat_lt e safe)) (commit_is is_put ((w.cells q).write e)
        && none_above (w.cells q).write e (safe - e)) keep) [
          | inl y ↦ (cc (not-true (nat_lt e safe) y, lt-ltb e safe low))
          | inr y ↦ (let none =
              (and_parts (commit_is is_put ((w.cells q).write e)) (none_above (w.cells q).write e (safe - e)) y).1 in
              elim ((i.keys q).kept.complete u d m end does) [
                | inl z ↦ (let same : z.rec.mutation ≡ m =
                    one_does w.declared z.rec.start u q z.rec.mutation m z.own
                    ((i.keys q).records.does d z.rec z.stands)
                    does in
                    cc (
                      none_in (w.cells q).write e (safe - e) d none above (omega (arith, upto, low)),
                      ap (commit_is is_visible) z.stands,
                      ap is_visible same,
                      record_seen m seen,
                    ))
                | inr rest ↦ elim rest [
                  | inl z ↦ omega (arith, free q z.lock inside z.stands, z.own, (i.commits u d end).range.0, upto)
                  | inr gone ↦ (i.keys q).records.newest e rec x v (omega (arith, gone.below, above)) u d m end does
                      seen
                      above (omega (arith, gone.below))
                ]
              ])
        ]

    -- a region collects up to its safe point where no lock started below it
    pub inv_collect : Inv (collecting w within safe)
    inv_collect =
        record {
          clock = i.clock;
          marks = record {
            upto = i.marks.upto;
            known = i.marks.known;
            low =
                λ q. elim (cases_Bool (within q)) [
                  | inl x ↦ omega (arith, (more q x).1, now_collected q x)
                  | inr x ↦ omega (arith, i.marks.low q, cond_false (within q) safe (w.collected q) x)
                ];
          };
          acceptances = i.acceptances;
          keys = λ q. record {
            lock = λ old e. (i.keys q).lock old (was_lock q old e);
            alone = λ old e. (let before = (i.keys q).alone old (was_lock q old e) in record {
              above = before.above;
              unwritten = λ c rec x. before.unwritten c rec (was_write q c (CommitOf rec) x).0;
              fresh = elim (cases_Bool (within q)) [
                | inl x ↦
                    omega (arith, now_collected q x, free q old x (was_lock q old e))
                | inr x ↦ omega (arith, cond_false (within q) safe (w.collected q) x, before.fresh)
              ];
              unseen = before.unseen;
            });
            records = record {
              committed = λ c rec x. (i.keys q).records.committed c rec (was_write q c (CommitOf rec) x).0;
              does = λ c rec x. (i.keys q).records.does c rec (was_write q c (CommitOf rec) x).0;
              rolled = λ t own. (i.keys q).records.rolled t (was_rollback q t own);
              newest = λ e rec x v low u d m end does seen above upto.
                  (let was = was_write q e (CommitOf rec) x in
                  elim (cases_Bool (within q)) [
                    | inl y ↦ newest_kept q e rec y was.0 v (was.1 y) (omega (arith, low, now_collected q y)) u d m end
                        does seen above (omega (arith, upto, now_collected q y))
                    | inr y ↦ (let at = cond_false (within q) safe (w.collected q) y in
                        (i.keys q).records.newest e rec was.0 v (omega (arith, low, at)) u d m end does seen above
                        (omega (arith, upto, at)))
                  ]);
            };
            kept = record {
              complete = λ u d m e does.
                  elim ((i.keys q).kept.complete u d m e does) [
                    | inl x ↦ elim (still_write q d (CommitOf x.rec) x.stands) [
                      | inl y ↦ inl (record { rec = x.rec; stands = y; own = x.own })
                      | inr y ↦ inr (inr (gone_by w.decided w.decided w.declared w.declared q d safe
                          ((collecting w within safe).collected q) m (λ u at e. e) (λ u n e. e)
                          (omega (arith, now_collected q y.0)) (dropped q u d m does x y.1)))
                    ]
                    | inr rest ↦ elim rest [
                      | inl x ↦ inr (inl (still_held q u x))
                      | inr gone ↦ inr (inr
                          (gone_by w.decided w.decided w.declared w.declared q d (w.collected q)
                          ((collecting w within safe).collected q) m (λ u at e. e) (λ u n e. e) (collected_grows q)
                          gone))
                    ]
                  ];
              held = λ t e o. still_held q t ((i.keys q).kept.held t e o);
              cleared = λ t e gone.
                  elim ((i.keys q).kept.cleared t e gone) [
                    | inl x ↦ inl (still_held q t x)
                    | inr rest ↦ elim rest [
                      | inl x ↦ inr (still_rollback q t x)
                      | inr low ↦ inr (inr (omega (arith, low, collected_grows q)))
                    ]
                  ];
            };
          };
          commits = i.commits;
          unread = i.unread;
          checks = i.checks;
          shown = i.shown;
        }

    -- and the ends of transactions stay
    pub ends_collect : Ends w → Ends (collecting w within safe)
    ends_collect ends =
        record {
          all_async = ends.all_async;
          first_settled = λ t c q lock end fell first own. ends.first_settled t c q lock end fell first
              (record { stands = was_lock q lock own.stands; own = own.own });
          aborted = λ t end.
              elim (ends.aborted t end) [
                | inl x ↦ inl (record {
                  key = x.key;
                  within = x.within;
                  never = x.never;
                  way =
                      elim x.way [
                        | inl back ↦ still_rollback x.key t back
                        | inr low ↦ inr (omega (arith, low, collected_grows x.key))
                      ];
                })
                | inr x ↦ inr (record {
                  fell = x.fell;
                  key = x.key;
                  primary = x.primary;
                  was = x.was;
                  cleared =
                      λ lock own. x.cleared lock (record { stands = was_lock x.key lock own.stands; own = own.own });
                })
              ];
        }

-- Changes keep what every key meets.
use Rattle.std.proofs.Common.{◌≡◌, ◌≢◌, ◌⊎◌, ℕ, ◌==◌, ◌^◌, ◌<◌, inl, inr, Bool, true, false, cond, length, Option, Some, None, refl, sym, ap, subst, ◌∙◌, arith}
use Rattle.std.proofs.lemmas.Bool.{eqb-true, eq-eqb, cases_Bool, cases_lt, cases_eq, lt-ltb, le-ltb}
use Rattle.std.specs.Prelude.{option_map}
use Rattle.tx_types.specs.declared.limits.TheConstants.{MAX_INLINE_BYTES}
use Rattle.tx_types.specs.declared.value.Value.{Value}
use Rattle.tx_types.specs.declared.value.StoredValue.TheVariants.{Inline, InDefault}
use Rattle.tx_types.specs.declared.mutation.Mutation.{Mutation}
use Rattle.tx_types.specs.declared.mutation.Mutation.TheVariants as mutation
use Rattle.tx_types.specs.declared.mutation.StoredMutation.TheVariants as stored
use Rattle.tx_types.specs.declared.lock.LockRec.{LockRec}
use Rattle.tx_types.specs.declared.write.CommitRec.{CommitRec}
use Rattle.tx_types.specs.declared.write.WriteRec.{WriteRec}
use Rattle.tx_types.specs.declared.write.WriteRec.TheVariants.{Commit, Rollback}
use Rattle.tx_plan.specs.declared.body.Prewrite.{Prewrite}
use Rattle.tx_plan.specs.declared.key_change.KeyChange.{KeyChange}
use Rattle.tx_plan.specs.declared.key_change.KeyChange.TheVariants as change
use Rattle.tx_plan.specs.declared.key_change.NewLock.{NewLock}
use Rattle.tx_plan.specs.declared.key_change.Left.{Left}
use Rattle.tx_plan.specs.declared.key_change.Left.TheVariants as left
use Rattle.tx_plan.specs.Cells as tables
use Rattle.tx_plan.specs.Cells.{is_long}
use Rattle.tx_plan.specs.Changes.{Applies, IsLeft, IsRemoved, HasCommitAt, CanPut}
use Rattle.tx_cells.specs.Heads.{keeps_apart}
use Rattle.tx_cells.specs.Contents.{OnKey, cells_of, lock_of, IsWhole, IsKept, LockKeeps, WriteKeeps}
use Rattle.tx_plan.specs.Sound.{IsSound}
use Rattle.tx_cells.specs.Afterwards.{after, after_left, with_lock, with_ttl, with_min, with_record, without_value, with_value, with_mark, marked, on_lock, commit_of, put_on, lock_put, stored_of, apart_of}
use Rattle.tx_cells.proofs.RecordCells.{stands_commit}
use Rattle.tx_plan.proofs.Sound.{sound_changed, sound_put}
use Rattle.tx_cells.proofs.CellsAfter.{cells_after, cells_put, without_apart, with_apart, alone, uncommitted}

-- the timestamps of a change fit
abbrev pub Fits : KeyChange → Type 0
Fits change.Nothing = Unit {0}
Fits (change.Lock new) = Unit {0}
Fits (change.Ttl ttl) = Unit {0}
Fits (change.Minimum min) = Unit {0}
Fits (change.Commit c o) = c < 2 ^ 64
Fits (change.RollBack t removes left) = t < 2 ^ 64

abbrev Records : Type 0
Records = ℕ → Option WriteRec

-- a lock record that is there, in the cells
pub lock_there : (x : OnKey) (lock : tables.Lock) → (cells_of x).lock ≡ Some lock
    → (rec : LockRec) × (x.lock ≡ Some rec) × (lock_of x.value rec ≡ lock)
lock_there x lock e = go x.lock refl e
  where
    go : (o : Option LockRec) → x.lock ≡ o
        → option_map (lock_of x.value) o ≡ Some lock → (rec : LockRec) × (x.lock ≡ Some rec)
        × (lock_of x.value rec ≡ lock)
    go None f g = absurd (cc g)
    go (Some rec) f g = (rec, f, cc g)

pub no_lock : (x : OnKey) → (cells_of x).lock ≡ None → x.lock ≡ None
no_lock x e = go x.lock refl e
  where
    go : (o : Option LockRec) → x.lock ≡ o → option_map (lock_of x.value) o ≡ None → o ≡ None
    go None f g = refl
    go (Some rec) f g = absurd (cc g)

-- ---- with another record of the same lock

module _ (x : OnKey) (rec new : LockRec) (w : IsWhole x) (e : x.lock ≡ Some rec)
    (start : new.start ≡ rec.start) (same : new.mutation ≡ rec.mutation)
    (sound : IsSound (cells_of (with_lock x (Some new)))) where
  relocked_keeps : (t : ℕ) → LockKeeps x.lock t → LockKeeps (Some new) t
  relocked_keeps t k =
      let one : rec ≡ k.rec = cc (e, k.found) in
      record {
        rec = new;
        found = refl;
        of = start
            ∙ ap (λ (r : LockRec). r.start) one ∙ k.of;
        apart =
            ap keeps_apart same ∙ ap (λ (r : LockRec). keeps_apart r.mutation) one ∙ k.apart;
      }

  pub whole_relocked : IsWhole (with_lock x (Some new))
  whole_relocked = record {
    lock_kept = λ r f. (
        let one : new ≡ r = cc f in
        let mine : IsKept (x.value new.start) new.mutation =
        subst (λ s. IsKept (x.value s) new.mutation) (sym start)
        (subst (IsKept (x.value rec.start)) (sym same) (w.lock_kept rec e)) in
        subst (λ (q : LockRec). IsKept (x.value q.start) q.mutation) one mine);
    write_kept = w.write_kept;
    value_kept = λ t there. elim (w.value_kept t there) [ inl k ↦ inl (relocked_keeps t k) | inr k ↦ inr k ];
    write_fits = w.write_fits;
    sound = sound;
  }

-- ---- a lock that is committed

pub put_or_there : (c q : ℕ) (rec r : WriteRec) (o : Option WriteRec) → cond (c == q) (Some rec) o ≡ Some r
    → ((c ≡ q) × (rec ≡ r)) ⊎ (o ≡ Some r)
put_or_there c q rec r o e = elim (cases_Bool (c == q)) [
  | inl same ↦ (let f : Some rec ≡ Some r = sym (ap (λ b. cond b (Some rec) o) same)
      ∙ e in inl (eqb-true c q same, cc f))
  | inr other ↦ inr (sym (ap (λ b. cond b (Some rec) o) other) ∙ e)
]

pub put_here : (write : Records) (c : ℕ) (rec : WriteRec) → with_record write c rec c ≡ Some rec
put_here write c rec = ap (λ b. cond b (Some rec) (write c)) (eq-eqb c c refl)

pub put_elsewhere : (write : Records) (c q : ℕ) (rec : WriteRec) → (q ≡ c → ⊥) → with_record write c rec q ≡ write q
put_elsewhere write c q rec other = elim (cases_Bool (c == q)) [
  | inl same ↦ absurd (other (sym (eqb-true c q same)))
  | inr not ↦ ap (λ b. cond b (Some rec) (write q)) not
]

module _ (x : OnKey) (rec : LockRec)
    (c : ℕ) (o : Bool) (w : IsWhole x) (e : x.lock ≡ Some rec) (can : HasCommitAt (cells_of x) c o)
    (fits : c < 2 ^ 64) where
  same_lock : lock_of x.value rec ≡ can.lock
  same_lock = (let here : (cells_of x).lock ≡ Some (lock_of x.value rec) =
      ap (option_map (lock_of x.value)) e in cc (here, can.stands))

  start_is : rec.start ≡ can.lock.start
  start_is = ap (λ (l : tables.Lock). l.start) same_lock

  none_here : (r : CommitRec) → x.write c ≡ Some (Commit r) → ⊥
  none_here r f = elim (cases_eq r.start can.lock.start) [
    | inl own ↦ w.sound.uncommitted can.lock c can.stands
        (record { rec = _; stands = stands_commit x c r f; own = own })
    | inr other ↦ can.unconflicted _ (record { stands = stands_commit x c r f; other = other })
  ]

  abbrev Committed : OnKey
  Committed = record { lock = None; write = with_record x.write c (Commit (commit_of rec o)); value = x.value }

  pub whole_committed : IsSound (cells_of Committed) → IsWhole Committed
  whole_committed sound = record {
    lock_kept = λ r f. absurd (cc f);
    write_kept = λ q r f. elim (put_or_there c q (Commit (commit_of rec o)) (Commit r) (x.write q) f) [
      | inl new ↦ (let one : commit_of rec o ≡ r =
          cc new.1 in subst (λ (y : CommitRec). IsKept (x.value y.start) y.mutation) one (w.lock_kept rec e))
      | inr old ↦ w.write_kept q r old
    ];
    value_kept = λ t there. inr (elim (w.value_kept t there) [
      | inl k ↦ (
          let one : k.rec ≡ rec = cc (e, k.found) in
          record {
            at = c;
            rec = commit_of rec o;
            found = put_here x.write c (Commit (commit_of rec o));
            of = ap (λ (r : LockRec). r.start) (sym one) ∙ k.of;
            apart = ap (λ (r : LockRec). keeps_apart r.mutation) (sym one) ∙ k.apart;
          }
          )
      | inr k ↦ record {
        at = k.at;
        rec = k.rec;
        found = put_elsewhere x.write c k.at (Commit (commit_of rec o))
            (λ same. none_here k.rec (ap x.write (sym same) ∙ k.found)) ∙ k.found;
        of = k.of;
        apart = k.apart;
      }
    ]);
    write_fits = λ q r f. elim (put_or_there c q (Commit (commit_of rec o)) r (x.write q) f) [
      | inl new ↦ subst (λ n. n < 2 ^ 64) new.0 fits
      | inr old ↦ w.write_fits q r old
    ];
    sound = sound;
  }

-- ---- a rollback

-- the same transaction did the same
pub record IsLike (a b : CommitRec) : Type 0 where
  pub mutation : a.mutation ≡ b.mutation
  pub start : a.start ≡ b.start

mark_back : (o : Option WriteRec) (r : CommitRec) → marked o ≡ Some (Commit r) → (b : CommitRec) × (o ≡ Some (Commit b))
    × IsLike b r
mark_back None r e = absurd (cc e)
mark_back (Some (Rollback s)) r e = absurd (cc e)
mark_back (Some (Commit b)) r e = (let one : with_mark b ≡ r =
    cc e in (
      b,
      refl,
      record {
        mutation = ap (λ (y : CommitRec). y.mutation) one;
        start = ap (λ (y : CommitRec). y.start) one;
      },
    ))

-- what is a commit record afterwards was one before
pub left_back : (write : Records) (t : ℕ) (how : Left) (q : ℕ)
    (r : CommitRec) → after_left write t how q ≡ Some (Commit r) → (b : CommitRec) × (write q ≡ Some (Commit b))
    × IsLike b r
left_back write t left.Already q r e = (r, e, record { mutation = refl; start = refl })
left_back write t left.Record q r e = elim (put_or_there t q (Rollback t) (Commit r) (write q) e) [
  | inl new ↦ absurd (cc new.1)
  | inr old ↦ (r, old, record { mutation = refl; start = refl })
]
left_back write t left.Mark q r e = elim (cases_Bool (t == q)) [
  | inl same ↦ mark_back (write q) r (sym (ap (λ b. cond b (marked (write q)) (write q)) same) ∙ e)
  | inr other ↦ (
    r,
    sym (ap (λ b. cond b (marked (write q)) (write q)) other)
        ∙ e,
    record { mutation = refl; start = refl },
  )
]

-- what is a commit record before stays one
left_on : (x : OnKey) (t : ℕ) (how : Left) → IsWhole x → IsLeft (cells_of x).write t how
    → (q : ℕ) (b : CommitRec) → x.write q ≡ Some (Commit b)
    → (r : CommitRec) × (after_left x.write t how q ≡ Some (Commit r)) × IsLike b r
left_on x t left.Already w is q b e = (b, e, record { mutation = refl; start = refl })
left_on x t left.Record w is q b e =
    (b, put_elsewhere x.write t q (Rollback t) not_here ∙ e, record { mutation = refl; start = refl })
  where
    not_here : q ≡ t → ⊥
    not_here same = elim (cases_eq b.start t) [
      | inl own ↦ (let d = w.sound.commit_above q _ (stands_commit x q b e) in omega (arith, d, own, same))
      | inr other ↦ is _ (record { stands = stands_commit x t b (ap x.write (sym same) ∙ e); other = other })
    ]
left_on x t left.Mark w is q b e = elim (cases_Bool (t == q)) [
  | inl same ↦ (
    with_mark b,
    ap (λ v. cond v (marked (x.write q)) (x.write q)) same
        ∙ ap marked e,
    record { mutation = refl; start = refl },
  )
  | inr other ↦ (
    b,
    ap (λ v. cond v (marked (x.write q)) (x.write q)) other
        ∙ e,
    record { mutation = refl; start = refl },
  )
]

left_fits : (write : Records) (t : ℕ) (how : Left) → t < 2 ^ 64
    → ((c : ℕ) (r : WriteRec) → write c ≡ Some r → c < 2 ^ 64) → (q : ℕ) (r : WriteRec)
    → after_left write t how q ≡ Some r → q < 2 ^ 64
left_fits write t left.Already lt fits q r e = fits q r e
left_fits write t left.Record lt fits q r e = elim (put_or_there t q (Rollback t) r (write q) e) [
  | inl new ↦ subst (λ n. n < 2 ^ 64) new.0 lt
  | inr old ↦ fits q r old
]
left_fits write t left.Mark lt fits q r e = elim (cases_Bool (t == q)) [
  | inl same ↦ subst (λ n. n < 2 ^ 64) (eqb-true t q same) lt
  | inr other ↦ fits q r (sym (ap (λ b. cond b (marked (write q)) (write q)) other) ∙ e)
]

module _ (x : OnKey) (t : ℕ) (how : Left) (w : IsWhole x) (is : IsLeft (cells_of x).write t how) (lt : t < 2 ^ 64) where
  abbrev Rolled : Option LockRec → (ℕ → Option Value) → OnKey
  Rolled lock value = record { lock = lock; write = after_left x.write t how; value = value }

  write_on : (s : ℕ) → WriteKeeps x.write s → WriteKeeps (after_left x.write t how) s
  write_on s k = (
      let n = left_on x t how w is k.at k.rec k.found in
      record {
        at = k.at;
        rec = n.0;
        found = n.1;
        of = sym n.2.start ∙ k.of;
        apart = ap keeps_apart (sym n.2.mutation)
            ∙ k.apart;
      })

  kept_before : (q : ℕ) (r : CommitRec) → after_left x.write t how q ≡ Some (Commit r)
      → IsKept (x.value r.start) r.mutation
  kept_before q r e = (
      let b = left_back x.write t how q r e in
      subst (λ s. IsKept (x.value s) r.mutation) b.2.start
      (subst (IsKept (x.value b.0.start)) b.2.mutation (w.write_kept q b.0 b.1)))

  whole_left : IsSound (cells_of (Rolled x.lock x.value)) → IsWhole (Rolled x.lock x.value)
  whole_left sound = record {
    lock_kept = w.lock_kept;
    write_kept = kept_before;
    value_kept = λ s there. elim (w.value_kept s there) [ inl k ↦ inl k | inr k ↦ inr (write_on s k) ];
    write_fits = left_fits x.write t how lt w.write_fits;
    sound = sound;
  }

  whole_removed : IsRemoved (cells_of x).lock t true → IsSound (cells_of (Rolled None (without_value x.value t)))
      → IsWhole (Rolled None (without_value x.value t))
  whole_removed removed sound = record {
    lock_kept = λ r f. absurd (cc f);
    write_kept = λ q r f. (
        let b = left_back x.write t how q r f in
        let apart = without_apart x.value t r.start
        (λ own. alone x t w.sound.uncommitted removed q b.0 b.1 (b.2.start ∙ own)) in
        subst (λ (v : Option Value). IsKept v r.mutation) (sym apart) (kept_before q r f));
    value_kept = λ s there. (
        let other : s ≡ t → ⊥ = λ same. there (ap (λ b. cond b None (x.value s)) (eq-eqb t s (sym same))) in
        elim (w.value_kept s (λ none. there (without_apart x.value t s other ∙ none))) [
          | inl k ↦ (
              let l = lock_there x removed.0 removed.1.stands in
              let one : k.rec ≡ l.0 = cc (k.found, l.1) in
              absurd (other (sym k.of ∙ ap (λ (r : LockRec). r.start) one ∙ ap (λ (y : tables.Lock). y.start) l.2
              ∙ removed.1.own))
              )
          | inr k ↦ inr (write_on s k)
        ]);
    write_fits = left_fits x.write t how lt w.write_fits;
    sound = sound;
  }

whole_rolled : (x : OnKey) (t : ℕ) (removes : Bool) (how : Left) → IsWhole x → IsRemoved (cells_of x).lock t removes
    → IsLeft (cells_of x).write t how → t < 2 ^ 64
    → IsSound (cells_of (after x (change.RollBack t removes how))) → IsWhole (after x (change.RollBack t removes how))
whole_rolled x t true how w removed is lt sound = whole_removed x t how w is lt removed sound
whole_rolled x t false how w removed is lt sound = whole_left x t how w is lt sound

-- ---- changes

pub on_same : (x : OnKey) (rec : LockRec) (f : LockRec → OnKey) → x.lock ≡ Some rec → on_lock x f ≡ f rec
on_same x rec f e = ap (λ (o : Option LockRec). elim o [ None ↦ x | Some r ↦ f r ]) e

pub whole_after : (x : OnKey) (made : KeyChange) → IsWhole x → Applies (cells_of x) made → Fits made
    → IsWhole (after x made)
whole_after x made w applies fits =
    go made applies fits (subst IsSound (sym (cells_after x made w.sound.uncommitted applies))
    (sound_changed (cells_of x) made w.sound applies))
  where
    go : (k : KeyChange) → Applies (cells_of x) k → Fits k → IsSound (cells_of (after x k)) → IsWhole (after x k)
    go change.Nothing applies fits sound = w
    go (change.Lock new) applies fits sound = w
    go (change.Ttl ttl) applies fits sound = (
        let l = lock_there x applies.0 applies.1 in
        let is = on_same x l.0 (λ rec. with_lock x (Some (with_ttl rec ttl))) l.1 in
        subst IsWhole (sym is) (whole_relocked x l.0 (with_ttl l.0 ttl) w l.1 refl refl
        (subst (λ (y : OnKey). IsSound (cells_of y)) is sound)))
    go (change.Minimum min) applies fits sound = (
        let l = lock_there x applies.lock applies.stands in
        let is = on_same x l.0 (λ rec. with_lock x (Some (with_min rec min))) l.1 in
        subst IsWhole (sym is) (whole_relocked x l.0 (with_min l.0 min) w l.1 refl refl
        (subst (λ (y : OnKey). IsSound (cells_of y)) is sound)))
    go (change.Commit c o) applies fits sound = (
        let l = lock_there x applies.lock applies.stands in
        let is = on_same x l.0 (λ rec. record {
          lock = None;
          write = with_record x.write c (Commit (commit_of rec o));
          value = x.value;
        }) l.1 in
        subst IsWhole (sym is) (whole_committed x l.0 c o w l.1 applies fits
        (subst (λ (y : OnKey). IsSound (cells_of y)) is sound)))
    go (change.RollBack t removes how) applies fits sound =
        whole_rolled x t removes how w applies.0 applies.1 fits sound

-- ---- a lock that is put

put_apart : (value : ℕ → Option Value) (t : ℕ) (v : Value)
    → IsKept (with_value value t (apart_of (mutation.Put v)) t) (stored_of (mutation.Put v))
put_apart value t v = elim (cases_lt MAX_INLINE_BYTES (length v)) [
  | inl long ↦ (
      let is : is_long (mutation.Put v) ≡ true = lt-ltb MAX_INLINE_BYTES (length v) long in
      let there : IsKept (cond (t == t) (Some v) (value t))
      (stored.Put InDefault) =
      subst (λ b. IsKept (cond b (Some v) (value t)) (stored.Put InDefault)) (sym (eq-eqb t t refl)) long in
      subst (λ b. IsKept (with_value value t (cond b (Some v) None) t) (stored.Put (cond b InDefault (Inline v))))
      (sym is) there
      )
  | inr short ↦ (
      let is : is_long (mutation.Put v) ≡ false = le-ltb MAX_INLINE_BYTES (length v) short in
      subst (λ b. IsKept (with_value value t (cond b (Some v) None) t) (stored.Put (cond b InDefault (Inline v))))
      (sym is) short
      )
]

kept_apart : (value : ℕ → Option Value) (t : ℕ) (m : Mutation)
    → IsKept (with_value value t (apart_of m) t) (stored_of m)
kept_apart value t mutation.Delete = tt
kept_apart value t mutation.Lock = tt
kept_apart value t (mutation.Put v) = put_apart value t v
kept_apart value t (mutation.Insert v) = put_apart value t v

-- where a value is kept apart, the record says so
apart_put : (value : ℕ → Option Value) (t : ℕ) (v : Value)
    → value t ≡ None → with_value value t (apart_of (mutation.Put v)) t ≢ None
    → keeps_apart (stored_of (mutation.Put v)) ≡ true
apart_put value t v none there = elim (cases_Bool (is_long (mutation.Put v))) [
  | inl long ↦ ap (λ b. keeps_apart (stored.Put (cond b InDefault (Inline v)))) long
  | inr short ↦ absurd (there (ap (λ b. with_value value t (cond b (Some v) None) t) short ∙ none))
]

apart_kept : (value : ℕ → Option Value) (t : ℕ) (m : Mutation) → value t ≡ None
    → with_value value t (apart_of m) t ≢ None → keeps_apart (stored_of m) ≡ true
apart_kept value t mutation.Delete none there = absurd (there none)
apart_kept value t mutation.Lock none there = absurd (there none)
apart_kept value t (mutation.Put v) none there = apart_put value t v none there
apart_kept value t (mutation.Insert v) none there = apart_put value t v none there

-- no value is kept apart for a transaction that can put a lock
pub no_value : (x : OnKey) (b : Prewrite) (new : NewLock) → IsWhole x → CanPut (cells_of x) b new
    → x.value b.start ≡ None
no_value x b new w can = go (x.value b.start) refl
  where
    go : (o : Option Value) → x.value b.start ≡ o → o ≡ None
    go None e = refl
    go (Some v) e = elim (w.value_kept b.start (λ none. cc (e, none))) [
      | inl k ↦ (let f = no_lock x can.free in let g = k.found in cc (f, g))
      | inr k ↦ absurd (uncommitted x b new can k.at k.rec k.found k.of)
    ]

pub whole_put : (x : OnKey) (b : Prewrite) (new : NewLock) → IsWhole x → CanPut (cells_of x) b new
    → IsWhole (put_on x b new)
whole_put x b new w can = record {
  lock_kept = λ r f. (let one : lock_put b new ≡ r =
      cc f in subst (λ (q : LockRec). IsKept (with_value x.value b.start (apart_of b.mutation) q.start) q.mutation) one
      (kept_apart x.value b.start b.mutation));
  write_kept = λ q r f. (
      let apart = with_apart x.value b.start (apart_of b.mutation) r.start (uncommitted x b new can q r f) in
      subst (λ (v : Option Value). IsKept v r.mutation) (sym apart) (w.write_kept q r f));
  value_kept = λ s there. elim (cases_eq s b.start) [
    | inl same ↦ inl (record {
      rec = lock_put b new;
      found = refl;
      of = sym same;
      apart = apart_kept x.value b.start
          b.mutation (no_value x b new w can)
          (λ none. there (ap (with_value x.value b.start (apart_of b.mutation)) same ∙ none));
    })
    | inr other ↦ elim (w.value_kept s
        (λ none. there (with_apart x.value b.start (apart_of b.mutation) s other ∙ none))) [
          | inl k ↦ (let f = no_lock x can.free in let g = k.found in cc (f, g))
          | inr k ↦ inr k
        ]
  ];
  write_fits = w.write_fits;
  sound = subst IsSound (sym (cells_put x b new can)) (sound_put (cells_of x) b new w.sound can);
}

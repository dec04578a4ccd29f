-- What the cells of a key meet stays so through changes, prewrites and collection.
use Rattle.std.proofs.Common.{◌≡◌, ◌⊎◌, inl, inr, refl, sym, ap, subst, ◌∙◌, ℕ, ◌<◌, ◌≤◌, ◌==◌, Bool, true, false, cond, Option, Some, None, arith}
use Rattle.std.proofs.lemmas.Bool.{cases_Bool, eqb-true}
use Rattle.tx_plan.specs.declared.body.Prewrite.{Prewrite}
use Rattle.tx_plan.specs.declared.key_change.KeyChange.{KeyChange}
use Rattle.tx_plan.specs.declared.key_change.KeyChange.TheVariants as change
use Rattle.tx_plan.specs.declared.key_change.Left.{Left}
use Rattle.tx_plan.specs.declared.key_change.Left.TheVariants as left
use Rattle.tx_plan.specs.declared.key_change.NewLock.{NewLock}
use Rattle.tx_plan.specs.Cells.{Lock, CommitRecord, Write, CommitOf, Rollback, Writes, Cells, no_cells, with_write}
use Rattle.tx_plan.specs.Own.{OwnCommit, committed}
use Rattle.tx_plan.specs.Changes.{changed, Applies, IsLeft, HasCommitAt, CanPut, after_left, after_put, mark, put}
use Rattle.tx_plan.specs.Sound.{IsSound}
use Rattle.tx_plan.specs.cases.Collect.{keeps, kept}

-- a key on which there is nothing
pub sound_none : IsSound no_cells
sound_none = record {
  uncommitted = λ lock c e own. absurd (cc e);
  once = λ t c d own other. absurd (cc own.stands);
  minimum_above = λ lock e. absurd (cc e);
  commit_above = λ c rec e. absurd (cc e);
}

-- no commit is new
abbrev NoNewCommit : Writes → Writes → Type 0
NoNewCommit before after = (c : ℕ) (rec : CommitRecord) → after c ≡ Some (CommitOf rec)
    → (old : CommitRecord) × (before c ≡ Some (CommitOf old)) × (old.start ≡ rec.start)

was_own : (before after : Writes) → NoNewCommit before after → (t c : ℕ) → OwnCommit after t c → OwnCommit before t c
was_own before after none t c own = let was = none c own.rec own.stands in
    record { rec = was.0; stands = was.1; own = was.2 ∙ own.own }

-- cells with no new commit, and with a lock of the same transaction or none
fewer : (cells after : Cells) → IsSound cells → NoNewCommit cells.write after.write
    → ((lock : Lock) → after.lock ≡ Some lock
    → (old : Lock) × (cells.lock ≡ Some old) × (old.start ≡ lock.start) × (old.min ≤ lock.min)) → IsSound after
fewer cells after s none same = record {
  uncommitted = λ lock c e own. (let was = same lock e in
      s.uncommitted was.0 c was.1
      (was_own cells.write after.write none was.0.start c (subst (λ t. OwnCommit after.write t c) (sym was.2) own)));
  once = λ t c d own other. s.once t c d (was_own cells.write after.write none t c own)
      (was_own cells.write after.write none t d other);
  minimum_above = λ lock e. (let was = same lock e in let above = s.minimum_above was.0 was.1 in
      omega (arith, above, was.2, was.3));
  commit_above = λ c rec e. (let was = none c rec e in let above = s.commit_above c was.0 was.1 in
      omega (arith, above, was.2));
}

no_new : (write : Writes) → NoNewCommit write write
no_new write c rec e = (rec, e, refl)

-- ---- rollbacks

rolled_other : (write : Writes) (t : ℕ) → NoNewCommit write (with_write write t Rollback)
rolled_other write t c rec e = elim (cases_Bool (t == c)) [
  | inl same ↦ absurd (let here : Some Rollback ≡ Some (CommitOf rec) =
      subst (λ b. cond b (Some Rollback) (write c) ≡ Some (CommitOf rec)) same e in cc here)
  | inr other ↦ (rec, subst (λ b. cond b (Some Rollback) (write c) ≡ Some (CommitOf rec)) other e, refl)
]

mark_start : (o : Option Write) (rec : CommitRecord) → mark o ≡ Some (CommitOf rec)
    → (old : CommitRecord) × (o ≡ Some (CommitOf old)) × (old.start ≡ rec.start)
mark_start None rec e = absurd (cc e)
mark_start (Some Rollback) rec e = absurd (cc e)
mark_start (Some (CommitOf old)) rec e = (
  old,
  refl,
  (let same =
      ap (λ (o : Option Write). elim o [
        | None ↦ old.start
        | Some w ↦ elim w [ CommitOf r ↦ r.start | Rollback ↦ old.start ]
      ]) e in same),
)

marked_other : (write : Writes) (t : ℕ) → NoNewCommit write (λ q. cond (t == q) (mark (write q)) (write q))
marked_other write t c rec e = elim (cases_Bool (t == c)) [
  | inl same ↦ mark_start (write c) rec (subst (λ b. cond b (mark (write c)) (write c) ≡ Some (CommitOf rec)) same e)
  | inr other ↦ (rec, subst (λ b. cond b (mark (write c)) (write c) ≡ Some (CommitOf rec)) other e, refl)
]

left_other : (write : Writes) (t : ℕ) (how : Left) → NoNewCommit write (after_left write t how)
left_other write t left.Already = no_new write
left_other write t left.Record = rolled_other write t
left_other write t left.Mark = marked_other write t

-- where a rollback becomes its own record, there is no commit record at all
pub record_is_free : (cells : Cells) (t : ℕ) → IsSound cells → IsLeft cells.write t left.Record → (rec : CommitRecord)
    → cells.write t ≡ Some (CommitOf rec) → ⊥
record_is_free cells t s is rec e =
    is rec record { stands = e; other = λ same. (let above = s.commit_above t rec e in omega (arith, above, same)) }

removed_lock : (cells : Cells) (removes : Bool) (lock : Lock) → cond removes None cells.lock ≡ Some lock
    → (old : Lock) × (cells.lock ≡ Some old) × (old.start ≡ lock.start) × (old.min ≤ lock.min)
removed_lock cells true lock e = absurd (cc e)
removed_lock cells false lock e = (lock, e, refl, omega arith)

-- ---- commits

-- what is at a place after a lock is committed at c
commit_cases : (write : Writes) (c : ℕ) (rec : CommitRecord) (t q : ℕ)
    → OwnCommit (with_write write c (CommitOf rec)) t q → ((c ≡ q) × (rec.start ≡ t)) ⊎ OwnCommit write t q
commit_cases write c rec t q own = elim (cases_Bool (c == q)) [
  | inl same ↦ (let here : Some (CommitOf rec) ≡ Some (CommitOf own.rec) =
      subst (λ b. cond b (Some (CommitOf rec)) (write q) ≡ Some (CommitOf own.rec)) same own.stands in
      let is : rec ≡ own.rec = cc here in
      inl (eqb-true c q same, ap (λ (r : CommitRecord). r.start) is ∙ own.own))
  | inr other ↦ inr record {
    rec = own.rec;
    stands =
        subst (λ b. cond b (Some (CommitOf rec)) (write q) ≡ Some (CommitOf own.rec)) other own.stands;
    own = own.own;
  }
]

committed_sound : (cells : Cells) (c : ℕ) (overlapped : Bool) → IsSound cells → (is : HasCommitAt cells c overlapped)
    → IsSound (record { lock = None; write = with_write cells.write c (CommitOf (committed is.lock overlapped)) })
committed_sound cells c overlapped s is = record {
  uncommitted = λ lock q e own. absurd (cc e);
  once = λ t q r own other. elim (at t q own) [
    | inl a ↦ elim (at t r other) [
      | inl b ↦ sym a.0 ∙ b.0
      | inr old ↦ absurd (s.uncommitted is.lock r is.stands (subst (λ x. OwnCommit cells.write x r) (sym a.1) old))
    ]
    | inr old ↦ elim (at t r other) [
      | inl b ↦
          absurd (s.uncommitted is.lock q is.stands (subst (λ x. OwnCommit cells.write x q) (sym b.1) old))
      | inr older ↦ s.once t q r old older
    ]
  ];
  minimum_above = λ lock e. absurd (cc e);
  commit_above = λ q rec e. elim (at rec.start q record { rec = rec; stands = e; own = refl }) [
    | inl a ↦ (let above = s.minimum_above is.lock is.stands in omega (arith, above, is.upto, a.0, a.1))
    | inr old ↦ (let above = s.commit_above q old.rec old.stands in omega (arith, above, old.own))
  ];
}
  where
    at : (t q : ℕ) → OwnCommit (with_write cells.write c (CommitOf (committed is.lock overlapped))) t q
        → ((c ≡ q) × (is.lock.start ≡ t)) ⊎ OwnCommit cells.write t q
    at t q own = commit_cases cells.write c (committed is.lock overlapped) t q own

-- ---- all changes

same_lock : (cells : Cells) (lock new : Lock) → cells.lock ≡ Some lock → lock.start ≡ new.start → lock.min ≤ new.min
    → (other : Lock) → Some new ≡ Some other
    → (old : Lock) × (cells.lock ≡ Some old) × (old.start ≡ other.start) × (old.min ≤ other.min)
same_lock cells lock new stands start min other e = let is : new ≡ other = cc e in
    (lock, stands, start ∙ ap (λ (l : Lock). l.start) is, subst (λ (l : Lock). lock.min ≤ l.min) is min)

pub sound_changed : (cells : Cells) (change : KeyChange) → IsSound cells → Applies cells change
    → IsSound (changed cells change)
sound_changed cells change.Nothing s is = s
sound_changed cells (change.Lock new) s is = absurd is
sound_changed cells (change.Ttl ttl) s is =
    rw is.1 (fewer cells _ s (no_new cells.write) (same_lock cells is.0 _ is.1 refl (omega arith)))
sound_changed cells (change.Minimum min) s is =
    rw is.stands (fewer cells _ s (no_new cells.write) (same_lock cells is.lock _ is.stands refl is.raises))
sound_changed cells (change.Commit c overlapped) s is = rw is.stands (committed_sound cells c overlapped s is)
sound_changed cells (change.RollBack t removes how) s is =
    fewer cells _ s (left_other cells.write t how) (removed_lock cells removes)

-- ---- prewrites and collection

pub sound_put : (cells : Cells) (b : Prewrite) (new : NewLock) → IsSound cells → CanPut cells b new
    → IsSound (after_put cells b (Some new))
sound_put cells b new s can = record {
  uncommitted = λ lock c e own. can.uncommitted c
      (subst (λ t. OwnCommit cells.write t c) (ap (λ (l : Lock). l.start) (sym (is lock e))) own);
  once = s.once;
  minimum_above = λ lock e. subst (λ (l : Lock). l.start < l.min) (is lock e) can.above;
  commit_above = s.commit_above;
}
  where
    is : (lock : Lock) → Some (put b new) ≡ Some lock → put b new ≡ lock
    is lock e = cc e

pub sound_kept : (cells : Cells) (safe : ℕ) → IsSound cells → IsSound (kept cells safe)
sound_kept cells safe s = fewer cells (kept cells safe) s stays (λ lock e. (lock, e, refl, omega arith))
  where
    stays : NoNewCommit cells.write (kept cells safe).write
    stays c rec e = elim (cases_Bool (keeps cells.write safe c)) [
      | inl stay ↦ (rec, subst (λ b. cond b (cells.write c) None ≡ Some (CommitOf rec)) stay e, refl)
      | inr gone ↦ absurd (let here : None ≡ Some (CommitOf rec) =
          subst (λ b. cond b (cells.write c) None ≡ Some (CommitOf rec)) gone e in cc here)
    ]

-- What each kind of change makes of the cells of a key: later cells, which meet what all cells
-- meet.
use Rattle.std.proofs.Common.{◌≡◌, ◌≢◌, ◌⊎◌, ℕ, ◌-◌, ◌+◌, ◌<◌, ◌≤◌, ◌==◌, inl, inr, zero, suc, true, false, cond, not, Option, Some, None, refl, sym, ap, subst, ◌∙◌, arith}
use Rattle.std.specs.Prelude.{◌&&◌, ◌||◌, nat_lt}
use Rattle.std.proofs.lemmas.Bool.{cases_Bool, cases_lt, lt-ltb, le-ltb, and_parts, and_from, eqb-true, eqb-false, not-true}
use Rattle.tx_plan.specs.declared.key_change.KeyChange.TheVariants as change
use Rattle.tx_plan.specs.Cells.{Lock, CommitRecord, Write, CommitOf, Rollback, Writes, Cells, with_lock}
use Rattle.tx_plan.specs.Own.{OwnLock, OwnCommit, OthersCommit, OwnRollback, marked, rolled, leave_rollback, is_own, roll_back, is_rollback, commit_of, lock_committed}
use Rattle.tx_plan.specs.Changes.{HasCommitAt}
use Rattle.tx_plan.specs.Sound.{IsSound}
use Rattle.tx_types.specs.Keys.{is_visible}
use Rattle.tx_plan.specs.cases.Collect.{is_put, commit_is, none_above, keeps, kept}
use Rattle.tx_plan.proofs.Sound.{sound_changed, sound_kept}
use Rattle.tx_core.specs.Later.{IsLengthened, LockLater, WriteLater, IsLater, IsRegular}
use Rattle.tx_core.proofs.evolution.Order.{write_same, lock_same, later_same}

some_same : {X : Type 0} (x y : X) → Some x ≡ Some y → x ≡ y
some_same x y e = cc

pub nat_test : (a b : ℕ) → ((a == b) ≡ true) × (a ≡ b) ⊎ (((a == b) ≡ false) × (a ≢ b))
nat_test a b = elim (cases_Bool (a == b)) [ inl e ↦ inl (e, eqb-true a b e) | inr e ↦ inr (e, eqb-false a b e) ]

-- new cells of a key are as they may be
pub record IsFine (collected : ℕ) (old new : Cells) : Type 0 where
  pub regular : IsRegular collected new
  pub later : IsLater old new

pub fine_same : (collected : ℕ) (cells : Cells) → IsRegular collected cells → IsFine collected cells cells
fine_same collected cells is = record { regular = is; later = later_same cells }

-- ---- which records a collection keeps depends on what is at and below it

same_above : (v w : Writes) (q n : ℕ)
    → ((p : ℕ) → q < p → p ≤ q + n → commit_is is_visible (v p) ≡ commit_is is_visible (w p))
    → none_above v q n ≡ none_above w q n
same_above v w q zero same = refl
same_above v w q (suc n) same =
    λ i. not (same (q + suc n) (omega arith) (omega arith) i)
    && same_above v w q n (λ p lt le. same p lt (omega arith)) i

-- records that are the same below the collection, and at it make no difference to reads
pub settled_on : (v w : Writes) (s : ℕ) → ((p : ℕ) → p < s → w p ≡ v p)
    → commit_is is_visible (w s) ≡ commit_is is_visible (v s) → ((q : ℕ) → q < s → v q ≢ None → keeps v s q ≡ true)
    → (q : ℕ) → q < s → w q ≢ None → keeps w s q ≡ true
settled_on v w s below at is q lt some =
    let seen : (p : ℕ) → q < p → p ≤ q + (s - q) → commit_is is_visible (v p) ≡ commit_is is_visible (w p) =
    λ p above upto.
    elim (cases_lt p s) [
      | inl less ↦ ap (commit_is is_visible) (sym (below p less))
      | inr least ↦ (let same : s ≡ p = omega (arith, lt, upto, least) in
          subst (λ x. commit_is is_visible (v x) ≡ commit_is is_visible (w x)) same (sym at))
    ] in
    let same : keeps v s q ≡ keeps w s q =
    λ i. not (nat_lt q s) || commit_is is_put (sym (below q lt) i) && same_above v w q (s - q) seen i in
    sym same ∙ is q lt (λ none. some (below q lt ∙ none))

-- ---- sound cells with other locks, or with fewer commits

lock_sound : (cells : Cells) (lock : Lock) → IsSound cells → ((c : ℕ) → OwnCommit cells.write lock.start c → ⊥)
    → lock.start < lock.min → IsSound (with_lock cells (Some lock))
lock_sound cells lock s none above = record {
  uncommitted = λ l c e own. none c
      (subst (λ (x : Lock). OwnCommit cells.write x.start c) (sym (some_same lock l e)) own);
  once = s.once;
  minimum_above = λ l e. subst (λ (x : Lock). x.start < x.min) (some_same lock l e) above;
  commit_above = s.commit_above;
}

abbrev NoNewCommit : Writes → Writes → Type 0
NoNewCommit before after = (c : ℕ) (rec : CommitRecord) → after c ≡ Some (CommitOf rec)
    → (old : CommitRecord) × (before c ≡ Some (CommitOf old)) × (old.start ≡ rec.start)

was_own : (before after : Writes) → NoNewCommit before after → (t c : ℕ) → OwnCommit after t c → OwnCommit before t c
was_own before after none t c own = let was = none c own.rec own.stands in
    record { rec = was.0; stands = was.1; own = was.2 ∙ own.own }

fewer : (cells after : Cells) → IsSound cells → NoNewCommit cells.write after.write
    → ((lock : Lock) → after.lock ≡ Some lock → cells.lock ≡ Some lock) → IsSound after
fewer cells after s none same = record {
  uncommitted = λ lock c e own. s.uncommitted lock c (same lock e)
      (was_own cells.write after.write none lock.start c own);
  once = λ t c d own other. s.once t c d (was_own cells.write after.write none t c own)
      (was_own cells.write after.write none t d other);
  minimum_above = λ lock e. s.minimum_above lock (same lock e);
  commit_above = λ c rec e. (let was = none c rec e in let above = s.commit_above c was.0 was.1 in
      omega (arith, above, was.2));
}

-- ---- a lock is put, or lengthened

pub put_fine : (s : ℕ) (cells : Cells) (lock : Lock) → IsRegular s cells → cells.lock ≡ None
    → ((c : ℕ) → OwnCommit cells.write lock.start c → ⊥) → (OwnRollback cells.write lock.start → ⊥)
    → lock.start < lock.min → IsFine s cells (with_lock cells (Some lock))
put_fine s cells lock is free uncommitted unrolled above = record {
  regular = record {
    sound = lock_sound cells lock is.sound uncommitted above;
    unrolled = λ l e own. unrolled
        (subst (λ (x : Lock). OwnRollback cells.write x.start) (sym (some_same lock l e)) own);
    settled = is.settled;
  };
  later = record {
    write = λ c. write_same (cells.write c);
    lock =
        λ e. subst (λ o. LockLater o (Some lock)) (sym free) tt;
  };
}

pub lengthen_fine : (s : ℕ) (cells : Cells) (old new : Lock) → IsRegular s cells → cells.lock ≡ Some old
    → IsLengthened old new → IsFine s cells (with_lock cells (Some new))
lengthen_fine s cells old new is stands more =
    let start : old.start ≡ new.start = more.start in
    record {
      regular = record {
        sound = lock_sound cells new is.sound
            (λ c own. is.sound.uncommitted old c stands (subst (λ t. OwnCommit cells.write t c) (sym start) own))
            (let above = is.sound.minimum_above old stands in omega (arith, above, start, more.min));
        unrolled = λ l e own. is.unrolled old stands
            (subst (OwnRollback cells.write) (sym (start ∙ ap (λ (x : Lock). x.start) (some_same new l e))) own);
        settled = is.settled;
      };
      later = record {
        write = λ c. write_same (cells.write c);
        lock =
            λ e. subst (λ o. LockLater o (Some new)) (sym stands) more;
      };
    }

-- ---- a lock is committed

-- nothing but a rollback stands where a lock may be committed
pub free_place : (cells : Cells) (lock : Lock) (c : ℕ) → IsSound cells → cells.lock ≡ Some lock
    → ((rec : CommitRecord) → OthersCommit cells.write lock.start c rec → ⊥) → (rec : CommitRecord)
    → cells.write c ≡ Some (CommitOf rec) → ⊥
free_place cells lock c s stands none rec there =
    elim (nat_test rec.start lock.start) [
      | inl same ↦ s.uncommitted lock c stands (record { rec = rec; stands = there; own = same.1 })
      | inr other ↦ none rec (record { stands = there; other = other.1 })
    ]

commit_later : (lock : Lock) (o : Option Write) → ((rec : CommitRecord) → o ≡ Some (CommitOf rec) → ⊥)
    → WriteLater o (Some (CommitOf (commit_of lock o)))
commit_later lock None free = tt
commit_later lock (Some Rollback) free = refl
commit_later lock (Some (CommitOf rec)) free = absurd (free rec refl)

pub commit_fine : (s : ℕ) (cells : Cells) (lock : Lock) (c : ℕ) → IsRegular s cells → cells.lock ≡ Some lock
    → s ≤ lock.start → (c < lock.min → ⊥) → ((rec : CommitRecord) → OthersCommit cells.write lock.start c rec → ⊥)
    → IsFine s cells (lock_committed cells c lock)
commit_fine s cells lock c is stands fresh high none =
    let upto : lock.min ≤ c = elim (cases_lt c lock.min) [ inl lt ↦ absurd (high lt) | inr le ↦ le ] in
    let above = is.sound.minimum_above lock stands in
    let after = lock_committed cells c lock in
    let free = free_place cells lock c is.sound stands none in
    let may : HasCommitAt cells c (is_rollback (cells.write c)) =
    record { lock = lock; stands = stands; upto = upto; unconflicted = none; keeps_mark = refl } in
    let made = sound_changed cells (change.Commit c (is_rollback (cells.write c))) is.sound may in
    let sound : IsSound after = rw stands at made in
    let here : after.write c ≡ Some (CommitOf (commit_of lock (cells.write c))) =
    elim (nat_test c c) [ inl e ↦ rw e.0 refl | inr e ↦ absurd (e.1 refl) ] in
    let away : (q : ℕ) → c ≢ q → after.write q ≡ cells.write q =
    λ q other. elim (nat_test c q) [ inl e ↦ absurd (other e.1) | inr e ↦ rw e.0 refl ] in
    record {
      regular = record {
        sound = sound;
        unrolled = λ l e own. absurd (cc e);
        settled = settled_on cells.write after.write s
            (λ p lt. away p (λ same. omega (arith, lt, same, fresh, above, upto)))
            (ap (commit_is is_visible) (away s (λ same. omega (arith, same, fresh, above, upto)))) is.settled;
      };
      later = record {
        write = λ q. elim (nat_test c q) [
          | inl e ↦ subst (λ x. WriteLater (cells.write x) (after.write x)) e.1
              (subst (λ o. WriteLater (cells.write c) o) (sym here) (commit_later lock (cells.write c) free))
          | inr e ↦ subst (λ o. WriteLater (cells.write q) o) (sym (away q e.1)) (write_same (cells.write q))
        ];
        lock = λ e. absurd (free (commit_of lock (cells.write c)) (ap (λ (w : Writes). w c) e ∙ here));
      };
    }

-- ---- a rollback is left

rolled_later : (t : ℕ) (o : Option Write) → ((rec : CommitRecord) → o ≡ Some (CommitOf rec) → rec.start ≢ t)
    → WriteLater o (Some (rolled t o))
rolled_later t None others = tt
rolled_later t (Some Rollback) others = tt
rolled_later t (Some (CommitOf rec)) others =
    elim (nat_test rec.start t) [ inl e ↦ absurd (others rec refl e.1) | inr e ↦ rw e.0 (inr refl) ]

rolled_seen : (t : ℕ) (o : Option Write) → ((rec : CommitRecord) → o ≡ Some (CommitOf rec) → rec.start ≢ t)
    → commit_is is_visible (Some (rolled t o)) ≡ commit_is is_visible o
rolled_seen t None others = refl
rolled_seen t (Some Rollback) others = refl
rolled_seen t (Some (CommitOf rec)) others =
    elim (nat_test rec.start t) [ inl e ↦ absurd (others rec refl e.1) | inr e ↦ rw e.0 refl ]

rolled_start : (t : ℕ) (o : Option Write) → ((rec : CommitRecord) → o ≡ Some (CommitOf rec) → rec.start ≢ t)
    → (rec : CommitRecord) → Some (rolled t o) ≡ Some (CommitOf rec)
    → (old : CommitRecord) × (o ≡ Some (CommitOf old)) × (old.start ≡ rec.start)
rolled_start t None others rec e = absurd (cc e)
rolled_start t (Some Rollback) others rec e = absurd (cc e)
rolled_start t (Some (CommitOf old)) others rec e =
    elim (nat_test old.start t) [
      | inl x ↦ absurd (others old refl x.1)
      | inr x ↦ (let there : Some (CommitOf (marked old)) ≡ Some (CommitOf rec) = rw x.0 at e in
          let is : marked old ≡ rec = cc there in (old, refl, ap (λ (r : CommitRecord). r.start) is))
    ]

-- where leaving a rollback changes nothing it stands already
already : (t : ℕ) (write : Writes) (o : Option Write) → write t ≡ o
    → ((rec : CommitRecord) → o ≡ Some (CommitOf rec) → rec.start ≢ t) → o ≡ Some (rolled t o) → OwnRollback write t
already t write None is others e = absurd (cc e)
already t write (Some Rollback) is others e = inl is
already t write (Some (CommitOf rec)) is others e =
    elim (nat_test rec.start t) [
      | inl x ↦ absurd (others rec refl x.1)
      | inr x ↦ (let there : Some (CommitOf rec) ≡ Some (CommitOf (marked rec)) = rw x.0 at e in
          let same : rec ≡ marked rec = cc there in
          inr (rec, record { stands = is; other = x.1 }, ap (λ (r : CommitRecord). r.overlapped_rollback) same))
    ]

-- a rollback of t is left, and the lock is then another: one that was there and is not t's, or none
pub roll_fine : (s : ℕ) (cells : Cells) (t : ℕ) (lock : Option Lock) → IsRegular s cells → s ≤ t
    → ((l : Lock) → lock ≡ Some l → (cells.lock ≡ Some l) × (l.start ≢ t))
    → ((OwnRollback cells.write t) → LockLater cells.lock lock)
    → IsFine s cells (with_lock (leave_rollback cells t) lock)
roll_fine s cells t lock is fresh was same_lock =
    let after = with_lock (leave_rollback cells t) lock in
    let others : (rec : CommitRecord) → cells.write t ≡ Some (CommitOf rec) → rec.start ≢ t =
    λ rec e same. (let above = is.sound.commit_above t rec e in omega (arith, above, same)) in
    let here : after.write t ≡ Some (rolled t (cells.write t)) =
    elim (nat_test t t) [ inl e ↦ rw e.0 refl | inr e ↦ absurd (e.1 refl) ] in
    let away : (q : ℕ) → t ≢ q → after.write q ≡ cells.write q =
    λ q other. elim (nat_test t q) [ inl e ↦ absurd (other e.1) | inr e ↦ rw e.0 refl ] in
    let none_new : NoNewCommit cells.write after.write = λ c rec e.
    elim (nat_test t c) [
      | inl x ↦ (let there : Some (rolled t (cells.write t)) ≡ Some (CommitOf rec) =
          sym here ∙ ap after.write x.1 ∙ e in let old = rolled_start t (cells.write t) others rec there in
          (old.0, ap cells.write (sym x.1) ∙ old.1, old.2))
      | inr x ↦ (rec, sym (away c x.1) ∙ e, refl)
    ] in
    record {
      regular = record {
        sound = fewer cells after is.sound none_new (λ l e. (was l e).0);
        unrolled = λ l e own.
            let old = was l e in
            is.unrolled l old.0 (elim own [
              | inl x ↦ inl (sym (away l.start (λ same. old.1 (sym same))) ∙ x)
              | inr x ↦ inr (
                x.0,
                record {
                  stands = sym (away l.start (λ same. old.1 (sym same))) ∙ x.1.stands;
                  other =
                      x.1.other;
                },
                x.2,
              )
            ]);
        settled = settled_on cells.write after.write s (λ p lt. away p (λ same. omega (arith, lt, same, fresh)))
            (elim (nat_test t s) [
              | inl x ↦ subst (λ y. commit_is is_visible (after.write y)
                  ≡ commit_is is_visible (cells.write y)) x.1 (ap (commit_is is_visible) here
                  ∙ rolled_seen t (cells.write t) others)
              | inr x ↦ ap (commit_is is_visible) (away s x.1)
            ]) is.settled;
      };
      later = record {
        write = λ q. elim (nat_test t q) [
          | inl e ↦ subst (λ x. WriteLater (cells.write x) (after.write x)) e.1
              (subst (λ o. WriteLater (cells.write t) o) (sym here) (rolled_later t (cells.write t) others))
          | inr e ↦ subst (λ o. WriteLater (cells.write q) o) (sym (away q e.1)) (write_same (cells.write q))
        ];
        lock = λ e. same_lock (already t cells.write (cells.write t) refl others (ap (λ (w : Writes). w t) e ∙ here));
      };
    }

other_stays : (o : Option Lock) (t : ℕ) → ((l : Lock) → o ≡ Some l → l.start ≢ t) → cond (is_own o t) None o ≡ o
other_stays None t others = refl
other_stays (Some l) t others = elim (nat_test l.start t) [ inl e ↦ absurd (others l refl e.1) | inr e ↦ rw e.0 refl ]

other_was : (o : Option Lock) (t : ℕ) (l : Lock) → cond (is_own o t) None o ≡ Some l → (o ≡ Some l) × (l.start ≢ t)
other_was None t l e = absurd (cc e)
other_was (Some x) t l e =
    elim (nat_test x.start t) [
      | inl own ↦ absurd (let there : None ≡ Some l = rw own.0 at e in cc there)
      | inr other ↦ (let there : Some x ≡ Some l = rw other.0 at e in
          (there, λ same. other.1 (ap (λ (y : Lock). y.start) (some_same x l there) ∙ same)))
    ]

-- it is rolled back
pub roll_back_fine : (s : ℕ) (cells : Cells) (t : ℕ) → IsRegular s cells → s ≤ t → IsFine s cells (roll_back cells t)
roll_back_fine s cells t is fresh =
    roll_fine s cells t (cond (is_own cells.lock t) None cells.lock) is fresh (other_was cells.lock t) (λ stood.
    let others : (l : Lock) → cells.lock ≡ Some l → l.start ≢ t =
    λ l e own. is.unrolled l e (subst (OwnRollback cells.write) (sym own) stood) in
    subst (λ o. LockLater cells.lock o) (sym (other_stays cells.lock t others)) (lock_same cells.lock))

-- its rollback is left where it has no lock
pub leave_fine : (s : ℕ) (cells : Cells) (t : ℕ) → IsRegular s cells → s ≤ t → ((l : Lock) → OwnLock cells.lock t l → ⊥)
    → IsFine s cells (leave_rollback cells t)
leave_fine s cells t is fresh unlocked =
    roll_fine s cells t cells.lock is fresh (λ l e. (e, λ own. unlocked l (record { stands = e; own = own })))
    (λ stood. lock_same cells.lock)

-- ---- collection

keeps_high : (write : Writes) (s q : ℕ) → s ≤ q → keeps write s q ≡ true
keeps_high write s q le = rw (le-ltb q s le) refl

keeps_low : (write : Writes) (s q : ℕ) → q < s → keeps write s q ≡ true
    → (commit_is is_put (write q) ≡ true) × (none_above write q (s - q) ≡ true)
keeps_low write s q lt e =
    and_parts (commit_is is_put (write q)) (none_above write q (s - q)) (let below = lt-ltb q s lt in rw below at e)

keeps_from : (write : Writes) (s q : ℕ) → q < s → commit_is is_put (write q) ≡ true → none_above write q (s - q) ≡ true
    → keeps write s q ≡ true
keeps_from write s q lt put unseen =
    rw (lt-ltb q s lt) (and_from (commit_is is_put (write q)) (none_above write q (s - q)) put unseen)

kept_at : (cells : Cells) (s q : ℕ) → (kept cells s).write q ≢ None → keeps cells.write s q ≡ true
kept_at cells s q some = elim (cases_Bool (keeps cells.write s q)) [ inl e ↦ e | inr e ↦ absurd (some (rw e refl)) ]

unseen_less : (v w : Writes) (q n : ℕ)
    → ((p : ℕ) → commit_is is_visible (v p) ≡ false → commit_is is_visible (w p) ≡ false) → none_above v q n ≡ true
    → none_above w q n ≡ true
unseen_less v w q zero less e = refl
unseen_less v w q (suc n) less e =
    let both = and_parts (not (commit_is is_visible (v (q + suc n)))) (none_above v q n) e in
    and_from (not (commit_is is_visible (w (q + suc n)))) (none_above w q n)
    (rw (less (q + suc n) (not-true (commit_is is_visible (v (q + suc n))) both.0)) refl)
    (unseen_less v w q n less both.1)

-- a collection at a greater point, or at the same
pub kept_regular : (s new : ℕ) (cells : Cells) → IsRegular s cells → IsRegular new (kept cells new)
kept_regular s new cells is = record {
  sound = sound_kept cells new is.sound;
  unrolled = λ l e own. is.unrolled l e (elim own [
    | inl x ↦ inl (stood l.start Rollback x)
    | inr x ↦ inr (x.0, record { stands = stood l.start (CommitOf x.0) x.1.stands; other = x.1.other }, x.2)
  ]);
  settled = λ q lt some.
      let stays = kept_at cells new q some in
      let both = keeps_low cells.write new q lt stays in
      let same : (kept cells new).write q ≡ cells.write q = rw stays refl in
      keeps_from (kept cells new).write new q lt (ap (commit_is is_put) same
      ∙ both.0) (unseen_less cells.write (kept cells new).write q (new - q) gone both.1);
}
  where
    stood : (q : ℕ) (rec : Write) → (kept cells new).write q ≡ Some rec → cells.write q ≡ Some rec
    stood q rec e = elim (cases_Bool (keeps cells.write new q)) [
      | inl x ↦ (rw x at e)
      | inr x ↦ absurd (let none : None ≡ Some rec = rw x at e in cc none)
    ]

    gone : (p : ℕ) → commit_is is_visible (cells.write p) ≡ false
        → commit_is is_visible ((kept cells new).write p) ≡ false
    gone p e = elim (cases_Bool (keeps cells.write new p)) [ inl x ↦ rw x e | inr x ↦ rw x refl ]

option_cases : (o : Option Write) → (o ≡ None) ⊎ (o ≢ None)
option_cases None = inl refl
option_cases (Some w) = inr (λ e. cc e)

-- a collection at the same point changes nothing
pub kept_same : (s : ℕ) (cells : Cells) → IsRegular s cells → (q : ℕ) → (kept cells s).write q ≡ cells.write q
kept_same s cells is q =
    elim (option_cases (cells.write q)) [
      | inl none ↦ elim (cases_Bool (keeps cells.write s q)) [ inl e ↦ rw e refl | inr e ↦ rw e (sym none) ]
      | inr some ↦ (let stays : keeps cells.write s q ≡ true =
          elim (cases_lt q s) [ inl lt ↦ is.settled q lt some | inr le ↦ keeps_high cells.write s q le ] in
          rw stays refl)
    ]

pub kept_later : (s : ℕ) (cells : Cells) → IsRegular s cells → IsLater cells (kept cells s)
kept_later s cells is = record {
  write = λ q. subst (λ o. WriteLater (cells.write q) o) (sym (kept_same s cells is q)) (write_same (cells.write q));
  lock = λ e. lock_same cells.lock;
}

-- A region answers a prewrite.
use Rattle.std.proofs.Common.{◌≡◌, ℕ, ◌+◌, ◌<◌, ◌≤◌, ◌==◌, ◌++◌, max, inl, inr, false, cond, List, [], ◌∷◌, Option, Some, None, bytes_eq, refl, sym, ap, subst, ◌∙◌, arith}
use Rattle.std.proofs.lemmas.Bool.{cases_lt, eq-eqb, ne_eqb}
use Rattle.std.proofs.Math.Nat.{le-max_left, le-max_right}
use Rattle.tx_types.specs.declared.key.Key.{Key}
use Rattle.tx_types.specs.declared.value.Value.{Value}
use Rattle.tx_types.specs.declared.mutation.Mutation.{Mutation}
use Rattle.tx_types.specs.declared.mutation.Mutation.TheVariants as mutation
use Rattle.tx_types.specs.declared.mutation.Mode.TheVariants.{TwoPhase, Async}
use Rattle.tx_types.specs.declared.mutation.Fate.TheVariants.{Committed}
use Rattle.tx_machine.specs.declared.step.Step.{Step}
use Rattle.tx_machine.specs.declared.step.Step.TheVariants as step
use Rattle.tx_types.specs.Keys.{IsInsert}
use Rattle.tx_types.specs.Kinds.{as_locked}
use Rattle.tx_machine.specs.Keys.{mutation_at}
use Rattle.tx_machine.specs.Machine.{State, Open, Done, Reading, IsRead, Sees, table_of}
use Rattle.tx_plan.specs.declared.body.Prewrite.{Prewrite}
use Rattle.tx_plan.specs.declared.body.Body.TheVariants as body
use Rattle.tx_plan.specs.declared.answer.Answer.{Answer}
use Rattle.tx_plan.specs.declared.answer.Answer.TheVariants.{Prewritten, KeyIsLocked, WriteConflict, AlreadyRolledBack, AlreadyCommitted, BelowSafePoint, FutureTimestamp, AlreadyExists}
use Rattle.tx_plan.specs.Cells.{Lock, CommitRecord, CommitOf, Cells, Region, with_lock, info_of}
use Rattle.tx_plan.specs.Plans.{read_upto}
use Rattle.tx_plan.specs.Reads.{Reads}
use Rattle.tx_plan.specs.Answers.{leaves, leaves_on}
use Rattle.tx_plan.specs.Own.{OwnLock, OwnRollback, is_own}
use Rattle.tx_plan.specs.Tables.{Case}
use Rattle.tx_plan.specs.cases.Prewrite.{AnswersPrewrite, HasValue, IsWithin, MayPromise, least_minimum, read_by_prewrite, check_by, lock_of, locked, named_minimum}
use Rattle.tx_core.specs.declared.event.Declaration.{Declaration}
use Rattle.tx_core.specs.declared.event.Taken.{Taken}
use Rattle.tx_core.specs.declared.event.Event.TheVariants.{Took}
use Rattle.tx_core.specs.Histories.{History, last, declared, set_of, set_at, left}
use Rattle.tx_core.specs.Decisions.{Acceptance, Effect, Puts, NoEffect, effect_in, accepted, accepted_by, decision, first_decided, greatest, committed_at, decided}
use Rattle.tx_core.specs.Worlds.{route}
use Rattle.tx_core.specs.Legal.{IsLegalPrewrite}
use Rattle.tx_core.specs.Shadow.{deciding, deciding_in, checked, checking, shadow}
use Rattle.tx_core.specs.Truth.{IsTrueAnswer}
use Rattle.tx_core.proofs.Basics.{nat_test, nat_same, key_test, key_same, key_true, cond_true, cond_false, some_same, none_is}
use Rattle.tx_core.proofs.view.View.{View, Inv, Does, Inserts, declared_does, bound, bound_async}
use Rattle.tx_core.proofs.view.Tables.{Sound, sees}
use Rattle.tx_core.proofs.view.Ends.{Ends}
use Rattle.tx_core.proofs.changes.Raises.{raising}
use Rattle.tx_core.proofs.seats.Numbers.{read_upto_start}
use Rattle.tx_core.proofs.changes.Locks.{accepting, locking, MayLock, may_lock}
use Rattle.tx_core.proofs.changes.LockEnds.{ends_lock, lock_opens, lock_decides, ends_lock_decide}
use Rattle.tx_core.proofs.changes.Sounds.{sound_raise, sound_read, sound_lock, sound_decide}
use Rattle.tx_core.proofs.view.HistoryView.{noted, checks_by, reads_in, shown_put, shown_in, view}
use Rattle.tx_core.proofs.requests.Good.{Good, Next, took, same_view, part_same, cells_at, cells_keyed, floor_after, decided_same, true_commit, true_rollback, overtakes}

-- what is read only raises the greatest timestamp read
upto_more : (o : Option ℕ) (n : ℕ) → n ≤ read_upto o n
upto_more None n = omega arith
upto_more (Some r) n = le-max_left n r

-- what is checked is an insert, at its start
check_is : (m : Mutation) (t at : ℕ) → check_by m t ≡ Some at → IsInsert m × (t ≡ at)
check_is (mutation.Put v) t at e = absurd (cc (e))
check_is (mutation.Insert v) t at e = (tt, some_same t at e)
check_is mutation.Delete t at e = absurd (cc (e))
check_is mutation.Lock t at e = absurd (cc (e))

module _ (bounds : List Key) (h : History) (good : Good bounds h) (b : Prewrite) (l : ℕ) where
  abbrev here : ℕ
  here = route bounds b.key

  abbrev taken : Answer → Taken
  taken a = took here (body.Prewrite b) l a

  -- ---- the greatest timestamp read after an answer

  abbrev floor : Answer → Key → ℕ
  floor a = floor_after bounds h (taken a)

  floor_at : (a : Answer) (q : Key) → here ≡ route bounds q
      → floor a q ≡ read_upto (read_by_prewrite a ((left h (route bounds q)).cells b.key).lock b)
      (left h (route bounds q)).max_read
  floor_at a q same = ap (λ (r : Region). r.max_read)
      (cond_true (here == route bounds q) (leaves (left h (route bounds q)) (body.Prewrite b) a)
      (left h (route bounds q)) (eq-eqb here (route bounds q) same))

  -- it rises
  rises : (a : Answer) (q : Key) → (left h (route bounds q)).max_read ≤ floor a q
  rises a q =
      elim (nat_test here (route bounds q)) [
        | inl x ↦ omega (
          arith,
          floor_at a q x.1,
          upto_more (read_by_prewrite a ((left h (route bounds q)).cells b.key).lock b)
              (left h (route bounds q)).max_read,
        )
        | inr x ↦ (let same : floor a q ≡ (left h (route bounds q)).max_read =
            ap (λ (r : Region). r.max_read)
            (cond_false (here == route bounds q) (leaves (left h (route bounds q)) (body.Prewrite b) a)
            (left h (route bounds q)) x.0) in
            omega (arith, same))
      ]

  -- on the key at most to the start
  floor_upto : (a : Answer) → floor a b.key ≤ max (left h here).max_read b.start
  floor_upto a = omega (
    arith,
    floor_at a b.key refl,
    read_upto_start a (cells_at bounds h b.key).lock b (left h here).max_read,
  )

  -- the view before the answer is as sound with that number
  raised_sound : (a : Answer) → Sound (shadow h) (raising (view bounds h) (floor a))
  raised_sound a = sound_raise (shadow h) (view bounds h) (floor a) good.sound (rises a)

  -- ---- what an answer leaves, by its parts

  abbrev after : Answer → (ℕ → State) → (ℕ → Key → Option Acceptance) → (ℕ → ℕ) → List Reading → Cells → View
  after a d acc shown reads new =
      record (view bounds h) {
        decided = d;
        accepted = acc;
        shown = shown;
        floor = floor a;
        reads = reads;
        cells =
            λ q. cond (bytes_eq b.key q) new (cells_at bounds h q);
      }

  leaves_it : (a : Answer) (e : Effect) → effect_in h (taken a) ≡ e
      → (d : ℕ → State) (acc : ℕ → Key → Option Acceptance)
      (shown : ℕ → ℕ) (reads : List Reading) (new : Cells) (rs steps : List Step)
      → ((u : ℕ) → first_decided (decision (set_at h u) (λ q. accepted_by e (last h) u q (accepted h u q)) e u)
      (decided h u) ≡ d u) → ((u : ℕ) (q : Key) → accepted_by e (last h) u q (accepted h u q) ≡ acc u q)
      → ((u : ℕ) → shown_put (set_at h u) e u (shown_in h u) ≡ shown u)
      → checks_by (body.Prewrite b) e (reads_in h) ≡ reads
      → leaves_on (cells_at bounds h b.key) (body.Prewrite b) a ≡ new
      → checking (body.Prewrite b) e ≡ rs → deciding b.start (decided h b.start) (d b.start) ++ (rs ++ shadow h) ≡ steps
      → Sound steps (after a d acc shown reads new) → Ends (after a d acc shown reads new)
      → IsTrueAnswer (table_of steps) (body.Prewrite b) a → Next bounds h (taken a)
  leaves_it a e is d acc shown reads new rs steps fates accepts shows notes cells checks same sound ends truth =
      let x = taken a in
      let v : View = after a d acc shown reads new in
      let now : (u : ℕ) → decided (Took x ∷ h) u ≡ d u =
      λ u. ap (λ y. first_decided (decision (set_at h u) (λ q. accepted_by y (last h) u q (accepted h u q)) y u)
      (decided h u)) is ∙ fates u in
      let w : view bounds (Took x ∷ h) ≡ v = same_view (view bounds (Took x ∷ h)) v record {
        last = refl;
        drawer = λ u. refl;
        began = λ u. refl;
        declared = λ u. refl;
        decided = now;
        accepted = λ u q. ap (λ y. accepted_by y (last h) u q (accepted h u q)) is ∙ accepts u q;
        reads = ap (λ y. checks_by (body.Prewrite b) y (reads_in h)) is ∙ notes;
        shown = λ u. ap (λ y. shown_put (set_at h u) y u (shown_in h u)) is ∙ shows u;
        floor = λ q. refl;
        safe = λ q. part_same h here (route bounds q) (body.Prewrite b) l a (λ r. r.safe) (λ r. refl);
        collected = λ q. part_same h here (route bounds q) (body.Prewrite b) l a (λ r. r.collected) (λ r. refl);
        cells = λ q. cells_keyed bounds h b.key (body.Prewrite b) l a (λ c. leaves_on c (body.Prewrite b) a)
            (λ r j. refl) q
            ∙ ap (λ c. cond (bytes_eq b.key q) c (cells_at bounds h q)) cells;
      } in
      let made : shadow (Took x ∷ h) ≡ steps =
      ap (λ y. deciding_in h x (Some b.start) ++ (checking (body.Prewrite b) y ++ shadow h)) is
      ∙ ap (λ r. deciding_in h x (Some b.start) ++ (r ++ shadow h)) checks
      ∙ ap (λ s. deciding b.start (decided h b.start) s ++ (rs ++ shadow h)) (now b.start) ∙ same in
      record {
        sound = subst (λ s. Sound s (view bounds (Took x ∷ h))) (sym made) (subst (Sound steps) (sym w) sound);
        ends = subst Ends (sym w) ends;
        truth = subst (λ s. IsTrueAnswer (table_of s) (body.Prewrite b) a) (sym made) truth;
      }

  -- an answer of no effect that leaves the cells as they were
  still : (a : Answer) → effect_in h (taken a) ≡ NoEffect
      → leaves_on (cells_at bounds h b.key) (body.Prewrite b) a ≡ cells_at bounds h b.key
      → IsTrueAnswer (table_of (shadow h)) (body.Prewrite b) a → Next bounds h (taken a)
  still a is cells truth =
      let kept : (q : Key) → cond (bytes_eq b.key q) (cells_at bounds h b.key) (cells_at bounds h q)
      ≡ cells_at bounds h q =
      λ q. elim (key_test b.key q) [ inl e ↦ rw e.0 (ap (cells_at bounds h) e.1) | inr e ↦ rw e.0 refl ] in
      let w : ◌≡◌ {A = View} (after a (decided h) (accepted h) (shown_in h) (reads_in h) (cells_at bounds h b.key))
      (raising (view bounds h) (floor a)) =
      λ i. record (view bounds h) { floor = floor a; cells = λ q. kept q i } in
      leaves_it a NoEffect is (decided h) (accepted h) (shown_in h) (reads_in h) (cells_at bounds h b.key) [] (shadow h)
      (λ u. refl) (λ u q. refl) (λ u. refl) refl cells refl
      (ap (λ s. s ++ shadow h) (decided_same b.start (decided h b.start)))
      (subst (Sound (shadow h)) (sym w) (raised_sound a)) (subst Ends (sym w) good.ends) truth

  -- ---- the lock is put

  -- the view with the read of an insert's check, if there is one
  abbrev checked_view : ℕ → List Reading → View
  checked_view m reads = record (view bounds h) { floor = floor (Prewritten m); reads = reads }

  module _ (m : ℕ) (reads : List Reading) (rs : List Step) (notes :
      noted b.key (check_by b.mutation b.start) (reads_in h) ≡ reads) (checks : checked b (check_by b.mutation b.start)
      ≡ rs) (sound : Sound (rs ++ shadow h) (checked_view m reads))
      (may : MayLock (checked_view m reads) b.key (lock_of b m))
      (unrolled : OwnRollback (cells_at bounds h b.key).write b.start → ⊥) where
    least_is : (o : Option ℕ)
        → greatest ((locking (checked_view m reads) b.key (lock_of b m)).accepted b.start) (set_at h b.start) ≡ o
        → (u : ℕ) → b.start ≡ u
        → committed_at (greatest ((locking (checked_view m reads) b.key (lock_of b m)).accepted u) (set_at h u))
        ≡ committed_at o
    least_is o e u same =
        ap committed_at (subst
        (λ n. greatest ((locking (checked_view m reads) b.key (lock_of b m)).accepted n) (set_at h n) ≡ o) same e)

    puts : cond (is_own (cells_at bounds h b.key).lock b.start) NoEffect (Puts b.key (lock_of b m))
        ≡ Puts b.key (lock_of b m)
    puts = ap (λ o. cond (is_own o b.start) NoEffect (Puts b.key (lock_of b m))) may.free

    stands : leaves_on (cells_at bounds h b.key) (body.Prewrite b) (Prewritten m)
        ≡ with_lock (cells_at bounds h b.key) (Some (lock_of b m))
    stands = ap (λ o. with_lock (cells_at bounds h b.key) (Some (locked o b m))) may.free

    fresh : Next bounds h (taken (Prewritten m))
    fresh = go (greatest ((locking (checked_view m reads) b.key (lock_of b m)).accepted b.start) (set_at h b.start))
        refl
      where
        go : (o : Option ℕ) → greatest ((locking (checked_view m reads) b.key (lock_of b m)).accepted b.start)
            (set_at h b.start) ≡ o → Next bounds h (taken (Prewritten m))
        go None e =
            let v = locking (checked_view m reads) b.key (lock_of b m) in
            leaves_it (Prewritten m) (Puts b.key (lock_of b m)) puts (decided h) v.accepted v.shown reads
            (with_lock (cells_at bounds h b.key) (Some (lock_of b m))) rs (rs ++ shadow h)
            (λ u. ap (λ s. first_decided s (decided h u))
            (elim (nat_test b.start u) [
              | inl x ↦
                  cond_true (b.start == u) (committed_at (greatest (v.accepted u) (set_at h u))) Open x.0
                  ∙ least_is None e u x.1
              | inr x ↦ cond_false (b.start == u) (committed_at (greatest (v.accepted u) (set_at h u))) Open x.0
            ]))
            (λ u q. refl)
            (λ u. refl)
            notes
            stands
            checks
            (ap (λ s. s ++ (rs ++ shadow h)) (decided_same b.start (decided h b.start)))
            (sound_lock (rs ++ shadow h) (checked_view m reads) b.key (lock_of b m) sound may)
            (ends_lock (checked_view m reads) b.key (lock_of b m) sound.inv may unrolled good.ends (λ c x. (cc (e, x))))
            tt
        go (Some c) e =
            let v = locking (checked_view m reads) b.key (lock_of b m) in
            let o : decided h b.start ≡ Open =
            lock_opens (checked_view m reads) b.key (lock_of b m) sound.inv may unrolled c good.ends e in
            leaves_it (Prewritten m) (Puts b.key (lock_of b m)) puts
            (λ q. cond (b.start == q) (Done (Committed c)) (decided h q)) v.accepted v.shown reads
            (with_lock (cells_at bounds h b.key) (Some (lock_of b m))) rs (step.Commit b.start c ∷ (rs ++ shadow h))
            (λ u. elim (nat_test b.start u) [
              | inl x ↦ ap (λ s. first_decided s (decided h u))
                  (cond_true (b.start == u) (committed_at (greatest (v.accepted u) (set_at h u))) Open x.0
                  ∙ least_is (Some c) e u x.1)
                  ∙ ap (first_decided (Done (Committed c))) (subst (λ n. decided h n ≡ Open) x.1 o)
                  ∙ sym (cond_true (b.start == u) (Done (Committed c)) (decided h u) x.0)
              | inr x ↦ ap (λ s. first_decided s (decided h u))
                  (cond_false (b.start == u) (committed_at (greatest (v.accepted u) (set_at h u))) Open x.0)
                  ∙ sym (cond_false (b.start == u) (Done (Committed c)) (decided h u) x.0)
            ])
            (λ u q. refl)
            (λ u. refl)
            notes
            stands
            checks
            (ap (λ s. s ++ (rs ++ shadow h))
            (ap (λ s. deciding b.start s (cond (b.start == b.start) (Done (Committed c)) (decided h b.start))) o
            ∙ ap (deciding b.start Open)
            (cond_true (b.start == b.start) (Done (Committed c)) (decided h b.start) (nat_same b.start))))
            (sound_decide (rs ++ shadow h) v b.start c
            (sound_lock (rs ++ shadow h) (checked_view m reads) b.key (lock_of b m) sound may)
            (lock_decides (checked_view m reads) b.key (lock_of b m) sound.inv may unrolled c good.ends e))
            (ends_lock_decide (checked_view m reads) b.key (lock_of b m) sound.inv may unrolled c good.ends e)
            tt

  -- ---- nothing changes

  silent : (a x : Answer) → a ≡ x → Next bounds h (taken x) → Next bounds h (taken a)
  silent a x e next = subst (λ y. Next bounds h (taken y)) (sym e) next

  -- a prewrite that was accepted before
  again : (lock : Lock) → OwnLock (cells_at bounds h b.key).lock b.start lock → (m : ℕ)
      → Next bounds h (taken (Prewritten m))
  again lock own m =
      still (Prewritten m)
      (ap (λ o. cond (is_own o b.start) NoEffect (Puts b.key (lock_of b m))) own.stands
      ∙ cond_true (lock.start == b.start) NoEffect (Puts b.key (lock_of b m)) (eq-eqb lock.start b.start own.own))
      (ap (λ o. with_lock (cells_at bounds h b.key) (Some (locked o b m))) own.stands
      ∙ ap (λ o. with_lock (cells_at bounds h b.key) o) (sym own.stands))
      tt

  -- where no lock stands, a value that is found is seen
  value_seen : HasValue (cells_at bounds h b.key).write b.start
      → ((lock : Lock) → (cells_at bounds h b.key).lock ≡ Some lock → ⊥)
      → (b.start < (left h (route bounds b.key)).safe → ⊥)
      → (v : Value) × Sees (table_of (shadow h)).row b.key b.start (Some v)
  value_seen found unlocked kept = (
    found.0,
    sees (table_of (shadow h)) (view bounds h) (bytes_eq b.key) b.start good.sound.inv good.sound.shows
        (λ k lock inside stands visible. absurd (unlocked lock
        (subst (λ q. (cells_at bounds h q).lock ≡ Some lock) (sym (key_true b.key k inside)) stands)))
        b.key (key_same b.key)
        (elim (cases_lt b.start (left h (route bounds b.key)).safe) [
          | inl lt ↦ absurd (kept lt)
          | inr le ↦ omega (arith, le, good.sound.inv.marks.low b.key)
        ]) (Some found.0) found.1,
  )

  -- ---- the rows

  pub next_prewrite : (a : Answer) (may : IsLegalPrewrite h b) → l ≤ last h
      → AnswersPrewrite (cells_at bounds h b.key) (left h (route bounds b.key)).safe l
      (MayPromise (left h (route bounds b.key)).max_read (last h) b) b a
      → Next bounds h (took (route bounds b.key) (body.Prewrite b) l a)
  next_prewrite a may upto (inl x) =
      silent a (BelowSafePoint (left h here).safe) x.1 (still (BelowSafePoint (left h here).safe) refl refl tt)
  next_prewrite a may upto (inr (no0, inl x)) =
      silent a (FutureTimestamp l) x.1 (still (FutureTimestamp l) refl refl tt)
  next_prewrite a may upto (inr (no0, inr (no1, inl (lock, own, e)))) =
      silent a (Prewritten (named_minimum lock)) e (again lock own (named_minimum lock))
  next_prewrite a may upto (inr (no0, inr (no1, inr (no2, inl x)))) =
      silent a AlreadyRolledBack x.1 (still AlreadyRolledBack refl refl (true_rollback bounds h good b.key b.start x.0))
  next_prewrite a may upto (inr (no0, inr (no1, inr (no2, inr (no3, inl (c, own, e)))))) =
      silent a (AlreadyCommitted c) e
      (still (AlreadyCommitted c) refl refl (true_commit bounds h good b.key b.start c own))
  next_prewrite a may upto (inr (no0, inr (no1, inr (no2, inr (no3, inr (no4, inl (lock, at, e))))))) =
      silent a (KeyIsLocked (info_of b.key lock)) e (still (KeyIsLocked (info_of b.key lock)) refl refl tt)
  next_prewrite a may upto
      (inr (no0, inr (no1, inr (no2, inr (no3, inr (no4, inr (no5, inl (some, (start, c, newest, e))))))))) =
      silent a (WriteConflict start c) e (still (WriteConflict start c) refl refl
      (overtakes bounds h good b.key b.start start c newest.rec newest.stands newest.of
      (λ same. no4 c record { rec = newest.rec; stands = newest.stands; own = newest.of ∙ same }) newest.above))
  next_prewrite a may upto (inr (no0, inr (no1, inr (no2, inr (no3, inr (no4, inr (no5, inr (no6, inl x)))))))) =
      silent a AlreadyExists x.1 (still AlreadyExists refl refl (value_seen x.0.1 no5 no0))
  next_prewrite a may upto
      (inr (no0, inr (no1, inr (no2, inr (no3, inr (no4, inr (no5, inr (no6, inr (no7, rest))))))))) = last_rows rest
    where
      i : Inv (view bounds h)
      i = good.sound.inv

      from_safe : (left h (route bounds b.key)).collected ≤ b.start
      from_safe = elim (cases_lt b.start (left h (route bounds b.key)).safe) [
        | inl lt ↦ absurd (no0 lt)
        | inr le ↦ omega (arith, le, i.marks.low b.key)
      ]

      start_drawn : b.start ≤ last h
      start_drawn = elim (cases_lt l b.start) [ inl lt ↦ absurd (no1 lt) | inr le ↦ omega (arith, le, upto) ]

      declares : mutation_at (set_of (declared h b.start)) b.key ≡ Some b.mutation
      declares = ap (λ o. mutation_at (set_of o) b.key) may.stands ∙ may.mutation

      does : Does (declared h) b.start b.key (as_locked b.mutation)
      does = declared_does (declared h) b.start b.key b.mutation declares

      -- an insert finds no value
      finds_none : IsInsert b.mutation → Reads (cells_at bounds h b.key).write b.start None
      finds_none inserts v found = no7 (inserts, (v, found))

      checked_none : (v : Value) → Inserts (declared h) b.start b.key v
          → Reads (cells_at bounds h b.key).write b.start None
      checked_none v ins = finds_none
          (subst IsInsert (some_same (mutation.Insert v) b.mutation (sym ins ∙ declares)) tt)

      -- an insert is checked at its start
      unchecked : (v : Value) → Inserts (declared h) b.start b.key v → check_by b.mutation b.start ≡ Some b.start
      unchecked v ins = ap (λ m. check_by m b.start) (some_same b.mutation (mutation.Insert v) (sym declares ∙ ins))

      free : (cells_at bounds h b.key).lock ≡ None
      free = none_is (cells_at bounds h b.key).lock no5

      -- the lock is put, where what it must meet does not speak of reads
      putting : (m : ℕ) → ((reads : List Reading) → Inv (checked_view m reads)
          → ((v : Value) → Inserts (declared h) b.start b.key v → IsRead reads b.key b.start)
          → MayLock (checked_view m reads) b.key (lock_of b m)) → Next bounds h (taken (Prewritten m))
      putting m may_be = by_check (check_by b.mutation b.start) refl
        where
          by_check : (o : Option ℕ) → check_by b.mutation b.start ≡ o → Next bounds h (taken (Prewritten m))
          by_check None e = (let sound = raised_sound (Prewritten m) in
              fresh m (reads_in h) [] (ap (λ o. noted b.key o (reads_in h)) e) (ap (checked b) e) sound
              (may_be (reads_in h) sound.inv (λ v ins. absurd (cc (unchecked v ins, e)))) no3)
          by_check (Some at) e =
              (let is = check_is b.mutation b.start at e in
              let same : b.start ≡ at = is.1 in
              let upto_floor : b.start ≤ floor (Prewritten m) b.key =
              omega (
                arith,
                floor_at (Prewritten m) b.key refl,
                ap (λ o. read_upto (read_by_prewrite (Prewritten m) o b) (left h here).max_read) free,
                ap (λ o. read_upto o (left h here).max_read) e,
                same,
              ) in
              let sound = sound_read (shadow h) (raising (view bounds h) (floor (Prewritten m))) b.key b.start None
              (raised_sound (Prewritten m)) start_drawn upto_floor from_safe
              (λ k lock inside stands v. absurd
              (no5 lock (subst (λ q. (cells_at bounds h q).lock
              ≡ Some lock) (sym (key_true b.key k inside)) stands))) (finds_none is.0) in
              fresh m (record { covers = bytes_eq b.key; at = b.start } ∷ reads_in h) (step.Read b.key b.start None
              ∷ []) (ap (λ o. noted b.key o (reads_in h)) (e ∙ ap (λ n. Some n) (sym same)))
              (ap (checked b) (e ∙ ap (λ n. Some n) (sym same))) sound
              (may_be (record { covers = bytes_eq b.key; at = b.start } ∷ reads_in h) sound.inv
              (λ v ins. inl (key_same b.key, refl))) no3)

      low : (at : ℕ) (rec : CommitRecord) → (cells_at bounds h b.key).write at ≡ Some (CommitOf rec) → at ≤ b.start
      low at rec e = elim (cases_lt b.start at) [
        | inl lt ↦
            absurd (no6 (record { at = at; rec = rec; stands = e; above = lt }))
        | inr le ↦ le
      ]

      as_declared : b.mode ≡ Async → (d : Declaration) → declared h b.start ≡ Some d → d.mode ≡ TwoPhase → ⊥
      as_declared async d e two =
          (let same : may.of ≡ d = some_same may.of d (sym may.stands ∙ e) in (cc (async, may.mode, same, two)))

      -- a two-phase lock is put
      two_phase : Next bounds h (took (route bounds b.key) (body.Prewrite b) l (Prewritten 0))
      two_phase =
          let above : b.start < b.start + 1 = omega arith in
          let least : b.start + 1 ≤ last h + 1 = omega (arith, start_drawn) in
          let most : last h + 1 ≤ last h + 1 = omega arith in
          putting 0 (λ reads j read. may_lock (checked_view 0 reads) b.key (lock_of b 0) j from_safe no4 no3 no5 low
          does
          above least most (λ e. absurd (cc (e))) (λ d e x. refl) checked_none read)

      -- an async lock is put
      async : b.mode ≡ Async → (m : ℕ) → MayPromise (left h (route bounds b.key)).max_read (last h) b m
          → Next bounds h (took (route bounds b.key) (body.Prewrite b) l (Prewritten m))
      async mode m promise =
          let lock : Lock = lock_of b m in
          let given : (m == 0) ≡ false = ne_eqb m 0 (λ e. omega (arith, promise.0, e)) in
          let min_is : lock.min ≡ m = cond_false (m == 0) (b.start + 1) m given in
          let mode_is : lock.mode ≡ Async = cond_false (m == 0) TwoPhase Async given in
          let bound_is : bound (accepting (view bounds h) lock) ≡ lock.min =
          bound_async (accepting (view bounds h) lock) mode_is in
          let raised = floor_upto (Prewritten m) in
          let least : max (left h (route bounds b.key)).max_read b.start + 1 ≤ least_minimum
          (left h (route bounds b.key)).max_read b =
          le-max_left (max (left h (route bounds b.key)).max_read b.start + 1) b.floor in
          let start : b.start ≤ max (left h (route bounds b.key)).max_read b.start =
          le-max_right (left h (route bounds b.key)).max_read b.start in
          let above : b.start < lock.min = omega (arith, promise.0, least, start, min_is) in
          let bounded : lock.min ≤ bound (accepting (view bounds h) lock) = omega (arith, bound_is) in
          let most : bound (accepting (view bounds h) lock) ≤ last h + 1 = omega (arith, promise.1, bound_is, min_is) in
          let after : floor (Prewritten m) b.key < lock.min = omega (arith, promise.0, least, raised, min_is) in
          putting m (λ reads j read. may_lock (checked_view m reads) b.key lock j from_safe no4 no3 no5 low does above
          bounded most (λ e. after) (λ d e two. absurd (as_declared mode d e two)) checked_none read)

      last_rows : Case (b.mode ≡ Async) ((m : ℕ) × MayPromise (left h (route bounds b.key)).max_read (last h) b m
          × Case (IsWithin b.max_commit m) (a ≡ Prewritten m) (a ≡ Prewritten 0)) (a ≡ Prewritten 0)
          → Next bounds h (took (route bounds b.key) (body.Prewrite b) l a)
      last_rows (inl (mode, (m, promise, inl x))) = silent a (Prewritten m) x.1 (async mode m promise)
      last_rows (inl (mode, (m, promise, inr x))) = silent a (Prewritten 0) x.1 two_phase
      last_rows (inr x) = silent a (Prewritten 0) x.1 two_phase

-- Each change of a view, with the machine's step that goes with it, keeps what is sound.
use Rattle.std.proofs.Common.{◌≡◌, ◌≢◌, ℕ, ◌<◌, ◌≤◌, ◌==◌, inl, inr, Bool, true, false, cond, List, [], ◌∷◌, Option, Some, None, IsTrue, length, bytes_eq, refl, sym, ap, subst, ◌∙◌, arith}
use Rattle.tx_types.specs.declared.key.Key.{Key}
use Rattle.tx_types.specs.declared.value.Value.{Value}
use Rattle.tx_types.specs.declared.mutation.Mutation.{Mutation}
use Rattle.tx_types.specs.declared.mutation.Mutation.TheVariants as mutation
use Rattle.tx_types.specs.declared.mutation.Fate.{Fate}
use Rattle.tx_machine.specs.Machine.{State, Open, Done}
use Rattle.tx_plan.specs.Cells.{Lock, Cells}
use Rattle.tx_plan.specs.Own.{OwnLock}
use Rattle.tx_core.specs.declared.event.Declaration.{Declaration}
use Rattle.tx_core.specs.Histories.{set_of}
use Rattle.tx_core.specs.Decisions.{Acceptance}
use Rattle.tx_core.proofs.Basics.{nat_test, key_same, key_true, some_of, none_is}
use Rattle.tx_core.proofs.view.View.{View, Inv, Inserts, IsPrimary, IsCommitted, IsAborted, FellBack}
use Rattle.tx_machine.specs.declared.step.ScanRead.{ScanRead}
use Rattle.tx_machine.specs.declared.step.Step.{Step}
use Rattle.tx_machine.specs.declared.step.Step.TheVariants as step
use Rattle.tx_types.specs.Keys.{IsRising, value_in}
use Rattle.tx_machine.specs.Keys.{mutation_at, is_insert, inserted, IsDistinct, covered}
use Rattle.tx_machine.specs.Machine.{SeesRows, IsRead, changes_in, table_of}
use Rattle.tx_plan.specs.Reads.{Reads}
use Rattle.tx_core.proofs.changes.Draws.{drawing, inv_draw}
use Rattle.tx_core.proofs.changes.Begins.{beginning, inv_begin}
use Rattle.tx_core.proofs.changes.Declarations.{declaring, inv_declare}
use Rattle.tx_core.proofs.changes.Reads.{reading, Unblocked, inv_read}
use Rattle.tx_core.proofs.changes.Raises.{raising, raising_safe, inv_raise, inv_raise_safe}
use Rattle.tx_core.proofs.changes.Keyed.{keyed}
use Rattle.tx_core.proofs.changes.Locks.{locking, MayLock, inv_lock}
use Rattle.tx_core.proofs.changes.HeartBeat.{lengthening, inv_lengthen}
use Rattle.tx_core.proofs.changes.Settlements.{settling, inv_settle}
use Rattle.tx_core.proofs.changes.Rollbacks.{rolling_back, leaving_rollback, resolving_back, inv_roll_back, inv_leave_rollback, inv_resolve_back}
use Rattle.tx_core.proofs.changes.Commits.{deciding, CanDecide, inv_decide}
use Rattle.tx_core.proofs.changes.Aborts.{aborting, inv_abort}
use Rattle.tx_core.proofs.changes.Pushes.{pushing, inv_push}
use Rattle.tx_core.proofs.changes.Collections.{collecting, inv_collect}
use Rattle.tx_core.proofs.view.Tables.{Shows, Sound, changes_of, row_declared, may_commit, has_ended, sees}

undeclared : (w : View) (t : ℕ) → Inv w → w.began t ≡ false → w.declared t ≡ None
undeclared w t i e = none_is (w.declared t) (λ d x. (cc (i.clock.declares t (λ none. (cc (none, x))), e)))

undecided : (w : View) (t : ℕ) → Inv w → w.declared t ≡ None → w.decided t ≡ Open
undecided w t i none = go (w.decided t) refl
  where
    go : (s : State) → w.decided t ≡ s → w.decided t ≡ Open
    go Open x = x
    go (Done e) x = absurd (i.clock.decides t (λ o. (cc (o, x))) none)

-- ---- steps of the machine

-- a draw
pub sound_draw : (steps : List Step) (w : View) (seat n : ℕ) → Sound steps w → w.last < n
    → Sound (step.Draw n ∷ steps) (drawing w seat n)
sound_draw steps w seat n s lt =
    record {
      inv = inv_draw w seat n s.inv lt;
      shows = record {
        row = s.shows.row;
        last = refl;
        drawn = λ t some. elim (nat_test n t) as (λ _. cond (n == t) true ((table_of steps).drawn t)
            ≡ true) [ inl e ↦ rw e.0 refl | inr e ↦ rw e.0 (s.shows.drawn t (λ none. some (rw e.0 none))) ];
        reads = s.shows.reads;
      };
      run = (s.run, omega (arith, s.shows.last, lt));
    }

-- a begin
pub sound_begin : (steps : List Step) (w : View) (t : ℕ) → Sound steps w → w.drawer t ≢ None → w.began t ≡ false
    → Sound (step.Begin t ∷ steps) (beginning w t)
sound_begin steps w t s drawn new =
    let none = undeclared w t s.inv new in
    record {
      inv = inv_begin w t s.inv drawn;
      shows = record {
        row = λ q.
            elim (nat_test t q) [
              | inl e ↦ rw (
                e.0,
                ap changes_of (subst (λ n. w.declared n ≡ None) e.1 none),
                subst (λ n. w.decided n ≡ Open) e.1 (undecided w t s.inv none),
              ) refl
              | inr e ↦ rw e.0 (s.shows.row q)
            ];
        last = s.shows.last;
        drawn = s.shows.drawn;
        reads = s.shows.reads;
      };
      run = (s.run, (s.shows.drawn t drawn, s.shows.row t ∙ rw new refl));
    }

-- a declaration
pub sound_declare : (steps : List Step) (w : View) (d : Declaration) → Sound steps w → w.declared d.start ≡ None
    → w.began d.start ≡ true → d.changes ≢ [] → IsDistinct d.changes
    → Sound (step.Declare d.start d.changes ∷ steps) (declaring w d)
sound_declare steps w d s none begun some distinct =
    let o = undecided w d.start s.inv none in
    record {
      inv = inv_declare w d none s.inv begun;
      shows = record {
        row = λ q.
            elim (nat_test d.start q) [
              | inl e ↦ rw (e.0, subst (λ n. w.began n ≡ true) e.1 begun, subst (λ n. w.decided n ≡ Open) e.1 o) refl
              | inr e ↦ rw e.0 (s.shows.row q)
            ];
        last = s.shows.last;
        drawn = s.shows.drawn;
        reads = s.shows.reads;
      };
      run = (s.run, (s.shows.row d.start ∙ rw (begun, none, o) refl, some, distinct));
    }

-- a read of one key
pub sound_read : (steps : List Step) (w : View) (k : Key) (r : ℕ) (found : Option Value) → Sound steps w → r ≤ w.last
    → r ≤ w.floor k → w.collected k ≤ r → Unblocked w (bytes_eq k) r → Reads (w.cells k).write r found
    → Sound (step.Read k r found ∷ steps) (reading w (bytes_eq k) r)
sound_read steps w k r found s upto here fresh free h =
    record {
      inv = inv_read w (bytes_eq k) r s.inv upto (λ q inside. subst (λ x. r ≤ w.floor x) (key_true k q inside) here)
          free;
      shows = record {
        row = s.shows.row;
        last = s.shows.last;
        drawn = s.shows.drawn;
        reads =
            λ q t x. elim x [ inl now ↦ inl now | inr old ↦ inr (s.shows.reads q t old) ];
      };
      run = (
        s.run,
        (
          omega (arith, s.shows.last, upto),
          sees (table_of steps) w (bytes_eq k) r s.inv s.shows free k (key_same k) fresh found h,
        ),
      );
    }

-- a scan: what reads of the keys that it covers give is what the machine sees
pub sees_rows : (steps : List Step) (w : View) (scan : ScanRead) → Sound steps w
    → ((k : Key) → IsTrue (covered scan k) → w.collected k ≤ scan.at) → Unblocked w (covered scan) scan.at
    → IsRising scan.rows → ((k : Key) (v : Value) → value_in scan.rows k ≡ Some v → IsTrue (covered scan k))
    → length scan.rows ≤ scan.limit
    → ((k : Key) → IsTrue (covered scan k) → Reads (w.cells k).write scan.at (value_in scan.rows k))
    → SeesRows (table_of steps).row scan
sees_rows steps w scan s fresh free rising within upto each = record {
  rising = rising;
  within = within;
  upto = upto;
  each = λ k inside. sees (table_of steps) w (covered scan) scan.at s.inv s.shows free k inside (fresh k inside)
      (value_in scan.rows k) (each k inside);
}

-- the scan itself
pub sound_scan : (steps : List Step) (w : View) (scan : ScanRead) → Sound steps w → scan.at ≤ w.last
    → ((k : Key) → IsTrue (covered scan k) → scan.at ≤ w.floor k) → Unblocked w (covered scan) scan.at
    → SeesRows (table_of steps).row scan → Sound (step.Scan scan ∷ steps) (reading w (covered scan) scan.at)
sound_scan steps w scan s upto here free rows =
    record {
      inv = inv_read w (covered scan) scan.at s.inv upto here free;
      shows = record {
        row = s.shows.row;
        last = s.shows.last;
        drawn = s.shows.drawn;
        reads =
            λ q t x. elim x [ inl now ↦ inl now | inr old ↦ inr (s.shows.reads q t old) ];
      };
      run = (s.run, (omega (arith, s.shows.last, upto), rows));
    }

-- the read that the commit of an insert leaves was made by its check
insert_read : (w : View) (t c : ℕ) (d : Declaration) → Inv w → CanDecide w t c → w.declared t ≡ Some d → (k : Key)
    → inserted (Some d.changes) k ≡ true → IsRead w.reads k t
insert_read w t c d i may is k e = go (mutation_at d.changes k) refl e
  where
    go : (o : Option Mutation) → mutation_at d.changes k ≡ o → is_insert o ≡ true → IsRead w.reads k t
    go None at x = absurd (cc x)
    go (Some (mutation.Put v)) at x = absurd (cc x)
    go (Some mutation.Delete) at x = absurd (cc x)
    go (Some mutation.Lock) at x = absurd (cc x)
    go (Some (mutation.Insert v)) at x =
        let ins : Inserts w.declared t k v = ap (λ o. mutation_at (set_of o) k) is ∙ at in
        let by = some_of (w.accepted t k) (may.accepts k (λ none. cc (none, ins))) in
        i.checks t k by.0 by.1 v ins

-- a commit
pub sound_decide : (steps : List Step) (w : View) (t c : ℕ) → Sound steps w → CanDecide w t c
    → Sound (step.Commit t c ∷ steps) (deciding w t c)
sound_decide steps w t c s may =
    let of = some_of (w.declared t) may.declared in
    record {
      inv = inv_decide w t c s.inv may;
      shows = record {
        row = λ q.
            elim (nat_test t q) [
              | inl e ↦ rw (
                e.0,
                s.shows.row t,
                row_declared w t of.0 s.inv of.1,
                subst (λ n. w.began n ≡ true) e.1 (s.inv.clock.declares t may.declared),
                subst (λ n. w.declared n ≡ Some of.0) e.1 of.1,
              ) refl
              | inr e ↦ rw e.0 (s.shows.row q)
            ];
        last = s.shows.last;
        drawn = s.shows.drawn;
        reads = λ k r x. elim x [
          | inl now ↦ subst (IsRead w.reads k) now.1
              (insert_read w t c of.0 s.inv may of.1 k
              (ap (λ o. inserted (changes_in o) k) (sym (s.shows.row t ∙ row_declared w t of.0 s.inv of.1)) ∙ now.0))
          | inr old ↦ s.shows.reads k r old
        ];
      };
      run = (s.run, may_commit (table_of steps) w t c s.inv s.shows may);
    }

-- an abort
pub sound_abort : (steps : List Step) (w : View) (t : ℕ) → Sound steps w → w.decided t ≡ Open → w.declared t ≢ None
    → Sound (step.Abort t ∷ steps) (aborting w t)
sound_abort steps w t s o some =
    let of = some_of (w.declared t) some in
    record {
      inv = inv_abort w t s.inv o some;
      shows = record {
        row = λ q.
            elim (nat_test t q) [
              | inl e ↦ rw (
                e.0,
                s.shows.row t,
                row_declared w t of.0 s.inv of.1,
                subst (λ n. w.began n ≡ true) e.1 (s.inv.clock.declares t some),
                subst (λ n. w.declared n ≡ Some of.0) e.1 of.1,
              ) refl
              | inr e ↦ rw e.0 (s.shows.row q)
            ];
        last = s.shows.last;
        drawn = s.shows.drawn;
        reads = s.shows.reads;
      };
      run = (
        s.run,
        (
          Some of.0.changes,
          s.shows.row t ∙ row_declared w t of.0 s.inv of.1
              ∙ ap (λ x. Some record { changes = Some of.0.changes; state = x }) o,
        ),
      );
    }

-- an answer of what is decided
pub sound_answer : (steps : List Step) (w : View) (t : ℕ) (e : Fate) → Sound steps w → w.decided t ≡ Done e
    → Sound (step.Answer t e ∷ steps) w
sound_answer steps w t e s end =
    let ended = has_ended (table_of steps) w t e s.inv s.shows end in
    record {
      inv = s.inv;
      shows = record { row = s.shows.row; last = s.shows.last; drawn = s.shows.drawn; reads = s.shows.reads };
      run = (s.run, (ended.0, ended.1));
    }

-- ---- changes that the machine does not see

-- the table shows the same where the last number, the drawers, the rows and the reads are the same
same_shows : (steps : List Step) (w : View) → Sound steps w
    → (accepted : ℕ → Key → Option Acceptance) (shown : ℕ → ℕ) (floor safe collected : Key → ℕ) (cells : Key → Cells)
    → Shows (table_of steps)
    (record w { accepted = accepted; shown = shown; floor = floor; safe = safe; collected = collected; cells = cells })
same_shows steps w s accepted shown floor safe collected cells =
    record { row = s.shows.row; last = s.shows.last; drawn = s.shows.drawn; reads = s.shows.reads }

-- a change that keeps the invariants keeps what is sound
pub sound_quiet : (steps : List Step) (w : View) → Sound steps w
    → (accepted : ℕ → Key → Option Acceptance) (shown : ℕ → ℕ) (floor safe collected : Key → ℕ) (cells : Key → Cells)
    → Inv (record w {
      accepted = accepted;
      shown = shown;
      floor = floor;
      safe = safe;
      collected = collected;
      cells =
          cells;
    }) → Sound steps
    (record w { accepted = accepted; shown = shown; floor = floor; safe = safe; collected = collected; cells = cells })
sound_quiet steps w s accepted shown floor safe collected cells i =
    record { inv = i; shows = same_shows steps w s accepted shown floor safe collected cells; run = s.run }

pub sound_raise : (steps : List Step) (w : View) (floor : Key → ℕ) → Sound steps w → ((k : Key) → w.floor k ≤ floor k)
    → Sound steps (raising w floor)
sound_raise steps w floor s more =
    sound_quiet steps w s w.accepted w.shown floor w.safe w.collected w.cells (inv_raise w floor s.inv more)

pub sound_raise_safe : (steps : List Step) (w : View) (safe : Key → ℕ) → Sound steps w → ((k : Key) → w.safe k ≤ safe k)
    → Sound steps (raising_safe w safe)
sound_raise_safe steps w safe s more =
    sound_quiet steps w s w.accepted w.shown w.floor safe w.collected w.cells (inv_raise_safe w safe s.inv more)

pub sound_lock : (steps : List Step) (w : View) (k : Key) (lock : Lock) → Sound steps w → MayLock w k lock
    → Sound steps (locking w k lock)
sound_lock steps w k lock s may =
    sound_quiet steps w s (locking w k lock).accepted (locking w k lock).shown w.floor w.safe w.collected
    (locking w k lock).cells (inv_lock w k lock s.inv may)

-- other cells on one key
pub sound_keyed : (steps : List Step) (w : View) (k : Key) (new : Cells) → Sound steps w → Inv (keyed w k new)
    → Sound steps (keyed w k new)
sound_keyed steps w k new s i =
    sound_quiet steps w s w.accepted w.shown w.floor w.safe w.collected (keyed w k new).cells i

pub sound_lengthen : (steps : List Step) (w : View) (k : Key) (t ttl : ℕ) → Sound steps w
    → Sound steps (lengthening w k t ttl)
sound_lengthen steps w k t ttl s =
    record {
      inv = inv_lengthen w k t ttl s.inv;
      shows =
          record { row = s.shows.row; last = s.shows.last; drawn = s.shows.drawn; reads = s.shows.reads };
      run = s.run;
    }

pub sound_settle : (steps : List Step) (w : View) (k : Key) (t c : ℕ) → Sound steps w → IsCommitted w.decided t c
    → Sound steps (settling w k t c)
sound_settle steps w k t c s end =
    record {
      inv = inv_settle w k t c s.inv end;
      shows =
          record { row = s.shows.row; last = s.shows.last; drawn = s.shows.drawn; reads = s.shows.reads };
      run = s.run;
    }

pub sound_roll_back : (steps : List Step) (w : View) (k : Key) (t : ℕ) → Sound steps w → IsAborted w.decided t
    → Sound steps (rolling_back w k t)
sound_roll_back steps w k t s gone =
    record {
      inv = inv_roll_back w k t s.inv gone;
      shows =
          record { row = s.shows.row; last = s.shows.last; drawn = s.shows.drawn; reads = s.shows.reads };
      run = s.run;
    }

pub sound_leave_rollback : (steps : List Step) (w : View) (k : Key) (t : ℕ) → Sound steps w → IsAborted w.decided t
    → Sound steps (leaving_rollback w k t)
sound_leave_rollback steps w k t s gone =
    record {
      inv = inv_leave_rollback w k t s.inv gone;
      shows =
          record { row = s.shows.row; last = s.shows.last; drawn = s.shows.drawn; reads = s.shows.reads };
      run = s.run;
    }

pub sound_resolve_back : (steps : List Step) (w : View) (k : Key) (t : ℕ) → Sound steps w → IsAborted w.decided t
    → Sound steps (resolving_back w k t)
sound_resolve_back steps w k t s gone =
    record {
      inv = inv_resolve_back w k t s.inv gone;
      shows =
          record { row = s.shows.row; last = s.shows.last; drawn = s.shows.drawn; reads = s.shows.reads };
      run = s.run;
    }

pub sound_push : (steps : List Step) (w : View) (k : Key) (t min : ℕ) (lock : Lock) → Sound steps w
    → OwnLock (w.cells k).lock t lock → IsPrimary w.declared t k → lock.min ≤ min → FellBack w.accepted t
    → ((c : ℕ) → IsCommitted w.decided t c → ⊥) → Sound steps (pushing w k t min)
sound_push steps w k t min lock s own first more fell uncommitted =
    sound_quiet steps w s w.accepted (pushing w k t min).shown w.floor w.safe w.collected (pushing w k t min).cells
    (inv_push w k t min lock s.inv own first more fell uncommitted)

pub sound_collect : (steps : List Step) (w : View) (within : Key → Bool) (safe : ℕ) → Sound steps w
    → ((q : Key) → within q ≡ true → (w.collected q ≤ safe) × (safe ≤ w.safe q))
    → ((q : Key) (lock : Lock) → within q ≡ true → (w.cells q).lock ≡ Some lock → safe ≤ lock.start)
    → Sound steps (collecting w within safe)
sound_collect steps w within safe s more free =
    sound_quiet steps w s w.accepted w.shown w.floor w.safe (collecting w within safe).collected
    (collecting w within safe).cells (inv_collect w within safe s.inv more free)

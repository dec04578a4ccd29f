-- A trace goes on with a declaration.
use Rattle.std.proofs.Common.{◌≡◌, ◌≢◌, inl, inr, ℕ, ◌==◌, true, false, cond, List, [], ◌∷◌, Option, Some, None, is_some, refl, sym, ap, subst, ◌∙◌}
use Rattle.tx_types.specs.declared.key.Key.{Key}
use Rattle.tx_types.specs.declared.value.Value.{Value}
use Rattle.tx_types.specs.declared.mutation.Mutation.TheVariants.{Insert}
use Rattle.tx_types.specs.declared.mutation.Change.{Change}
use Rattle.tx_machine.specs.declared.step.Step.TheVariants as step
use Rattle.tx_machine.specs.Keys.{mutation_at}
use Rattle.tx_machine.specs.Machine.{State, Open, Done}
use Rattle.tx_core.specs.declared.event.Declaration.{Declaration}
use Rattle.tx_core.specs.declared.event.Event.TheVariants.{Declared}
use Rattle.tx_core.specs.Histories.{History, declared}
use Rattle.tx_core.specs.Decisions.{accepted, decided}
use Rattle.tx_core.specs.Worlds.{IsWorldRun}
use Rattle.tx_core.proofs.Basics.{nat_test, nat_same, none_is, some_same, key_same, cond_true, cond_false}
use Rattle.tx_core.proofs.view.View.{Inv, does_declared}
use Rattle.tx_core.proofs.view.HistoryView.{view}
use Rattle.tx_core.proofs.runs.AllRuns.{run_told}
use Rattle.tx_trace.specs.declared.pending.Locks.{Locks}
use Rattle.tx_trace.specs.declared.pending.Pending.{Pending}
use Rattle.tx_trace.specs.declared.pending.Pending.TheVariants as pending
use Rattle.tx_trace.specs.declared.log.TraceLog.{TraceLog}
use Rattle.tx_trace.specs.Pending.{Accepted, AwaitsLocks, Awaits, AreAll, IsFirst}
use Rattle.tx_trace.specs.Logs.{Stands, IsLogOf, Tracks, kept_in, checked_in, Enters}
use Rattle.tx_trace.proofs.Minimums.{greatest_none}

-- ---- what is waited for at first

some_true : {X : Type 0} (o : Option X) → is_some o ≡ true → o ≢ None
some_true None e none = cc e
some_true (Some x) e none = cc none

none_false : {X : Type 0} (o : Option X) → is_some o ≡ false → o ≡ None
none_false None e = refl
none_false (Some x) e = absurd (cc e)

first_key : (set : List Change) → set ≢ [] → (k : Key) × (is_some (mutation_at set k) ≡ true)
first_key [] some = absurd (some refl)
first_key (c ∷ cs) some = (c.key, ap is_some (cond_true _ (Some c.mutation) (mutation_at cs c.key) (key_same c.key)))

module _ (d : Declaration) (some : d.changes ≢ []) (accepted : Accepted) (none : (k : Key) → accepted k ≡ None) where
  all_await : (locks : Locks) → AreAll d.changes locks → AwaitsLocks d.changes accepted locks
  all_await locks all =
      let first = first_key d.changes some in
      record {
        some = (first.0, all.keys first.0 ∙ first.1);
        within = λ k e. some_true (mutation_at d.changes k) (sym (all.keys k) ∙ e);
        left = λ k e. none k;
        rest = λ k e f. absurd (e (none_false (mutation_at d.changes k) (sym (all.keys k) ∙ f)));
        async = λ k by e f. (let n = none k in absurd (cc (f, n)));
        min = all.min ∙ sym (greatest_none accepted none d.changes);
      }

  first_awaits : (p : Pending) → IsFirst d p → Awaits d accepted p
  first_awaits pending.Primary e = inl e
  first_awaits (pending.Locks locks) e = all_await locks e

-- ---- the declaration

module _ (bounds : List Key) (h : History) (d : Declaration) (run : IsWorldRun bounds (Declared d ∷ h)) (old new :
    TraceLog) (f : IsLogOf h old) (enters : Enters d old new) where
  inv : Inv (view bounds h)
  inv = (run_told bounds h run.0).0.sound.inv

  unaccepted : (k : Key) → accepted h d.start k ≡ None
  unaccepted k = none_is (accepted h d.start k)
      (λ by e. does_declared (declared h) d.start k by.lock.mutation (inv.acceptances d.start k by e).does run.1.once)

  undecided : (s : State) → decided h d.start ≡ s → s ≡ Open
  undecided Open e = refl
  undecided (Done end) e = absurd (inv.clock.decides d.start (λ o. cc (o, e)) run.1.once)

  own : Stands (decided h d.start) d (accepted h d.start) (kept_in new d.start)
  own =
      let kept : kept_in new d.start ≡ Some enters.first =
      enters.others d.start
      ∙ cond_true (d.start == d.start) (Some enters.first) (kept_in old d.start) (nat_same d.start) in
      subst (λ s. Stands s d (accepted h d.start) (kept_in new d.start)) (sym (undecided (decided h d.start) refl))
      (subst (λ o. Stands Open d (accepted h d.start) o) (sym kept)
      (first_awaits d run.1.some (accepted h d.start) unaccepted enters.first enters.is))

  stands : (t : ℕ) (of : Declaration) → cond (d.start == t) (Some d) (declared h t) ≡ Some of
      → Stands (decided h t) of (accepted h t) (kept_in new t)
  stands t of is =
      elim (nat_test d.start t) [
        | inl x ↦ (let same : d ≡ of =
            some_same d of (sym (cond_true (d.start == t) (Some d) (declared h t) x.0) ∙ is) in
            subst (λ (y : Declaration). Stands (decided h t) y (accepted h t) (kept_in new t)) same
            (subst (λ n. Stands (decided h n) d (accepted h n) (kept_in new n)) x.1 own))
        | inr x ↦ subst (λ o. Stands (decided h t) of (accepted h t) o)
            (sym (enters.others t ∙ cond_false (d.start == t) (Some enters.first) (kept_in old t) x.0))
            (f.0.pending t of (sym (cond_false (d.start == t) (Some d) (declared h t) x.0) ∙ is))
      ]

  -- nothing of it was accepted
  inserts : (t : ℕ) (of : Declaration) (k : Key) (v : Value) → cond (d.start == t) (Some d) (declared h t) ≡ Some of
      → mutation_at of.changes k ≡ Some (Insert v) → accepted h t k ≢ None → checked_in new t k ≡ true
  inserts t of k v is ins some =
      elim (nat_test d.start t) [
        | inl x ↦ absurd (some (subst (λ n. accepted h n k ≡ None) x.1 (unaccepted k)))
        | inr x ↦ enters.still t k
            ∙ f.1.inserts t of k v (sym (cond_false (d.start == t) (Some d) (declared h t) x.0) ∙ is) ins some
      ]

  tracks : Tracks (Declared d ∷ h) (checked_in new)
  tracks = record { accepts = λ t k e. f.1.accepts t k (sym (enters.still t k) ∙ e); inserts = inserts }

  pub declares : IsLogOf (Declared d ∷ h) new
  declares = (
    record {
      shadows = enters.steps ∙ ap (λ s. step.Declare d.start d.changes ∷ s) f.0.shadows;
      pending =
          stands;
    },
    tracks,
  )

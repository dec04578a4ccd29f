-- A row that has ended stays as it is.
use Rattle.std.proofs.Common.{◌≡◌, ◌≢◌, ℕ, ◌≤◌, ◌==◌, ◌++◌, ◌⊎◌, inl, inr, List, [], ◌∷◌, Option, Some, None, ap, ◌∙◌}
use Rattle.std.proofs.lemmas.Bool.{cases_lt}
use Rattle.tx_types.specs.declared.key.Key.{Key}
use Rattle.tx_types.specs.declared.mutation.Change.{Change}
use Rattle.tx_types.specs.declared.mutation.Mutation.{Mutation}
use Rattle.tx_types.specs.declared.mutation.Fate.{Fate}
use Rattle.tx_types.specs.declared.mutation.Fate.TheVariants.{Committed, Aborted}
use Rattle.tx_machine.specs.declared.step.Step.{Step}
use Rattle.tx_machine.specs.declared.step.Step.TheVariants as step
use Rattle.tx_machine.specs.Machine.{State, Open, Done, Row, Table, Commits, Admits, changes_in, with_row, after, table_of, IsRun}
use Rattle.tx_machine.proofs.Basics.{nat_test, cond_false}
use Rattle.tx_machine.proofs.Snapshots.{open_not_ended, commits_apart}
use Rattle.tx_core.specs.Histories.{History}
use Rattle.tx_core.specs.Shadow.{shadow}
use Rattle.tx_core.specs.Worlds.{IsWorldRun}
use Rattle.tx_core.proofs.runs.AllRuns.{shadow_runs}
use Rattle.tx_isolation.specs.Snapshots.{AreApart}

-- a row that has ended
abbrev Ended : Option (List Change) → Fate → Option Row
Ended set end = Some record { changes = set; state = Done end }

-- another row is changed
other_row : (table : Table) (q : ℕ) (changes : Option (List Change)) (state : State) (t : ℕ)
    (set : Option (List Change)) (end : Fate) → (table.row q ≡ Ended set end → ⊥) → table.row t ≡ Ended set end
    → (with_row table q changes state).row t ≡ Ended set end
other_row table q changes state t set end going e = elim (nat_test q t) [
  | inl x ↦ absurd (going (ap table.row x.1 ∙ e))
  | inr x ↦ cond_false (q == t) (Some record { changes = changes; state = state }) (table.row t) x.0 ∙ e
]

-- no step changes it
row_next : (table : Table) (s : Step) → Admits table s → (t : ℕ) (set : Option (List Change)) (end : Fate)
    → table.row t ≡ Ended set end → (after table s).row t ≡ Ended set end
row_next table (step.Draw n) a t set end e = e
row_next table (step.Begin q) a t set end e = other_row table q None Open t set end (λ x. cc (x, a.1)) e
row_next table (step.Declare q changes) a t set end e =
    other_row table q (Some changes) Open t set end (λ x. open_not_ended (table.row q) set None end x a.0) e
row_next table (step.Commit q c) a t set end e =
    other_row table q (changes_in (table.row q)) (Done (Committed c)) t set end
    (λ x. open_not_ended (table.row q) set (Some a.set) end x a.opened) e
row_next table (step.Abort q) a t set end e =
    other_row table q (changes_in (table.row q)) (Done Aborted) t set end
    (λ x. open_not_ended (table.row q) set a.0 end x a.1) e
row_next table (step.Read k r found) a t set end e = e
row_next table (step.Scan s) a t set end e = e
row_next table (step.Answer q f) a t set end e = e

pub rows_stay : (more steps : List Step) → IsRun (more ++ steps) → (t : ℕ) (set : Option (List Change)) (end : Fate)
    → (table_of steps).row t ≡ Ended set end → (table_of (more ++ steps)).row t ≡ Ended set end
rows_stay [] steps run t set end e = e
rows_stay (s ∷ more) steps run t set end e =
    row_next (table_of (more ++ steps)) s run.1 t set end (rows_stay more steps run.0 t set end e)

-- ---- two commits of one key

pub apart : (bounds : List Key) (h : History) → IsWorldRun bounds h → AreApart (table_of (shadow h)).row
apart bounds h run k t c u d m n x y other = elim (cases_lt u c) [
  | inr upto ↦ inl upto
  | inl low ↦ elim (cases_lt t d) [
    | inr upto ↦ inr upto
    | inl below ↦ absurd (commits_apart (shadow h) (shadow_runs bounds h run) k t c u d m n x y other (below, low))
  ]
]

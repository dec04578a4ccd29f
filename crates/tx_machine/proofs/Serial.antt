-- What is seen of a key between the start and the commit of a transaction that changes it.
use Rattle.std.proofs.Common.{◌≡◌, ℕ, ◌<◌, ◌≤◌, ◌++◌, ◌↔◌, inl, inr, List, ◌∷◌, Option, Some, None, IsTrue, sym, subst, arith}
use Rattle.std.proofs.lemmas.Bool.{cases_lt}
use Rattle.tx_types.specs.declared.key.Key.{Key}
use Rattle.tx_types.specs.declared.value.Value.{Value}
use Rattle.tx_types.specs.declared.mutation.Mutation.{Mutation}
use Rattle.tx_machine.specs.declared.step.Step.{Step}
use Rattle.tx_machine.specs.declared.step.Step.TheVariants as step
use Rattle.tx_types.specs.Keys.{IsVisible, value_in}
use Rattle.tx_machine.specs.Keys.{covered}
use Rattle.tx_machine.specs.declared.step.ScanRead.{ScanRead}
use Rattle.tx_machine.specs.Machine.{Rows, Commits, NoneBetween, Newest, Sees, table_of, IsRun}
use Rattle.tx_machine.proofs.Snapshots.{put_visible, reads_stay, scans_stay}
use Rattle.tx_machine.proofs.Inserts.{alone, commit_same}

-- where nothing that puts or deletes a key is committed between two numbers, the same is seen at
-- both
module _ (rows : Rows) (k : Key) (low high : ℕ) (le : low ≤ high) (none : NoneBetween rows k low high) where
  up : (m : Mutation) → Newest rows k low m → Newest rows k high m
  up m w = record {
    start = w.start;
    at = w.at;
    commits = w.commits;
    upto = omega (arith, le, w.upto);
    newest = λ u c n x seen above upto. elim (cases_lt low c) [
      | inl lt ↦ none u c n x seen lt upto
      | inr ge ↦ w.newest u c n x seen above ge
    ];
  }

  down : (m : Mutation) → IsVisible m → Newest rows k high m → Newest rows k low m
  down m visible w = record {
    start = w.start;
    at = w.at;
    commits = w.commits;
    upto = elim (cases_lt low w.at) [
      | inl lt ↦ absurd (none w.start w.at m w.commits visible lt w.upto)
      | inr ge ↦ ge
    ];
    newest = λ u c n x seen above upto. w.newest u c n x seen above (omega (arith, le, upto));
  }

  sees_up : (found : Option Value) → Sees rows k low found → Sees rows k high found
  sees_up (Some v) (m, w, puts) = (m, up m w, puts)
  sees_up None bare = λ m v w puts. bare m v (down m (put_visible m v puts) w) puts

  sees_down : (found : Option Value) → Sees rows k high found → Sees rows k low found
  sees_down (Some v) (m, w, puts) = (m, down m (put_visible m v puts) w, puts)
  sees_down None bare = λ m v w puts. bare m v (up m w) puts

-- what is seen at the start is what is seen anywhere below the commit
pub sees_until : (steps : List Step) → IsRun steps → (k : Key) (t c r : ℕ) (m : Mutation)
    → Commits (table_of steps).row k t c m → t ≤ r → r < c → (found : Option Value)
    → Sees (table_of steps).row k t found ↔ Sees (table_of steps).row k r found
sees_until steps run k t c r m x le lt found =
    let none : NoneBetween (table_of steps).row k t r =
    λ u d n y seen low high.
    let who : t ≡ u = alone steps run k t c u d m n x y low (omega (arith, high, lt)) in
    let at = (commit_same (table_of steps).row k t c d m n x
    (subst (λ (q : ℕ). Commits (table_of steps).row k q d n) (sym who) y)).0 in
    omega (arith, at, high, lt) in
    (sees_up (table_of steps).row k t r le none found, sees_down (table_of steps).row k t r le none found)

-- what was read at the start is seen anywhere below the commit
pub read_until : (more steps : List Step) (k : Key) (t c r : ℕ) (m : Mutation) (found : Option Value)
    → IsRun (more ++ step.Read k t found ∷ steps)
    → Commits (table_of (more ++ step.Read k t found ∷ steps)).row k t c m → t ≤ r → r < c
    → Sees (table_of (more ++ step.Read k t found ∷ steps)).row k r found
read_until more steps k t c r m found run x le lt =
    (sees_until (more ++ step.Read k t found ∷ steps) run k t c r m x le lt found).0
    (reads_stay more steps k t found run)

-- and what a scan found of it
pub scanned_until : (more steps : List Step) (s : ScanRead) (k : Key) (c r : ℕ) (m : Mutation)
    → IsRun (more ++ step.Scan s ∷ steps) → IsTrue (covered s k)
    → Commits (table_of (more ++ step.Scan s ∷ steps)).row k s.at c m → s.at ≤ r → r < c
    → Sees (table_of (more ++ step.Scan s ∷ steps)).row k r (value_in s.rows k)
scanned_until more steps s k c r m run inside x le lt =
    (sees_until (more ++ step.Scan s ∷ steps) run k s.at c r m x le lt (value_in s.rows k)).0
    ((scans_stay more steps s run).each k inside)

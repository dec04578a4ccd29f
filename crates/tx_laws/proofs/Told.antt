-- What was told is committed in the table, and each read at or above it finds at least that.
use Rattle.std.proofs.Common.{◌≡◌, ◌≢◌, ℕ, ◌<◌, ◌≤◌, inl, inr, List, [], ◌∷◌, Option, Some, None, refl, sym, ap, subst, ◌∙◌}
use Rattle.tx_types.specs.declared.key.Key.{Key}
use Rattle.tx_types.specs.declared.value.Value.{Value}
use Rattle.tx_types.specs.declared.mutation.Mutation.{Mutation}
use Rattle.tx_types.specs.declared.mutation.Fate.TheVariants as fate
use Rattle.tx_types.specs.Keys.{IsVisible}
use Rattle.tx_machine.specs.Keys.{mutation_at}
use Rattle.tx_machine.specs.Machine.{Done, Commits, table_of}
use Rattle.tx_machine.proofs.Snapshots.{commits_apart}
use Rattle.tx_core.specs.declared.event.Outcome.TheVariants as outcome
use Rattle.tx_core.specs.declared.event.Taken.{Taken}
use Rattle.tx_core.specs.declared.event.Event.TheVariants.{Answered, Took}
use Rattle.tx_core.specs.Histories.{History, declared, set_of, set_at, Among}
use Rattle.tx_core.specs.Decisions.{decided}
use Rattle.tx_core.specs.Shadow.{shadow}
use Rattle.tx_core.specs.Worlds.{MayCome, IsWorldRun}
use Rattle.tx_core.proofs.Basics.{some_of}
use Rattle.tx_core.proofs.view.Tables.{Sound, row_declared, commits_is}
use Rattle.tx_core.proofs.view.HistoryView.{view}
use Rattle.tx_core.proofs.runs.AllRuns.{run_told, shadow_runs}
use Rattle.tx_core.proofs.runs.Consequences.{told_fate, decided_declared}
use Rattle.tx_core.proofs.seats.Beginnings.{begins_all}
use Rattle.tx_core.proofs.seats.StaysDecided.{decided_on}
use Rattle.tx_laws.specs.Told.{IsTold, Says, FindsAtLeast}
use Rattle.tx_laws.proofs.Newest.{finds}
use Rattle.tx_laws.proofs.LaterReads.{answer_seen}

-- what was answered committed is decided so
answered_decided : (bounds : List Key) (h : History) → IsWorldRun bounds h → (t c : ℕ)
    → Among h (Answered t (outcome.Committed c)) → decided h t ≡ Done (fate.Committed c)
answered_decided bounds [] run t c among = absurd among
answered_decided bounds (e ∷ h) run t c among =
    decided_on h (e ∷ h) (inr (begins_all h)) t (fate.Committed c) (elim among [
      | inr before ↦ answered_decided bounds h run.0 t c before
      | inl now ↦ (let may : MayCome bounds h (Answered t (outcome.Committed c)) = subst (MayCome bounds h) now run.1 in
          elim may.2 [
            | inl told ↦ told_fate bounds h run.0 t (fate.Committed c) told
            | inr all ↦ (run_told bounds h run.0).0.ends.all_async t c all
          ])
    ])

module _ (bounds : List Key) (h : History) (run : IsWorldRun bounds h) where
  sound : Sound (shadow h) (view bounds h)
  sound = (run_told bounds h run).0.sound

  told_decided : (t c : ℕ) → IsTold h t c → decided h t ≡ Done (fate.Committed c)
  told_decided t c told =
      elim told [
        | inl by_answer ↦ told_fate bounds h run t (fate.Committed c) by_answer
        | inr rest ↦ elim rest [
          | inl by_outcome ↦ answered_decided bounds h run t c by_outcome
          | inr by_locks ↦ by_locks
        ]
      ]

  -- what is decided is committed in the table
  told_commits : (t c : ℕ) (k : Key) (m : Mutation) → decided h t ≡ Done (fate.Committed c)
      → mutation_at (set_at h t) k ≡ Some m → Commits (table_of (shadow h)).row k t c m
  told_commits t c k m end does =
      let of = some_of (declared h t) (decided_declared bounds h run t (fate.Committed c) end) in
      record {
        set = of.0.changes;
        row_is = sound.shows.row t ∙ row_declared (view bounds h) t of.0 sound.inv of.1
            ∙ ap (λ s. Some record { changes = Some of.0.changes; state = s }) end;
        does = ap (λ o. mutation_at (set_of o) k) (sym of.1) ∙ does;
      }

  starts : (k : Key) (u d : ℕ) (m : Mutation) → Commits (table_of (shadow h)).row k u d m → u < d
  starts k u d m c = (sound.inv.commits u d
      (commits_is (table_of (shadow h)) (view bounds h) k u d m sound.shows c).0).range.0

  read_after : (t c r : ℕ) (k : Key) (m : Mutation) (x : Taken) (found : Option Value) → IsTold h t c
      → mutation_at (set_at h t) k ≡ Some m → IsVisible m → Among h (Took x) → Says x.body x.answer k r found → c ≤ r
      → FindsAtLeast (table_of (shadow h)).row k c r m found
  read_after t c r k m x found told does v among says le =
      finds (table_of (shadow h)).row starts (commits_apart (shadow h) (shadow_runs bounds h run))
      k t c r m (told_commits t c k m (told_decided t c told) does) v le found
      (answer_seen bounds h run x among k r found says)

pub commits_are_read :
    (bounds : List Key) (h : History) (t c r : ℕ) (k : Key) (m : Mutation) (x : Taken) (found : Option Value)
    → IsWorldRun bounds h → IsTold h t c → mutation_at (set_at h t) k ≡ Some m → IsVisible m → Among h (Took x)
    → Says x.body x.answer k r found → c ≤ r → FindsAtLeast (table_of (shadow h)).row k c r m found
commits_are_read bounds h t c r k m x found run told does v among says le =
    read_after bounds h run t c r k m x found told does v among says le

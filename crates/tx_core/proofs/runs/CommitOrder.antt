-- The order of commits: what was decided as committed before a transaction drew its start or the
-- number of its declaration lies at or below the one, and below its commit.
use Rattle.std.proofs.Common.{◌≡◌, ◌≢◌, ℕ, ◌<◌, ◌≤◌, ◌==◌, inl, inr, true, List, [], ◌∷◌, Some, refl, sym, ap, subst, ◌∙◌, arith}
use Rattle.tx_types.specs.declared.key.Key.{Key}
use Rattle.tx_types.specs.declared.mutation.Change.{Change}
use Rattle.tx_types.specs.declared.mutation.Fate.TheVariants as fate
use Rattle.tx_machine.specs.Machine.{Done}
use Rattle.tx_core.specs.declared.event.Declaration.{Declaration}
use Rattle.tx_core.specs.declared.event.Outcome.TheVariants as outcome
use Rattle.tx_core.specs.declared.event.Event.{Event}
use Rattle.tx_core.specs.declared.event.Event.TheVariants.{Drawn, Began, Declared, Answered, Stopped, Took}
use Rattle.tx_core.specs.Histories.{History, declared, set_of, set_at, is_first, Among, Begins}
use Rattle.tx_core.specs.Decisions.{accepted, decided}
use Rattle.std.proofs.lemmas.Bool.{cases_lt}
use Rattle.tx_types.specs.declared.mutation.Mutation.{Mutation}
use Rattle.tx_types.specs.Keys.{IsVisible}
use Rattle.tx_core.specs.Shadow.{shadow}
use Rattle.tx_machine.specs.Machine.{Commits, Newest, table_of}
use Rattle.tx_machine.proofs.Inserts.{find_newest}
use Rattle.tx_core.specs.Laws.{DecidedBefore}
use Rattle.tx_core.specs.Worlds.{MayCome, IsWorldRun}
use Rattle.tx_core.proofs.Basics.{chosen, key_same, some_same, some_of}
use Rattle.tx_core.proofs.view.View.{Inv, first_within, does_within}
use Rattle.tx_core.proofs.view.HistoryView.{view}
use Rattle.tx_core.proofs.runs.AllRuns.{run_told}
use Rattle.tx_core.proofs.runs.Consequences.{told_fate}
use Rattle.tx_core.proofs.runs.AboveDraw.{above_draw}
use Rattle.tx_core.proofs.seats.Beginnings.{begins_all, kept_on, run_beginning}
use Rattle.tx_core.proofs.seats.StaysDecided.{decided_on}

-- what was answered committed is decided so
answered_decided : (bounds : List Key) (h : History) → IsWorldRun bounds h → (u c : ℕ)
    → Among h (Answered u (outcome.Committed c)) → decided h u ≡ Done (fate.Committed c)
answered_decided bounds [] run u c among = absurd among
answered_decided bounds (e ∷ h) run u c among =
    decided_on h (e ∷ h) (inr (begins_all h)) u (fate.Committed c) (elim among [
      | inr before ↦ answered_decided bounds h run.0 u c before
      | inl now ↦ (let may : MayCome bounds h (Answered u (outcome.Committed c)) = subst (MayCome bounds h) now run.1 in
          elim may.2 [
            | inl told ↦ told_fate bounds h run.0 u (fate.Committed c) told
            | inr all ↦ (run_told bounds h run.0).0.ends.all_async u c all
          ])
    ])

-- what was decided as committed before a number was drawn lies at or below that number
pub decided_below : (bounds : List Key) (h : History) → IsWorldRun bounds h → (p u c : ℕ) → DecidedBefore h p u c
    → c ≤ p
decided_below bounds [] run p u c before = absurd before
decided_below bounds (Drawn s n ∷ h) run p u c before =
    elim before [
      | inl now ↦ (let range =
          ((run_told bounds h run.0).0.sound.inv.commits u c now.1).range in
          omega (arith, range.1, run.1, now.0))
      | inr earlier ↦ decided_below bounds h run.0 p u c earlier
    ]
decided_below bounds (Began t ∷ h) run p u c before = decided_below bounds h run.0 p u c before
decided_below bounds (Declared d ∷ h) run p u c before = decided_below bounds h run.0 p u c before
decided_below bounds (Answered t o ∷ h) run p u c before = decided_below bounds h run.0 p u c before
decided_below bounds (Stopped s ∷ h) run p u c before = decided_below bounds h run.0 p u c before
decided_below bounds (Took x ∷ h) run p u c before = decided_below bounds h run.0 p u c before

-- it stays so
pub decided_before_on : (l h : History) → Begins l h → (p u c : ℕ) → DecidedBefore l p u c → DecidedBefore h p u c
decided_before_on l h b p u c = kept_on (λ x. DecidedBefore x p u c) (λ x e is. next x e is) l h b
  where
    next : (x : History) (e : Event) → DecidedBefore x p u c → DecidedBefore (e ∷ x) p u c
    next x (Drawn s n) is = inr is
    next x (Began t) is = is
    next x (Declared d) is = is
    next x (Answered t o) is = is
    next x (Stopped s) is = is
    next x (Took y) is = is

-- a number that is drawn now lies after what is known to be decided
pub drawn_after : (i p u c : ℕ) (l h : History) → Begins l h → decided l u ≡ Done (fate.Committed c)
    → DecidedBefore (Drawn i p ∷ h) p u c
drawn_after i p u c l h b is = inl (refl, decided_on l h b u (fate.Committed c) is)

-- so it lies after what was answered
pub answered_before : (bounds : List Key) (l h : History) (i p u c : ℕ) → IsWorldRun bounds h
    → Begins (Drawn i p ∷ l) h → Among l (Answered u (outcome.Committed c)) → DecidedBefore h p u c
answered_before bounds l h i p u c run b among =
    let before : IsWorldRun bounds (Drawn i p ∷ l) = run_beginning bounds (Drawn i p ∷ l) h run b in
    decided_before_on (Drawn i p ∷ l) h b p u c
    (drawn_after i p u c l l (begins_all l) (answered_decided bounds l before.0 u c among))

-- what is declared is not empty
declared_some : (bounds : List Key) (h : History) → IsWorldRun bounds h → (t : ℕ) (d : Declaration)
    → declared h t ≡ Some d → d.changes ≢ []
declared_some bounds [] run t d e = absurd (cc (e))
declared_some bounds (Declared x ∷ h) run t d e =
    elim (chosen (x.start == t) (Some x) (declared h t) (Some d) e) [
      | inl now ↦
          subst (λ (y : Declaration). y.changes ≢ []) (some_same x d now.1) run.1.some
      | inr before ↦ declared_some bounds h run.0 t d before.1
    ]
declared_some bounds (Drawn s n ∷ h) run t d e = declared_some bounds h run.0 t d e
declared_some bounds (Began u ∷ h) run t d e = declared_some bounds h run.0 t d e
declared_some bounds (Answered u o ∷ h) run t d e = declared_some bounds h run.0 t d e
declared_some bounds (Stopped s ∷ h) run t d e = declared_some bounds h run.0 t d e
declared_some bounds (Took x ∷ h) run t d e = declared_some bounds h run.0 t d e

-- a transaction commits above what was decided before it drew the number of its
-- declaration: the bound of each of its keys lies above that number
pub decided_in_order : (bounds : List Key) (h : History) (t u c e : ℕ) (d : Declaration) → IsWorldRun bounds h
    → declared h t ≡ Some d → DecidedBefore h d.drawn u c → decided h t ≡ Done (fate.Committed e) → c < e
decided_in_order bounds h t u c e d run stands before end = go (set_at h t) refl
  where
    i : Inv (view bounds h)
    i = (run_told bounds h run).0.sound.inv

    go : (set : List Change) → set_at h t ≡ set → c < e
    go [] none = absurd (declared_some bounds h run t d stands (ap set_of (sym stands) ∙ none))
    go (x ∷ xs) is =
        let first : is_first (set_at h t) x.key ≡ true = ap (λ s. is_first s x.key) is ∙ key_same x.key in
        let does = first_within (declared h) t x.key first in
        let of = some_of (accepted h t x.key)
        ((i.commits t e end).accepts x.key (does_within (declared h) t x.key does.0 does.1)) in
        omega (
          arith,
          decided_below bounds h run d.drawn u c before,
          above_draw bounds h run t x.key of.0 of.1 d stands,
          (i.commits t e end).bounds x.key of.0 of.1,
        )

-- who starts at such a number sees what it left, or what a later commit left
pub reads_decided : (bounds : List Key) (h : History) (p u c : ℕ) (k : Key) (m : Mutation) → IsWorldRun bounds h
    → DecidedBefore h p u c → Commits (table_of (shadow h)).row k u c m → IsVisible m
    → (n : Mutation) × (seen : Newest (table_of (shadow h)).row k p n) × (c ≤ seen.at)
reads_decided bounds h p u c k m run before commits visible =
    let low = decided_below bounds h run p u c before in
    elim (find_newest (shadow h) (run_told bounds h run).0.sound.run k p) [
      | inr bare ↦ absurd (bare u c m commits visible low)
      | inl found ↦ (
        found.0,
        found.2,
        elim (cases_lt found.2.at c) [
          | inr le ↦ le
          | inl lt ↦ absurd (found.2.newest u c m commits visible lt low)
        ],
      )
    ]

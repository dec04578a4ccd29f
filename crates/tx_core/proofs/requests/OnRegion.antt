-- A request to a region, of no transaction: how an answer to it keeps what holds.
use Rattle.std.proofs.Common.{◌≡◌, ℕ, ◌++◌, List, [], ◌∷◌, None, refl, sym, ap, subst, ◌∙◌}
use Rattle.tx_types.specs.declared.key.Key.{Key}
use Rattle.tx_machine.specs.Machine.{Reading, table_of}
use Rattle.tx_plan.specs.declared.body.Body.{Body}
use Rattle.tx_plan.specs.declared.answer.Answer.{Answer}
use Rattle.tx_plan.specs.Cells.{Region, Cells}
use Rattle.tx_plan.specs.Answers.{leaves, start_in}
use Rattle.tx_core.specs.declared.event.Event.TheVariants.{Took}
use Rattle.tx_core.specs.Histories.{History, last, set_at, left}
use Rattle.tx_core.specs.Decisions.{Effect, NoEffect, effect, effect_in, accepted, accepted_by, decision, first_decided, decided}
use Rattle.tx_core.specs.Worlds.{route}
use Rattle.tx_core.specs.Shadow.{deciding_in, checking, shadow}
use Rattle.tx_core.specs.EventSteps.{reading}
use Rattle.tx_core.specs.Truth.{IsTrueAnswer}
use Rattle.tx_core.proofs.view.View.{View}
use Rattle.tx_core.proofs.view.Tables.{Sound}
use Rattle.tx_core.proofs.view.Ends.{Ends}
use Rattle.tx_core.proofs.view.HistoryView.{reads_by, checks_by, reads_in, shown_put, shown_told, shown_in, view}
use Rattle.tx_core.proofs.requests.Good.{Good, Next, took, same_view, part_same, cells_at}

-- The request names no transaction and reads nothing, and the answer leaves the
-- greatest timestamp read.
pub record IsOfRegion (body : Body) (a : Answer) : Type 0 where
  pub unnamed : start_in body ≡ None
  pub none : (cells : Key → Cells) → effect cells body a ≡ NoEffect
  pub untold : (u n : ℕ) → shown_told body a u n ≡ n
  pub unread : (before : List Reading) → reads_by body a before ≡ before
  pub unseen : reading body a ≡ []
  pub unnoted : (e : Effect) (before : List Reading) → checks_by body e before ≡ before
  pub unchecked : (e : Effect) → checking body e ≡ []
  pub floor : (r : Region) → (leaves r body a).max_read ≡ r.max_read

module _ (bounds : List Key) (h : History) (good : Good bounds h) (n : ℕ) (l : ℕ) where
  -- what an answer leaves, by the safe points, the points of collection and the cells after it
  pub assemble_region : (body : Body) (a : Answer) → IsOfRegion body a
      → (safe collected : Key → ℕ) (cells : Key → Cells)
      → ((k : Key) → (left (Took (took n body l a) ∷ h) (route bounds k)).safe ≡ safe k)
      → ((k : Key) → (left (Took (took n body l a) ∷ h) (route bounds k)).collected ≡ collected k)
      → ((k : Key) → cells_at bounds (Took (took n body l a) ∷ h) k ≡ cells k)
      → Sound (shadow h) (record (view bounds h) { safe = safe; collected = collected; cells = cells })
      → Ends (record (view bounds h) { safe = safe; collected = collected; cells = cells })
      → IsTrueAnswer (table_of (shadow h)) body a → Next bounds h (took n body l a)
  assemble_region body a is safe collected cells safes collects stands sound ends truth =
      let x = took n body l a in
      let v : View = record (view bounds h) { safe = safe; collected = collected; cells = cells } in
      let none : effect_in h x ≡ NoEffect = is.none (left h n).cells in
      let w : view bounds (Took x ∷ h) ≡ v = same_view (view bounds (Took x ∷ h)) v record {
        last = refl;
        drawer = λ u. refl;
        began = λ u. refl;
        declared = λ u. refl;
        decided = λ u. ap (λ y. first_decided
            (decision (set_at h u) (λ q. accepted_by y (last h) u q (accepted h u q)) y u) (decided h u)) none;
        accepted = λ u q. ap (λ y. accepted_by y (last h) u q (accepted h u q)) none;
        reads = is.unnoted (effect_in h x) (reads_by body a (reads_in h)) ∙ is.unread (reads_in h);
        shown = λ u. ap (λ y. shown_told body a u (shown_put (set_at h u) y u (shown_in h u))) none
            ∙ is.untold u (shown_in h u);
        floor = λ q. part_same h n (route bounds q) body l a (λ r. r.max_read) is.floor;
        safe = safes;
        collected = collects;
        cells = stands;
      } in
      let made : shadow (Took x ∷ h) ≡ shadow h =
      ap (λ r. deciding_in h x (start_in body)
      ++ (r ++ (reading body a ++ shadow h))) (is.unchecked (effect_in h x))
      ∙ ap (λ r. deciding_in h x (start_in body) ++ (r ++ shadow h)) is.unseen
      ∙ ap (λ o. deciding_in h x o ++ shadow h) is.unnamed in
      record {
        sound = subst (λ s. Sound s (view bounds (Took x ∷ h))) (sym made) (subst (Sound (shadow h)) (sym w) sound);
        ends = subst Ends (sym w) ends;
        truth = subst (λ s. IsTrueAnswer (table_of s) body a) (sym made) truth;
      }

  -- an answer that leaves the region as it was
  pub still : (body : Body) (a : Answer) → IsOfRegion body a → ((r : Region) → leaves r body a ≡ r)
      → IsTrueAnswer (table_of (shadow h)) body a → Next bounds h (took n body l a)
  still body a is same truth =
      assemble_region body a is (view bounds h).safe (view bounds h).collected (view bounds h).cells
      (λ k. part_same h n (route bounds k) body l a (λ r. r.safe) (λ r. ap (λ (y : Region). y.safe) (same r)))
      (λ k. part_same h n (route bounds k) body l a (λ r. r.collected) (λ r. ap (λ (y : Region). y.collected) (same r)))
      (λ k. part_same h n (route bounds k) body l a (λ r. r.cells k) (λ r. ap (λ (y : Region). y.cells k) (same r)))
      good.sound
      good.ends
      truth
